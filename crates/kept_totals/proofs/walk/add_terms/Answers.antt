use Rattle.std.proofs.Common.{rules, ◌≡◌, ◌∙◌, arith, ap, subst, refl}
use Rattle.kept_totals.specs.Walk.{IsTotalAt}
use Rattle.kept_totals.proofs.WalkLemmas.{term_added, term_refused}
use Rattle.kept_totals.proofs.walk.add_terms.Goals as goal

pub loop-index-init : goal.loop-index-init
loop-index-init g c =
    record {
      order = omega arith;
      total = λ start at. at;
      kept = refl;
      room = refl;
      steps = omega arith;
    }

pub returns-in-Err-clause-stop : goal.returns-in-Err-clause-stop
returns-in-Err-clause-stop g c = λ start at.
    let T = c.args.terms.now in
    let before = c.loop-index.invariant.total start at in
    let is = c.in-Some.ensures in
    (search rules, (before.reached, (is.0, term_refused start (g.T.PartialTerms.factor T) (g.T.PartialTerms.number T) (g.T.PartialTerms.is_there T) c.loop-index.index c.loop-index.totals.total before c.in-Some.term is.1 c.in-Err.ensures.wide)))

pub loop-index-preserved : goal.loop-index-preserved
loop-index-preserved g c =
    let T = c.args.terms.now in
    let k = c.loop-index.index in
    let total = c.loop-index.totals.total in
    let inv = c.loop-index.invariant in
    let order = inv.order in
    let count = inv.steps in
    let ticked = c.in-Ok.ensures.ticks in
    let is = c.in-Some.ensures in
    record {
      order = omega arith;
      total = λ start at.
          term_added start (g.T.PartialTerms.factor T) (g.T.PartialTerms.number T) (g.T.PartialTerms.is_there T) k total (inv.total start at) c.in-Some.term is.1 is.0 c.in-Ok.ensures.fits c.add_term.new.self.total (ap (λ t. t.total) c.in-Ok.ensures.added);
      kept = ap (λ t. t.kept) c.in-Ok.ensures.added ∙ inv.kept;
      room = ap (λ t. t.room) c.in-Ok.ensures.added ∙ inv.room;
      steps = omega arith;
    }

pub returns-clause-total : goal.returns-clause-total
returns-clause-total g c = λ start at.
    let e : c.loop-index.index ≡ c.args.to = search rules in
    subst (λ k. IsTotalAt start (g.T.PartialTerms.factor c.args.terms.now) (g.T.PartialTerms.number c.args.terms.now) (g.T.PartialTerms.is_there c.args.terms.now) k c.loop-index.totals.total) e (c.loop-index.invariant.total start at)
