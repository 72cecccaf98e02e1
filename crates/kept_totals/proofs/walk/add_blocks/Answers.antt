use Rattle.std.proofs.Common.{◌≡◌, ◌∙◌, ◌+◌, ◌-◌, ◌*◌, length, arith, sym, ap, subst, refl}
use Rattle.std.proofs.lemmas.List.{length_push}
use Rattle.kept_totals.specs.Walk.{IsTotalAt, KeepsMore}
use Rattle.kept_totals.proofs.WalkLemmas.{keeps_none, keeps_more}
use Rattle.kept_totals.proofs.walk.add_blocks.Goals as goal

pub loop-block-init : goal.loop-block-init
loop-block-init g c =
    record {
      order = omega arith;
      total = λ start at. at;
      kept = λ start at. keeps_none start (g.T.PartialTerms.factor c.args.terms.now) (g.T.PartialTerms.number c.args.terms.now) (g.T.PartialTerms.is_there c.args.terms.now) (c.args.blocks + 1) c.args.totals.now.kept;
      count = omega arith;
      room = refl;
      rises = omega arith;
      steps = omega arith;
    }

pub loop-block-preserved : goal.loop-block-preserved
loop-block-preserved g c =
    let factor = g.T.PartialTerms.factor c.args.terms.now in
    let number = g.T.PartialTerms.number c.args.terms.now in
    let there = g.T.PartialTerms.is_there c.args.terms.now in
    let blocks = c.args.blocks in
    let block = c.loop-block.block in
    let added = c.add_terms.new.totals in
    let old = c.args.totals.now in
    let inv = c.loop-block.invariant in
    let answer = c.in-Ok.ensures in
    let order = inv.order in
    let rises = inv.rises in
    let steps = inv.steps in
    let risen = answer.rises in
    let taken = answer.steps in
    let count : length added.kept ≡ length old.kept + (block - blocks) = ap length answer.kept ∙ inv.count in
    record {
      order = omega arith;
      total = λ start was. subst (λ t. IsTotalAt start factor number there (64 * (block + 1)) t) (sym (ap (λ t. t.total) c.keep.ensures)) (answer.total start (inv.total start was));
      kept = λ start was.
          subst (KeepsMore start factor number there (blocks + 1) old.kept) (sym (ap (λ t. t.kept) c.keep.ensures))
          (keeps_more start factor number there blocks block old.kept added.kept added.total order count (subst (KeepsMore start factor number there (blocks + 1) old.kept) (sym answer.kept) (inv.kept start was)) (answer.total start (inv.total start was)));
      count = ap (λ t. length t.kept) c.keep.ensures ∙ (length_push added.kept added.total ∙ (ap (λ n. n + 1) count ∙ (let e : length old.kept + (block - blocks) + 1 ≡ length old.kept + (block + 1 - blocks) = omega arith in e)));
      room = ap (λ t. t.room) c.keep.ensures ∙ (answer.room ∙ inv.room);
      rises = omega arith;
      steps = omega arith;
    }
