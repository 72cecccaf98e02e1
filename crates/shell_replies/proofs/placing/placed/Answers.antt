use Rattle.std.proofs.Common.{◌∙◌, sym, ap, subst, arith, map}
use Rattle.std.specs.Prelude.{Contains}
use Rattle.lp_model.specs.Edits.{place_in}
use Rattle.shell_replies.proofs.PlacingLemmas.{placed-step, placed-all, there-more, there-all, first-unknown}
use Rattle.shell_replies.proofs.placing.placed.Goals as goal

pub returns-in_default : goal.returns-in_default
returns-in_default g c =
    let names = map g.T.HasName.name c.args.items.now in (
      c.loop-index-test.true,
      first-unknown names c.args.named.now c.loop-index.index c.index-named-index.result c.loop-index-test.true c.index-named-index.is c.loop-index.invariant.there
          (λ there. c.in_default.ensures.found (subst (Contains names) (sym c.as_slice.ensures) there)),
    )

pub loop-index-preserved : goal.loop-index-preserved
loop-index-preserved g c =
    let names = map g.T.HasName.name c.args.items.now in
    let k = c.loop-index.index in
    let e = c.index-named-index.result in
    let first = c.in-Some.ensures.first in
    record {
      there = there-more names c.args.named.now k e c.loop-index-test.true c.index-named-index.is c.loop-index.invariant.there (subst (Contains names) c.as_slice.ensures first.there);
      places =
          placed-step g.P.Place.at_place names c.args.named.now k e c.loop-index-test.true c.index-named-index.is c.in-Ok.ensures.pushed c.loop-index.invariant.places
          (c.at_place.ensures ∙ ap g.P.Place.at_place (first.is ∙ ap (place_in names) c.as_slice.ensures));
    }

pub returns : goal.returns
returns g c =
    let names = map g.T.HasName.name c.args.items.now in
    let k = c.loop-index.index in (
      there-all names c.args.named.now k (omega arith) c.loop-index.invariant.there,
      c.loop-index.invariant.places ∙ placed-all g.P.Place.at_place names c.args.named.now k (omega arith),
    )
