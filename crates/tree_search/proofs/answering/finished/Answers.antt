use Rattle.std.specs.Prelude.{◌≡◌, Some}
use Rattle.std.proofs.Common.{refl, subst, sym, ◌∙◌}
use Rattle.sound_searches.proofs.ClosedTree.{sound-empty, sound-optimum}
use Rattle.tree_search.specs.Search.{FindsOptimum, best_value}
use Rattle.tree_search.proofs.SearchLemmas.{value-best, best-there}
use Rattle.tree_search.proofs.answering.finished.Goals as goal

pub returns-in_default : goal.returns-in_default
returns-in_default c = (record { finished = c.requires; no_point = c.in_default.ensures; none = sound-empty c.args.search.now c.show_sound.ensures.sound c.requires c.in_default.ensures }, refl)

pub unreachable-requires : goal.unreachable-requires
unreachable-requires c = best-there c.args.search.now c.in-Some.incumbent.now c.in-Some.ensures.0 c.in-Some.ensures.1 c.in_default-best_value.ensures

pub returns-in-Ok : goal.returns-in-Ok
returns-in-Ok c =
    let S = c.args.search.now in
    let x = c.in-Some.incumbent.now in
    let same : c.in-Ok.point ≡ x = c.in-Ok.ensures ∙ c.as_slice.ensures in
    let is : Some c.in-Some-best_value.value ≡ best_value S = c.in-Some-best_value.ensures in (
      subst (λ p. FindsOptimum S c.in-Some-best_value.value p) (sym same)
          (record {
            finished = c.requires;
            incumbent = c.in-Some.ensures;
            optimum = sound-optimum S x c.show_sound.ensures.sound c.requires c.in-Some.ensures;
            value = value-best S x c.in-Some.ensures.0 c.in-Some-best_value.value c.in-Some.ensures.1 is;
          }),
      refl,
    )
