use Rattle.std.specs.Prelude.{◌≡◌}
use Rattle.std.proofs.Common.{refl, subst, sym, ◌∙◌}
use Rattle.tree_search.specs.Search.{FindsWithin}
use Rattle.tree_search.proofs.SearchLemmas.{best-there}
use Rattle.tree_search.proofs.WithinLemmas.{found-within, none-kept}
use Rattle.tree_search.proofs.answering.within.Goals as goal

pub unreachable-requires : goal.unreachable-requires
unreachable-requires c = none-kept c.args.search.now c.args.gap c.requires.within c.in_default.ensures

pub unreachable-requires-in_default-best_value : goal.unreachable-requires-in_default-best_value
unreachable-requires-in_default-best_value c = best-there c.args.search.now c.in-Some.best.now c.in-Some.ensures.0 c.in-Some.ensures.1 c.in_default-best_value.ensures

pub returns-in-Ok : goal.returns-in-Ok
returns-in-Ok c =
    let S = c.args.search.now in
    let x = c.in-Some.best.now in
    let same : c.in-Ok.point ≡ x = c.in-Ok.ensures ∙ c.as_slice.ensures in (
      refl,
      subst (λ p. FindsWithin S c.args.gap c.in-Some-best_value.value p) (sym same)
          (found-within S c.args.gap x c.in-Some.ensures.0 c.in-Some-best_value.value c.show_sound.ensures.sound c.requires.left c.requires.within c.in-Some.ensures.1 c.in-Some-best_value.ensures),
      refl,
    )
