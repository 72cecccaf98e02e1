use Rattle.std.proofs.Common.{refl, subst, sym}
use Rattle.model_points.specs.Bounds.{IsFoundValue}
use Rattle.tree_search.proofs.SearchLemmas.{value-found, cover}
use Rattle.search_counting.proofs.LeafLemmas.{once}
use Rattle.tree_search.proofs.answering.stopped.Goals as goal

pub returns-in-Ok : goal.returns-in-Ok
returns-in-Ok c =
    let S = c.args.search.now in (
      refl,
      refl,
      record {
        cover = cover S c.show_sound.ensures.sound (once S.tree c.show_sound.ensures.numbered);
        bound_is = c.in-Ok.ensures;
        best_is = c.best_value.ensures;
        found = subst (IsFoundValue S.model) (sym c.best_value.ensures) (value-found S c.show_sound.ensures.sound);
      },
    )
