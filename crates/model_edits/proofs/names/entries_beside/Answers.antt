use Rattle.std.proofs.Common.{◌∙◌, sym, ap, arith, ◌++◌, ◌∷◌, []}
use Rattle.lp_model.specs.Edits.{number_beside}
use Rattle.model_edits.proofs.BesideLemmas.{zero_more, entry_more}
use Rattle.model_edits.proofs.names.entries_beside.Goals as goal
use Rattle.model_edits.proofs.names.entries_beside.Goals.{then-not-is_zero+in-Ok, else-not-is_zero}

pub loop-place-preserved : goal.loop-place-preserved
loop-place-preserved g c =
    let item = c.index-items-place.result in
    let number = c.number_beside-number.result in
    let number_is = c.number_beside-number.ensures ∙ ap (λ n. number_beside n c.args.named.now) c.name.ensures in
    elim c.if-not-is_zero.branch [
      | then-not-is_zero+in-Ok w ↦
          w.entries-is ∙ w.in-Ok.ensures.pushed
          ∙ ap (λ es. es ++ (record { 0 = c.loop-place.place }, number) ∷ []) c.loop-place.invariant
          ∙ sym (entry_more g.T.HasName.name c.args.items.now c.args.named.now c.loop-place.place item c.loop-place-test.true c.index-items-place.is number number_is (sym c.is_zero.ensures.test ∙ w.if-not-is_zero.true))
      | else-not-is_zero w ↦
          w.entries-is ∙ c.loop-place.invariant ∙ sym (zero_more g.T.HasName.name c.args.items.now c.args.named.now c.loop-place.place item c.loop-place-test.true c.index-items-place.is number number_is (sym c.is_zero.ensures.test ∙ w.if-not-is_zero.false))
    ]

pub overflow_cast-place : goal.overflow_cast-place
overflow_cast-place g c = let below = c.loop-place-test.true in let few = c.requires in omega (arith, below, few)
