use Rattle.std.proofs.Common.{◌≡◌, ◌∙◌, sym, ap, arith, length, map, take, ◌+◌}
use Rattle.std.proofs.lemmas.List.{length_push}
use Rattle.lp_model.specs.Edits.{number_beside, entries_beside}
use Rattle.model_edits.proofs.BesideLemmas.{zero_more, entry_more}
use Rattle.model_edits.proofs.names.count_beside.Goals as goal
use Rattle.model_edits.proofs.names.count_beside.Goals.{then-not-is_zero, else-not-is_zero}

pub loop-item-preserved : goal.loop-item-preserved
loop-item-preserved g c =
    let f = g.T.HasName.name in
    let items = c.args.items.now in
    let named = c.args.named.now in
    let i = c.loop-item.item-index in
    let item = c.item-item.result in
    let number = c.number_beside.result in
    let number_is = c.number_beside.ensures ∙ ap (λ n. number_beside n c.args.named.now) c.name.ensures in
    let before = c.loop-item.invariant in
    elim c.if-not-is_zero.branch [
      | then-not-is_zero w ↦
          let more : length (entries_beside 0 (take (i + 1) (map f items)) named) ≡ length (entries_beside 0 (take i (map f items)) named) + 1 =
          ap length (entry_more f items named i item c.loop-item-test.true c.item-item.is number number_is (sym c.is_zero.ensures.test ∙ w.if-not-is_zero.true)) ∙ length_push (entries_beside 0 (take i (map f items)) named) _ in
          let is = before.is in
          let few = before.few in
          let next = w.count-is in
          record { is = omega (arith, more, is, next); few = omega (arith, few, next) }
      | else-not-is_zero w ↦
          let few = before.few in
          let next = w.count-is in
          record { is = next ∙ before.is ∙ sym (ap length (zero_more f items named i item c.loop-item-test.true c.item-item.is number number_is (sym c.is_zero.ensures.test ∙ w.if-not-is_zero.false))); few = omega (arith, few, next) }
    ]
