use Rattle.std.proofs.Common.{◌≡◌, ◌∙◌, sym, subst, ap}
use Rattle.lp_model.specs.Program.{Program}
use Rattle.lp_model.specs.Lawful.{IsLawful}
use Rattle.dual_bounds.specs.NewNumbers.{changed_all, with_side, row_index, with_new_sides}
use Rattle.dual_bounds.proofs.ModelLemmas.{sides-there, sides-lawful}
use Rattle.dual_bounds.proofs.new_numbers.model_with_sides.Goals as goal

pub rows_with-requires : goal.rows_with-requires
rows_with-requires c =
    sides-there c.args.model.now c.take_lists-rows.result.0 c.args.sides.now (c.take_lists-rows.ensures.rows ∙ ap (λ (M : Program). M.rows) c.in_ok-changed.ensures) c.requires

pub put_lists-requires : goal.put_lists-requires
put_lists-requires c =
    let N = c.in_ok-changed.changed in
    let taken = c.take_lists-rows.ensures in
    let rows : c.rows_with.result ≡ changed_all row_index with_side c.args.sides.now N.rows = c.rows_with.ensures ∙ ap (changed_all row_index with_side c.args.sides.now) taken.rows in
    subst IsLawful (sym (λ i. record (taken.left i) { rows = rows i; cols = taken.columns i })) (sides-lawful N c.args.sides.now taken.lawful c.show_all.ensures)

pub returns : goal.returns
returns c =
    let N = c.in_ok-changed.changed in
    let taken = c.take_lists-rows.ensures in
    let rows : c.rows_with.result ≡ changed_all row_index with_side c.args.sides.now N.rows = c.rows_with.ensures ∙ ap (changed_all row_index with_side c.args.sides.now) taken.rows in
    c.put_lists.ensures ∙ (λ i. record (taken.left i) { rows = rows i; cols = taken.columns i }) ∙ ap (λ (M : Program). with_new_sides M c.args.sides.now) c.in_ok-changed.ensures
