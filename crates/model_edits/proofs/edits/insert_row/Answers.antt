use Rattle.std.proofs.Common.{◌≡◌, ◌∙◌, sym, ap, subst, arith, ◌++◌, ◌∷◌, [], map, length}
use Rattle.lp_model.specs.Lawful.{IsLawful}
use Rattle.lp_model.specs.Edits.{with_entry, number_beside}
use Rattle.lp_model.proofs.ModelLaws.{few_rows}
use Rattle.model_edits.proofs.LawfulLemmas.{row-lawful}
use Rattle.model_edits.proofs.edits.insert_row.Goals as goal

pub put_lists-requires : goal.put_lists-requires
put_lists-requires c =
    let M = c.args.model.now in
    let row = c.args.row in
    let named = c.args.named.now in
    let taken = c.take_lists-rows.ensures in
    let rows : c.push.new.self ≡ M.rows ++ row ∷ [] = c.in-Ok-push.ensures.pushed ∙ ap (λ l. l ++ row ∷ []) taken.rows in
    let columns : c.in-Ok.changed ≡ map (λ d. with_entry (length M.rows) (number_beside d.name named) d) M.cols =
    c.in-Ok.ensures ∙ (λ i. map (λ d. with_entry (length (c.rows.ensures.items i)) (number_beside d.name named) d) (c.cols.ensures.items i)) in
    subst IsLawful (sym (λ i. record (taken.left i) { rows = rows i; cols = columns i })) (row-lawful M row named taken.lawful c.requires)

pub returns-in-Ok-push-clause-edited : goal.returns-in-Ok-push-clause-edited
returns-in-Ok-push-clause-edited c =
    let M = c.args.model.now in
    let row = c.args.row in
    let named = c.args.named.now in
    let taken = c.take_lists-rows.ensures in
    let rows : c.push.new.self ≡ M.rows ++ row ∷ [] = c.in-Ok-push.ensures.pushed ∙ ap (λ l. l ++ row ∷ []) taken.rows in
    let columns : c.in-Ok.changed ≡ map (λ d. with_entry (length M.rows) (number_beside d.name named) d) M.cols =
    c.in-Ok.ensures ∙ (λ i. map (λ d. with_entry (length (c.rows.ensures.items i)) (number_beside d.name named) d) (c.cols.ensures.items i)) in
    c.put_lists.ensures ∙ (λ i. record (taken.left i) { rows = rows i; cols = columns i })

pub put_lists-requires-in-Err : goal.put_lists-requires-in-Err
put_lists-requires-in-Err c =
    let taken = c.take_lists-rows.ensures in
    let rows = c.in-Err.ensures.kept ∙ taken.rows in
    subst IsLawful (sym (λ i. record (taken.left i) { rows = rows i; cols = taken.columns i })) taken.lawful

pub returns-in-Err-clause-kept : goal.returns-in-Err-clause-kept
returns-in-Err-clause-kept c =
    let taken = c.take_lists-rows.ensures in
    let rows = c.in-Err.ensures.kept ∙ taken.rows in
    c.put_lists-in-Err.ensures ∙ (λ i. record (taken.left i) { rows = rows i; cols = taken.columns i })

pub overflow_cast-place : goal.overflow_cast-place
overflow_cast-place c =
    let items = ap length c.rows.ensures.items in
    let few = few_rows c.args.model.now c.rows.ensures.lawful in
    omega (arith, items, few)
