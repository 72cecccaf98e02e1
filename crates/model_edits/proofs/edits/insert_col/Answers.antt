use Rattle.std.proofs.Common.{◌≡◌, ◌∙◌, sym, ap, subst, ◌++◌, ◌∷◌, [], map}
use Rattle.lp_model.specs.Lawful.{IsLawful}
use Rattle.lp_model.specs.Edits.{entries_beside, adds_col, edited}
use Rattle.model_edits.proofs.LawfulLemmas.{col-lawful}
use Rattle.model_edits.proofs.edits.insert_col.Goals as goal

pub put_lists-requires : goal.put_lists-requires
put_lists-requires c =
    let M = c.args.model.now in
    let col = c.args.col in
    let named = c.args.named.now in
    let taken = c.take_lists-rows.ensures in
    let entries_are : c.in-Ok.entries ≡ entries_beside 0 (map (λ r. r.name) M.rows) named = c.in-Ok.ensures ∙ ap (λ l. entries_beside 0 (map (λ r. r.name) l) named) c.rows.ensures.items in
    let columns : c.push.new.self ≡ (edited M (adds_col col named)).cols =
    c.in-Ok-push.ensures.pushed ∙ (λ i. taken.columns i ++ record col { rows = entries_are i } ∷ []) in
    subst IsLawful (sym (λ i. record (taken.left i) { rows = taken.rows i; cols = columns i })) (col-lawful M col named taken.lawful c.requires)

pub returns-in-Ok-push-clause-edited : goal.returns-in-Ok-push-clause-edited
returns-in-Ok-push-clause-edited c =
    let M = c.args.model.now in
    let col = c.args.col in
    let named = c.args.named.now in
    let taken = c.take_lists-rows.ensures in
    let entries_are : c.in-Ok.entries ≡ entries_beside 0 (map (λ r. r.name) M.rows) named = c.in-Ok.ensures ∙ ap (λ l. entries_beside 0 (map (λ r. r.name) l) named) c.rows.ensures.items in
    let columns : c.push.new.self ≡ (edited M (adds_col col named)).cols =
    c.in-Ok-push.ensures.pushed ∙ (λ i. taken.columns i ++ record col { rows = entries_are i } ∷ []) in
    c.put_lists.ensures ∙ (λ i. record (taken.left i) { rows = taken.rows i; cols = columns i })

pub put_lists-requires-in-Err : goal.put_lists-requires-in-Err
put_lists-requires-in-Err c =
    let taken = c.take_lists-rows.ensures in
    let columns = c.in-Err.ensures.kept ∙ taken.columns in
    subst IsLawful (sym (λ i. record (taken.left i) { rows = taken.rows i; cols = columns i })) taken.lawful

pub returns-in-Err-clause-kept : goal.returns-in-Err-clause-kept
returns-in-Err-clause-kept c =
    let taken = c.take_lists-rows.ensures in
    let columns = c.in-Err.ensures.kept ∙ taken.columns in
    c.put_lists-in-Err.ensures ∙ (λ i. record (taken.left i) { rows = taken.rows i; cols = columns i })
