use Rattle.std.proofs.Common.{◌∙◌, ◌<◌, ◌^◌, length, refl, ap, sym, subst, inl, inr, map, All, Contains}
use Rattle.std.proofs.lemmas.Bool.{false≢true}
use Rattle.std.specs.List.{sum_by}
use Rattle.lp_model.specs.Edits.{AreKnown, KeepsLimits, HasRange, number_beside, replaced_entry}
use Rattle.lp_model.specs.declared.types.Col.{Col}
use Rattle.lp_model.specs.declared.types.Edit.TheVariants.{ReplaceRow}
use Rattle.model_edits.specs.private.Faults.{IsUnknownName}
use Rattle.model_edits.specs.declared.faults.EditFault.TheVariants.{Ranged}
use Rattle.model_edits.proofs.EditLaws.{fault_told, no_such_told, unknown_told}
use Rattle.model_edits.proofs.EditedLaws.{replace-few, replace-passes, replace-within, none_taken}
use Rattle.model_edits.proofs.removing.check_replacement.Goals as goal

pub count_entries-entries-requires : goal.count_entries-entries-requires
count_entries-entries-requires c =
    let changed = c.in-Ok-with_numbers.ensures ∙ (λ i. map (λ d. replaced_entry c.in-Ok.row (number_beside d.name (c.as_slice-named.ensures i)) d) c.cols-cols.result.now) in
    subst (λ l. sum_by (λ (d : Col). length d.rows) l < 2 ^ 32) (sym c.as_slice.ensures)
    (replace-few c.args.model.now c.args.name.now c.args.lo.now c.args.hi.now c.args.named.now c.in-Ok.row c.rows-rows.result.now c.cols-cols.result.now c.in-Ok-with_numbers.changed c.rows-rows.ensures.lawful c.in-Ok.ensures.found c.rows-rows.ensures.items c.cols-cols.ensures.items changed)

pub returns-in-Some : goal.returns-in-Some
returns-in-Some c =
    unknown_told c.args.model.now (ReplaceRow c.args.name.now c.args.lo.now c.args.hi.now c.args.named.now) c.in-Some.fault c.in-Ok.ensures.found.there
    (subst (λ P. P) (λ i. IsUnknownName (map (λ d. d.name) (c.cols-cols.ensures.items i)) (map (λ d. d.0) (c.as_slice-named.ensures i)) c.in-Some.fault) c.in-Some.ensures)

pub returns-in-Some-passed_limit : goal.returns-in-Some-passed_limit
returns-in-Some-passed_limit c =
    let M = c.args.model.now in
    let named = c.args.named.now in
    let e = ReplaceRow c.args.name.now c.args.lo.now c.args.hi.now named in
    let changed = c.in-Ok-with_numbers.ensures ∙ (λ i. map (λ d. replaced_entry c.in-Ok.row (number_beside d.name (c.as_slice-named.ensures i)) d) c.cols-cols.result.now) in
    let known : AreKnown M e = (c.in-Ok.ensures.found.there, subst (λ P. P) (λ i. All (Contains (map (λ d. d.name) (c.cols-cols.ensures.items i))) (map (λ d. d.0) (c.as_slice-named.ensures i))) c.in_default.ensures) in
    let counted = c.count_entries-entries.ensures ∙ ap (sum_by (λ (d : Col). length d.rows)) c.as_slice.ensures in
    inr (known, none_taken c.args.name.now, replace-passes M c.args.name.now c.args.lo.now c.args.hi.now named c.in-Ok.row c.rows-rows.result.now c.cols-cols.result.now c.in-Ok-with_numbers.changed c.rows-rows.ensures.lawful c.in-Ok.ensures.found c.rows-rows.ensures.items c.cols-cols.ensures.items changed c.is_wide.result c.count_entries-entries.result c.is_wide.ensures counted c.in-Some-passed_limit.limit c.in-Some-passed_limit.ensures)

pub returns-then-not-is_range : goal.returns-then-not-is_range
returns-then-not-is_range c =
    let M = c.args.model.now in
    let named = c.args.named.now in
    let e = ReplaceRow c.args.name.now c.args.lo.now c.args.hi.now named in
    let changed = c.in-Ok-with_numbers.ensures ∙ (λ i. map (λ d. replaced_entry c.in-Ok.row (number_beside d.name (c.as_slice-named.ensures i)) d) c.cols-cols.result.now) in
    let known : AreKnown M e = (c.in-Ok.ensures.found.there, subst (λ P. P) (λ i. All (Contains (map (λ d. d.name) (c.cols-cols.ensures.items i))) (map (λ d. d.0) (c.as_slice-named.ensures i))) c.in_default.ensures) in
    let counted = c.count_entries-entries.ensures ∙ ap (sum_by (λ (d : Col). length d.rows)) c.as_slice.ensures in
    let within : KeepsLimits M e = replace-within M c.args.name.now c.args.lo.now c.args.hi.now named c.in-Ok.row c.rows-rows.result.now c.cols-cols.result.now c.in-Ok-with_numbers.changed c.rows-rows.ensures.lawful c.in-Ok.ensures.found c.rows-rows.ensures.items c.cols-cols.ensures.items changed c.is_wide.result c.count_entries-entries.result c.is_wide.ensures counted c.in_default-passed_limit.ensures in
    let none : ¬ HasRange M e = λ h. false≢true (sym c.if-not-is_range.true ∙ c.is_range.ensures.1 h) in
    fault_told M e c.ranged.result (Ranged c.args.name.now) c.ranged.ensures (known, none_taken c.args.name.now, within, tt, none, refl)

pub returns-in-Err : goal.returns-in-Err
returns-in-Err c =
    no_such_told c.args.model.now (ReplaceRow c.args.name.now c.args.lo.now c.args.hi.now c.args.named.now) c.in-Err.fault c.in-Err.ensures.fault

pub returns : goal.returns
returns c =
    let M = c.args.model.now in
    let named = c.args.named.now in
    let e = ReplaceRow c.args.name.now c.args.lo.now c.args.hi.now named in
    let changed = c.in-Ok-with_numbers.ensures ∙ (λ i. map (λ d. replaced_entry c.in-Ok.row (number_beside d.name (c.as_slice-named.ensures i)) d) c.cols-cols.result.now) in
    let known : AreKnown M e = (c.in-Ok.ensures.found.there, subst (λ P. P) (λ i. All (Contains (map (λ d. d.name) (c.cols-cols.ensures.items i))) (map (λ d. d.0) (c.as_slice-named.ensures i))) c.in_default.ensures) in
    let counted = c.count_entries-entries.ensures ∙ ap (sum_by (λ (d : Col). length d.rows)) c.as_slice.ensures in
    let within : KeepsLimits M e = replace-within M c.args.name.now c.args.lo.now c.args.hi.now named c.in-Ok.row c.rows-rows.result.now c.cols-cols.result.now c.in-Ok-with_numbers.changed c.rows-rows.ensures.lawful c.in-Ok.ensures.found c.rows-rows.ensures.items c.cols-cols.ensures.items changed c.is_wide.result c.count_entries-entries.result c.is_wide.ensures counted c.in_default-passed_limit.ensures in
    (record { known = known; free = none_taken c.args.name.now; limits = within; bounded = tt; range = c.is_range.ensures.0 c.if-not-is_range.false }, c.in-Ok.ensures.found, c.in-Ok-with_numbers.ensures ∙ (λ i. map (λ d. replaced_entry (c.in-Ok.ensures.found.is i) (number_beside d.name (c.as_slice-named.ensures i)) d) (c.cols-cols.ensures.items i)))

pub returns-in_default-with_numbers : goal.returns-in_default-with_numbers
returns-in_default-with_numbers c = inl refl
