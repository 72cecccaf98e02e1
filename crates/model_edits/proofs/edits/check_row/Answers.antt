use Rattle.std.proofs.Common.{refl, ◌∙◌, sym, subst, inr, map, All, Contains}
use Rattle.std.proofs.lemmas.Bool.{false≢true}
use Rattle.lp_model.specs.Edits.{AreKnown, IsNameTaken, KeepsLimits, HasRange, adds_row}
use Rattle.model_edits.specs.private.Faults.{IsUnknownName}
use Rattle.model_edits.specs.declared.faults.EditFault.TheVariants.{Duplicate, Ranged}
use Rattle.model_edits.proofs.EditLaws.{fault_told, unknown_told}
use Rattle.model_edits.proofs.CountLemmas.{row_passes, row_within}
use Rattle.model_edits.proofs.edits.check_row.Goals as goal

pub returns-in-Some : goal.returns-in-Some
returns-in-Some c =
    unknown_told c.args.model.now (adds_row c.args.row.now c.args.named.now) c.in-Some.fault tt
    (subst (λ l. IsUnknownName (map (λ d. d.name) l) (map (λ d. d.0) c.args.named.now) c.in-Some.fault) c.cols-cols.ensures.items c.in-Some.ensures)

pub returns-then-has_row_name : goal.returns-then-has_row_name
returns-then-has_row_name c =
    let M = c.args.model.now in
    let e = adds_row c.args.row.now c.args.named.now in
    let known : AreKnown M e = (tt, subst (λ l. All (Contains (map (λ d. d.name) l)) (map (λ d. d.0) c.args.named.now)) c.cols-cols.ensures.items c.in_default.ensures) in
    let taken : IsNameTaken M e = c.has_row_name.ensures.0 c.if-has_row_name.true in
    fault_told M e c.duplicate.result (Duplicate c.args.row.now.name) c.duplicate.ensures (known, taken, refl)

pub returns-in-Some-passed_limit : goal.returns-in-Some-passed_limit
returns-in-Some-passed_limit c =
    let M = c.args.model.now in
    let e = adds_row c.args.row.now c.args.named.now in
    let known : AreKnown M e = (tt, subst (λ l. All (Contains (map (λ d. d.name) l)) (map (λ d. d.0) c.args.named.now)) c.cols-cols.ensures.items c.in_default.ensures) in
    let free : ¬ IsNameTaken M e = λ h. false≢true (sym c.if-has_row_name.false ∙ c.has_row_name.ensures.1 h) in
    inr (known, free, row_passes M c.rows-rows.result.now c.cols-cols.result.now c.is_wide.result c.count_entries.result c.count_beside.result c.rows-rows.ensures.items c.cols-cols.ensures.items c.is_wide.ensures c.count_entries.ensures c.args.row.now c.args.named.now c.count_beside.ensures.count c.in-Some-passed_limit.limit c.in-Some-passed_limit.ensures)

pub returns-then-not-is_range : goal.returns-then-not-is_range
returns-then-not-is_range c =
    let M = c.args.model.now in
    let e = adds_row c.args.row.now c.args.named.now in
    let known : AreKnown M e = (tt, subst (λ l. All (Contains (map (λ d. d.name) l)) (map (λ d. d.0) c.args.named.now)) c.cols-cols.ensures.items c.in_default.ensures) in
    let free : ¬ IsNameTaken M e = λ h. false≢true (sym c.if-has_row_name.false ∙ c.has_row_name.ensures.1 h) in
    let within : KeepsLimits M e = row_within M c.rows-rows.result.now c.cols-cols.result.now c.is_wide.result c.count_entries.result c.count_beside.result c.rows-rows.ensures.items c.cols-cols.ensures.items c.is_wide.ensures c.count_entries.ensures c.args.row.now c.args.named.now c.count_beside.ensures.count c.in_default-passed_limit.ensures in
    let unbounded : ¬ HasRange M e = λ h. false≢true (sym c.if-not-is_range.true ∙ c.is_range.ensures.1 h) in
    fault_told M e c.ranged.result (Ranged c.args.row.now.name) c.ranged.ensures (known, free, within, tt, unbounded, refl)

pub returns : goal.returns
returns c =
    let M = c.args.model.now in
    let e = adds_row c.args.row.now c.args.named.now in
    let known : AreKnown M e = (tt, subst (λ l. All (Contains (map (λ d. d.name) l)) (map (λ d. d.0) c.args.named.now)) c.cols-cols.ensures.items c.in_default.ensures) in
    let free : ¬ IsNameTaken M e = λ h. false≢true (sym c.if-has_row_name.false ∙ c.has_row_name.ensures.1 h) in
    let within : KeepsLimits M e = row_within M c.rows-rows.result.now c.cols-cols.result.now c.is_wide.result c.count_entries.result c.count_beside.result c.rows-rows.ensures.items c.cols-cols.ensures.items c.is_wide.ensures c.count_entries.ensures c.args.row.now c.args.named.now c.count_beside.ensures.count c.in_default-passed_limit.ensures in
    record { known = known; free = free; limits = within; bounded = tt; range = c.is_range.ensures.0 c.if-not-is_range.false }
