use Rattle.std.proofs.Common.{refl, ◌∙◌, sym, subst, inr, map, All, Contains}
use Rattle.std.proofs.lemmas.Bool.{false≢true}
use Rattle.lp_model.specs.Edits.{AreKnown, IsNameTaken, KeepsLimits, IsBounded, adds_col}
use Rattle.model_edits.specs.private.Faults.{IsUnknownName}
use Rattle.model_edits.specs.declared.faults.EditFault.TheVariants.{Duplicate, IntegerUnbounded}
use Rattle.model_edits.proofs.EditLaws.{fault_told, unknown_told}
use Rattle.model_edits.proofs.CountLemmas.{col_passes, col_within}
use Rattle.model_edits.proofs.edits.check_col.Goals as goal

pub returns-in-Some : goal.returns-in-Some
returns-in-Some c =
    unknown_told c.args.model.now (adds_col c.args.col.now c.args.named.now) c.in-Some.fault tt
    (subst (λ l. IsUnknownName (map (λ d. d.name) l) (map (λ d. d.0) c.args.named.now) c.in-Some.fault) c.rows-rows.ensures.items c.in-Some.ensures)

pub returns-then-has_name : goal.returns-then-has_name
returns-then-has_name c =
    let M = c.args.model.now in
    let e = adds_col c.args.col.now c.args.named.now in
    let known : AreKnown M e = (tt, subst (λ l. All (Contains (map (λ r. r.name) l)) (map (λ d. d.0) c.args.named.now)) c.rows-rows.ensures.items c.in_default.ensures) in
    let taken : IsNameTaken M e = subst (λ l. Contains (map (λ d. d.name) l) c.args.col.now.name) c.cols-cols.ensures.items (c.has_name.ensures.0 c.if-has_name.true) in
    fault_told M e c.duplicate.result (Duplicate c.args.col.now.name) c.duplicate.ensures (known, taken, refl)

pub returns-in-Some-passed_limit : goal.returns-in-Some-passed_limit
returns-in-Some-passed_limit c =
    let M = c.args.model.now in
    let e = adds_col c.args.col.now c.args.named.now in
    let known : AreKnown M e = (tt, subst (λ l. All (Contains (map (λ r. r.name) l)) (map (λ d. d.0) c.args.named.now)) c.rows-rows.ensures.items c.in_default.ensures) in
    let free : ¬ IsNameTaken M e = λ h. false≢true (sym c.if-has_name.false ∙ c.has_name.ensures.1 (subst (λ l. Contains (map (λ d. d.name) l) c.args.col.now.name) (sym c.cols-cols.ensures.items) h)) in
    inr (known, free, col_passes M c.rows-rows.result.now c.cols-cols.result.now c.is_wide.result c.count_entries.result c.count_beside.result c.rows-rows.ensures.items c.cols-cols.ensures.items c.is_wide.ensures c.count_entries.ensures c.args.col.now c.args.named.now c.count_beside.ensures.count c.in-Some-passed_limit.limit c.in-Some-passed_limit.ensures)

pub returns-then-not-is_bounded : goal.returns-then-not-is_bounded
returns-then-not-is_bounded c =
    let M = c.args.model.now in
    let e = adds_col c.args.col.now c.args.named.now in
    let known : AreKnown M e = (tt, subst (λ l. All (Contains (map (λ r. r.name) l)) (map (λ d. d.0) c.args.named.now)) c.rows-rows.ensures.items c.in_default.ensures) in
    let free : ¬ IsNameTaken M e = λ h. false≢true (sym c.if-has_name.false ∙ c.has_name.ensures.1 (subst (λ l. Contains (map (λ d. d.name) l) c.args.col.now.name) (sym c.cols-cols.ensures.items) h)) in
    let within : KeepsLimits M e = col_within M c.rows-rows.result.now c.cols-cols.result.now c.is_wide.result c.count_entries.result c.count_beside.result c.rows-rows.ensures.items c.cols-cols.ensures.items c.is_wide.ensures c.count_entries.ensures c.args.col.now c.args.named.now c.count_beside.ensures.count c.in_default-passed_limit.ensures in
    let unbounded : ¬ IsBounded M e = λ h. false≢true (sym c.if-not-is_bounded.true ∙ c.is_bounded.ensures.1 h) in
    fault_told M e c.integer_unbounded.result (IntegerUnbounded c.args.col.now.name) c.integer_unbounded.ensures (known, free, within, unbounded, refl)

pub returns : goal.returns
returns c =
    let M = c.args.model.now in
    let e = adds_col c.args.col.now c.args.named.now in
    let known : AreKnown M e = (tt, subst (λ l. All (Contains (map (λ r. r.name) l)) (map (λ d. d.0) c.args.named.now)) c.rows-rows.ensures.items c.in_default.ensures) in
    let free : ¬ IsNameTaken M e = λ h. false≢true (sym c.if-has_name.false ∙ c.has_name.ensures.1 (subst (λ l. Contains (map (λ d. d.name) l) c.args.col.now.name) (sym c.cols-cols.ensures.items) h)) in
    let within : KeepsLimits M e = col_within M c.rows-rows.result.now c.cols-cols.result.now c.is_wide.result c.count_entries.result c.count_beside.result c.rows-rows.ensures.items c.cols-cols.ensures.items c.is_wide.ensures c.count_entries.ensures c.args.col.now c.args.named.now c.count_beside.ensures.count c.in_default-passed_limit.ensures in
    record { known = known; free = free; limits = within; bounded = c.is_bounded.ensures.0 c.if-not-is_bounded.false; range = tt }
