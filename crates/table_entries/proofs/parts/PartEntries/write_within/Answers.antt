use Rattle.std.proofs.Common.{ℕ, ◌<ℤ◌, set, ◌≡◌, ◌<◌, ◌≤◌, ◌+◌, ◌*◌, ◌∙◌, refl, sym, ap, subst, arith, get_or, length, true, false, pos, to_z, of_z, w64}
use Rattle.std.proofs.lemmas.Bool.{false≢true}
use Rattle.std.proofs.lemmas.List.{length-set}
use Rattle.table_entries.specs.WholeSteps.{is_unwritten, magnitude, whole_number_at}
use Rattle.table_entries.specs.Parts.{Parts, AreColumnsWritten, filled}
use Rattle.table_entries.specs.private.Parts.{unwritten_number}
use Rattle.table_entries.specs.private.Parts.{IsLight, IsRowTouched}
use Rattle.table_entries.proofs.FilledLemmas.{limit_read, partial_of, light_at, apart_at, touched_parted, touched_filled}
use Rattle.table_entries.proofs.PartRows.{flag_same, flag_other, flag_still}
use Rattle.table_entries.proofs.parts.PartEntries.write_within.Goals as goal

pub write_numbers-requires-clause-row : goal.write_numbers-requires-clause-row
write_numbers-requires-clause-row c = subst (λ v. c.args.row < v.rows) (sym c.self.view_is) c.requires.row

pub write_numbers-requires-clause-size : goal.write_numbers-requires-clause-size
write_numbers-requires-clause-size c = c.self.invariant.entries

pub write_numbers-requires-clause-coefficients : goal.write_numbers-requires-clause-coefficients
write_numbers-requires-clause-coefficients c =
    let e : is_unwritten c.self.inside.unwritten.items c.args.row ≡ true = subst (λ v. is_unwritten v.unwritten c.args.row ≡ true) (sym c.self.view_is) c.requires.unwritten in
    ap length c.deref.ensures.value ∙ (partial_of _ c.self.invariant c.args.row e).coefficients_length

pub write_numbers-requires-clause-slots : goal.write_numbers-requires-clause-slots
write_numbers-requires-clause-slots c = subst (λ v. v.columns ≤ length c.args.slots.now) (sym c.self.view_is) c.requires.length

pub write_numbers-requires-clause-light : goal.write_numbers-requires-clause-light
write_numbers-requires-clause-light c =
    let self = c.self.inside in
    let row = c.args.row in
    let e : is_unwritten self.unwritten.items row ≡ true = subst (λ v. is_unwritten v.unwritten row ≡ true) (sym c.self.view_is) c.requires.unwritten in
    subst (λ xs. IsLight self.rows self.columns self.entries xs (λ j. get_or c.args.slots.now j 0) row) (sym c.deref.ensures.value)
    (light_at _ (partial_of _ c.self.invariant row e) (λ j. get_or c.args.slots.now j 0) (subst (λ v. AreColumnsWritten v (λ j. get_or c.args.slots.now j 0)) (sym c.self.view_is) c.requires.slots) row
    (subst (λ v. row < v.rows) (sym c.self.view_is) c.requires.row) e)

pub write_numbers-requires-clause-apart : goal.write_numbers-requires-clause-apart
write_numbers-requires-clause-apart c =
    let self = c.self.inside in
    let row = c.args.row in
    let v : Parts = record { rows = self.rows; columns = self.columns; entries = self.entries; coefficients = self.coefficients.items; unwritten = self.unwritten.items; is_partial = self.is_partial; limit = self.limit } in
    let e : is_unwritten self.unwritten.items row ≡ true = subst (λ v. is_unwritten v.unwritten row ≡ true) (sym c.self.view_is) c.requires.unwritten in
    apart_at v (λ j. get_or c.args.slots.now j 0) (subst (λ v. AreColumnsWritten v (λ j. get_or c.args.slots.now j 0)) (sym c.self.view_is) c.requires.slots) row
    (subst (λ v. row < v.rows) (sym c.self.view_is) c.requires.row) e

pub is_row_below-requires-clause-whole : goal.is_row_below-requires-clause-whole
is_row_below-requires-clause-whole c = c.write_numbers.ensures.touched.form

pub is_row_below-requires-clause-row : goal.is_row_below-requires-clause-row
is_row_below-requires-clause-row c = subst (λ v. c.args.row < v.rows) (sym c.self.view_is) c.requires.row

pub is_row_below-requires-clause-size : goal.is_row_below-requires-clause-size
is_row_below-requires-clause-size c = c.write_numbers.ensures.touched.size ∙ c.self.invariant.entries

pub is_row_below-requires-clause-room : goal.is_row_below-requires-clause-room
is_row_below-requires-clause-room c = c.self.invariant.few

pub invariant_of-self : goal.invariant_of-self
invariant_of-self c =
    let self = c.self.inside in
    let v : Parts = record { rows = self.rows; columns = self.columns; entries = self.entries; coefficients = self.coefficients.items; unwritten = self.unwritten.items; is_partial = self.is_partial; limit = self.limit } in
    let row = c.args.row in
    let now = c.write_numbers.new.entries in
    let open_row : is_unwritten self.unwritten.items row ≡ true = subst (λ v. is_unwritten v.unwritten row ≡ true) (sym c.self.view_is) c.requires.unwritten in
    let touched : IsRowTouched self.columns row self.entries now = c.write_numbers.ensures.touched in
    touched_parted v row now self.unwritten.items open_row touched (λ i other. refl) (λ none. absurd (false≢true (sym none ∙ open_row))) c.self.invariant refl

pub invariant_of-self-2 : goal.invariant_of-self-2
invariant_of-self-2 c =
    let self = c.self.inside in
    let v : Parts = record { rows = self.rows; columns = self.columns; entries = self.entries; coefficients = self.coefficients.items; unwritten = self.unwritten.items; is_partial = self.is_partial; limit = self.limit } in
    let row = c.args.row in
    let now = c.write_numbers.new.entries in
    let open_row : is_unwritten self.unwritten.items row ≡ true = subst (λ v. is_unwritten v.unwritten row ≡ true) (sym c.self.view_is) c.requires.unwritten in
    let touched : IsRowTouched self.columns row self.entries now = c.write_numbers.ensures.touched in
    let limit_is : to_z w64 (of_z w64 self.limit) ≡ self.limit = limit_read v (partial_of v c.self.invariant row open_row) in
    let below : (k : ℕ) → k < self.columns → magnitude (whole_number_at now.numbers (row * self.columns + k)) <ℤ self.limit =
    λ k q. subst (λ l. magnitude (whole_number_at now.numbers (row * self.columns + k)) <ℤ l) limit_is (c.is_row_below.ensures c.if-not-is_row_below.false k q) in
    touched_parted v row now (set self.unwritten.items row false) open_row touched (λ i other. flag_other self.unwritten.items row i false other) (λ none. below) c.self.invariant (length-set self.unwritten.items row false)

pub returns-then-not-is_row_below-clause-filled : goal.returns-then-not-is_row_below-clause-filled
returns-then-not-is_row_below-clause-filled c =
    let self = c.self.inside in
    let v : Parts = record { rows = self.rows; columns = self.columns; entries = self.entries; coefficients = self.coefficients.items; unwritten = self.unwritten.items; is_partial = self.is_partial; limit = self.limit } in
    let row = c.args.row in
    let now = c.write_numbers.new.entries in
    let open_row : is_unwritten self.unwritten.items row ≡ true = subst (λ v. is_unwritten v.unwritten row ≡ true) (sym c.self.view_is) c.requires.unwritten in
    let touched : IsRowTouched self.columns row self.entries now = c.write_numbers.ensures.touched in
    let slots = λ (j : ℕ). get_or c.args.slots.now j 0 in
    let row_within : row < self.rows = subst (λ v. row < v.rows) (sym c.self.view_is) c.requires.row in
    let columns_written : AreColumnsWritten v slots = subst (λ v. AreColumnsWritten v slots) (sym c.self.view_is) c.requires.slots in
    let written : (k : ℕ) → k < self.columns → whole_number_at now.numbers (row * self.columns + k) ≡ unwritten_number self.rows self.columns self.entries self.coefficients.items slots row k =
    λ k q. c.write_numbers.ensures.written k q ∙ ap (λ xs. unwritten_number self.rows self.columns self.entries xs slots row k) c.deref.ensures.value in
    touched_filled v row now self.unwritten.items open_row touched (λ i other. refl) (λ none. absurd (false≢true (sym none ∙ open_row))) slots (partial_of v c.self.invariant row open_row).listed
    (apart_at v slots columns_written row row_within open_row) written ∙ ap (λ w. filled w slots) c.self.view_is

pub returns-then-not-is_row_below-clause-columns_written : goal.returns-then-not-is_row_below-clause-columns_written
returns-then-not-is_row_below-clause-columns_written c =
    let self = c.self.inside in
    let v : Parts = record { rows = self.rows; columns = self.columns; entries = self.entries; coefficients = self.coefficients.items; unwritten = self.unwritten.items; is_partial = self.is_partial; limit = self.limit } in
    let slots = λ (j : ℕ). get_or c.args.slots.now j 0 in
    let columns_written : AreColumnsWritten v slots = subst (λ v. AreColumnsWritten v slots) (sym c.self.view_is) c.requires.slots in
    λ j w h. columns_written j w h

pub returns-clause-filled : goal.returns-clause-filled
returns-clause-filled c =
    let self = c.self.inside in
    let v : Parts = record { rows = self.rows; columns = self.columns; entries = self.entries; coefficients = self.coefficients.items; unwritten = self.unwritten.items; is_partial = self.is_partial; limit = self.limit } in
    let row = c.args.row in
    let now = c.write_numbers.new.entries in
    let open_row : is_unwritten self.unwritten.items row ≡ true = subst (λ v. is_unwritten v.unwritten row ≡ true) (sym c.self.view_is) c.requires.unwritten in
    let touched : IsRowTouched self.columns row self.entries now = c.write_numbers.ensures.touched in
    let slots = λ (j : ℕ). get_or c.args.slots.now j 0 in
    let row_within : row < self.rows = subst (λ v. row < v.rows) (sym c.self.view_is) c.requires.row in
    let columns_written : AreColumnsWritten v slots = subst (λ v. AreColumnsWritten v slots) (sym c.self.view_is) c.requires.slots in
    let written : (k : ℕ) → k < self.columns → whole_number_at now.numbers (row * self.columns + k) ≡ unwritten_number self.rows self.columns self.entries self.coefficients.items slots row k =
    λ k q. c.write_numbers.ensures.written k q ∙ ap (λ xs. unwritten_number self.rows self.columns self.entries xs slots row k) c.deref.ensures.value in
    let limit_is : to_z w64 (of_z w64 self.limit) ≡ self.limit = limit_read v (partial_of v c.self.invariant row open_row) in
    let below : (k : ℕ) → k < self.columns → magnitude (whole_number_at now.numbers (row * self.columns + k)) <ℤ self.limit =
    λ k q. subst (λ l. magnitude (whole_number_at now.numbers (row * self.columns + k)) <ℤ l) limit_is (c.is_row_below.ensures c.if-not-is_row_below.false k q) in
    touched_filled v row now (set self.unwritten.items row false) open_row touched (λ i other. flag_other self.unwritten.items row i false other) (λ none. below) slots (partial_of v c.self.invariant row open_row).listed
    (apart_at v slots columns_written row row_within open_row) written ∙ ap (λ w. filled w slots) c.self.view_is

pub returns-clause-columns_written : goal.returns-clause-columns_written
returns-clause-columns_written c =
    let self = c.self.inside in
    let v : Parts = record { rows = self.rows; columns = self.columns; entries = self.entries; coefficients = self.coefficients.items; unwritten = self.unwritten.items; is_partial = self.is_partial; limit = self.limit } in
    let row = c.args.row in
    let slots = λ (j : ℕ). get_or c.args.slots.now j 0 in
    let row_within : row < length self.unwritten.items = (let w : row < self.rows = subst (λ v. row < v.rows) (sym c.self.view_is) c.requires.row in let e = c.self.invariant.flags in omega (arith, w, e)) in
    let columns_written : AreColumnsWritten v slots = subst (λ v. AreColumnsWritten v slots) (sym c.self.view_is) c.requires.slots in
    λ j w h. flag_still self.unwritten.items row (slots j) row_within (columns_written j w h)

pub returns-clause-written : goal.returns-clause-written
returns-clause-written c = λ t.
    let self = c.self.inside in
    let row = c.args.row in
    let row_within : row < length self.unwritten.items = (let w : row < self.rows = subst (λ v. row < v.rows) (sym c.self.view_is) c.requires.row in let e = c.self.invariant.flags in omega (arith, w, e)) in
    flag_same self.unwritten.items row false row_within

pub is_row_below-requires-clause-positive : goal.is_row_below-requires-clause-positive
is_row_below-requires-clause-positive c =
    let self = c.self.inside in
    let v : Parts = record { rows = self.rows; columns = self.columns; entries = self.entries; coefficients = self.coefficients.items; unwritten = self.unwritten.items; is_partial = self.is_partial; limit = self.limit } in
    let open_row : is_unwritten self.unwritten.items c.args.row ≡ true = subst (λ v. is_unwritten v.unwritten c.args.row ≡ true) (sym c.self.view_is) c.requires.unwritten in
    let partial = partial_of v c.self.invariant c.args.row open_row in
    subst (λ l. pos 0 <ℤ l) (sym (limit_read v partial)) partial.positive
