use Rattle.std.proofs.Common.{ℕ, ◌≡◌, ◌≤◌, ◌∙◌, refl, sym, ap, subst, get_or, length, false}
use Rattle.std.proofs.lemmas.List.{with_items_is}
use Rattle.table_entries.specs.WholeSteps.{is_unwritten}
use Rattle.table_entries.specs.Parts.{Parts, IsParted, AreColumnsWritten, any_entry, filled}
use Rattle.table_entries.specs.private.Parts.{IsLight}
use Rattle.table_entries.proofs.FilledLemmas.{light_at, full_parted, filled_same, none_open}
use Rattle.table_entries.proofs.parts.PartEntries.write_all.Goals as goal

pub write_rows-requires-clause-size : goal.write_rows-requires-clause-size
write_rows-requires-clause-size c = c.self.invariant.entries

pub write_rows-requires-clause-coefficients : goal.write_rows-requires-clause-coefficients
write_rows-requires-clause-coefficients c = ap length c.deref.ensures.value ∙ (c.self.invariant.partial c.if-not-self.false).coefficients_length

pub write_rows-requires-clause-slots : goal.write_rows-requires-clause-slots
write_rows-requires-clause-slots c = subst (λ v. v.columns ≤ length c.args.slots.now) (sym c.self.view_is) c.requires.length

pub write_rows-requires-clause-flags : goal.write_rows-requires-clause-flags
write_rows-requires-clause-flags c = ap length c.deref_mut.ensures.value ∙ c.self.invariant.flags

pub write_rows-requires-clause-light : goal.write_rows-requires-clause-light
write_rows-requires-clause-light c = λ i p e.
    let self = c.self.inside in
    let v : Parts = record { rows = self.rows; columns = self.columns; entries = self.entries; coefficients = self.coefficients.items; unwritten = self.unwritten.items; is_partial = self.is_partial; limit = self.limit } in
    let slots = λ (j : ℕ). get_or c.args.slots.now j 0 in
    subst (λ xs. IsLight self.rows self.columns self.entries xs slots i) (sym c.deref.ensures.value)
    (light_at v (c.self.invariant.partial c.if-not-self.false) slots (subst (λ w. AreColumnsWritten w slots) (sym c.self.view_is) c.requires.slots) i p (ap (λ fs. is_unwritten fs i) (sym c.deref_mut.ensures.value) ∙ e))

pub write_rows-requires-clause-columns_written : goal.write_rows-requires-clause-columns_written
write_rows-requires-clause-columns_written c = λ j w h.
    let self = c.self.inside in
    let v : Parts = record { rows = self.rows; columns = self.columns; entries = self.entries; coefficients = self.coefficients.items; unwritten = self.unwritten.items; is_partial = self.is_partial; limit = self.limit } in
    let slots = λ (j : ℕ). get_or c.args.slots.now j 0 in
    let columns_written : AreColumnsWritten v slots = subst (λ w. AreColumnsWritten w slots) (sym c.self.view_is) c.requires.slots in
    ap (λ fs. is_unwritten fs (slots j)) c.deref_mut.ensures.value ∙ columns_written j w h

pub invariant_of-self : goal.invariant_of-self
invariant_of-self c =
    let self = c.self.inside in
    let v : Parts = record { rows = self.rows; columns = self.columns; entries = self.entries; coefficients = self.coefficients.items; unwritten = self.unwritten.items; is_partial = self.is_partial; limit = self.limit } in
    let flags = c.write_rows.new.unwritten in
    let kept : length flags ≡ self.unwritten.len = c.write_rows.auto.unwritten ∙ c.deref_mut.ensures.len in
    let flags_are = with_items_is self.unwritten flags kept in
    let size : length flags ≡ length self.unwritten.items = c.write_rows.auto.unwritten ∙ ap length c.deref_mut.ensures.value in
    let none : (i : ℕ) → is_unwritten flags i ≡ false = none_open self.rows flags (size ∙ c.self.invariant.flags) c.write_rows.ensures.written in
    subst (λ fs. IsParted (record v { entries = c.write_rows.new.entries; unwritten = fs; is_partial = false })) (sym flags_are) (full_parted v c.write_rows.new.entries flags c.self.invariant size c.write_rows.ensures.size none)

pub returns-clause-filled : goal.returns-clause-filled
returns-clause-filled c =
    let self = c.self.inside in
    let v : Parts = record { rows = self.rows; columns = self.columns; entries = self.entries; coefficients = self.coefficients.items; unwritten = self.unwritten.items; is_partial = self.is_partial; limit = self.limit } in
    let flags = c.write_rows.new.unwritten in
    let kept : length flags ≡ self.unwritten.len = c.write_rows.auto.unwritten ∙ c.deref_mut.ensures.len in
    let flags_are = with_items_is self.unwritten flags kept in
    let size : length flags ≡ length self.unwritten.items = c.write_rows.auto.unwritten ∙ ap length c.deref_mut.ensures.value in
    let none : (i : ℕ) → is_unwritten flags i ≡ false = none_open self.rows flags (size ∙ c.self.invariant.flags) c.write_rows.ensures.written in
    let slots = λ (j : ℕ). get_or c.args.slots.now j 0 in
    ap (λ fs. filled (record v { entries = c.write_rows.new.entries; unwritten = fs; is_partial = false }) slots) flags_are
    ∙ filled_same v (record v { entries = c.write_rows.new.entries; unwritten = flags; is_partial = false }) slots refl refl
    (λ i k p q. subst (λ X. X) (λ z. any_entry self.rows self.columns (c.deref.ensures.value z) slots flags c.write_rows.new.entries.list i k ≡ any_entry self.rows self.columns (c.deref.ensures.value z) slots (c.deref_mut.ensures.value z) self.entries.list i k) (c.write_rows.ensures.same i k p q))
    ∙ ap (λ w. filled w slots) c.self.view_is

pub returns-clause-written : goal.returns-clause-written
returns-clause-written c = λ i.
    let self = c.self.inside in
    let v : Parts = record { rows = self.rows; columns = self.columns; entries = self.entries; coefficients = self.coefficients.items; unwritten = self.unwritten.items; is_partial = self.is_partial; limit = self.limit } in
    let flags = c.write_rows.new.unwritten in
    let kept : length flags ≡ self.unwritten.len = c.write_rows.auto.unwritten ∙ c.deref_mut.ensures.len in
    let flags_are = with_items_is self.unwritten flags kept in
    let size : length flags ≡ length self.unwritten.items = c.write_rows.auto.unwritten ∙ ap length c.deref_mut.ensures.value in
    let none : (i : ℕ) → is_unwritten flags i ≡ false = none_open self.rows flags (size ∙ c.self.invariant.flags) c.write_rows.ensures.written in
    ap (λ fs. is_unwritten fs i) flags_are ∙ none i
