use Rattle.std.proofs.Common.{ℕ, pos, ◌<ℤ◌, ◌≡◌, ◌<◌, ◌≤◌, ◌∙◌, sym, ap, subst, arith, get_or, length, true, to_z, of_z, w64}
use Rattle.std.proofs.lemmas.Int.{ints}
use Rattle.frac128.specs.LowestTerms.{quotient_of}
use Rattle.table_entries.specs.FlatSteps.{dense_entry}
use Rattle.table_entries.specs.WholeSteps.{IsShort, is_unwritten}
use Rattle.table_entries.specs.Parts.{AreColumnsWritten, filled}
use Rattle.table_entries.specs.private.Parts.{IsLight, unwritten_number}
use Rattle.table_entries.proofs.FilledLemmas.{partial_of, light_at, unwritten_at}
use Rattle.table_entries.proofs.parts.PartEntries.number.Goals as goal

pub unwritten_number-requires-clause-row : goal.unwritten_number-requires-clause-row
unwritten_number-requires-clause-row c = subst (λ v. c.args.row < v.rows) (sym c.self.view_is) c.requires.row

pub unwritten_number-requires-clause-place : goal.unwritten_number-requires-clause-place
unwritten_number-requires-clause-place c = subst (λ v. c.args.place < v.columns) (sym c.self.view_is) c.requires.place

pub unwritten_number-requires-clause-size : goal.unwritten_number-requires-clause-size
unwritten_number-requires-clause-size c = c.self.invariant.entries

pub unwritten_number-requires-clause-coefficients : goal.unwritten_number-requires-clause-coefficients
unwritten_number-requires-clause-coefficients c =
    let e : is_unwritten c.self.inside.unwritten.items c.args.row ≡ true = subst (λ v. is_unwritten v.unwritten c.args.row ≡ true) (sym c.self.view_is) c.requires.unwritten in
    ap length c.deref.ensures.value ∙ (partial_of _ c.self.invariant c.args.row e).coefficients_length

pub unwritten_number-requires-clause-slots : goal.unwritten_number-requires-clause-slots
unwritten_number-requires-clause-slots c = subst (λ v. v.columns ≤ length c.args.slots.now) (sym c.self.view_is) c.requires.length

pub unwritten_number-requires-clause-light : goal.unwritten_number-requires-clause-light
unwritten_number-requires-clause-light c =
    let self = c.self.inside in
    let row = c.args.row in
    let e : is_unwritten self.unwritten.items row ≡ true = subst (λ v. is_unwritten v.unwritten row ≡ true) (sym c.self.view_is) c.requires.unwritten in
    subst (λ xs. IsLight self.rows self.columns self.entries xs (λ j. get_or c.args.slots.now j 0) row) (sym c.deref.ensures.value)
    (light_at _ (partial_of _ c.self.invariant row e) (λ j. get_or c.args.slots.now j 0) (subst (λ v. AreColumnsWritten v (λ j. get_or c.args.slots.now j 0)) (sym c.self.view_is) c.requires.slots) row
    (subst (λ v. row < v.rows) (sym c.self.view_is) c.requires.row) e)

pub returns-clause-whole : goal.returns-clause-whole
returns-clause-whole c =
    let e : is_unwritten c.self.inside.unwritten.items c.args.row ≡ true = subst (λ v. is_unwritten v.unwritten c.args.row ≡ true) (sym c.self.view_is) c.requires.unwritten in
    subst (λ v. v.entries.is_whole ≡ true) c.self.view_is (partial_of _ c.self.invariant c.args.row e).form

pub returns-clause-value : goal.returns-clause-value
returns-clause-value c =
    let self = c.self.inside in
    let row = c.args.row in
    let place = c.args.place in
    let n = c.unwritten_number.result in
    let slots = λ (j : ℕ). get_or c.args.slots.now j 0 in
    let e : is_unwritten self.unwritten.items row ≡ true = subst (λ v. is_unwritten v.unwritten row ≡ true) (sym c.self.view_is) c.requires.unwritten in
    let short : IsShort n = c.unwritten_number.ensures.short in
    let read : n ≡ to_z w64 (of_z w64 n) = omega (arith, ints, short) in
    subst (λ v. dense_entry v.columns (filled v slots) row place ≡ quotient_of (to_z w64 (of_z w64 n)) v.entries.denominator) c.self.view_is
    (unwritten_at _ slots row place (subst (λ v. row < v.rows) (sym c.self.view_is) c.requires.row) (subst (λ v. place < v.columns) (sym c.self.view_is) c.requires.place) (partial_of _ c.self.invariant row e).listed e
    ∙ ap (λ x. quotient_of x self.entries.denominator) (ap (λ xs. unwritten_number self.rows self.columns self.entries xs slots row place) (sym c.deref.ensures.value) ∙ sym c.unwritten_number.ensures.value ∙ read))

pub returns-clause-positive : goal.returns-clause-positive
returns-clause-positive c =
    let e : is_unwritten c.self.inside.unwritten.items c.args.row ≡ true = subst (λ v. is_unwritten v.unwritten c.args.row ≡ true) (sym c.self.view_is) c.requires.unwritten in
    subst (λ v. pos 0 <ℤ v.entries.denominator) c.self.view_is (partial_of _ c.self.invariant c.args.row e).listed.are_over.positive
