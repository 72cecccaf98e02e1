use Rattle.std.proofs.Common.{ℕ, ◌≡◌, ◌<◌, ◌∙◌, sym, ap, subst, arith, get_or, length, false, pos, to_z, of_z, w64}
use Rattle.std.proofs.lemmas.Int.{ints}
use Rattle.std.proofs.lemmas.List.{get_or_default}
use Rattle.frac128.specs.Rational.{int}
use Rattle.frac128.specs.LowestTerms.{quotient_of}
use Rattle.table_entries.specs.FlatSteps.{dense_entry}
use Rattle.table_entries.specs.WholeSteps.{IsShort, is_unwritten}
use Rattle.table_entries.specs.Parts.{Parts, filled}
use Rattle.table_entries.proofs.ListedLemmas.{zero_number}
use Rattle.table_entries.proofs.FilledLemmas.{written_at}
use Rattle.table_entries.proofs.parts.PartEntries.is_zero.Goals as goal

pub returns : goal.returns
returns c =
    let self = c.self.inside in
    let v : Parts = record { rows = self.rows; columns = self.columns; entries = self.entries; coefficients = self.coefficients.items; unwritten = self.unwritten.items; is_partial = self.is_partial; limit = self.limit } in
    let row = c.args.row in
    let place = c.args.place in
    let slots = λ (j : ℕ). get_or c.args.slots.now j 0 in
    let row_within : row < self.rows = subst (λ w. row < w.rows) (sym c.self.view_is) c.requires.row in
    let place_within : place < self.columns = subst (λ w. place < w.columns) (sym c.self.view_is) c.requires.place in
    let flag_within : row < length self.unwritten.items = (let e = c.self.invariant.flags in omega (arith, row_within, e)) in
    let flag : is_unwritten self.unwritten.items row ≡ false = sym (get_or_default self.unwritten.items row c.index.result.now false flag_within) ∙ sym c.index.ensures ∙ c.if-index.false in
    let entry_is : get_or self.entries.list c.flat_index.result (int (pos 0)) ≡ dense_entry c.args.self.now.columns (filled c.args.self.now slots) row place =
    ap (λ x. get_or self.entries.list x (int (pos 0))) c.flat_index.ensures.value ∙ sym (written_at v slots row place row_within place_within flag) ∙ ap (λ w. dense_entry w.columns (filled w slots) row place) c.self.view_is in
    (λ t. sym entry_is ∙ c.is_zero.ensures.0 t, λ e. c.is_zero.ensures.1 (entry_is ∙ e))

pub returns-then-index : goal.returns-then-index
returns-then-index c =
    let first = c.args.self.now in
    let slots = λ (j : ℕ). get_or c.args.slots.now j 0 in
    let n = c.number.result in
    let short : IsShort n = c.number.ensures.short in
    let read : to_z w64 (of_z w64 n) ≡ n = omega (arith, ints, short) in
    let value : dense_entry first.columns (filled first slots) c.args.row c.args.place ≡ quotient_of n first.entries.denominator = c.number.ensures.value in
    let zero = zero_number n first.entries.denominator c.number.ensures.positive in
    (λ t. value ∙ zero.0 (sym read ∙ c.is_nothing.ensures.0 t), λ e. c.is_nothing.ensures.1 (read ∙ zero.1 (sym value ∙ e)))
