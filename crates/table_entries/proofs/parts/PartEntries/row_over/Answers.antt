use Rattle.std.proofs.Common.{ℕ, ◌≡◌, ◌<◌, ◌*◌, ◌+◌, ◌∙◌, sym, ap, subst, arith, length, false, to_z, of_z, w64}
use Rattle.std.proofs.lemmas.Int.{ints}
use Rattle.std.proofs.lemmas.List.{get_or_default}
use Rattle.frac128.specs.LowestTerms.{quotient_of}
use Rattle.table_entries.specs.FlatSteps.{dense_entry}
use Rattle.table_entries.specs.WholeSteps.{IsShort, is_unwritten, whole_number_at}
use Rattle.table_entries.specs.Parts.{Parts, filled}
use Rattle.table_entries.proofs.FilledLemmas.{written_at}
use Rattle.table_entries.proofs.PivotLemmas.{flat_within}
use Rattle.table_entries.proofs.parts.PartEntries.row_over.Goals as goal

pub index-requires : goal.index-requires
index-requires c =
    let self = c.self.inside in
    let row_within : c.args.row < self.rows = subst (λ w. c.args.row < w.rows) (sym c.self.view_is) c.requires in
    let flags = c.self.invariant.flags in
    let all = self.unwritten.ok.0 in
    omega (arith, row_within, flags, all)

pub row_of-requires-clause-row : goal.row_of-requires-clause-row
row_of-requires-clause-row c = subst (λ w. c.args.row < w.rows) (sym c.self.view_is) c.requires

pub row_of-requires-clause-size : goal.row_of-requires-clause-size
row_of-requires-clause-size c = c.in-Some.ensures.length ∙ c.self.invariant.entries

pub returns-in-Some-clause-length : goal.returns-in-Some-clause-length
returns-in-Some-clause-length c = c.row_of.ensures.length ∙ ap (λ v. v.columns) c.self.view_is

pub returns-in-Some-clause-short : goal.returns-in-Some-clause-short
returns-in-Some-clause-short c = λ k less.
    let self = c.self.inside in
    let size = c.row_of.ensures.length in
    let within : k < self.columns = omega (arith, less, size) in
    let row_within : c.args.row < self.rows = subst (λ w. c.args.row < w.rows) (sym c.self.view_is) c.requires in
    let inside : c.args.row * self.columns + k < length c.in-Some.numbers.now = (let all = c.in-Some.ensures.length ∙ c.self.invariant.entries in let flat = flat_within self.columns self.rows c.args.row k row_within within in omega (arith, all, flat)) in
    subst IsShort (sym (c.row_of.ensures.numbers k within)) (c.in-Some.ensures.short (c.args.row * self.columns + k) inside)

pub returns-in-Some-clause-value : goal.returns-in-Some-clause-value
returns-in-Some-clause-value c =
    let self = c.self.inside in
    let v : Parts = record { rows = self.rows; columns = self.columns; entries = self.entries; coefficients = self.coefficients.items; unwritten = self.unwritten.items; is_partial = self.is_partial; limit = self.limit } in
    let row = c.args.row in
    let d = c.args.denominator in
    let d_is : to_z w64 (of_z w64 d) ≡ d = let range = c.ranges.denominator in omega (arith, ints, range) in
    let row_within : row < self.rows = subst (λ w. row < w.rows) (sym c.self.view_is) c.requires in
    let flag_within : row < length self.unwritten.items = (let e = c.self.invariant.flags in omega (arith, row_within, e)) in
    let flag : is_unwritten self.unwritten.items row ≡ false = sym (get_or_default self.unwritten.items row c.index.result.now false flag_within) ∙ sym c.index.ensures ∙ c.if-index.false in
    subst (λ w. (slots : ℕ → ℕ) (k : ℕ) → k < w.columns → dense_entry w.columns (filled w slots) row k ≡ quotient_of (whole_number_at c.row_of.result.now k) d) c.self.view_is
    (λ slots k q. written_at v slots row k row_within q flag ∙ c.in-Some.ensures.value (row * self.columns + k) ∙ (λ i. quotient_of (sym (c.row_of.ensures.numbers k q) i) (d_is i)))
