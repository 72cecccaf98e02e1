use Rattle.std.proofs.Common.{ℕ, ◌≡◌, ◌<◌, ◌*◌, ◌+◌, ◌∙◌, ap, subst, arith, false, to_z, of_z, w64}
use Rattle.std.proofs.lemmas.Int.{ints}
use Rattle.std.proofs.lemmas.Option.{IfSome_then}
use Rattle.frac128.specs.LowestTerms.{quotient_of}
use Rattle.table_entries.specs.FlatSteps.{dense_entry}
use Rattle.table_entries.specs.WholeSteps.{is_unwritten, whole_number_at}
use Rattle.table_entries.specs.Parts.{Parts, filled}
use Rattle.table_entries.proofs.FilledLemmas.{written_at}
use Rattle.table_entries.proofs.parts.PartEntries.numbers_over.Goals as goal

pub returns-clause-length : goal.returns-clause-length
returns-clause-length c =
    IfSome_then c.numbers_over.result c.numbers_over.ensures.length (λ r size. size ∙ c.self.invariant.entries ∙ ap (λ v. v.rows * v.columns) c.self.view_is)

pub returns-clause-value : goal.returns-clause-value
returns-clause-value c =
    let self = c.self.inside in
    let v : Parts = record { rows = self.rows; columns = self.columns; entries = self.entries; coefficients = self.coefficients.items; unwritten = self.unwritten.items; is_partial = self.is_partial; limit = self.limit } in
    let d = c.args.denominator in
    let d_is : to_z w64 (of_z w64 d) ≡ d = let range = c.ranges.denominator in omega (arith, ints, range) in
    IfSome_then c.numbers_over.result c.numbers_over.ensures.value
    (λ r each. subst (λ w. (slots : ℕ → ℕ) (i k : ℕ) → i < w.rows → k < w.columns → is_unwritten w.unwritten i ≡ false → dense_entry w.columns (filled w slots) i k ≡ quotient_of (whole_number_at r.now (i * w.columns + k)) d) c.self.view_is
    (λ slots i k p q flag. written_at v slots i k p q flag ∙ each (i * self.columns + k) ∙ ap (quotient_of (whole_number_at r.now (i * self.columns + k))) d_is))
