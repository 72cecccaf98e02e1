use Rattle.std.proofs.Common.{ℕ, ◌≡◌, ◌<◌, ◌∙◌, sym, subst, true, to_z, of_z, w64}
use Rattle.table_entries.specs.FlatSteps.{dense_entry}
use Rattle.table_entries.specs.WholeSteps.{IsShort, IsShortOver}
use Rattle.table_entries.specs.Listed.{IsListed}
use Rattle.table_entries.specs.Parts.{Parts, AreColumnsWritten, filled}
use Rattle.table_entries.proofs.ReadLemmas.{short_read, short_again, positive_again}
use Rattle.table_entries.proofs.FilledLemmas.{short_over}
use Rattle.table_entries.proofs.parts.PartEntries.whole_denominator.Goals as goal

pub returns-then-is_whole-clause-entries : goal.returns-then-is_whole-clause-entries
returns-then-is_whole-clause-entries c = λ slots columns_written.
    let self = c.self.inside in
    let v : Parts = record { rows = self.rows; columns = self.columns; entries = self.entries; coefficients = self.coefficients.items; unwritten = self.unwritten.items; is_partial = self.is_partial; limit = self.limit } in
    let listed : IsListed self.entries = c.is_whole.ensures.lawful c.if-is_whole.true in
    let form : self.entries.is_whole ≡ true = sym c.is_whole.ensures.value ∙ c.if-is_whole.true in
    let d = c.denominator.result in
    let short : IsShort d = c.denominator.ensures.short in
    let read = short_read d short in
    let d_is : to_z w64 (of_z w64 d) ≡ self.entries.denominator = read ∙ c.denominator.ensures.value form in
    subst (λ w. (i k : ℕ) → i < w.rows → k < w.columns → IsShortOver (to_z w64 (of_z w64 d)) (dense_entry w.columns (filled w slots) i k)) c.self.view_is
    (λ i k p q. subst (λ e. IsShortOver e (dense_entry self.columns (filled v slots) i k)) (sym d_is)
    (short_over v c.self.invariant listed slots (subst (λ w. AreColumnsWritten w slots) (sym c.self.view_is) columns_written) i k p q))

pub returns-then-is_whole-clause-positive : goal.returns-then-is_whole-clause-positive
returns-then-is_whole-clause-positive c = positive_again c.denominator.result c.denominator.ensures.short c.denominator.ensures.positive

pub returns-then-is_whole-clause-short : goal.returns-then-is_whole-clause-short
returns-then-is_whole-clause-short c = short_again c.denominator.result c.denominator.ensures.short
