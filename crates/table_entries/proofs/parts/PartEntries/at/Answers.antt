use Rattle.std.proofs.Common.{ℕ, ◌≡◌, ◌<◌, ◌∙◌, sym, ap, subst, arith, get_or, length, false, pos}
use Rattle.std.proofs.lemmas.List.{get_or_default}
use Rattle.frac128.specs.Rational.{int}
use Rattle.table_entries.specs.FlatSteps.{dense_entry}
use Rattle.table_entries.specs.WholeSteps.{is_unwritten}
use Rattle.table_entries.specs.Parts.{Parts, filled}
use Rattle.frac128.specs.LowestTerms.{quotient_of}
use Rattle.table_entries.proofs.FilledLemmas.{written_at}
use Rattle.table_entries.proofs.ReadLemmas.{short_read}
use Rattle.table_entries.proofs.parts.PartEntries.at.Goals as goal

pub returns : goal.returns
returns c =
    let self = c.self.inside in
    let v : Parts = record { rows = self.rows; columns = self.columns; entries = self.entries; coefficients = self.coefficients.items; unwritten = self.unwritten.items; is_partial = self.is_partial; limit = self.limit } in
    let row = c.args.row in
    let place = c.args.place in
    let slots = λ (j : ℕ). get_or c.args.slots.now j 0 in
    let row_within : row < self.rows = subst (λ w. row < w.rows) (sym c.self.view_is) c.requires.row in
    let place_within : place < self.columns = subst (λ w. place < w.columns) (sym c.self.view_is) c.requires.place in
    let flag_within : row < length self.unwritten.items = (let e = c.self.invariant.flags in omega (arith, row_within, e)) in
    let flag : is_unwritten self.unwritten.items row ≡ false = sym (get_or_default self.unwritten.items row c.index.result.now false flag_within) ∙ sym c.index.ensures ∙ c.if-index.false in
    let entry_is : get_or self.entries.list c.flat_index.result (int (pos 0)) ≡ dense_entry c.args.self.now.columns (filled c.args.self.now slots) row place =
    ap (λ x. get_or self.entries.list x (int (pos 0))) c.flat_index.ensures.value ∙ sym (written_at v slots row place row_within place_within flag) ∙ ap (λ w. dense_entry w.columns (filled w slots) row place) c.self.view_is in
    c.at.ensures ∙ entry_is

pub returns-then-index : goal.returns-then-index
returns-then-index c =
    let n_read = short_read c.number.result c.number.ensures.short in
    let d_read = short_read c.denominator.result c.denominator.ensures.short in
    let d_is : c.denominator.result ≡ c.args.self.now.entries.denominator = c.denominator.ensures.value (ap (λ v. v.entries.is_whole) c.self.view_is ∙ c.number.ensures.whole) ∙ ap (λ v. v.entries.denominator) c.self.view_is in
    c.fraction.ensures ∙ (λ i. quotient_of (n_read i) ((d_read ∙ d_is) i)) ∙ sym c.number.ensures.value
