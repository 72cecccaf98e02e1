use Rattle.std.proofs.Common.{ℕ, ◌≡◌, ◌<◌, ◌∙◌, sym, ap, subst, arith, get_or, length, true, false, pos, to_z, of_z, w64}
use Rattle.std.proofs.lemmas.Int.{ints}
use Rattle.std.proofs.lemmas.List.{get_or_default}
use Rattle.std.proofs.lemmas.Option.{IfSome_then}
use Rattle.frac128.specs.Rational.{int}
use Rattle.frac128.specs.LowestTerms.{quotient_of}
use Rattle.table_entries.specs.FlatSteps.{dense_entry}
use Rattle.table_entries.specs.WholeSteps.{is_unwritten}
use Rattle.table_entries.specs.Parts.{Parts, filled}
use Rattle.table_entries.proofs.ReadLemmas.{short_read, short_again}
use Rattle.table_entries.proofs.FilledLemmas.{written_at}
use Rattle.table_entries.proofs.parts.PartEntries.number_over.Goals as goal

pub returns-clause-value : goal.returns-clause-value
returns-clause-value c =
    let self = c.self.inside in
    let v : Parts = record { rows = self.rows; columns = self.columns; entries = self.entries; coefficients = self.coefficients.items; unwritten = self.unwritten.items; is_partial = self.is_partial; limit = self.limit } in
    let row = c.args.row in
    let place = c.args.place in
    let slots = λ (j : ℕ). get_or c.args.slots.now j 0 in
    let row_within : row < self.rows = subst (λ w. row < w.rows) (sym c.self.view_is) c.requires.row in
    let place_within : place < self.columns = subst (λ w. place < w.columns) (sym c.self.view_is) c.requires.place in
    let flag_within : row < length self.unwritten.items = (let e = c.self.invariant.flags in omega (arith, row_within, e)) in
    let flag : is_unwritten self.unwritten.items row ≡ false = sym (get_or_default self.unwritten.items row c.index.result.now false flag_within) ∙ sym c.index.ensures ∙ c.if-index.false in
    let entry_is : get_or self.entries.list c.flat_index.result (int (pos 0)) ≡ dense_entry c.args.self.now.columns (filled c.args.self.now slots) row place =
    ap (λ x. get_or self.entries.list x (int (pos 0))) c.flat_index.ensures.value ∙ sym (written_at v slots row place row_within place_within flag) ∙ ap (λ w. dense_entry w.columns (filled w slots) row place) c.self.view_is in
    let d_is : to_z w64 (of_z w64 c.args.denominator) ≡ c.args.denominator = let range = c.ranges.denominator in omega (arith, ints, range) in
    IfSome_then c.number_over.result c.number_over.ensures.value (λ n h. sym entry_is ∙ h ∙ ap (quotient_of n) d_is)

pub returns-clause-short : goal.returns-clause-short
returns-clause-short c = c.number_over.ensures.short

pub index-requires : goal.index-requires
index-requires c =
    let self = c.self.inside in
    let row_within : c.args.row < self.rows = subst (λ w. c.args.row < w.rows) (sym c.self.view_is) c.requires.row in
    let flags = c.self.invariant.flags in
    let all = self.unwritten.ok.0 in
    omega (arith, row_within, flags, all)

pub number-number-requires-clause-unwritten : goal.number-number-requires-clause-unwritten
number-number-requires-clause-unwritten c =
    let self = c.self.inside in
    let row = c.args.row in
    let row_within : row < self.rows = subst (λ w. row < w.rows) (sym c.self.view_is) c.requires.row in
    let flag_within : row < length self.unwritten.items = (let e = c.self.invariant.flags in omega (arith, row_within, e)) in
    let flag : is_unwritten self.unwritten.items row ≡ true = sym (get_or_default self.unwritten.items row c.index.result.now false flag_within) ∙ sym c.index.ensures ∙ c.if-index.true in
    subst (λ w. is_unwritten w.unwritten row ≡ true) c.self.view_is flag

pub returns-then-denominator-clause-short : goal.returns-then-denominator-clause-short
returns-then-denominator-clause-short c = short_again c.number-number.result c.number-number.ensures.short

pub returns-then-denominator-clause-value : goal.returns-then-denominator-clause-value
returns-then-denominator-clause-value c =
    let self = c.self.inside in
    let n = c.number-number.ensures in
    let read = short_read c.number-number.result n.short in
    let whole : self.entries.is_whole ≡ true = subst (λ w. w.entries.is_whole ≡ true) (sym c.self.view_is) n.whole in
    let asked : c.denominator.result ≡ c.args.denominator = let e = c.if-denominator.true in let range = c.ranges.denominator in let short = c.denominator.ensures.short in omega (arith, ints, e, range, short) in
    let d_is : c.args.self.now.entries.denominator ≡ c.args.denominator = ap (λ w. w.entries.denominator) (sym c.self.view_is) ∙ sym (c.denominator.ensures.value whole) ∙ asked in
    n.value ∙ (λ i. quotient_of (sym read i) (d_is i))

pub flat_index-requires-clause-row : goal.flat_index-requires-clause-row
flat_index-requires-clause-row c = subst (λ v. c.args.row < v.rows) (sym c.self.view_is) c.requires.row

pub flat_index-requires-clause-place : goal.flat_index-requires-clause-place
flat_index-requires-clause-place c = subst (λ v. c.args.place < v.columns) (sym c.self.view_is) c.requires.place

pub flat_index-requires-clause-room : goal.flat_index-requires-clause-room
flat_index-requires-clause-room c = c.self.invariant.few

pub number_over-requires : goal.number_over-requires
number_over-requires c = let w = c.flat_index.ensures.within in let e = c.self.invariant.entries in omega (arith, w, e)
