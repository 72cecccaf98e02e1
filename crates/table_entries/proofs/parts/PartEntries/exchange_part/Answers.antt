use Rattle.std.proofs.Common.{◌≡◌, ◌≢◌, ◌<◌, ◌<ℤ◌, ◌+◌, ◌∙◌, sym, subst, subst₂, false, pos}
use Rattle.frac128.specs.Rational.{int}
use Rattle.table_entries.specs.FlatSteps.{dense_entry}
use Rattle.table_entries.specs.WholeSteps.{AreWithin, is_unwritten}
use Rattle.table_entries.specs.Listed.{IsExchangedList}
use Rattle.table_entries.specs.private.Listed.{ArePartsExchanged}
use Rattle.table_entries.specs.Parts.{Parts, AreColumnsWritten, IsSwap, filled, swapped}
use Rattle.table_entries.proofs.FilledLemmas.{part_parted, exchanged_filled, limit_read}
use Rattle.table_entries.proofs.parts.PartEntries.exchange_part.Goals as goal

pub exchange_part-requires-clause-whole : goal.exchange_part-requires-clause-whole
exchange_part-requires-clause-whole c = (c.self.invariant.partial c.if-not-self.false).form

pub exchange_part-requires-clause-row : goal.exchange_part-requires-clause-row
exchange_part-requires-clause-row c = subst (λ v. c.args.row < v.rows) (sym c.self.view_is) c.requires.row

pub exchange_part-requires-clause-place : goal.exchange_part-requires-clause-place
exchange_part-requires-clause-place c = subst (λ v. c.args.place < v.columns) (sym c.self.view_is) c.requires.place

pub exchange_part-requires-clause-room : goal.exchange_part-requires-clause-room
exchange_part-requires-clause-room c = c.self.invariant.few

pub exchange_part-requires-clause-size : goal.exchange_part-requires-clause-size
exchange_part-requires-clause-size c = c.self.invariant.entries

pub exchange_part-requires-clause-some : goal.exchange_part-requires-clause-some
exchange_part-requires-clause-some c = subst (λ v. dense_entry v.columns v.entries.list c.args.row c.args.place ≢ int (pos 0)) (sym c.self.view_is) c.requires.some

pub exchange_part-requires-clause-positive : goal.exchange_part-requires-clause-positive
exchange_part-requires-clause-positive c =
    let partial = c.self.invariant.partial c.if-not-self.false in
    subst (λ l. pos 0 <ℤ l) (sym (limit_read _ partial)) partial.positive

pub exchange_part-requires-clause-within : goal.exchange_part-requires-clause-within
exchange_part-requires-clause-within c =
    let self = c.self.inside in
    let partial = c.self.invariant.partial c.if-not-self.false in
    subst₂ (λ flags l. AreWithin self.rows self.columns flags l self.entries.numbers) (sym c.deref.ensures.value) (sym (limit_read _ partial)) partial.numbers

pub invariant_of-self : goal.invariant_of-self
invariant_of-self c =
    let self = c.self.inside in
    let v : Parts = record { rows = self.rows; columns = self.columns; entries = self.entries; coefficients = self.coefficients.items; unwritten = self.unwritten.items; is_partial = self.is_partial; limit = self.limit } in
    let row_within : c.args.row < self.rows = subst (λ v. c.args.row < v.rows) (sym c.self.view_is) c.requires.row in
    let place_within : c.args.place < self.columns = subst (λ v. c.args.place < v.columns) (sym c.self.view_is) c.requires.place in
    let written : is_unwritten self.unwritten.items c.args.row ≡ false = subst (λ v. is_unwritten v.unwritten c.args.row ≡ false) (sym c.self.view_is) c.requires.written in
    part_parted v c.exchange_part.new.self c.args.row c.args.place row_within place_within c.self.invariant (c.self.invariant.partial c.if-not-self.false) written c.exchange_part.result
    (λ t. subst (λ X. X) (λ z. ArePartsExchanged self.rows self.columns c.args.row c.args.place (c.deref.ensures.value z) (limit_read v (c.self.invariant.partial c.if-not-self.false) z) self.entries c.exchange_part.new.self) (c.exchange_part.ensures.done t)) c.exchange_part.ensures.kept

pub returns-clause-done : goal.returns-clause-done
returns-clause-done c = λ t slots entering leaving columns_written swap.
    let self = c.self.inside in
    let v : Parts = record { rows = self.rows; columns = self.columns; entries = self.entries; coefficients = self.coefficients.items; unwritten = self.unwritten.items; is_partial = self.is_partial; limit = self.limit } in
    let row_within : c.args.row < self.rows = subst (λ v. c.args.row < v.rows) (sym c.self.view_is) c.requires.row in
    let place_within : c.args.place < self.columns = subst (λ v. c.args.place < v.columns) (sym c.self.view_is) c.requires.place in
    let written : is_unwritten self.unwritten.items c.args.row ≡ false = subst (λ v. is_unwritten v.unwritten c.args.row ≡ false) (sym c.self.view_is) c.requires.written in
    let some : dense_entry self.columns self.entries.list c.args.row c.args.place ≢ int (pos 0) = subst (λ v. dense_entry v.columns v.entries.list c.args.row c.args.place ≢ int (pos 0)) (sym c.self.view_is) c.requires.some in
    subst (λ w. IsExchangedList w.columns c.args.row c.args.place (filled w slots) (filled (record v { entries = c.exchange_part.new.self }) (swapped slots c.args.row (w.rows + c.args.place) entering leaving))) c.self.view_is
    (exchanged_filled v c.exchange_part.new.self c.args.row c.args.place row_within place_within c.self.invariant (c.self.invariant.partial c.if-not-self.false) written
    (subst (λ X. X) (λ z. ArePartsExchanged self.rows self.columns c.args.row c.args.place (c.deref.ensures.value z) (limit_read v (c.self.invariant.partial c.if-not-self.false) z) self.entries c.exchange_part.new.self) (c.exchange_part.ensures.done t)) some slots entering leaving
    (subst (λ w. AreColumnsWritten w slots) (sym c.self.view_is) columns_written)
    (subst (λ w. IsSwap w.columns slots c.args.row (w.rows + c.args.place) entering leaving) (sym c.self.view_is) swap))

pub returns-clause-kept : goal.returns-clause-kept
returns-clause-kept c = λ e.
    let self = c.self.inside in
    (λ i. record { rows = self.rows; columns = self.columns; entries = c.exchange_part.ensures.kept e i; coefficients = self.coefficients.items; unwritten = self.unwritten.items; is_partial = self.is_partial; limit = self.limit }) ∙ c.self.view_is
