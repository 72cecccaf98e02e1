use Rattle.std.proofs.Common.{ℕ, ◌≡◌, ◌≢◌, ◌<◌, ◌*◌, ◌∙◌, sym, ap, subst, length, false, pos, List, Result, Ok, Err, OnOk, OnErr, IfErr}
use Rattle.std.proofs.lemmas.Bool.{false≢true}
use Rattle.frac128.specs.Rational.{ℚ, int}
use Rattle.table_entries.specs.FlatSteps.{dense_entry, FlatFits}
use Rattle.table_entries.specs.Listed.{IsExchangedList}
use Rattle.table_entries.specs.Parts.{Parts, filled}
use Rattle.table_entries.proofs.FilledLemmas.{filled_full}
use Rattle.table_entries.proofs.parts.PartEntries.exchange_all.Goals as goal

-- the list has as many entries as before
size_kept : {T : Type 0} (columns row place : ℕ) (old new : List ℚ) (r : Result T ℕ) → OnOk r (IsExchangedList columns row place old new) → OnErr r (new ≡ old) → length new ≡ length old
size_kept columns row place old new (Ok x) done kept = done.size
size_kept columns row place old new (Err e) done kept = ap length kept

pub exchange-requires-clause-row : goal.exchange-requires-clause-row
exchange-requires-clause-row c = subst (λ v. c.args.row < v.rows) (sym c.self.view_is) c.requires.row

pub exchange-requires-clause-place : goal.exchange-requires-clause-place
exchange-requires-clause-place c = subst (λ v. c.args.place < v.columns) (sym c.self.view_is) c.requires.place

pub exchange-requires-clause-room : goal.exchange-requires-clause-room
exchange-requires-clause-room c = c.self.invariant.few

pub exchange-requires-clause-size : goal.exchange-requires-clause-size
exchange-requires-clause-size c = c.self.invariant.entries

pub exchange-requires-clause-some : goal.exchange-requires-clause-some
exchange-requires-clause-some c = subst (λ v. dense_entry v.columns v.entries.list c.args.row c.args.place ≢ int (pos 0)) (sym c.self.view_is) c.requires.some

pub invariant_of-self : goal.invariant_of-self
invariant_of-self c =
    let self = c.self.inside in
    let shape = c.self.invariant in
    let v : Parts = record { rows = self.rows; columns = self.columns; entries = self.entries; coefficients = self.coefficients.items; unwritten = self.unwritten.items; is_partial = self.is_partial; limit = self.limit } in
    let full : self.is_partial ≡ false = subst (λ w. w.is_partial ≡ false) (sym c.self.view_is) c.requires.full in
    let size : length c.exchange.new.self.list ≡ length self.entries.list = size_kept self.columns c.args.row c.args.place self.entries.list c.exchange.new.self.list c.exchange.result c.exchange.ensures.done c.exchange.ensures.kept in
    record { few = shape.few; flags = shape.flags; entries = size ∙ shape.entries; full = shape.full; partial = λ some. absurd (false≢true (sym full ∙ some)) }

pub returns-clause-written : goal.returns-clause-written
returns-clause-written c =
    let self = c.self.inside in
    let shape = c.self.invariant in
    let v : Parts = record { rows = self.rows; columns = self.columns; entries = self.entries; coefficients = self.coefficients.items; unwritten = self.unwritten.items; is_partial = self.is_partial; limit = self.limit } in
    let full : self.is_partial ≡ false = subst (λ w. w.is_partial ≡ false) (sym c.self.view_is) c.requires.full in
    shape.full full

pub returns-clause-before : goal.returns-clause-before
returns-clause-before c = λ slots.
    let self = c.self.inside in
    let shape = c.self.invariant in
    let v : Parts = record { rows = self.rows; columns = self.columns; entries = self.entries; coefficients = self.coefficients.items; unwritten = self.unwritten.items; is_partial = self.is_partial; limit = self.limit } in
    let full : self.is_partial ≡ false = subst (λ w. w.is_partial ≡ false) (sym c.self.view_is) c.requires.full in
    subst (λ w. filled w slots ≡ w.entries.list) c.self.view_is (filled_full v slots (shape.full full) shape.entries)

pub returns-clause-after : goal.returns-clause-after
returns-clause-after c = λ slots.
    let self = c.self.inside in
    let shape = c.self.invariant in
    let v : Parts = record { rows = self.rows; columns = self.columns; entries = self.entries; coefficients = self.coefficients.items; unwritten = self.unwritten.items; is_partial = self.is_partial; limit = self.limit } in
    let full : self.is_partial ≡ false = subst (λ w. w.is_partial ≡ false) (sym c.self.view_is) c.requires.full in
    let size : length c.exchange.new.self.list ≡ length self.entries.list = size_kept self.columns c.args.row c.args.place self.entries.list c.exchange.new.self.list c.exchange.result c.exchange.ensures.done c.exchange.ensures.kept in
    filled_full (record v { entries = c.exchange.new.self }) slots (shape.full full) (size ∙ shape.entries)

pub returns-clause-done : goal.returns-clause-done
returns-clause-done c =
    let self = c.self.inside in
    subst (λ w. OnOk c.exchange.result (IsExchangedList w.columns c.args.row c.args.place w.entries.list c.exchange.new.self.list)) c.self.view_is c.exchange.ensures.done

pub returns-clause-kept : goal.returns-clause-kept
returns-clause-kept c = subst (λ w. OnErr c.exchange.result (c.exchange.new.self.list ≡ w.entries.list)) c.self.view_is c.exchange.ensures.kept

pub returns-clause-within : goal.returns-clause-within
returns-clause-within c = subst (λ w. IfErr c.exchange.result (λ e. e < w.rows * w.columns)) c.self.view_is c.exchange.ensures.within

pub returns-clause-earlier : goal.returns-clause-earlier
returns-clause-earlier c = subst (λ w. IfErr c.exchange.result (λ e. (at : ℕ) → at < e → FlatFits w.columns c.args.row c.args.place w.entries.list at)) c.self.view_is c.exchange.ensures.earlier

pub returns-clause-wide : goal.returns-clause-wide
returns-clause-wide c = subst (λ w. IfErr c.exchange.result (λ e. ¬ (FlatFits w.columns c.args.row c.args.place w.entries.list e))) c.self.view_is c.exchange.ensures.wide
