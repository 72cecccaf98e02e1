use Rattle.std.proofs.Common.{ℕ, ◌≡◌, ◌<◌, ◌≤◌, ◌+◌, ◌*◌, ◌∙◌, sym, ap, subst, get_or, length, Result, Ok, Err, OnOk, OnErr}
use Rattle.table_entries.specs.FlatSteps.{dense_entry, FlatFits}
use Rattle.table_entries.specs.WholeSteps.{is_unwritten}
use Rattle.table_entries.specs.Listed.{IsExchangedList}
use Rattle.table_entries.specs.Parts.{AreColumnsWritten, IsSwap, filled, swapped}
use Rattle.std.proofs.lemmas.Result.{on_ok_weaker, on_err_weaker, IfErr-weaker}
use Rattle.table_entries.proofs.FilledLemmas.{written_at, swapped_written}
use Rattle.table_entries.proofs.parts.PartEntries.exchange.Goals as goal

on_ok : {T E P : Type 0} (r : Result T E) → P → OnOk r P
on_ok (Ok x) p = p
on_ok (Err e) p = tt

on_err : {T E P : Type 0} (r : Result T E) → P → OnErr r P
on_err (Ok x) p = tt
on_err (Err e) p = p

pub exchange_part-requires-clause-row : goal.exchange_part-requires-clause-row
exchange_part-requires-clause-row c = subst (λ n. c.args.row < n) (sym c.write_row.ensures.rows) c.requires.row

pub exchange_part-requires-clause-place : goal.exchange_part-requires-clause-place
exchange_part-requires-clause-place c = subst (λ n. c.args.place < n) (sym c.write_row.ensures.columns) c.requires.place

pub exchange_part-requires-clause-some : goal.exchange_part-requires-clause-some
exchange_part-requires-clause-some c = λ none.
    let row = c.args.row in
    let place = c.args.place in
    let slots = λ (j : ℕ). get_or c.args.slots.now j 0 in
    let first = c.args.self.now in
    let one = c.write_row.new.self in
    let w = c.write_row.ensures in
    c.requires.some ((λ z. dense_entry (sym w.columns z) (sym w.filled z) row place)
    ∙ written_at one slots row place (subst (λ n. row < n) (sym w.rows) c.requires.row) (subst (λ n. place < n) (sym w.columns) c.requires.place) w.written ∙ none)

pub returns-then-exchange_part-clause-rows : goal.returns-then-exchange_part-clause-rows
returns-then-exchange_part-clause-rows c = c.exchange_part.ensures.rows ∙ c.write_row.ensures.rows

pub returns-then-exchange_part-clause-columns : goal.returns-then-exchange_part-clause-columns
returns-then-exchange_part-clause-columns c = c.exchange_part.ensures.columns ∙ c.write_row.ensures.columns

pub returns-then-exchange_part-clause-done : goal.returns-then-exchange_part-clause-done
returns-then-exchange_part-clause-done c = λ entering leaving swap.
    let row = c.args.row in
    let place = c.args.place in
    let slots = λ (j : ℕ). get_or c.args.slots.now j 0 in
    let first = c.args.self.now in
    let one = c.write_row.new.self in
    let w = c.write_row.ensures in
    let two = c.exchange_part.new.self in
    let made : IsExchangedList one.columns row place (filled one slots) (filled two (swapped slots row (one.rows + place) entering leaving)) =
    c.exchange_part.ensures.done c.if-exchange_part.true slots entering leaving w.columns_written (subst (λ X. X) (λ z. IsSwap (sym w.columns z) slots row (sym w.rows z + place) entering leaving) swap) in
    subst (λ X. X) (λ z. IsExchangedList (w.columns z) row place (w.filled z) (filled two (swapped slots row (w.rows z + place) entering leaving))) made

pub returns-then-exchange_part-clause-columns_written : goal.returns-then-exchange_part-clause-columns_written
returns-then-exchange_part-clause-columns_written c = λ entering leaving swap j within in_row.
    let row = c.args.row in
    let place = c.args.place in
    let slots = λ (j : ℕ). get_or c.args.slots.now j 0 in
    let first = c.args.self.now in
    let one = c.write_row.new.self in
    let w = c.write_row.ensures in
    let two = c.exchange_part.new.self in
    let e = c.exchange_part.ensures in
    ap (λ fs. is_unwritten fs (swapped slots row (first.rows + place) entering leaving j)) e.unwritten
    ∙ swapped_written first.rows first.columns row place entering leaving one.unwritten slots w.written
    (λ j q h. w.columns_written j (subst (λ n. j < n) (sym w.columns) q) (subst (λ n. slots j < n) (sym w.rows) h))
    j (subst (λ n. j < n) (e.columns ∙ w.columns) within) (subst (λ n. swapped slots row (first.rows + place) entering leaving j < n) (e.rows ∙ w.rows) in_row)

pub write_all-requires-clause-slots : goal.write_all-requires-clause-slots
write_all-requires-clause-slots c = subst (λ v. AreColumnsWritten v (λ j. get_or c.args.slots.now j 0)) (sym (c.exchange_part.ensures.kept c.if-exchange_part.false)) c.write_row.ensures.columns_written

pub write_all-requires-clause-length : goal.write_all-requires-clause-length
write_all-requires-clause-length c = subst (λ n. n ≤ length c.args.slots.now) (sym (c.exchange_part.ensures.columns ∙ c.write_row.ensures.columns)) c.requires.length

pub exchange_all-requires-clause-row : goal.exchange_all-requires-clause-row
exchange_all-requires-clause-row c =
    let row = c.args.row in
    let place = c.args.place in
    let slots = λ (j : ℕ). get_or c.args.slots.now j 0 in
    let first = c.args.self.now in
    let one = c.write_row.new.self in
    let w = c.write_row.ensures in
    let three = c.write_all.new.self in
    let back = c.exchange_part.ensures.kept c.if-exchange_part.false in
    let rows : three.rows ≡ first.rows = c.write_all.ensures.rows ∙ c.exchange_part.ensures.rows ∙ w.rows in
    let columns : three.columns ≡ first.columns = c.write_all.ensures.columns ∙ c.exchange_part.ensures.columns ∙ w.columns in
    let same : filled three slots ≡ filled first slots = c.write_all.ensures.filled ∙ ap (λ v. filled v slots) back ∙ w.filled in
    subst (λ n. row < n) (sym rows) c.requires.row

pub exchange_all-requires-clause-place : goal.exchange_all-requires-clause-place
exchange_all-requires-clause-place c =
    let row = c.args.row in
    let place = c.args.place in
    let slots = λ (j : ℕ). get_or c.args.slots.now j 0 in
    let first = c.args.self.now in
    let one = c.write_row.new.self in
    let w = c.write_row.ensures in
    let three = c.write_all.new.self in
    let back = c.exchange_part.ensures.kept c.if-exchange_part.false in
    let rows : three.rows ≡ first.rows = c.write_all.ensures.rows ∙ c.exchange_part.ensures.rows ∙ w.rows in
    let columns : three.columns ≡ first.columns = c.write_all.ensures.columns ∙ c.exchange_part.ensures.columns ∙ w.columns in
    let same : filled three slots ≡ filled first slots = c.write_all.ensures.filled ∙ ap (λ v. filled v slots) back ∙ w.filled in
    subst (λ n. place < n) (sym columns) c.requires.place

pub exchange_all-requires-clause-some : goal.exchange_all-requires-clause-some
exchange_all-requires-clause-some c = λ none.
    let row = c.args.row in
    let place = c.args.place in
    let slots = λ (j : ℕ). get_or c.args.slots.now j 0 in
    let first = c.args.self.now in
    let one = c.write_row.new.self in
    let w = c.write_row.ensures in
    let three = c.write_all.new.self in
    let back = c.exchange_part.ensures.kept c.if-exchange_part.false in
    let rows : three.rows ≡ first.rows = c.write_all.ensures.rows ∙ c.exchange_part.ensures.rows ∙ w.rows in
    let columns : three.columns ≡ first.columns = c.write_all.ensures.columns ∙ c.exchange_part.ensures.columns ∙ w.columns in
    let same : filled three slots ≡ filled first slots = c.write_all.ensures.filled ∙ ap (λ v. filled v slots) back ∙ w.filled in
    c.requires.some ((λ z. dense_entry (sym columns z) (sym same z) row place)
    ∙ written_at three slots row place (subst (λ n. row < n) (sym rows) c.requires.row) (subst (λ n. place < n) (sym columns) c.requires.place) (c.write_all.ensures.written row) ∙ none)

pub returns-clause-rows : goal.returns-clause-rows
returns-clause-rows c =
    let row = c.args.row in
    let place = c.args.place in
    let slots = λ (j : ℕ). get_or c.args.slots.now j 0 in
    let first = c.args.self.now in
    let one = c.write_row.new.self in
    let w = c.write_row.ensures in
    let three = c.write_all.new.self in
    let back = c.exchange_part.ensures.kept c.if-exchange_part.false in
    let rows : three.rows ≡ first.rows = c.write_all.ensures.rows ∙ c.exchange_part.ensures.rows ∙ w.rows in
    let columns : three.columns ≡ first.columns = c.write_all.ensures.columns ∙ c.exchange_part.ensures.columns ∙ w.columns in
    let same : filled three slots ≡ filled first slots = c.write_all.ensures.filled ∙ ap (λ v. filled v slots) back ∙ w.filled in
    c.exchange_all.ensures.rows ∙ rows

pub returns-clause-columns : goal.returns-clause-columns
returns-clause-columns c =
    let row = c.args.row in
    let place = c.args.place in
    let slots = λ (j : ℕ). get_or c.args.slots.now j 0 in
    let first = c.args.self.now in
    let one = c.write_row.new.self in
    let w = c.write_row.ensures in
    let three = c.write_all.new.self in
    let back = c.exchange_part.ensures.kept c.if-exchange_part.false in
    let rows : three.rows ≡ first.rows = c.write_all.ensures.rows ∙ c.exchange_part.ensures.rows ∙ w.rows in
    let columns : three.columns ≡ first.columns = c.write_all.ensures.columns ∙ c.exchange_part.ensures.columns ∙ w.columns in
    let same : filled three slots ≡ filled first slots = c.write_all.ensures.filled ∙ ap (λ v. filled v slots) back ∙ w.filled in
    c.exchange_all.ensures.columns ∙ columns

pub returns-clause-done : goal.returns-clause-done
returns-clause-done c =
    let row = c.args.row in
    let place = c.args.place in
    let slots = λ (j : ℕ). get_or c.args.slots.now j 0 in
    let first = c.args.self.now in
    let one = c.write_row.new.self in
    let w = c.write_row.ensures in
    let three = c.write_all.new.self in
    let back = c.exchange_part.ensures.kept c.if-exchange_part.false in
    let rows : three.rows ≡ first.rows = c.write_all.ensures.rows ∙ c.exchange_part.ensures.rows ∙ w.rows in
    let columns : three.columns ≡ first.columns = c.write_all.ensures.columns ∙ c.exchange_part.ensures.columns ∙ w.columns in
    let same : filled three slots ≡ filled first slots = c.write_all.ensures.filled ∙ ap (λ v. filled v slots) back ∙ w.filled in
    let four = c.exchange_all.new.self in
    let all = c.exchange_all.ensures in
    let is : three.entries.list ≡ filled first slots = sym (all.before slots) ∙ same in
    on_ok_weaker c.exchange_all.result (λ made entering leaving swap.
    subst (λ X. X) (λ z. IsExchangedList (columns z) row place (is z) (sym (all.after (swapped slots row (first.rows + place) entering leaving)) z)) made) all.done

pub returns-clause-columns_written : goal.returns-clause-columns_written
returns-clause-columns_written c =
    let row = c.args.row in
    let place = c.args.place in
    let slots = λ (j : ℕ). get_or c.args.slots.now j 0 in
    let first = c.args.self.now in
    let one = c.write_row.new.self in
    let w = c.write_row.ensures in
    let three = c.write_all.new.self in
    let back = c.exchange_part.ensures.kept c.if-exchange_part.false in
    let rows : three.rows ≡ first.rows = c.write_all.ensures.rows ∙ c.exchange_part.ensures.rows ∙ w.rows in
    let columns : three.columns ≡ first.columns = c.write_all.ensures.columns ∙ c.exchange_part.ensures.columns ∙ w.columns in
    let same : filled three slots ≡ filled first slots = c.write_all.ensures.filled ∙ ap (λ v. filled v slots) back ∙ w.filled in
    let four = c.exchange_all.new.self in
    let all = c.exchange_all.ensures in
    let is : three.entries.list ≡ filled first slots = sym (all.before slots) ∙ same in
    on_ok c.exchange_all.result (λ entering leaving swap j within in_row. all.written (swapped slots row (first.rows + place) entering leaving j))

pub returns-clause-kept : goal.returns-clause-kept
returns-clause-kept c =
    let row = c.args.row in
    let place = c.args.place in
    let slots = λ (j : ℕ). get_or c.args.slots.now j 0 in
    let first = c.args.self.now in
    let one = c.write_row.new.self in
    let w = c.write_row.ensures in
    let three = c.write_all.new.self in
    let back = c.exchange_part.ensures.kept c.if-exchange_part.false in
    let rows : three.rows ≡ first.rows = c.write_all.ensures.rows ∙ c.exchange_part.ensures.rows ∙ w.rows in
    let columns : three.columns ≡ first.columns = c.write_all.ensures.columns ∙ c.exchange_part.ensures.columns ∙ w.columns in
    let same : filled three slots ≡ filled first slots = c.write_all.ensures.filled ∙ ap (λ v. filled v slots) back ∙ w.filled in
    let four = c.exchange_all.new.self in
    let all = c.exchange_all.ensures in
    let is : three.entries.list ≡ filled first slots = sym (all.before slots) ∙ same in
    on_err_weaker c.exchange_all.result (λ e. all.after slots ∙ e ∙ is) all.kept

pub returns-clause-kept_columns : goal.returns-clause-kept_columns
returns-clause-kept_columns c =
    let row = c.args.row in
    let place = c.args.place in
    let slots = λ (j : ℕ). get_or c.args.slots.now j 0 in
    let first = c.args.self.now in
    let one = c.write_row.new.self in
    let w = c.write_row.ensures in
    let three = c.write_all.new.self in
    let back = c.exchange_part.ensures.kept c.if-exchange_part.false in
    let rows : three.rows ≡ first.rows = c.write_all.ensures.rows ∙ c.exchange_part.ensures.rows ∙ w.rows in
    let columns : three.columns ≡ first.columns = c.write_all.ensures.columns ∙ c.exchange_part.ensures.columns ∙ w.columns in
    let same : filled three slots ≡ filled first slots = c.write_all.ensures.filled ∙ ap (λ v. filled v slots) back ∙ w.filled in
    let four = c.exchange_all.new.self in
    let all = c.exchange_all.ensures in
    let is : three.entries.list ≡ filled first slots = sym (all.before slots) ∙ same in
    on_err c.exchange_all.result (λ j within in_row. all.written (slots j))

pub returns-clause-within : goal.returns-clause-within
returns-clause-within c =
    let row = c.args.row in
    let place = c.args.place in
    let slots = λ (j : ℕ). get_or c.args.slots.now j 0 in
    let first = c.args.self.now in
    let one = c.write_row.new.self in
    let w = c.write_row.ensures in
    let three = c.write_all.new.self in
    let back = c.exchange_part.ensures.kept c.if-exchange_part.false in
    let rows : three.rows ≡ first.rows = c.write_all.ensures.rows ∙ c.exchange_part.ensures.rows ∙ w.rows in
    let columns : three.columns ≡ first.columns = c.write_all.ensures.columns ∙ c.exchange_part.ensures.columns ∙ w.columns in
    let same : filled three slots ≡ filled first slots = c.write_all.ensures.filled ∙ ap (λ v. filled v slots) back ∙ w.filled in
    let four = c.exchange_all.new.self in
    let all = c.exchange_all.ensures in
    let is : three.entries.list ≡ filled first slots = sym (all.before slots) ∙ same in
    IfErr-weaker c.exchange_all.result (λ e. e < three.rows * three.columns) (λ e. e < first.rows * first.columns) (λ e h. subst (λ X. X) (λ z. e < rows z * columns z) h) all.within

pub returns-clause-earlier : goal.returns-clause-earlier
returns-clause-earlier c =
    let row = c.args.row in
    let place = c.args.place in
    let slots = λ (j : ℕ). get_or c.args.slots.now j 0 in
    let first = c.args.self.now in
    let one = c.write_row.new.self in
    let w = c.write_row.ensures in
    let three = c.write_all.new.self in
    let back = c.exchange_part.ensures.kept c.if-exchange_part.false in
    let rows : three.rows ≡ first.rows = c.write_all.ensures.rows ∙ c.exchange_part.ensures.rows ∙ w.rows in
    let columns : three.columns ≡ first.columns = c.write_all.ensures.columns ∙ c.exchange_part.ensures.columns ∙ w.columns in
    let same : filled three slots ≡ filled first slots = c.write_all.ensures.filled ∙ ap (λ v. filled v slots) back ∙ w.filled in
    let four = c.exchange_all.new.self in
    let all = c.exchange_all.ensures in
    let is : three.entries.list ≡ filled first slots = sym (all.before slots) ∙ same in
    IfErr-weaker c.exchange_all.result (λ e. (at : ℕ) → at < e → FlatFits three.columns row place three.entries.list at) (λ e. (at : ℕ) → at < e → FlatFits first.columns row place (filled first slots) at)
    (λ e h at less. subst (λ X. X) (λ z. FlatFits (columns z) row place (is z) at) (h at less)) all.earlier

pub returns-clause-wide : goal.returns-clause-wide
returns-clause-wide c =
    let row = c.args.row in
    let place = c.args.place in
    let slots = λ (j : ℕ). get_or c.args.slots.now j 0 in
    let first = c.args.self.now in
    let one = c.write_row.new.self in
    let w = c.write_row.ensures in
    let three = c.write_all.new.self in
    let back = c.exchange_part.ensures.kept c.if-exchange_part.false in
    let rows : three.rows ≡ first.rows = c.write_all.ensures.rows ∙ c.exchange_part.ensures.rows ∙ w.rows in
    let columns : three.columns ≡ first.columns = c.write_all.ensures.columns ∙ c.exchange_part.ensures.columns ∙ w.columns in
    let same : filled three slots ≡ filled first slots = c.write_all.ensures.filled ∙ ap (λ v. filled v slots) back ∙ w.filled in
    let four = c.exchange_all.new.self in
    let all = c.exchange_all.ensures in
    let is : three.entries.list ≡ filled first slots = sym (all.before slots) ∙ same in
    IfErr-weaker c.exchange_all.result (λ e. ¬ (FlatFits three.columns row place three.entries.list e)) (λ e. ¬ (FlatFits first.columns row place (filled first slots) e))
    (λ e h fits. h (subst (λ X. X) (λ z. FlatFits (sym columns z) row place (sym is z) e) fits)) all.wide
