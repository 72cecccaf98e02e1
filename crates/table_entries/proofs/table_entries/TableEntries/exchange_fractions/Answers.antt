use Rattle.std.proofs.Common.{sym, ap, subst, ◌∙◌, arith, ◌≡◌, ◌<◌, ◌+◌, ◌*◌, ℕ, length, get_or, pos, false, Result, Ok, Err}
use Rattle.std.specs.Prelude.{OnOk, IfErr}
use Rattle.std.proofs.lemmas.Bool.{false≢true}
use Rattle.std.proofs.lemmas.List.{with_items_is}
use Rattle.std.proofs.lemmas.Result.{on_err_weaker}
use Rattle.frac128.specs.Rational.{int}
use Rattle.table_entries.specs.FlatSteps.{FlatFits}
use Rattle.table_entries.specs.Listed.{IsExchangedList}
use Rattle.table_entries.proofs.ListedLemmas.{viewed, listed_fractions, fractions_exchanged}
use Rattle.table_entries.proofs.table_entries.TableEntries.exchange_fractions.Goals as goal

both : {T E P Q R : Type 0} (r : Result T E) → (P → Q → R) → OnOk r P → OnOk r Q → OnOk r R
both (Ok x) f p q = f p q
both (Err e) f p q = tt

pub fill-requires-clause-within : goal.fill-requires-clause-within
fill-requires-clause-within c =
    let self = c.self.inside in
    let count = c.len-count.ensures in
    let all = self.fractions.ok.0 in
    let within = c.self.invariant.spare_length in
    omega (arith, count, all, within)

pub fill-requires-clause-room : goal.fill-requires-clause-room
fill-requires-clause-room c =
    let self = c.self.inside in
    let count = c.len-count.ensures in
    let all = self.fractions.ok.0 in
    let room = c.self.invariant.spare_room in
    omega (arith, count, all, room)

pub exchange_entries-requires-clause-size : goal.exchange_entries-requires-clause-size
exchange_entries-requires-clause-size c =
    let self = c.self.inside in
    let v = c.args.self.now in
    let form : self.is_whole ≡ false = ap (λ w. w.is_whole) c.self.view_is ∙ c.requires.form in
    let list_is : v.list ≡ self.fractions.items = sym (ap (λ w. w.list) c.self.view_is) ∙ listed_fractions self.is_whole self.denominator self.numbers.items self.fractions.items form in
    ap length c.deref_mut.ensures.value ∙ ap length (sym list_is) ∙ c.requires.size

pub exchange_entries-requires-clause-room : goal.exchange_entries-requires-clause-room
exchange_entries-requires-clause-room c =
    let self = c.self.inside in
    let v = c.args.self.now in
    let form : self.is_whole ≡ false = ap (λ w. w.is_whole) c.self.view_is ∙ c.requires.form in
    let list_is : v.list ≡ self.fractions.items = sym (ap (λ w. w.list) c.self.view_is) ∙ listed_fractions self.is_whole self.denominator self.numbers.items self.fractions.items form in
    let size : length self.fractions.items ≡ c.args.rows * c.args.columns = ap length (sym list_is) ∙ c.requires.size in
    let spare = ap length c.deref_mut-2.ensures.value in
    let filled = c.fill.ensures.length in
    let count = c.len-count.ensures in
    let all = self.fractions.ok.0 in
    omega (arith, size, spare, filled, count, all)

pub exchange_entries-requires-clause-some : goal.exchange_entries-requires-clause-some
exchange_entries-requires-clause-some c =
    let self = c.self.inside in
    let v = c.args.self.now in
    let form : self.is_whole ≡ false = ap (λ w. w.is_whole) c.self.view_is ∙ c.requires.form in
    let list_is : v.list ≡ self.fractions.items = sym (ap (λ w. w.list) c.self.view_is) ∙ listed_fractions self.is_whole self.denominator self.numbers.items self.fractions.items form in
    let at = c.args.row * c.args.columns + c.args.place in
    λ nothing. c.requires.some (ap (λ xs. get_or xs at (int (pos 0))) (list_is ∙ sym c.deref_mut.ensures.value) ∙ nothing)

pub invariant_of-self : goal.invariant_of-self
invariant_of-self c =
    let self = c.self.inside in
    let shape = c.self.invariant in
    let form : self.is_whole ≡ false = ap (λ w. w.is_whole) c.self.view_is ∙ c.requires.form in
    let new_is = with_items_is self.fractions c.exchange_entries.new.entries (c.exchange_entries.auto.entries ∙ c.deref_mut.ensures.len) in
    let spare_is = with_items_is c.fill.new.fractions c.exchange_entries.new.next (c.exchange_entries.auto.next ∙ c.deref_mut-2.ensures.len) in
    let size = ap length new_is ∙ c.exchange_entries.auto.entries ∙ ap length c.deref_mut.ensures.value in
    let spare_size = ap length spare_is ∙ c.exchange_entries.auto.next ∙ ap length c.deref_mut-2.ensures.value ∙ c.fill.ensures.length in
    let count = c.len-count.ensures in
    let room = c.fill.ensures.room in
    let all = self.fractions.ok.0 in
    record {
      spare_length = omega (arith, size, spare_size, count, all);
      spare_room = omega (arith, size, room, count, all);
      fractions_length = λ e. absurd (false≢true (sym form ∙ e));
      fractions_room = λ e. absurd (false≢true (sym form ∙ e));
      numbers_room = λ e. absurd (false≢true (sym form ∙ e));
      spare_numbers_length = shape.spare_numbers_length;
      over_one = shape.over_one;
      spare_short = shape.spare_short;
    }

pub returns-clause-done : goal.returns-clause-done
returns-clause-done c =
    let self = c.self.inside in
    let v = c.args.self.now in
    let form : self.is_whole ≡ false = ap (λ w. w.is_whole) c.self.view_is ∙ c.requires.form in
    let list_is : v.list ≡ self.fractions.items = sym (ap (λ w. w.list) c.self.view_is) ∙ listed_fractions self.is_whole self.denominator self.numbers.items self.fractions.items form in
    let new_is = with_items_is self.fractions c.exchange_entries.new.entries (c.exchange_entries.auto.entries ∙ c.deref_mut.ensures.len) in
    let a = c.args in
    let source = c.deref_mut.ensures.value ∙ sym list_is in
    let new_list = listed_fractions self.is_whole self.denominator self.numbers.items _ form ∙ new_is in
    both c.exchange_entries.result
    (λ written fits. subst (IsExchangedList a.columns a.row a.place v.list) (sym new_list)
    (fractions_exchanged a.rows a.columns a.row a.place c.deref_mut.result.now c.exchange_entries.new.entries v.list source c.requires.size (c.exchange_entries.auto.entries ∙ ap length source) written fits))
    c.exchange_entries.ensures.written c.exchange_entries.ensures.fits

pub returns-clause-kept : goal.returns-clause-kept
returns-clause-kept c =
    let self = c.self.inside in
    let new_is = with_items_is self.fractions c.exchange_entries.new.entries (c.exchange_entries.auto.entries ∙ c.deref_mut.ensures.len) in
    on_err_weaker c.exchange_entries.result (λ kept. ap (viewed self.is_whole self.denominator self.numbers.items) (new_is ∙ kept ∙ c.deref_mut.ensures.value) ∙ c.self.view_is) c.exchange_entries.ensures.kept

pub returns-clause-within : goal.returns-clause-within
returns-clause-within c = c.exchange_entries.ensures.within

pub returns-clause-earlier : goal.returns-clause-earlier
returns-clause-earlier c =
    let self = c.self.inside in
    let v = c.args.self.now in
    let form : self.is_whole ≡ false = ap (λ w. w.is_whole) c.self.view_is ∙ c.requires.form in
    let list_is : v.list ≡ self.fractions.items = sym (ap (λ w. w.list) c.self.view_is) ∙ listed_fractions self.is_whole self.denominator self.numbers.items self.fractions.items form in
    let a = c.args in
    subst (λ xs. IfErr c.exchange_entries.result (λ e. (at : ℕ) → at < e → FlatFits a.columns a.row a.place xs at)) (c.deref_mut.ensures.value ∙ sym list_is) c.exchange_entries.ensures.earlier

pub returns-clause-wide : goal.returns-clause-wide
returns-clause-wide c =
    let self = c.self.inside in
    let v = c.args.self.now in
    let form : self.is_whole ≡ false = ap (λ w. w.is_whole) c.self.view_is ∙ c.requires.form in
    let list_is : v.list ≡ self.fractions.items = sym (ap (λ w. w.list) c.self.view_is) ∙ listed_fractions self.is_whole self.denominator self.numbers.items self.fractions.items form in
    let a = c.args in
    subst (λ xs. IfErr c.exchange_entries.result (λ e. ¬ (FlatFits a.columns a.row a.place xs e))) (c.deref_mut.ensures.value ∙ sym list_is) c.exchange_entries.ensures.wide
