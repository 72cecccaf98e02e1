use Rattle.std.proofs.Common.{◌≤◌, vec_capacity, refl, sym, ap, subst, subst₂, ◌∙◌, arith, ◌≡◌, ◌≢◌, ◌<◌, ◌<ℤ◌, ◌+◌, ◌*◌, length, get_or, pos, to_z, of_z, w64, ℕ, true, false}
use Rattle.std.proofs.lemmas.Bool.{false≢true}
use Rattle.std.proofs.lemmas.Int.{ints}
use Rattle.std.proofs.lemmas.List.{with_items_is}
use Rattle.frac128.specs.Rational.{int}
use Rattle.table_entries.specs.WholeSteps.{AreShort, AreWithin, is_unwritten, magnitude, whole_number_at, AreWritten}
use Rattle.table_entries.specs.Listed.{over, AreOver}
use Rattle.table_entries.specs.private.LeftRows.{AreLeft}
use Rattle.table_entries.proofs.ReadLemmas.{short_read, short_again, positive_again}
use Rattle.table_entries.proofs.ListedLemmas.{listed_numbers, whole_form, whole_list, whole_numbers, whole_size, not_zero_number, parts_exchanged}
use Rattle.table_entries.proofs.LeftLemmas.{left_written, left_within}
use Rattle.table_entries.proofs.table_entries.TableEntries.exchange_some.Goals as goal

pub mark_left-requires-clause-size : goal.mark_left-requires-clause-size
mark_left-requires-clause-size c =
    let self = c.self.inside in
    let numbers = self.numbers.items in
    let v = c.args.self.now in
    let size : length numbers ≡ c.args.rows * c.args.columns = whole_size self.is_whole self.denominator numbers self.fractions.items v c.self.view_is c.requires.whole ∙ c.requires.size in
    ap length c.deref.ensures.value ∙ size

pub write_over_same-requires-clause-size : goal.write_over_same-requires-clause-size
write_over_same-requires-clause-size c =
    let self = c.self.inside in
    let numbers = self.numbers.items in
    let v = c.args.self.now in
    let size : length numbers ≡ c.args.rows * c.args.columns = whole_size self.is_whole self.denominator numbers self.fractions.items v c.self.view_is c.requires.whole ∙ c.requires.size in
    ap length c.deref-2.ensures.value ∙ size

pub write_over_same-requires-clause-room : goal.write_over_same-requires-clause-room
write_over_same-requires-clause-room c =
    let self = c.self.inside in
    let numbers = self.numbers.items in
    let v = c.args.self.now in
    let form = whole_form self.is_whole self.denominator numbers self.fractions.items v c.self.view_is c.requires.whole in
    let size : length numbers ≡ c.args.rows * c.args.columns = whole_size self.is_whole self.denominator numbers self.fractions.items v c.self.view_is c.requires.whole ∙ c.requires.size in
    ap length c.deref_mut.ensures.value ∙ c.self.invariant.spare_numbers_length form ∙ size

pub write_over_same-requires-clause-positive : goal.write_over_same-requires-clause-positive
write_over_same-requires-clause-positive c =
    let self = c.self.inside in
    let numbers = self.numbers.items in
    let v = c.args.self.now in
    let form = whole_form self.is_whole self.denominator numbers self.fractions.items v c.self.view_is c.requires.whole in
    let are = c.self.invariant.over_one form in
    positive_again self.denominator are.denominator_short are.positive

pub write_over_same-requires-clause-denominator : goal.write_over_same-requires-clause-denominator
write_over_same-requires-clause-denominator c =
    let self = c.self.inside in
    let numbers = self.numbers.items in
    let v = c.args.self.now in
    let form = whole_form self.is_whole self.denominator numbers self.fractions.items v c.self.view_is c.requires.whole in
    short_again self.denominator (c.self.invariant.over_one form).denominator_short

pub write_over_same-requires-clause-short : goal.write_over_same-requires-clause-short
write_over_same-requires-clause-short c =
    let self = c.self.inside in
    let numbers = self.numbers.items in
    let v = c.args.self.now in
    let form = whole_form self.is_whole self.denominator numbers self.fractions.items v c.self.view_is c.requires.whole in
    subst AreShort (sym c.deref-2.ensures.value) (c.self.invariant.over_one form).short

pub write_over_same-requires-clause-next : goal.write_over_same-requires-clause-next
write_over_same-requires-clause-next c =
    let self = c.self.inside in
    let numbers = self.numbers.items in
    let v = c.args.self.now in
    let form = whole_form self.is_whole self.denominator numbers self.fractions.items v c.self.view_is c.requires.whole in
    subst AreShort (sym c.deref_mut.ensures.value) (c.self.invariant.spare_short form)

pub write_over_same-requires-clause-some : goal.write_over_same-requires-clause-some
write_over_same-requires-clause-some c = λ e.
    let self = c.self.inside in
    let numbers = self.numbers.items in
    let v = c.args.self.now in
    let form = whole_form self.is_whole self.denominator numbers self.fractions.items v c.self.view_is c.requires.whole in
    let are = c.self.invariant.over_one form in
    let list_is = whole_list self.is_whole self.denominator numbers self.fractions.items v c.self.view_is c.requires.whole in
    let at = c.args.row * c.args.columns + c.args.place in
    not_zero_number self.denominator numbers are.positive at (subst (λ xs. get_or xs at (int (pos 0)) ≢ int (pos 0)) list_is c.requires.some) (ap (λ xs. whole_number_at xs at) (sym c.deref-2.ensures.value) ∙ e)

pub are_within-requires-clause-size : goal.are_within-requires-clause-size
are_within-requires-clause-size c =
    let self = c.self.inside in
    let numbers = self.numbers.items in
    let v = c.args.self.now in
    let form = whole_form self.is_whole self.denominator numbers self.fractions.items v c.self.view_is c.requires.whole in
    let size : length numbers ≡ c.args.rows * c.args.columns = whole_size self.is_whole self.denominator numbers self.fractions.items v c.self.view_is c.requires.whole ∙ c.requires.size in
    let next_is = with_items_is self.spare_numbers c.write_over_same.new.next (c.write_over_same.auto.next ∙ c.deref_mut.ensures.len) in
    ap length (c.deref-3.ensures.value ∙ next_is)
    ∙ c.write_over_same.auto.next ∙ ap length c.deref_mut.ensures.value ∙ c.self.invariant.spare_numbers_length form ∙ size

pub are_within-requires-clause-short : goal.are_within-requires-clause-short
are_within-requires-clause-short c =
    let self = c.self.inside in
    let next_is = with_items_is self.spare_numbers c.write_over_same.new.next (c.write_over_same.auto.next ∙ c.deref_mut.ensures.len) in
    subst AreShort (sym (c.deref-3.ensures.value ∙ next_is)) c.write_over_same.ensures.short

pub take_rows-requires-clause-size : goal.take_rows-requires-clause-size
take_rows-requires-clause-size c =
    let self = c.self.inside in
    let numbers = self.numbers.items in
    let v = c.args.self.now in
    let size : length numbers ≡ c.args.rows * c.args.columns = whole_size self.is_whole self.denominator numbers self.fractions.items v c.self.view_is c.requires.whole ∙ c.requires.size in
    ap length c.deref_mut-2.ensures.value ∙ size

pub take_rows-requires-clause-next : goal.take_rows-requires-clause-next
take_rows-requires-clause-next c =
    let self = c.self.inside in
    let numbers = self.numbers.items in
    let v = c.args.self.now in
    let form = whole_form self.is_whole self.denominator numbers self.fractions.items v c.self.view_is c.requires.whole in
    let size : length numbers ≡ c.args.rows * c.args.columns = whole_size self.is_whole self.denominator numbers self.fractions.items v c.self.view_is c.requires.whole ∙ c.requires.size in
    let next_is = with_items_is self.spare_numbers c.write_over_same.new.next (c.write_over_same.auto.next ∙ c.deref_mut.ensures.len) in
    ap length (c.deref-4.ensures.value ∙ next_is)
    ∙ c.write_over_same.auto.next ∙ ap length c.deref_mut.ensures.value ∙ c.self.invariant.spare_numbers_length form ∙ size

pub take_rows-requires-clause-next_short : goal.take_rows-requires-clause-next_short
take_rows-requires-clause-next_short c =
    let self = c.self.inside in
    let next_is = with_items_is self.spare_numbers c.write_over_same.new.next (c.write_over_same.auto.next ∙ c.deref_mut.ensures.len) in
    subst AreShort (sym (c.deref-4.ensures.value ∙ next_is)) c.write_over_same.ensures.short

pub take_rows-requires-clause-short : goal.take_rows-requires-clause-short
take_rows-requires-clause-short c =
    let self = c.self.inside in
    let numbers = self.numbers.items in
    let v = c.args.self.now in
    let form = whole_form self.is_whole self.denominator numbers self.fractions.items v c.self.view_is c.requires.whole in
    subst AreShort (sym c.deref_mut-2.ensures.value) (c.self.invariant.over_one form).short

pub invariant_of-self : goal.invariant_of-self
invariant_of-self c =
    let self = c.self.inside in
    let shape = c.self.invariant in
    let next = c.write_over_same.new.next in
    let next_is = with_items_is self.spare_numbers next (c.write_over_same.auto.next ∙ c.deref_mut.ensures.len) in
    record {
      spare_length = shape.spare_length;
      spare_room = shape.spare_room;
      fractions_length = shape.fractions_length;
      fractions_room = shape.fractions_room;
      numbers_room = shape.numbers_room;
      spare_numbers_length = λ e. ap length next_is ∙ c.write_over_same.auto.next ∙ ap length c.deref_mut.ensures.value ∙ shape.spare_numbers_length e;
      over_one = shape.over_one;
      spare_short = λ e. subst AreShort (sym next_is) c.write_over_same.ensures.short;
    }

pub invariant_of-self-then-not-are_within : goal.invariant_of-self-then-not-are_within
invariant_of-self-then-not-are_within c =
    let self = c.self.inside in
    let shape = c.self.invariant in
    let next = c.write_over_same.new.next in
    let next_is = with_items_is self.spare_numbers next (c.write_over_same.auto.next ∙ c.deref_mut.ensures.len) in
    record {
      spare_length = shape.spare_length;
      spare_room = shape.spare_room;
      fractions_length = shape.fractions_length;
      fractions_room = shape.fractions_room;
      numbers_room = shape.numbers_room;
      spare_numbers_length = λ e. ap length next_is ∙ c.write_over_same.auto.next ∙ ap length c.deref_mut.ensures.value ∙ shape.spare_numbers_length e;
      over_one = shape.over_one;
      spare_short = λ e. subst AreShort (sym next_is) c.write_over_same.ensures.short;
    }

pub invariant_of-self-2 : goal.invariant_of-self-2
invariant_of-self-2 c =
    let self = c.self.inside in
    let shape = c.self.invariant in
    let next = c.write_over_same.new.next in
    let new = c.take_rows.new.numbers in
    let next_is = with_items_is self.spare_numbers next (c.write_over_same.auto.next ∙ c.deref_mut.ensures.len) in
    let new_is = with_items_is self.numbers new (c.take_rows.auto.numbers ∙ c.deref_mut-2.ensures.len) in
    let size = ap length new_is ∙ c.take_rows.auto.numbers ∙ ap length c.deref_mut-2.ensures.value in
    record {
      spare_length = shape.spare_length;
      spare_room = shape.spare_room;
      fractions_length = λ e. subst (λ n. length self.fractions.items ≤ n) (sym size) (shape.fractions_length e);
      fractions_room = λ e. subst (λ n. n ≤ vec_capacity self.fractions) (sym size) (shape.fractions_room e);
      numbers_room = λ e. subst (λ n. n ≤ vec_capacity self.spare) (sym size) (shape.numbers_room e);
      spare_numbers_length = λ e. ap length next_is ∙ c.write_over_same.auto.next ∙ ap length c.deref_mut.ensures.value ∙ shape.spare_numbers_length e ∙ sym size;
      over_one = λ e. record { positive = (shape.over_one e).positive; denominator_short = (shape.over_one e).denominator_short; short = subst AreShort (sym new_is) c.take_rows.ensures.short };
      spare_short = λ e. subst AreShort (sym next_is) c.write_over_same.ensures.short;
    }

pub returns-clause-done : goal.returns-clause-done
returns-clause-done c = λ t.
    let self = c.self.inside in
    let a = c.args in
    let numbers = self.numbers.items in
    let v = a.self.now in
    let view_is = c.self.view_is in
    let form = whole_form self.is_whole self.denominator numbers self.fractions.items v view_is c.requires.whole in
    let are : AreOver self.denominator numbers = c.self.invariant.over_one form in
    let size : length numbers ≡ a.rows * a.columns = whole_size self.is_whole self.denominator numbers self.fractions.items v view_is c.requires.whole ∙ c.requires.size in
    let at = a.row * a.columns + a.place in
    let d_is = short_read self.denominator are.denominator_short in
    let list_is = whole_list self.is_whole self.denominator numbers self.fractions.items v view_is c.requires.whole in
    let numbers_are = whole_numbers self.is_whole self.denominator numbers self.fractions.items v view_is c.requires.whole in
    let some : whole_number_at numbers at ≢ pos 0 = not_zero_number self.denominator numbers are.positive at (subst (λ xs. get_or xs at (int (pos 0)) ≢ int (pos 0)) list_is c.requires.some) in
    let marks = c.mark_left.new.left in
    let next = c.write_over_same.new.next in
    let new = c.take_rows.new.numbers in
    let next_is = with_items_is self.spare_numbers next (c.write_over_same.auto.next ∙ c.deref_mut.ensures.len) in
    let new_is = with_items_is self.numbers new (c.take_rows.auto.numbers ∙ c.deref_mut-2.ensures.len) in
    let new_size : length new ≡ a.rows * a.columns = c.take_rows.auto.numbers ∙ ap length c.deref_mut-2.ensures.value ∙ size in
    let left : AreLeft a.rows a.columns a.row a.place numbers a.unwritten.now marks = subst (λ xs. AreLeft a.rows a.columns a.row a.place xs a.unwritten.now marks) c.deref.ensures.value c.mark_left.ensures in
    let written : AreWritten a.columns a.row a.place self.denominator self.denominator numbers marks next (a.rows * a.columns) =
    subst₂ (λ d xs. AreWritten a.columns a.row a.place d d xs marks next (a.rows * a.columns)) d_is c.deref-2.ensures.value (c.write_over_same.ensures.written c.if-not-write_over_same.false) in
    let taken : (i k : ℕ) → i < a.rows → k < a.columns → is_unwritten marks i ≡ false → whole_number_at new (i * a.columns + k) ≡ whole_number_at next (i * a.columns + k) =
    (λ i k p q e. c.take_rows.ensures.taken i k p q e ∙ ap (λ xs. whole_number_at xs (i * a.columns + k)) (c.deref-4.ensures.value ∙ next_is)) in
    let kept : (i k : ℕ) → i < a.rows → k < a.columns → is_unwritten marks i ≡ true → whole_number_at new (i * a.columns + k) ≡ whole_number_at numbers (i * a.columns + k) =
    (λ i k p q e. c.take_rows.ensures.left i k p q e ∙ ap (λ xs. whole_number_at xs (i * a.columns + k)) c.deref_mut-2.ensures.value) in
    let limit_is : to_z w64 (of_z w64 a.limit) ≡ a.limit = let range = c.ranges.limit in omega (arith, ints, range) in
    let after : AreWithin a.rows a.columns marks a.limit next =
    subst₂ (AreWithin a.rows a.columns marks) limit_is (c.deref-3.ensures.value ∙ next_is) (c.are_within.ensures c.if-not-are_within.false) in
    let before : AreWithin a.rows a.columns a.unwritten.now a.limit numbers = subst (AreWithin a.rows a.columns a.unwritten.now a.limit) numbers_are c.requires.within in
    let slim : magnitude self.denominator <ℤ a.limit = subst₂ (λ x l. magnitude x <ℤ l) d_is limit_is (c.is_below.ensures c.if-not-is_below.false) in
    parts_exchanged a.rows a.columns a.row a.place c.requires.row c.requires.place self.denominator self.denominator numbers a.unwritten.now new are size new_size are.positive are.denominator_short c.take_rows.ensures.short
    (left_written a.rows a.columns a.row a.place self.denominator numbers a.unwritten.now marks next new c.requires.row c.requires.place size are.short are.positive are.denominator_short some left written taken kept)
    a.limit v _ list_is numbers_are form
    (listed_numbers self.is_whole self.denominator _ self.fractions.items form ∙ (λ j. over self.denominator (new_is j)))
    refl new_is slim
    (left_within a.rows a.columns a.row a.place self.denominator numbers a.unwritten.now marks next new c.requires.row c.requires.place size are.short are.positive are.denominator_short some left written taken kept a.limit before after)

pub mark_left-requires-clause-place : goal.mark_left-requires-clause-place
mark_left-requires-clause-place c = c.requires.place

pub write_over_same-requires-clause-row : goal.write_over_same-requires-clause-row
write_over_same-requires-clause-row c = c.requires.row

pub write_over_same-requires-clause-place : goal.write_over_same-requires-clause-place
write_over_same-requires-clause-place c = c.requires.place

pub returns-then-not-is_below-clause-done : goal.returns-then-not-is_below-clause-done
returns-then-not-is_below-clause-done c = λ t. absurd (false≢true t)

pub returns-then-not-write_over_same-clause-done : goal.returns-then-not-write_over_same-clause-done
returns-then-not-write_over_same-clause-done c = λ t. absurd (false≢true t)

pub returns-then-not-are_within-clause-done : goal.returns-then-not-are_within-clause-done
returns-then-not-are_within-clause-done c = λ t. absurd (false≢true t)

pub returns-clause-kept : goal.returns-clause-kept
returns-clause-kept c = λ f. absurd (false≢true (sym f))
