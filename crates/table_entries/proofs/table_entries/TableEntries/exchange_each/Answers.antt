use Rattle.std.proofs.Common.{◌≤◌, vec_capacity, sym, ap, subst, subst₂, ◌∙◌, arith, ◌≡◌, ◌≢◌, ◌<ℤ◌, ◌+◌, ◌*◌, length, get_or, pos, to_z, of_z, w64}
use mathlib.Core.Path.{subst₃}
use Rattle.std.proofs.lemmas.Int.{ints}
use Rattle.std.proofs.lemmas.List.{with_items_is}
use Rattle.frac128.specs.Rational.{int}
use Rattle.table_entries.specs.WholeSteps.{AreShort, AreWithin, magnitude, whole_number_at, AreWritten}
use Rattle.table_entries.specs.Listed.{over, AreOver}
use Rattle.table_entries.proofs.ReadLemmas.{short_read, short_again, positive_again}
use Rattle.table_entries.proofs.ListedLemmas.{listed_numbers, whole_form, whole_list, whole_numbers, whole_size, not_zero_number, parts_exchanged}
use Rattle.table_entries.proofs.table_entries.TableEntries.exchange_each.Goals as goal

pub write_wholes-requires-clause-size : goal.write_wholes-requires-clause-size
write_wholes-requires-clause-size c =
    let self = c.self.inside in
    let numbers = self.numbers.items in
    let v = c.args.self.now in
    let form = whole_form self.is_whole self.denominator numbers self.fractions.items v c.self.view_is c.requires.whole in
    let size : length numbers ≡ c.args.rows * c.args.columns = whole_size self.is_whole self.denominator numbers self.fractions.items v c.self.view_is c.requires.whole ∙ c.requires.size in
    ap length c.deref.ensures.value ∙ size

pub write_wholes-requires-clause-room : goal.write_wholes-requires-clause-room
write_wholes-requires-clause-room c =
    let self = c.self.inside in
    let numbers = self.numbers.items in
    let v = c.args.self.now in
    let form = whole_form self.is_whole self.denominator numbers self.fractions.items v c.self.view_is c.requires.whole in
    let size : length numbers ≡ c.args.rows * c.args.columns = whole_size self.is_whole self.denominator numbers self.fractions.items v c.self.view_is c.requires.whole ∙ c.requires.size in
    ap length c.deref_mut.ensures.value ∙ c.self.invariant.spare_numbers_length form ∙ size

pub write_wholes-requires-clause-positive : goal.write_wholes-requires-clause-positive
write_wholes-requires-clause-positive c =
    let self = c.self.inside in
    let numbers = self.numbers.items in
    let v = c.args.self.now in
    let form = whole_form self.is_whole self.denominator numbers self.fractions.items v c.self.view_is c.requires.whole in
    let are = c.self.invariant.over_one form in
    positive_again self.denominator are.denominator_short are.positive

pub write_wholes-requires-clause-denominator : goal.write_wholes-requires-clause-denominator
write_wholes-requires-clause-denominator c =
    let self = c.self.inside in
    let numbers = self.numbers.items in
    let v = c.args.self.now in
    let form = whole_form self.is_whole self.denominator numbers self.fractions.items v c.self.view_is c.requires.whole in
    short_again self.denominator (c.self.invariant.over_one form).denominator_short

pub write_wholes-requires-clause-short : goal.write_wholes-requires-clause-short
write_wholes-requires-clause-short c =
    let self = c.self.inside in
    let numbers = self.numbers.items in
    let v = c.args.self.now in
    let form = whole_form self.is_whole self.denominator numbers self.fractions.items v c.self.view_is c.requires.whole in
    subst AreShort (sym c.deref.ensures.value) (c.self.invariant.over_one form).short

pub write_wholes-requires-clause-next : goal.write_wholes-requires-clause-next
write_wholes-requires-clause-next c =
    let self = c.self.inside in
    let numbers = self.numbers.items in
    let v = c.args.self.now in
    let form = whole_form self.is_whole self.denominator numbers self.fractions.items v c.self.view_is c.requires.whole in
    subst AreShort (sym c.deref_mut.ensures.value) (c.self.invariant.spare_short form)

pub write_wholes-requires-clause-some : goal.write_wholes-requires-clause-some
write_wholes-requires-clause-some c = λ e.
    let self = c.self.inside in
    let numbers = self.numbers.items in
    let v = c.args.self.now in
    let form = whole_form self.is_whole self.denominator numbers self.fractions.items v c.self.view_is c.requires.whole in
    let are = c.self.invariant.over_one form in
    let list_is = whole_list self.is_whole self.denominator numbers self.fractions.items v c.self.view_is c.requires.whole in
    let at = c.args.row * c.args.columns + c.args.place in
    not_zero_number self.denominator numbers are.positive at (subst (λ xs. get_or xs at (int (pos 0)) ≢ int (pos 0)) list_is c.requires.some) (ap (λ xs. whole_number_at xs at) (sym c.deref.ensures.value) ∙ e)

pub are_within-requires-clause-size : goal.are_within-requires-clause-size
are_within-requires-clause-size c =
    let self = c.self.inside in
    let numbers = self.numbers.items in
    let v = c.args.self.now in
    let form = whole_form self.is_whole self.denominator numbers self.fractions.items v c.self.view_is c.requires.whole in
    let size : length numbers ≡ c.args.rows * c.args.columns = whole_size self.is_whole self.denominator numbers self.fractions.items v c.self.view_is c.requires.whole ∙ c.requires.size in
    let kept = c.write_wholes.auto.next ∙ c.deref_mut.ensures.len in
    ap length (c.deref-2.ensures.value ∙ with_items_is self.spare_numbers c.write_wholes.new.next kept)
    ∙ c.write_wholes.auto.next ∙ ap length c.deref_mut.ensures.value ∙ c.self.invariant.spare_numbers_length form ∙ size

pub are_within-requires-clause-short : goal.are_within-requires-clause-short
are_within-requires-clause-short c =
    let self = c.self.inside in
    let kept = c.write_wholes.auto.next ∙ c.deref_mut.ensures.len in
    subst AreShort (sym (c.deref-2.ensures.value ∙ with_items_is self.spare_numbers c.write_wholes.new.next kept)) c.write_wholes.ensures.short

pub invariant_of-self : goal.invariant_of-self
invariant_of-self c =
    let self = c.self.inside in
    let shape = c.self.invariant in
    let next = c.write_wholes.new.next in
    let kept : length next ≡ self.spare_numbers.len = c.write_wholes.auto.next ∙ c.deref_mut.ensures.len in
    let new_is = with_items_is self.spare_numbers next kept in
    record {
      spare_length = shape.spare_length;
      spare_room = shape.spare_room;
      fractions_length = shape.fractions_length;
      fractions_room = shape.fractions_room;
      numbers_room = shape.numbers_room;
      spare_numbers_length = λ e. ap length new_is ∙ c.write_wholes.auto.next ∙ ap length c.deref_mut.ensures.value ∙ shape.spare_numbers_length e;
      over_one = shape.over_one;
      spare_short = λ e. subst AreShort (sym new_is) c.write_wholes.ensures.short;
    }

pub invariant_of-self-then-not-are_within : goal.invariant_of-self-then-not-are_within
invariant_of-self-then-not-are_within c =
    let self = c.self.inside in
    let shape = c.self.invariant in
    let next = c.write_wholes.new.next in
    let kept : length next ≡ self.spare_numbers.len = c.write_wholes.auto.next ∙ c.deref_mut.ensures.len in
    let new_is = with_items_is self.spare_numbers next kept in
    record {
      spare_length = shape.spare_length;
      spare_room = shape.spare_room;
      fractions_length = shape.fractions_length;
      fractions_room = shape.fractions_room;
      numbers_room = shape.numbers_room;
      spare_numbers_length = λ e. ap length new_is ∙ c.write_wholes.auto.next ∙ ap length c.deref_mut.ensures.value ∙ shape.spare_numbers_length e;
      over_one = shape.over_one;
      spare_short = λ e. subst AreShort (sym new_is) c.write_wholes.ensures.short;
    }

pub invariant_of-self-2 : goal.invariant_of-self-2
invariant_of-self-2 c =
    let self = c.self.inside in
    let numbers = self.numbers.items in
    let v = c.args.self.now in
    let form = whole_form self.is_whole self.denominator numbers self.fractions.items v c.self.view_is c.requires.whole in
    let are : AreOver self.denominator numbers = c.self.invariant.over_one form in
    let shape = c.self.invariant in
    let after_is = short_read c.args.after c.requires.after in
    let next = c.write_wholes.new.next in
    let kept : length next ≡ self.spare_numbers.len = c.write_wholes.auto.next ∙ c.deref_mut.ensures.len in
    let new_is : c.swap.new.x.items ≡ next = ap (λ v. v.items) c.swap.ensures.x_after ∙ with_items_is self.spare_numbers next kept in
    let next_size : length next ≡ length numbers = c.write_wholes.auto.next ∙ ap length c.deref_mut.ensures.value ∙ shape.spare_numbers_length form in
    let size : length c.swap.new.x.items ≡ length numbers = ap length new_is ∙ next_size in
    record {
      spare_length = shape.spare_length;
      spare_room = shape.spare_room;
      fractions_length = λ e. subst (λ n. length self.fractions.items ≤ n) (sym size) (shape.fractions_length form);
      fractions_room = λ e. subst (λ n. n ≤ vec_capacity self.fractions) (sym size) (shape.fractions_room form);
      numbers_room = λ e. subst (λ n. n ≤ vec_capacity self.spare) (sym size) (shape.numbers_room form);
      spare_numbers_length = λ e. ap (λ v. length v.items) c.swap.ensures.y_after ∙ sym size;
      over_one = λ e. subst₂ AreOver (sym after_is) (sym new_is) (record { positive = c.requires.after_positive; denominator_short = c.requires.after; short = c.write_wholes.ensures.short });
      spare_short = λ e. subst AreShort (sym (ap (λ v. v.items) c.swap.ensures.y_after)) are.short;
    }

pub returns-clause-done : goal.returns-clause-done
returns-clause-done c = λ t.
    let self = c.self.inside in
    let a = c.args in
    let numbers = self.numbers.items in
    let v = a.self.now in
    let form = whole_form self.is_whole self.denominator numbers self.fractions.items v c.self.view_is c.requires.whole in
    let are : AreOver self.denominator numbers = c.self.invariant.over_one form in
    let size : length numbers ≡ a.rows * a.columns = whole_size self.is_whole self.denominator numbers self.fractions.items v c.self.view_is c.requires.whole ∙ c.requires.size in
    let shape = c.self.invariant in
    let d_is = short_read self.denominator are.denominator_short in
    let after_is = short_read a.after c.requires.after in
    let list_is = whole_list self.is_whole self.denominator numbers self.fractions.items v c.self.view_is c.requires.whole in
    let next = c.write_wholes.new.next in
    let kept : length next ≡ self.spare_numbers.len = c.write_wholes.auto.next ∙ c.deref_mut.ensures.len in
    let new_is : c.swap.new.x.items ≡ next = ap (λ v. v.items) c.swap.ensures.x_after ∙ with_items_is self.spare_numbers next kept in
    let next_size : length next ≡ length numbers = c.write_wholes.auto.next ∙ ap length c.deref_mut.ensures.value ∙ shape.spare_numbers_length form in
    let next_full : length next ≡ a.rows * a.columns = next_size ∙ size in
    let written : AreWritten a.columns a.row a.place self.denominator a.after numbers a.unwritten.now next (a.rows * a.columns) =
    subst₃ (λ d g xs. AreWritten a.columns a.row a.place d g xs a.unwritten.now next (a.rows * a.columns)) d_is after_is c.deref.ensures.value (c.write_wholes.ensures.written c.if-not-write_wholes.false) in
    let limit_is : to_z w64 (of_z w64 a.limit) ≡ a.limit = let range = c.ranges.limit in omega (arith, ints, range) in
    let slim : magnitude a.after <ℤ a.limit = subst₂ (λ x l. magnitude x <ℤ l) after_is limit_is (c.is_below.ensures c.if-not-is_below.false) in
    let within : AreWithin a.rows a.columns a.unwritten.now a.limit next =
    subst₂ (AreWithin a.rows a.columns a.unwritten.now) limit_is (c.deref-2.ensures.value ∙ with_items_is self.spare_numbers next kept) (c.are_within.ensures c.if-not-are_within.false) in
    parts_exchanged a.rows a.columns a.row a.place c.requires.row c.requires.place self.denominator a.after numbers a.unwritten.now next are size next_full c.requires.after_positive c.requires.after c.write_wholes.ensures.short written
    a.limit v _ list_is (whole_numbers self.is_whole self.denominator numbers self.fractions.items v c.self.view_is c.requires.whole) form
    (listed_numbers self.is_whole (to_z w64 (of_z w64 a.after)) c.swap.new.x.items self.fractions.items form ∙ (λ j. over (after_is j) (new_is j)))
    after_is new_is slim within

pub write_wholes-requires-clause-after_positive : goal.write_wholes-requires-clause-after_positive
write_wholes-requires-clause-after_positive c = positive_again c.args.after c.requires.after c.requires.after_positive

pub write_wholes-requires-clause-after : goal.write_wholes-requires-clause-after
write_wholes-requires-clause-after c = short_again c.args.after c.requires.after
