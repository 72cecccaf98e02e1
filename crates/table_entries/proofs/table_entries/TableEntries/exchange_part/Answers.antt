use Rattle.std.proofs.Common.{sym, ap, subst, subst₂, ◌∙◌, arith, ◌≡◌, ◌≢◌, ◌+◌, ◌*◌, ◌<ℤ◌, length, get_or, pos, to_z, of_z, w64}
use Rattle.std.proofs.lemmas.Bool.{false≢true}
use Rattle.std.proofs.lemmas.Int.{ints, to_z-of_z}
use Rattle.frac128.specs.Rational.{int}
use Rattle.table_entries.specs.WholeSteps.{AreWithin}
use Rattle.table_entries.specs.private.Listed.{ArePartsExchanged}
use Rattle.table_entries.proofs.ReadLemmas.{short_again, positive_again}
use Rattle.table_entries.proofs.table_entries.TableEntries.exchange_part.Goals as goal

pub exchange_over-requires-2-clause-whole : goal.exchange_over-requires-2-clause-whole
exchange_over-requires-2-clause-whole c = ap (λ v. v.is_whole) (c.exchange_some.ensures.kept c.if-exchange_some.false) ∙ c.requires.whole

pub exchange_over-requires-2-clause-size : goal.exchange_over-requires-2-clause-size
exchange_over-requires-2-clause-size c = ap (λ v. length v.list) (c.exchange_some.ensures.kept c.if-exchange_some.false) ∙ c.requires.size

pub exchange_over-requires-2-clause-some : goal.exchange_over-requires-2-clause-some
exchange_over-requires-2-clause-some c = subst (λ v. get_or v.list (c.args.row * c.args.columns + c.args.place) (int (pos 0)) ≢ int (pos 0)) (sym (c.exchange_some.ensures.kept c.if-exchange_some.false)) c.requires.some

pub returns-then-exchange_some-clause-done : goal.returns-then-exchange_some-clause-done
returns-then-exchange_some-clause-done c = λ t.
    let a = c.args in
    let limit_is : to_z w64 (of_z w64 a.limit) ≡ a.limit = let range = c.ranges.limit in omega (arith, ints, range) in
    subst (λ l. ArePartsExchanged a.rows a.columns a.row a.place a.unwritten.now l a.self.now c.exchange_some.new.self) limit_is (c.exchange_some.ensures.done c.if-exchange_some.true)

pub returns-clause-done : goal.returns-clause-done
returns-clause-done c = λ t.
    let a = c.args in
    let limit_is : to_z w64 (of_z w64 a.limit) ≡ a.limit = let range = c.ranges.limit in omega (arith, ints, range) in
    subst₂ (λ l v. ArePartsExchanged a.rows a.columns a.row a.place a.unwritten.now l v c.exchange_over-2.new.self) limit_is (c.exchange_some.ensures.kept c.if-exchange_some.false) (c.exchange_over-2.ensures.done t)

pub returns-clause-kept : goal.returns-clause-kept
returns-clause-kept c = λ f. c.exchange_over-2.ensures.kept f ∙ c.exchange_some.ensures.kept c.if-exchange_some.false

pub may_stay-requires-clause-denominator : goal.may_stay-requires-clause-denominator
may_stay-requires-clause-denominator c = short_again c.denominator.result c.denominator.ensures.short

pub may_stay-requires-clause-positive : goal.may_stay-requires-clause-positive
may_stay-requires-clause-positive c = positive_again c.pivot_magnitude-magnitude.result c.pivot_magnitude-magnitude.ensures.short c.pivot_magnitude-magnitude.ensures.positive

pub may_stay-requires-clause-magnitude : goal.may_stay-requires-clause-magnitude
may_stay-requires-clause-magnitude c = short_again c.pivot_magnitude-magnitude.result c.pivot_magnitude-magnitude.ensures.short

pub exchange_over-requires-clause-whole : goal.exchange_over-requires-clause-whole
exchange_over-requires-clause-whole c = c.requires.whole

pub exchange_over-requires-clause-row : goal.exchange_over-requires-clause-row
exchange_over-requires-clause-row c = c.requires.row

pub exchange_over-requires-clause-place : goal.exchange_over-requires-clause-place
exchange_over-requires-clause-place c = c.requires.place

pub exchange_over-requires-clause-room : goal.exchange_over-requires-clause-room
exchange_over-requires-clause-room c = c.requires.room

pub exchange_over-requires-clause-size : goal.exchange_over-requires-clause-size
exchange_over-requires-clause-size c = c.requires.size

pub exchange_over-requires-clause-some : goal.exchange_over-requires-clause-some
exchange_over-requires-clause-some c = c.requires.some

pub exchange_over-requires-clause-positive : goal.exchange_over-requires-clause-positive
exchange_over-requires-clause-positive c = subst (λ l. pos 0 <ℤ l) (sym (to_z-of_z w64 c.args.limit c.ranges.limit)) c.requires.positive

pub returns-then-rows-gt-MOST_MARKS-clause-done : goal.returns-then-rows-gt-MOST_MARKS-clause-done
returns-then-rows-gt-MOST_MARKS-clause-done c = λ t.
    let a = c.args in
    subst (λ l. ArePartsExchanged a.rows a.columns a.row a.place a.unwritten.now l a.self.now c.exchange_over.new.self) (to_z-of_z w64 a.limit c.ranges.limit) (c.exchange_over.ensures.done t)

pub returns-then-rows-gt-MOST_MARKS-clause-kept : goal.returns-then-rows-gt-MOST_MARKS-clause-kept
returns-then-rows-gt-MOST_MARKS-clause-kept c = c.exchange_over.ensures.kept

pub exchange_over-requires-then-not-may_stay-clause-whole : goal.exchange_over-requires-then-not-may_stay-clause-whole
exchange_over-requires-then-not-may_stay-clause-whole c = c.requires.whole

pub exchange_over-requires-then-not-may_stay-clause-row : goal.exchange_over-requires-then-not-may_stay-clause-row
exchange_over-requires-then-not-may_stay-clause-row c = c.requires.row

pub exchange_over-requires-then-not-may_stay-clause-place : goal.exchange_over-requires-then-not-may_stay-clause-place
exchange_over-requires-then-not-may_stay-clause-place c = c.requires.place

pub exchange_over-requires-then-not-may_stay-clause-room : goal.exchange_over-requires-then-not-may_stay-clause-room
exchange_over-requires-then-not-may_stay-clause-room c = c.requires.room

pub exchange_over-requires-then-not-may_stay-clause-size : goal.exchange_over-requires-then-not-may_stay-clause-size
exchange_over-requires-then-not-may_stay-clause-size c = c.requires.size

pub exchange_over-requires-then-not-may_stay-clause-some : goal.exchange_over-requires-then-not-may_stay-clause-some
exchange_over-requires-then-not-may_stay-clause-some c = c.requires.some

pub exchange_over-requires-then-not-may_stay-clause-positive : goal.exchange_over-requires-then-not-may_stay-clause-positive
exchange_over-requires-then-not-may_stay-clause-positive c = subst (λ l. pos 0 <ℤ l) (sym (to_z-of_z w64 c.args.limit c.ranges.limit)) c.requires.positive

pub returns-then-not-may_stay-clause-done : goal.returns-then-not-may_stay-clause-done
returns-then-not-may_stay-clause-done c = λ t.
    let a = c.args in
    subst (λ l. ArePartsExchanged a.rows a.columns a.row a.place a.unwritten.now l a.self.now c.exchange_over-then-not-may_stay.new.self) (to_z-of_z w64 a.limit c.ranges.limit) (c.exchange_over-then-not-may_stay.ensures.done t)

pub returns-then-not-may_stay-clause-kept : goal.returns-then-not-may_stay-clause-kept
returns-then-not-may_stay-clause-kept c = c.exchange_over-then-not-may_stay.ensures.kept

pub pivot_magnitude-magnitude-requires-clause-whole : goal.pivot_magnitude-magnitude-requires-clause-whole
pivot_magnitude-magnitude-requires-clause-whole c = c.requires.whole

pub pivot_magnitude-magnitude-requires-clause-row : goal.pivot_magnitude-magnitude-requires-clause-row
pivot_magnitude-magnitude-requires-clause-row c = c.requires.row

pub pivot_magnitude-magnitude-requires-clause-place : goal.pivot_magnitude-magnitude-requires-clause-place
pivot_magnitude-magnitude-requires-clause-place c = c.requires.place

pub pivot_magnitude-magnitude-requires-clause-room : goal.pivot_magnitude-magnitude-requires-clause-room
pivot_magnitude-magnitude-requires-clause-room c = c.requires.room

pub pivot_magnitude-magnitude-requires-clause-size : goal.pivot_magnitude-magnitude-requires-clause-size
pivot_magnitude-magnitude-requires-clause-size c = c.requires.size

pub pivot_magnitude-magnitude-requires-clause-some : goal.pivot_magnitude-magnitude-requires-clause-some
pivot_magnitude-magnitude-requires-clause-some c = c.requires.some

pub exchange_some-requires-clause-whole : goal.exchange_some-requires-clause-whole
exchange_some-requires-clause-whole c = c.requires.whole

pub exchange_some-requires-clause-row : goal.exchange_some-requires-clause-row
exchange_some-requires-clause-row c = c.requires.row

pub exchange_some-requires-clause-place : goal.exchange_some-requires-clause-place
exchange_some-requires-clause-place c = c.requires.place

pub exchange_some-requires-clause-room : goal.exchange_some-requires-clause-room
exchange_some-requires-clause-room c = c.requires.room

pub exchange_some-requires-clause-size : goal.exchange_some-requires-clause-size
exchange_some-requires-clause-size c = c.requires.size

pub exchange_some-requires-clause-some : goal.exchange_some-requires-clause-some
exchange_some-requires-clause-some c = c.requires.some

pub exchange_some-requires-clause-positive : goal.exchange_some-requires-clause-positive
exchange_some-requires-clause-positive c = subst (λ l. pos 0 <ℤ l) (sym (to_z-of_z w64 c.args.limit c.ranges.limit)) c.requires.positive

pub exchange_over-requires-2-clause-positive : goal.exchange_over-requires-2-clause-positive
exchange_over-requires-2-clause-positive c = subst (λ l. pos 0 <ℤ l) (sym (to_z-of_z w64 c.args.limit c.ranges.limit)) c.requires.positive

pub exchange_over-requires-2-clause-row : goal.exchange_over-requires-2-clause-row
exchange_over-requires-2-clause-row c = c.requires.row

pub exchange_over-requires-2-clause-place : goal.exchange_over-requires-2-clause-place
exchange_over-requires-2-clause-place c = c.requires.place

pub exchange_over-requires-2-clause-room : goal.exchange_over-requires-2-clause-room
exchange_over-requires-2-clause-room c = c.requires.room

pub exchange_some-requires-clause-within : goal.exchange_some-requires-clause-within
exchange_some-requires-clause-within c = subst (λ l. AreWithin c.args.rows c.args.columns c.args.unwritten.now l c.args.self.now.numbers) (sym (to_z-of_z w64 c.args.limit c.ranges.limit)) c.requires.within

pub exchange_some-requires-clause-few : goal.exchange_some-requires-clause-few
exchange_some-requires-clause-few c = c.if-rows-gt-MOST_MARKS.false

pub returns-then-exchange_some-clause-kept : goal.returns-then-exchange_some-clause-kept
returns-then-exchange_some-clause-kept c = λ f. absurd (false≢true (sym f))
