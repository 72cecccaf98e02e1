use Rattle.std.proofs.Common.{sym, ap, subst, subst₂, ◌∙◌, arith, ◌≡◌, ◌≢◌, ◌+◌, ◌*◌, length, get_or, pos, to_z, of_z, w64}
use Rattle.std.proofs.lemmas.Int.{ints}
use Rattle.frac128.specs.Rational.{int}
use Rattle.table_entries.specs.private.Listed.{ArePartsExchanged}
use Rattle.table_entries.proofs.ReadLemmas.{short_again, positive_again}
use Rattle.table_entries.proofs.table_entries.TableEntries.exchange_over.Goals as goal

pub exchange_each-requires-clause-after_positive : goal.exchange_each-requires-clause-after_positive
exchange_each-requires-clause-after_positive c = positive_again c.pivot_magnitude-magnitude.result c.pivot_magnitude-magnitude.ensures.short c.pivot_magnitude-magnitude.ensures.positive

pub exchange_each-requires-clause-after : goal.exchange_each-requires-clause-after
exchange_each-requires-clause-after c = short_again c.pivot_magnitude-magnitude.result c.pivot_magnitude-magnitude.ensures.short

pub next_denominator-after-requires-clause-whole : goal.next_denominator-after-requires-clause-whole
next_denominator-after-requires-clause-whole c = ap (λ v. v.is_whole) (c.exchange_each.ensures.kept c.if-exchange_each.false) ∙ c.requires.whole

pub next_denominator-after-requires-clause-size : goal.next_denominator-after-requires-clause-size
next_denominator-after-requires-clause-size c = ap (λ v. length v.list) (c.exchange_each.ensures.kept c.if-exchange_each.false) ∙ c.requires.size

pub exchange_each-requires-2-clause-whole : goal.exchange_each-requires-2-clause-whole
exchange_each-requires-2-clause-whole c = ap (λ v. v.is_whole) (c.exchange_each.ensures.kept c.if-exchange_each.false) ∙ c.requires.whole

pub exchange_each-requires-2-clause-size : goal.exchange_each-requires-2-clause-size
exchange_each-requires-2-clause-size c = ap (λ v. length v.list) (c.exchange_each.ensures.kept c.if-exchange_each.false) ∙ c.requires.size

pub exchange_each-requires-2-clause-some : goal.exchange_each-requires-2-clause-some
exchange_each-requires-2-clause-some c = subst (λ v. get_or v.list (c.args.row * c.args.columns + c.args.place) (int (pos 0)) ≢ int (pos 0)) (sym (c.exchange_each.ensures.kept c.if-exchange_each.false)) c.requires.some

pub exchange_each-requires-2-clause-after_positive : goal.exchange_each-requires-2-clause-after_positive
exchange_each-requires-2-clause-after_positive c = positive_again c.next_denominator-after.result c.next_denominator-after.ensures.short c.next_denominator-after.ensures.positive

pub exchange_each-requires-2-clause-after : goal.exchange_each-requires-2-clause-after
exchange_each-requires-2-clause-after c = short_again c.next_denominator-after.result c.next_denominator-after.ensures.short

pub returns-then-exchange_each-clause-done : goal.returns-then-exchange_each-clause-done
returns-then-exchange_each-clause-done c = λ t.
    let a = c.args in
    let limit_is : to_z w64 (of_z w64 a.limit) ≡ a.limit = let range = c.ranges.limit in omega (arith, ints, range) in
    subst (λ l. ArePartsExchanged a.rows a.columns a.row a.place a.unwritten.now l a.self.now c.exchange_each.new.self) limit_is (c.exchange_each.ensures.done c.if-exchange_each.true)

pub returns-clause-done : goal.returns-clause-done
returns-clause-done c = λ t.
    let a = c.args in
    let limit_is : to_z w64 (of_z w64 a.limit) ≡ a.limit = let range = c.ranges.limit in omega (arith, ints, range) in
    subst₂ (λ l v. ArePartsExchanged a.rows a.columns a.row a.place a.unwritten.now l v c.exchange_each-2.new.self) limit_is (c.exchange_each.ensures.kept c.if-exchange_each.false) (c.exchange_each-2.ensures.done t)

pub returns-clause-kept : goal.returns-clause-kept
returns-clause-kept c = λ f. c.exchange_each-2.ensures.kept f ∙ c.exchange_each.ensures.kept c.if-exchange_each.false
