use Rattle.std.proofs.Common.{◌≡◌, ◌<◌, ◌≤◌, ◌∙◌, sym, ap, subst, arith, length, get_or, pos, below_more, to_z, of_z, w64}
use Rattle.std.specs.Int.{w128}
use Rattle.std.proofs.lemmas.Int.{ints}
use Rattle.std.proofs.lemmas.List.{get_or_default}
use Rattle.frac128.specs.Rational.{int}
use Rattle.table_entries.specs.Listed.{IsShortWhole}
use Rattle.table_entries.proofs.ListedLemmas.{number_size, number_pushed}
use Rattle.table_entries.proofs.table_entries.whole_numbers.Goals as goal

pub loop-at-preserved : goal.loop-at-preserved
loop-at-preserved c =
    let fractions = c.args.fractions.now in
    let numbers = c.loop-at.numbers.items in
    let at = c.loop-at.at in
    let inv = c.loop-at.invariant in
    let x = c.index-fractions-at.result in
    let is : x ≡ get_or fractions at (int (pos 0)) = c.index-fractions-at.is ∙ get_or_default fractions at x (int (pos 0)) c.loop-at-test.true in
    let whole : IsShortWhole x = c.is_short_whole.ensures c.if-not-is_short_whole.false in
    let short = whole.short in
    let e = c.numerator.ensures in
    let read : to_z w64 (of_z w64 (to_z w128 (of_z w128 c.numerator.result))) ≡ x.num = omega (arith, ints, e, short) in
    let next = c.push_reserved.new.self.items in
    let pushed = c.push_reserved.ensures.items in
    record {
      size = number_size numbers next at _ pushed inv.size;
      room = subst (λ k. length fractions ≤ k) (sym c.push_reserved.ensures.capacity) inv.room;
      whole = below_more (λ u. IsShortWhole (get_or fractions u (int (pos 0)))) at inv.whole (subst IsShortWhole is whole);
      items = number_pushed numbers next at _ pushed inv.size fractions (read ∙ ap (λ z. z.num) is) inv.items;
    }

pub overflow_cast-numerator : goal.overflow_cast-numerator
overflow_cast-numerator c =
    let whole : IsShortWhole c.index-fractions-at.result = c.is_short_whole.ensures c.if-not-is_short_whole.false in
    let short = whole.short in
    let e = c.numerator.ensures in
    omega (arith, ints, e, short)

pub push_reserved-requires : goal.push_reserved-requires
push_reserved-requires c =
    let inv = c.loop-at.invariant in
    let size = inv.size in
    let room = inv.room in
    let test = c.loop-at-test.true in
    let all = c.loop-at.numbers.ok.0 in
    omega (arith, size, room, test, all)

pub returns-then-not-is_short_whole-clause-whole : goal.returns-then-not-is_short_whole-clause-whole
returns-then-not-is_short_whole-clause-whole c = λ at q. c.loop-at.invariant.whole at (subst (λ n. at < n) c.loop-at.invariant.size q)

pub returns-then-not-is_short_whole-clause-items : goal.returns-then-not-is_short_whole-clause-items
returns-then-not-is_short_whole-clause-items c = λ at q. c.loop-at.invariant.items at (subst (λ n. at < n) c.loop-at.invariant.size q)

pub returns-then-not-is_short_whole-clause-length : goal.returns-then-not-is_short_whole-clause-length
returns-then-not-is_short_whole-clause-length c = let size = c.loop-at.invariant.size in let test = c.loop-at-test.true in omega (arith, size, test)

pub returns-clause-whole : goal.returns-clause-whole
returns-clause-whole c = λ at q. c.loop-at.invariant.whole at (subst (λ n. at < n) c.loop-at.invariant.size q)

pub returns-clause-items : goal.returns-clause-items
returns-clause-items c = λ at q. c.loop-at.invariant.items at (subst (λ n. at < n) c.loop-at.invariant.size q)
