use Rattle.std.proofs.Common.{sym, ap, subst, ◌∙◌, ◌≡◌, length, arith}
use Rattle.std.proofs.lemmas.Int.{ints}
use Rattle.table_entries.specs.WholeSteps.{AreShort}
use Rattle.table_entries.proofs.ListedLemmas.{one_short}
use Rattle.table_entries.proofs.table_entries.TableEntries.of_numbers.Goals as goal

pub invariant_of-result : goal.invariant_of-result
invariant_of-result c =
    let numbers = c.args.numbers in
    let fractions = c.in-Ok-with_capacity.fractions in
    let spare = c.in-Ok-with_capacity-2.spare in
    let all = numbers.ok.0 in
    let count = c.len-count.ensures in
    let none : length fractions.items ≡ 0 = ap length c.in-Ok-with_capacity.ensures.items in
    let nothing : length spare.items ≡ 0 = ap length c.in-Ok-with_capacity-2.ensures.items in
    let first = c.in-Ok-with_capacity.ensures.capacity in
    let second = c.in-Ok-with_capacity-2.ensures.capacity in
    let same = c.in-Ok.ensures.items ∙ c.deref.ensures.value in
    record {
      spare_length = omega (arith, nothing);
      spare_room = omega (arith, none);
      fractions_length = λ e. omega (arith, none);
      fractions_room = λ e. omega (arith, all, count, first);
      numbers_room = λ e. omega (arith, all, count, second);
      spare_numbers_length = λ e. ap length same;
      over_one = λ e. record { positive = omega (arith, ints); denominator_short = one_short; short = c.requires.short };
      spare_short = λ e. subst AreShort (sym same) c.requires.short;
    }
