use Rattle.std.proofs.Common.{to_z, of_z, w64}
use Rattle.table_entries.proofs.ReadLemmas.{short_again, positive_again}
use Rattle.whole_sums.specs.Wholes.{IsDenominator}
use Rattle.dual_simplex.proofs.state.LpState.of.Goals as goal

pub invariant_of-result : goal.invariant_of-result
invariant_of-result c =
    let d = c.denominator-over.result in
    let over : IsDenominator (to_z w64 (of_z w64 d)) = record {
      positive = positive_again d c.denominator-over.ensures.short c.denominator-over.ensures.positive;
      short = short_again d c.denominator-over.ensures.short;
    } in
    (c.requires, (c.in-Ok.ensures (to_z w64 (of_z w64 d)) over, c.in-Ok-no_values.ensures (to_z w64 (of_z w64 d)) over))
