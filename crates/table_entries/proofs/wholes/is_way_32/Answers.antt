use Rattle.std.proofs.Common.{arith}
use Rattle.std.proofs.lemmas.Int.{ints}
use Rattle.table_entries.proofs.WayLemmas.{has_32_read}
use Rattle.table_entries.proofs.wholes.is_way_32.Goals as goal

pub returns : goal.returns
returns c = λ t.
    let w = c.args.way.now in
    record {
      factor_32 = has_32_read w.factor c.requires.factor (c.has_32_bits.ensures c.if-not-has_32_bits.false);
      scale_32 = has_32_read w.scale c.requires.scale (c.has_32_bits-2.ensures c.if-not-has_32_bits-2.false);
      divisor_32 = has_32_read w.divisor c.requires.divisor (c.has_32_bits-3.ensures t);
      multiplier_one = let e = c.if-way-ne1.false in omega (arith, ints, e);
    }
