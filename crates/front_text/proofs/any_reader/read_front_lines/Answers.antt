use Rattle.std.proofs.Common.{◌+◌, ◌≡◌, arith}
use Rattle.front_text.specs.Reading.{held_front}
use Rattle.front_text.proofs.ReadSteps.{nows, line_at, below_nows, count_is, told, noted_clean, noted_holds}
use Rattle.front_text.proofs.any_reader.read_front_lines.Goals as goal

pub read_front_line-requires-clause-room : goal.read_front_line-requires-clause-room
read_front_line-requires-clause-room c =
    let L = nows c.args.lines.now in
    let k = c.loop-index.index in
    let e : c.loop-index.reading.count ≡ k = count_is L k (held_front c.loop-index.reading) (let b = below_nows c.args.lines.now k c.loop-index-test.true in omega (arith, b)) c.loop-index.invariant.holds in
    grind (arith, e)

pub returns-in-Err-clause-reading : goal.returns-in-Err-clause-reading
returns-in-Err-clause-reading c =
    let L = nows c.args.lines.now in
    let k = c.loop-index.index in
    let below = below_nows c.args.lines.now k c.loop-index-test.true in
    told L k below c.loop-index.invariant.clean (held_front c.loop-index.reading) c.loop-index.invariant.holds _ (line_at c.args.lines.now k _ c.loop-index-test.true) (k + 1) (omega arith) (held_front c.read_front_line.new.reading) c.in-Err.fault c.in-Err.ensures.noted

pub loop-index-preserved : goal.loop-index-preserved
loop-index-preserved c =
    let L = nows c.args.lines.now in
    let k = c.loop-index.index in
    let below = below_nows c.args.lines.now k c.loop-index-test.true in
    record {
      clean = noted_clean L k below c.loop-index.invariant.clean (held_front c.loop-index.reading) c.loop-index.invariant.holds _ (line_at c.args.lines.now k _ c.loop-index-test.true) (k + 1) (omega arith) (held_front c.read_front_line.new.reading) c.in_default.field-0 c.in_default.ensures.noted;
      kept = c.in_default.ensures.kept;
      holds = noted_holds L k below c.loop-index.invariant.clean (held_front c.loop-index.reading) c.loop-index.invariant.holds _ (line_at c.args.lines.now k _ c.loop-index-test.true) (k + 1) (omega arith) (held_front c.read_front_line.new.reading) c.in_default.field-0 c.in_default.ensures.noted;
    }
