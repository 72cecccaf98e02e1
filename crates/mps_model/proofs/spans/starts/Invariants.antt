use Rattle.std.proofs.Common.{◌≡◌, [], map, take}
use Rattle.mps_model.specs.Meaning.{span_of}
use Rattle.mps_model.proofs.spans.starts.Given as goal

abbrev pub invariant-loop-column : goal.invariant-loop-column
invariant-loop-column l = l.spans.items ≡ map (span_of []) (take l.column-index l.columns)
