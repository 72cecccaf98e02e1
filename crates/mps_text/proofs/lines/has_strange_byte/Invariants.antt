use Rattle.std.proofs.Common.{◌≡◌, drop}
use Rattle.std.specs.List.{list_any}
use Rattle.mps_text.specs.Text.{is_strange}
use Rattle.mps_text.proofs.lines.has_strange_byte.Given as goal

abbrev pub invariant-loop-index : goal.invariant-loop-index
invariant-loop-index l = list_any is_strange l.text ≡ list_any is_strange (drop l.index l.text)
