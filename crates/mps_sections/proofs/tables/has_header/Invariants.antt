use Rattle.std.proofs.Common.{◌≡◌, drop}
use Rattle.std.specs.List.{list_any}
use Rattle.mps_sections.specs.private.HeaderTests.{is_asked}
use Rattle.mps_sections.proofs.tables.has_header.Given as goal

abbrev pub invariant-loop-index : goal.invariant-loop-index
invariant-loop-index l = list_any (is_asked l.test) l.headers ≡ list_any (is_asked l.test) (drop l.index l.headers)
