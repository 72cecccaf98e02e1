use Rattle.std.proofs.Common.{◌≡◌, take, false}
use Rattle.std.specs.Prelude.{All}
use Rattle.text_lines.specs.Words.{is_blank}
use Rattle.mps_text.proofs.fields.field_end.Given as goal

abbrev pub invariant-loop-index : goal.invariant-loop-index
invariant-loop-index l = All (λ byte. is_blank byte ≡ false) (take l.index l.text)
