use Rattle.std.proofs.Common.{◌≡◌, ◌++◌, take, drop}
use Rattle.std.specs.Prelude.{All}
use Rattle.cert_writer.specs.CertText.{all_mult_words}
use Rattle.text_lines.specs.Words.{spaced}
use Rattle.cert_writer.specs.Room.{MultFits}
use Rattle.cert_writer.proofs.printing.put_mults.Given as goal

abbrev pub invariant-loop-mult : goal.invariant-loop-mult
invariant-loop-mult l = record {
  put : l.fn.text.items ++ spaced (all_mult_words l.mults) ≡ l.text.items ++ spaced (all_mult_words (drop l.mult-index l.mults));
  room : All MultFits (take l.mult-index l.mults);
}
