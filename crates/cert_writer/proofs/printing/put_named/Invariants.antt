use Rattle.std.proofs.Common.{◌≡◌, ◌++◌, take, drop}
use Rattle.cert_writer.specs.CertText.{named_words}
use Rattle.text_lines.specs.Words.{spaced}
use Rattle.cert_writer.specs.Room.{HasFractions}
use Rattle.cert_writer.proofs.printing.put_named.Given as goal

abbrev pub invariant-loop-name : goal.invariant-loop-name
invariant-loop-name l = record {
  put : l.fn.text.items ++ spaced (named_words l.named) ≡ l.text.items ++ spaced (named_words (drop l.name-index l.named));
  room : HasFractions (take l.name-index l.named);
}
