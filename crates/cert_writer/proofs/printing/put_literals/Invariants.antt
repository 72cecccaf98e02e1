use Rattle.std.proofs.Common.{◌≡◌, ◌++◌, drop}
use Rattle.cert_writer.specs.CertText.{literal_words}
use Rattle.text_lines.specs.Words.{spaced}
use Rattle.cert_writer.proofs.printing.put_literals.Given as goal

abbrev pub invariant-loop-name : goal.invariant-loop-name
invariant-loop-name l = l.fn.text.items ++ spaced (literal_words l.literals) ≡ l.text.items ++ spaced (literal_words (drop l.name-index l.literals))
