use Rattle.std.proofs.Common.{◌≡◌, ◌++◌, drop, map}
use Rattle.cert_writer.specs.CertText.{cut_words, lines_text}
use Rattle.cert_writer.proofs.printing.put_cuts.Given as goal

abbrev pub invariant-loop-cut : goal.invariant-loop-cut
invariant-loop-cut l = l.fn.text.items ++ lines_text (map cut_words l.cuts) ≡ l.text.items ++ lines_text (map cut_words (drop l.cut-index l.cuts))
