use Rattle.std.proofs.Common.{◌≡◌, drop}
use Rattle.cert_text.specs.CutLines.{literals_in}
use Rattle.cert_text.proofs.CutLineLemmas.{nows, prefixed}
use Rattle.cert_text.proofs.cut_line.literals_in.Given as goal

abbrev pub invariant-loop-word : goal.invariant-loop-word
invariant-loop-word l = literals_in (nows l.words) ≡ prefixed l.literals (literals_in (nows (drop l.word-index l.words)))
