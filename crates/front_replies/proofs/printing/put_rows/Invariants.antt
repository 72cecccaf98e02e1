use Rattle.std.proofs.Common.{◌≡◌, ◌++◌, drop, map}
use Rattle.cert_writer.specs.CertText.{lines_text}
use Rattle.front_replies.specs.FrontReplies.{row_words}
use Rattle.front_replies.proofs.printing.put_rows.Given as goal

abbrev pub invariant-loop-outcome : goal.invariant-loop-outcome
invariant-loop-outcome l = l.fn.text.items ++ lines_text (map row_words l.outcomes) ≡ l.text.items ++ lines_text (map row_words (drop l.outcome-index l.outcomes))
