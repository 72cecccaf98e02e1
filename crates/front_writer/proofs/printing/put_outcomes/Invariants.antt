use Rattle.std.proofs.Common.{◌≡◌, ◌++◌, take, drop}
use Rattle.std.specs.Prelude.{All}
use Rattle.cert_writer.specs.CertText.{lines_text}
use Rattle.front_writer.specs.FrontWords.{outcome_lines}
use Rattle.front_writer.specs.private.FrontRoom.{HasOutcomeRoom}
use Rattle.front_writer.proofs.printing.put_outcomes.Given as goal

abbrev pub invariant-loop-outcome : goal.invariant-loop-outcome
invariant-loop-outcome l = record {
  put : l.fn.text.items ++ lines_text (outcome_lines l.outcomes) ≡ l.text.items ++ lines_text (outcome_lines (drop l.outcome-index l.outcomes));
  room : All HasOutcomeRoom (take l.outcome-index l.outcomes);
}
