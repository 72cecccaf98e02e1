use Rattle.std.proofs.Common.{◌++◌, ◌∷◌, [], List, arith, refl}
use Rattle.front_text.specs.declared.front.FrontOutcome.{FrontOutcome}
use Rattle.cert_writer.specs.CertText.{lines_text}
use Rattle.cert_writer.proofs.PutLaws.{put_next, put_end, all_next, all_end}
use Rattle.front_writer.specs.FrontWords.{outcome_lines}
use Rattle.front_writer.specs.private.FrontRoom.{HasOutcomeRoom}
use Rattle.front_writer.proofs.PutLaws.{outcome_step}
use Rattle.front_writer.proofs.printing.put_outcomes.Goals as goal

pub loop-outcome-preserved : goal.loop-outcome-preserved
loop-outcome-preserved c =
    let x = c.outcome-item.result in
    record {
      put =
          put_next (λ (xs : List FrontOutcome). lines_text (outcome_lines xs)) (λ (x : FrontOutcome). lines_text (outcome_lines (x ∷ []))) outcome_step c.args.outcomes.now c.loop-outcome.outcome-index (c.args.text.now.items ++ lines_text (outcome_lines c.args.outcomes.now)) c.loop-outcome.text.items c.loop-outcome.invariant.put
          x c.put_outcome.new.text.items c.loop-outcome-test.true c.outcome-item.is c.in-Ok.ensures.text;
      room = all_next HasOutcomeRoom c.args.outcomes.now c.loop-outcome.outcome-index x c.loop-outcome-test.true c.outcome-item.is c.loop-outcome.invariant.room c.in-Ok.ensures.room;
    }

pub returns-clause-room : goal.returns-clause-room
returns-clause-room c = all_end HasOutcomeRoom c.args.outcomes.now c.loop-outcome.outcome-index (omega (arith, c.loop-outcome-test.false)) c.loop-outcome.invariant.room

pub returns-clause-text : goal.returns-clause-text
returns-clause-text c =
    put_end (λ (xs : List FrontOutcome). lines_text (outcome_lines xs)) (λ (x : FrontOutcome). lines_text (outcome_lines (x ∷ []))) outcome_step c.args.outcomes.now c.loop-outcome.outcome-index (c.args.text.now.items ++ lines_text (outcome_lines c.args.outcomes.now)) c.loop-outcome.text.items c.loop-outcome.invariant.put
    (omega (arith, c.loop-outcome-test.false)) refl
