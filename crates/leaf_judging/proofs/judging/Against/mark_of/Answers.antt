use Rattle.std.proofs.Common.{ap, ◌∙◌}
use Rattle.std.specs.Prelude.{Option}
use Rattle.frac128.specs.Rational.{ℚ}
use Rattle.leaf_judging.specs.Queued.{candidate_of}
use Rattle.leaf_judging.proofs.judging.Against.mark_of.Goals as goal

pub returns : goal.returns
returns c =
    record {
      number = c.number_or_minus-number.result;
      number_is = c.number_or_minus-number.ensures.kept;
      says = c.state_by-state.ensures;
      candidate_is = c.as_candidate-candidate.ensures ∙ ap (λ (r : Option ℚ). candidate_of c.state_by-state.result r c.args.id) c.finite_number.ensures;
    }
