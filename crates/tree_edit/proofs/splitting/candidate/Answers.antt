use Rattle.std.specs.Prelude.{Option}
use Rattle.std.proofs.Common.{◌∙◌, ap}
use Rattle.frac128.specs.Rational.{ℚ}
use Rattle.leaf_judging.specs.Queued.{candidate_of}
use Rattle.tree_edit.proofs.splitting.candidate.Goals as goal

pub returns : goal.returns
returns c = c.as_candidate.ensures ∙ ap (λ (r : Option ℚ). candidate_of c.args.child.now.kept.state r c.args.id) c.finite_number.ensures
