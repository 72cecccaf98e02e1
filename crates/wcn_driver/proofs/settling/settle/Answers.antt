use Rattle.std.proofs.Common.{subst}
use Rattle.wcn_driver.specs.private.Settled.{CanSettle}
use Rattle.wcn_driver.proofs.SettledParts.{settled_end}
use Rattle.wcn_driver.proofs.settling.settle.Goals as goal

pub part_end-requires-clause-can : goal.part_end-requires-clause-can
part_end-requires-clause-can c = settled_end c.args.solved.answer c.args.solved.cert c.requires.can

pub unreachable-requires : goal.unreachable-requires
unreachable-requires c = let e = c.in-Infeasible.ensures in subst (λ a. CanSettle a c.args.solved.cert) e.1.0 c.requires.can
