use Rattle.std.proofs.Common.{sym, subst}
use Rattle.tree_manager.specs.Managers.{AreHeld}
use Rattle.tree_manager.proofs.HeldLemmas.{idle-held}
use Rattle.tree_manager.proofs.manager.Manager.new.Goals as goal

pub invariant_of-result : goal.invariant_of-result
invariant_of-result c = subst (AreHeld c.args.search) (sym c.in-Ok.ensures) (idle-held c.args.search c.args.workers c.requires)
