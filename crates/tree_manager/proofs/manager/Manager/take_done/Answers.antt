use Rattle.std.specs.Prelude.{◌<◌, length}
use Rattle.std.proofs.Common.{sym, subst}
use Rattle.branch_tree.specs.Numbered.{IsNumbered}
use Rattle.tree_manager.specs.Managers.{PlainManager, AreHeld}
use Rattle.tree_manager.proofs.HeldLemmas.{taken-held}
use Rattle.tree_manager.proofs.OtherLemmas.{others-open}
use Rattle.tree_manager.proofs.manager.Manager.take_done.Goals as goal

pub invariant_of-self : goal.invariant_of-self
invariant_of-self c =
    let i = c.self.inside in
    let within : c.args.w < length i.held.items = subst (λ (P : PlainManager). c.args.w < length P.held) (sym c.self.view_is) c.requires.within in
    subst (AreHeld c.place_done.new.self) (sym c.free_worker.ensures) (taken-held c.place_done.new.self i.search i.held.items c.args.w within c.self.invariant)

pub free_worker-requires-clause-others : goal.free_worker-requires-clause-others
free_worker-requires-clause-others c =
    let i = c.self.inside in
    let numbered : IsNumbered i.search.tree = subst IsNumbered c.tree.ensures.tree c.nodes-numbered.ensures.numbered in
    λ none. others-open i.search numbered i.held.items c.self.invariant c.args.job.now.id c.args.done c.place_done.new.self c.in-Ok.taken c.in-Ok.ensures.taken c.brings_point-point.result c.brings_point-point.ensures none
