use Rattle.std.specs.Prelude.{◌≡◌, [], None}
use Rattle.std.proofs.Common.{subst, sym}
use Rattle.branch_tree.specs.declared.node.NodeResult.TheVariants.{Keep}
use Rattle.sound_searches.specs.declared.taken.Taken.TheVariants.{Kept}
use Rattle.search_parts.specs.Lists.{IsBasis}
use Rattle.sound_searches.specs.Placing.{Takes}
use Rattle.sound_searches.specs.Sound.{formulation_of}
use Rattle.tree_search.specs.Steps.{kept_basis, KeepsOpen}
use Rattle.tree_search.proofs.HeldJobs.{held-open}
use Rattle.tree_search.proofs.KeepLemmas.{keep-taken, keep-open}
use Rattle.tree_search.proofs.stepping.keep_basis.Goals as goal

pub take_done-requires-clause-open : goal.take_done-requires-clause-open
take_done-requires-clause-open c = held-open c.args.manager.now.search c.args.job.now c.requires.job

pub unreachable-requires : goal.unreachable-requires
unreachable-requires c =
    let S = c.args.manager.now.search in
    let b = c.in-Ok.basis in
    let same : b ≡ kept_basis S c.args.basis.now = c.in-Ok.ensures.basis in
    let there : IsBasis (formulation_of S) b = subst (IsBasis (formulation_of S)) (sym same) c.requires.basis in
    c.in_default-taken.not-Kept (keep-taken S c.show_manager.ensures.sound c.show_manager.ensures.numbered c.args.job.now c.requires.job c.take_done.new.self.search b there c.in-Ok-take_done.taken c.in-Ok-take_done.ensures.takes.takes)

pub returns-clause-keeps : goal.returns-clause-keeps
returns-clause-keeps c =
    let S = c.args.manager.now.search in
    let T = c.take_done.new.self.search in
    let job = c.args.job.now in
    let b = c.in-Ok.basis in
    let same : b ≡ kept_basis S c.args.basis.now = c.in-Ok.ensures.basis in
    let there : IsBasis (formulation_of S) b = subst (IsBasis (formulation_of S)) (sym same) c.requires.basis in
    let kept : c.in-Ok-take_done.taken ≡ Kept = keep-taken S c.show_manager.ensures.sound c.show_manager.ensures.numbered job c.requires.job T b there c.in-Ok-take_done.taken c.in-Ok-take_done.ensures.takes.takes in
    subst (λ a. KeepsOpen S job [] None a T) same
    (keep-open S c.show_manager.ensures.sound c.show_manager.ensures.numbered job c.requires.job T b there (subst (Takes S job.id (Keep None b) T) kept c.in-Ok-take_done.ensures.takes.takes))

pub returns-clause-cuts : goal.returns-clause-cuts
returns-clause-cuts c = c.in-Ok.ensures.cuts
