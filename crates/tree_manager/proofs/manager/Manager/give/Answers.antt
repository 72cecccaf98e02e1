use Rattle.std.specs.Prelude.{ℕ, ◌<◌, length}
use Rattle.std.proofs.Common.{refl, sym, subst, ◌∙◌, inl}
use Rattle.tree_manager.specs.Managers.{PlainManager, HoldsLeaf}
use Rattle.tree_manager.proofs.HeldLemmas.{some-holds}
use Rattle.tree_manager.proofs.manager.Manager.give.Goals as goal

pub returns-then-is_some-clause-gives : goal.returns-then-is_some-clause-gives
returns-then-is_some-clause-gives c =
    let i = c.self.inside in
    let within : c.args.w < length i.held.items = subst (λ (P : PlainManager). c.args.w < length P.held) (sym c.self.view_is) c.requires in
    let holds : (id : ℕ) × HoldsLeaf i.held.items c.args.w id = some-holds i.held.items c.args.w within c.index.result.now c.index.ensures (sym c.is_some.ensures ∙ c.if-is_some.true) in
    (refl, inl (subst (λ (P : PlainManager). (id : ℕ) × HoldsLeaf P.held c.args.w id) c.self.view_is holds))
