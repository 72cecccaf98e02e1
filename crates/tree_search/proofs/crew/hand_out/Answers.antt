use Rattle.std.proofs.Common.{sym, subst, ◌∙◌, inl, inr}
use Rattle.tree_manager.specs.Events.{Gives}
use Rattle.tree_search.proofs.CrewLemmas.{no-some, free-clash}
use Rattle.tree_search.proofs.crew.hand_out.Goals as goal

pub unreachable-requires : goal.unreachable-requires
unreachable-requires c =
    let P = c.args.manager.now in
    let none = subst (λ job. Gives P c.args.worker job c.give.new.self) c.in-Ok-None.field-0-is c.in-Ok-None.ensures.gives in
    elim none.1 [
      | inl holds ↦ no-some holds.0 (sym c.requires.idle ∙ holds.1)
      | inr all ↦ free-clash P.search P.held c.requires.free.0 all c.requires.free.1
    ]
