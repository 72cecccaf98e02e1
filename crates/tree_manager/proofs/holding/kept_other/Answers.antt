use Rattle.std.specs.Prelude.{if◌then◌else◌, Some, None}
use Rattle.std.proofs.Common.{sym, ap, ◌∙◌}
use Rattle.tree_manager.specs.Managers.{kept_holding}
use Rattle.tree_manager.proofs.holding.kept_other.Goals as goal

pub returns-else-other-id : goal.returns-else-other-id
returns-else-other-id c =
    sym (ap (kept_holding c.args.search.now) c.in-Some.is ∙ ap (λ b. if b then Some c.in-Some.other else None) (c.requires c.in-Some.other c.in-Some.is c.if-other-id.false))
