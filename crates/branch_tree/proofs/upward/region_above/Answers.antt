use Rattle.std.proofs.Common.{◌≡◌, ◌∙◌, ap, reverse}
use Rattle.std.proofs.lemmas.Result.{IfOk-weaker}
use Rattle.lp_model.specs.Regions.{Path}
use Rattle.branch_tree.specs.Table.{node_at}
use Rattle.branch_tree.specs.private.Paths.{LeadsUp, changes_of}
use Rattle.branch_tree.proofs.upward.region_above.Goals as goal

pub returns-in-Ok : goal.returns-in-Ok
returns-in-Ok c =
    IfOk-weaker c.turned.result (λ (region : Path). region ≡ reverse (changes_of c.in-Ok.turns.items)) (λ (region : Path). (cs : Path) → LeadsUp (node_at c.args.table.now) c.args.up cs → region ≡ reverse cs)
    (λ region is cs leads. is ∙ ap reverse (c.in-Ok.ensures cs leads)) c.turned.ensures
