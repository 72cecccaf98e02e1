use Rattle.std.proofs.Common.{subst, IsTrue, ◌↔◌}
use Rattle.table_entries.specs.States.{MayEnter}
use Rattle.basic_solution.specs.Held.{table}
use Rattle.dual_simplex.proofs.entering.may_enter.Goals as goal

pub returns : goal.returns
returns c =
    let side = c.args.side in
    let alike = c.signed_entry.ensures side c.stand_of.result in
    let moves = c.moves_back.ensures in
    subst (λ k. IsTrue c.moves_back.result ↔ MayEnter side k ((table c.args.state.now).entry c.args.row c.args.place)) c.stand_of.ensures
    ((λ t. alike.0 (moves.0 t)), (λ m. moves.1 (alike.1 m)))
