use Rattle.std.proofs.Common.{rules, ◌≡◌, Ok, subst}
use Rattle.dual_simplex.specs.Walks.{IsWalkEnd}
use Rattle.dual_simplex.specs.declared.walk.Walk.TheVariants.{Optimal, Infeasible, Pivots}
use Rattle.dual_simplex.proofs.StepLemmas.{end_wide}
use Rattle.dual_simplex.proofs.SolveLemmas.{answer_as, optimal_at_end, infeasible_at_end}
use Rattle.dual_simplex.proofs.state.LpState.answer_at.Goals as goal

pub optimal-requires-clause-inside : goal.optimal-requires-clause-inside
optimal-requires-clause-inside c =
    let is : c.args.end ≡ Ok Optimal = search rules in
    let w = c.requires.end in
    subst (λ e. IsWalkEnd w.0 w.1.0 e c.args.self.now) is w.1.1

pub infeasible-requires-clause-blocked : goal.infeasible-requires-clause-blocked
infeasible-requires-clause-blocked c =
    let is : c.args.end ≡ Ok Infeasible = search rules in
    let w = c.requires.end in
    let at = subst (λ e. IsWalkEnd w.0 w.1.0 e c.args.self.now) is w.1.1 in
    at.1

pub returns-in-Ok-Optimal : goal.returns-in-Ok-Optimal
returns-in-Ok-Optimal c =
    let is : c.args.end ≡ Ok Optimal = search rules in
    answer_as c.args.self.now c.args.end (Ok Optimal) is c.optimal.result (optimal_at_end c.args.self.now c.optimal.result c.optimal.ensures)

pub returns-in-Ok-Infeasible : goal.returns-in-Ok-Infeasible
returns-in-Ok-Infeasible c =
    let is : c.args.end ≡ Ok Infeasible = search rules in
    answer_as c.args.self.now c.args.end (Ok Infeasible) is c.infeasible.result (infeasible_at_end c.args.self.now c.infeasible.result c.infeasible.ensures)

pub returns-in-Ok-Pivots : goal.returns-in-Ok-Pivots
returns-in-Ok-Pivots c = λ n limit end.
    let is : c.args.end ≡ Ok Pivots = search rules in
    let at = subst (λ e. IsWalkEnd n limit e c.args.self.now) is end in
    (at.0, (at.1, c.requires.basis))

pub returns-in-Err : goal.returns-in-Err
returns-in-Err c = λ n limit end.
    (end_wide n limit c.args.self.now c.in-Err.step (subst (λ e. IsWalkEnd n limit e c.args.self.now) c.in-Err.is end), c.requires.basis)
