use Rattle.std.proofs.Common.{subst, Ok, inl, inr}
use Rattle.table_entries.specs.Relaxation.{multipliers}
use Rattle.dual_simplex.specs.LpStates.{IsLpState}
use Rattle.basic_solution.specs.Held.{relaxation, table}
use Rattle.basic_solution.specs.Lists.{AreMultipliersAnswer, IsWideActivity}
use Rattle.dual_simplex.proofs.SolveLemmas.{optimum}
use Rattle.dual_simplex.proofs.state.LpState.optimal_at.Goals as goal

pub returns-in-Ok-listed : goal.returns-in-Ok-listed
returns-in-Ok-listed c = λ n limit.
    let lawful = subst IsLpState c.self.view_is c.self.invariant.0 in
    let mult = subst (λ s. AreMultipliersAnswer s (multipliers (relaxation s) (table s) (relaxation s).cost) (Ok c.in-Ok-listed.mult)) c.self.view_is
    (subst (λ o. AreMultipliersAnswer c.self.inside.basis (multipliers (relaxation c.self.inside.basis) (table c.self.inside.basis) (relaxation c.self.inside.basis).cost) o) c.in-Ok-listed.is c.in-Ok.ensures) in
    (optimum c.args.self.now lawful.kept lawful.ordered lawful.free c.args.point c.in-Ok-listed.mult c.requires.inside c.requires.point mult.0 mult.1, c.requires.basis)

pub returns-in-Err-listed : goal.returns-in-Err-listed
returns-in-Err-listed c = λ n limit.
    let wide = subst (λ o. AreMultipliersAnswer c.self.inside.basis (multipliers (relaxation c.self.inside.basis) (table c.self.inside.basis) (relaxation c.self.inside.basis).cost) o) c.in-Err-listed.is c.in-Ok.ensures in
    (inr (inr (inl c.requires.inside, subst (λ s. IsWideActivity s c.in-Err-listed.step) c.self.view_is wide)), c.requires.basis)
