use Rattle.std.proofs.Common.{◌<◌, sym, subst, IfOk}
use Rattle.table_entries.specs.Relaxation.{multipliers}
use Rattle.table_entries.specs.States.{farkas_weights}
use Rattle.dual_simplex.specs.LpStates.{IsLpState}
use Rattle.basic_solution.specs.Held.{relaxation, state, table}
use Rattle.basic_solution.specs.Lists.{AreListedMultipliers, AreMultipliersAnswer}
use Rattle.dual_simplex.proofs.SolveLemmas.{infeasible_of_lists}
use Rattle.dual_simplex.proofs.state.LpState.infeasible_by.Goals as goal

pub farkas_list-farkas-requires : goal.farkas_list-farkas-requires
farkas_list-farkas-requires c = subst (λ s. c.args.row < s.tableau.activities) (sym c.self.view_is) c.requires.out.within

pub returns : goal.returns
returns c =
    let row = c.args.row in
    let side = c.args.side in
    let farkas = c.farkas_list-farkas.result in
    let mult = c.multiplier_list-mult.result in
    infeasible_of_lists c.args.self.now (subst IsLpState c.self.view_is c.self.invariant.0) c.requires.blocked row side c.requires.out c.requires.values farkas mult c.args.basis c.requires.basis
    (subst (λ s. IfOk farkas (AreListedMultipliers s (farkas_weights (relaxation s) (state s) row side))) c.self.view_is c.farkas_list-farkas.ensures)
    (subst (λ s. IfOk mult (AreMultipliersAnswer s (multipliers (relaxation s) (table s) (relaxation s).cost))) c.self.view_is c.multiplier_list-mult.ensures)
    c.infeasible_with.result c.infeasible_with.ensures
