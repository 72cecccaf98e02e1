use Rattle.std.proofs.Common.{refl, ◌≡◌, ◌≤◌, ◌∙◌, subst, ap, arith, length, Ok, Err}
use Rattle.row_tableau.specs.Dense.{table_of}
use Rattle.basic_solution.specs.Held.{IsSided, relaxation, table, variables}
use Rattle.basic_solution.specs.RowTotals.{AreFreeFrom}
use Rattle.basic_solution.proofs.PointLemmas.{cost_answer, cost_refusal}
use Rattle.basic_solution.proofs.RowTotalLemmas.{saved}
use Rattle.basic_solution.proofs.TurnedLemmas.{turned_up}
use Rattle.basic_solution.proofs.sided.SidedBasis.cost_by_terms.Goals as goal

pub returns-in-Ok : goal.returns-in-Ok
returns-in-Ok c =
    let s = c.args.self.now in
    let same = ap (λ s. s.tableau) c.self.view_is in
    let sided = subst IsSided c.self.view_is c.self.invariant in
    let costs_are = ap (λ s. s.cost) c.self.view_is in
    let end = c.end-end.result in
    let within : end ≤ variables s = let w = c.end-end.ensures.within in let e = ap length costs_are in let l = sided.shape.cost_length in omega (arith, w, e, l) in
    let free = subst (λ xs. AreFreeFrom xs end) costs_are c.end-end.ensures.free in
    let variable_is = subst (λ t. c.nonbasic-variable.result ≡ (table_of t).nonbasic c.args.place) same c.nonbasic-variable.ensures.value in
    cost_answer s sided c.args.place c.cost_of.result c.in-Ok.cost (c.cost_of.ensures ∙ ap (relaxation s).cost variable_is)
    (turned_up c.cost_of.result (relaxation s).cost (saved s c.args.place) end (variables s) within free (Ok c.in-Ok.cost) c.in-Ok.ensures)

pub returns-in-Err : goal.returns-in-Err
returns-in-Err c =
    let s = c.args.self.now in
    let same = ap (λ s. s.tableau) c.self.view_is in
    let sided = subst IsSided c.self.view_is c.self.invariant in
    let costs_are = ap (λ s. s.cost) c.self.view_is in
    let end = c.end-end.result in
    let within : end ≤ variables s = let w = c.end-end.ensures.within in let e = ap length costs_are in let l = sided.shape.cost_length in omega (arith, w, e, l) in
    let free = subst (λ xs. AreFreeFrom xs end) costs_are c.end-end.ensures.free in
    let variable_is = subst (λ t. c.nonbasic-variable.result ≡ (table_of t).nonbasic c.args.place) same c.nonbasic-variable.ensures.value in
    let named = cost_refusal s sided c.args.place ((table s).nonbasic c.args.place) c.in-Err.basic c.in-Err.basic c.cost_of.result (c.cost_of.ensures ∙ ap (relaxation s).cost variable_is) c.requires refl refl
    (turned_up c.cost_of.result (relaxation s).cost (saved s c.args.place) end (variables s) within free (Err c.in-Err.basic) c.in-Err.ensures) in
    c.cost_step.ensures named.first
