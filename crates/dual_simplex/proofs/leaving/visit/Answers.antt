use Rattle.std.proofs.Common.{◌≡◌, ◌∙◌, sym, subst, Ok}
use Rattle.basic_solution.specs.Held.{variables}
use Rattle.basic_solution.specs.Numbers.{ValueFits, IsInside, IsRowBreach}
use Rattle.dual_simplex.proofs.leaving.visit.Goals as goal

pub returns-in-Err : goal.returns-in-Err
returns-in-Err c = (c.in-Row.row, (c.in-Row.ensures.0, (c.in-Row.ensures.1, c.in-Err.ensures)))

-- the row that was looked at is the only one of the variable
pub returns-in-Ok-None : goal.returns-in-Ok-None
returns-in-Ok-None c = λ row within is.
    let now = c.args.state.now in
    let here = c.in-Row.row in
    let same : here ≡ row = c.columns-sided.ensures.sided.table.arranged.basic_once here row c.in-Row.ensures.0 within (c.in-Row.ensures.1 ∙ sym is) in
    subst (λ r. ValueFits now r (variables now) × IsInside now r) same (subst (λ o. IsRowBreach now here (Ok o)) c.in-Ok-None.field-0-is c.in-Ok-None.ensures)

pub returns-in-Ok-Some : goal.returns-in-Ok-Some
returns-in-Ok-Some c = (c.in-Row.ensures.0, (c.in-Row.ensures.1, subst (λ o. IsRowBreach c.args.state.now c.in-Row.row (Ok o)) c.in-Ok-Some.field-0-is c.in-Ok-Some.ensures))
