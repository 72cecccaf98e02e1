use Rattle.std.proofs.Common.{◌∙◌, sym, subst, Some, None, Ok, Err, inl, inr}
use Rattle.table_entries.specs.Steps.{ExchangeFits}
use Rattle.row_tableau.specs.Answers.{IsWidePivot}
use Rattle.basic_solution.specs.Held.{table}
use Rattle.basic_solution.specs.Exchanges.{IsMove}
use Rattle.dual_simplex.specs.Answers.{IsFirstOut}
use Rattle.dual_simplex.specs.private.Answers.{IsLeaving, IsEntering}
use Rattle.dual_simplex.proofs.StepLemmas.{blocked_of, wide_entering, entered_of, wide_exchange, moved_of}
use Rattle.dual_simplex.proofs.state.LpState.step.Goals as goal

pub entering-requires : goal.entering-requires
entering-requires c =
    let leaving = c.in-Ok-Some.leaving in
    let out = subst (λ o. IsLeaving c.args.self.now (Ok o)) c.in-Ok-Some.field-0-is c.in-Ok-Some.ensures.leaving in
    subst (λ s. IsFirstOut s leaving.row leaving.side) (sym c.next_leaving.ensures.kept) out.0

pub move_to-requires-clause-out : goal.move_to-requires-clause-out
move_to-requires-clause-out c =
    let leaving = c.in-Ok-Some.leaving in
    let out = subst (λ o. IsLeaving c.args.self.now (Ok o)) c.in-Ok-Some.field-0-is c.in-Ok-Some.ensures.leaving in
    subst (λ s. IsFirstOut s leaving.row leaving.side) (sym c.next_leaving.ensures.kept) out.0

pub move_to-requires-clause-enters : goal.move_to-requires-clause-enters
move_to-requires-clause-enters c =
    let s = c.next_leaving.new.self in
    let leaving = c.in-Ok-Some.leaving in
    let out = subst (λ s. IsLeaving s (Ok (Some leaving))) (sym c.next_leaving.ensures.kept) (subst (λ o. IsLeaving c.args.self.now (Ok o)) c.in-Ok-Some.field-0-is c.in-Ok-Some.ensures.leaving) in
    entered_of s leaving out c.in-Ok-Some-entering.place (subst (λ o. IsEntering s leaving.row leaving.side s.tableau.columns (Ok o)) c.in-Ok-Some-entering.field-0-is c.in-Ok-Some-entering.ensures)

pub returns-in-Err : goal.returns-in-Err
returns-in-Err c = (inl c.in-Err.ensures.leaving, c.next_leaving.ensures.kept)

pub returns-in-Ok-None : goal.returns-in-Ok-None
returns-in-Ok-None c = (subst (λ o. IsLeaving c.args.self.now (Ok o)) c.in-Ok-None.field-0-is c.in-Ok-None.ensures.leaving, c.next_leaving.ensures.kept)

pub returns-in-Err-entering : goal.returns-in-Err-entering
returns-in-Err-entering c =
    let s = c.args.self.now in
    let kept = c.next_leaving.ensures.kept in
    let leaving = c.in-Ok-Some.leaving in
    let out = subst (λ o. IsLeaving s (Ok o)) c.in-Ok-Some.field-0-is c.in-Ok-Some.ensures.leaving in
    (inr (wide_entering s leaving out c.in-Err-entering.step (subst (λ t. IsEntering t leaving.row leaving.side t.tableau.columns (Err c.in-Err-entering.step)) kept c.in-Err-entering.ensures)), kept)

pub returns-in-Ok-None-entering : goal.returns-in-Ok-None-entering
returns-in-Ok-None-entering c =
    let s = c.args.self.now in
    let kept = c.next_leaving.ensures.kept in
    let leaving = c.in-Ok-Some.leaving in
    let out = subst (λ o. IsLeaving s (Ok o)) c.in-Ok-Some.field-0-is c.in-Ok-Some.ensures.leaving in
    let now = c.next_leaving.new.self in
    let entering = subst (λ o. IsEntering now leaving.row leaving.side now.tableau.columns (Ok o)) c.in-Ok-None-entering.field-0-is c.in-Ok-None-entering.ensures in
    (blocked_of s leaving out (subst (λ t. IsEntering t leaving.row leaving.side t.tableau.columns (Ok None)) kept entering), kept)

pub returns-in-Ok : goal.returns-in-Ok
returns-in-Ok c =
    let s = c.args.self.now in
    let kept = c.next_leaving.ensures.kept in
    let leaving = c.in-Ok-Some.leaving in
    let place = c.in-Ok-Some-entering.place in
    let out = subst (λ o. IsLeaving s (Ok o)) c.in-Ok-Some.field-0-is c.in-Ok-Some.ensures.leaving in
    let now = c.next_leaving.new.self in
    let entering = subst (λ o. IsEntering now leaving.row leaving.side now.tableau.columns (Ok o)) c.in-Ok-Some-entering.field-0-is c.in-Ok-Some-entering.ensures in
    moved_of s leaving out place (subst (λ t. IsEntering t leaving.row leaving.side t.tableau.columns (Ok (Some place))) kept entering) c.move_to.new.self
    (subst (λ t. IsMove t c.move_to.new.self leaving.row leaving.side place) kept c.in-Ok.ensures.moved)
    (subst (λ t. ExchangeFits t.tableau.columns t.tableau.activities (table t) leaving.row place) kept c.in-Ok.ensures.fits) c.in-Ok.ensures.full

pub returns-in-Err-move_to : goal.returns-in-Err-move_to
returns-in-Err-move_to c =
    let s = c.args.self.now in
    let kept = c.next_leaving.ensures.kept in
    let leaving = c.in-Ok-Some.leaving in
    let place = c.in-Ok-Some-entering.place in
    let out = subst (λ o. IsLeaving s (Ok o)) c.in-Ok-Some.field-0-is c.in-Ok-Some.ensures.leaving in
    let now = c.next_leaving.new.self in
    let entering = subst (λ o. IsEntering now leaving.row leaving.side now.tableau.columns (Ok o)) c.in-Ok-Some-entering.field-0-is c.in-Ok-Some-entering.ensures in (
      inr (wide_exchange s leaving out place (subst (λ t. IsEntering t leaving.row leaving.side t.tableau.columns (Ok (Some place))) kept entering) c.in-Err-move_to.step (subst (λ t. IsWidePivot t.tableau leaving.row place c.in-Err-move_to.step) kept c.in-Err-move_to.ensures.wide)),
      c.in-Err-move_to.ensures.kept ∙ kept,
    )
