use Rattle.std.specs.Prelude.{◌≡◌, ◌≤◌, List, length, take}
use Rattle.std.proofs.Common.{◌∙◌, ap, refl, sym, subst}
use Rattle.lp_model.specs.Program.{Point, IsFeasible}
use Rattle.lp_model.specs.declared.types.Col.{Col}
use Rattle.wcn_driver.specs.Answers.{HasNarrowOutcome, IsWideOutcome}
use Rattle.wcn_driver.proofs.gaps.held_outcome.Goals as goal

pub first_numbers-requires : goal.first_numbers-requires
first_numbers-requires c = subst (λ (l : List Col). length l ≤ length c.args.point.now) (sym c.cols-cols.ensures.items) c.requires.long

pub outcome_at-outcome-requires-clause-feasible : goal.outcome_at-outcome-requires-clause-feasible
outcome_at-outcome-requires-clause-feasible c =
    let t = c.args.task.now in
    let x = c.args.point.now in
    let is : c.in-Ok.front ≡ take (length t.base.cols) x = c.in-Ok.ensures ∙ ap (λ (l : List Col). take (length l) x) c.cols-cols.ensures.items in
    subst (IsFeasible t.base) (sym is) c.requires.feasible

pub returns-in-Some-clause-has : goal.returns-in-Some-clause-has
returns-in-Some-clause-has c =
    let t = c.args.task.now in
    let x = c.args.point.now in
    let is : c.in-Ok.front ≡ take (length t.base.cols) x = c.in-Ok.ensures ∙ ap (λ (l : List Col). take (length l) x) c.cols-cols.ensures.items in
    subst (λ (y : Point). HasNarrowOutcome t.base t.constant1 t.constant2 y c.in-Some.outcome) is c.in-Some.ensures.has

pub returns-in-None-clause-halt : goal.returns-in-None-clause-halt
returns-in-None-clause-halt c =
    let t = c.args.task.now in
    let x = c.args.point.now in
    let is : c.in-Ok.front ≡ take (length t.base.cols) x = c.in-Ok.ensures ∙ ap (λ (l : List Col). take (length l) x) c.cols-cols.ensures.items in
    (refl, subst (IsWideOutcome t.base t.constant1 t.constant2) is c.in-None.ensures)
