use Rattle.std.proofs.Common.{◌≡◌, ◌<◌, ◌^◌, ◌∙◌, ℕ, sym, ap, subst, arith, get_or}
use Rattle.frac128.specs.Rational.{ℚ}
use Rattle.checked_sum.specs.Steps.{AllFit, IsFirstWide, partial}
use Rattle.basic_solution.specs.Held.{IsSided, table, variables}
use Rattle.basic_solution.specs.Numbers.{IsFirstWideValue}
use Rattle.basic_solution.specs.Standing.{listed_number, listed_variable}
use Rattle.basic_solution.proofs.StandingLemmas.{standing_answer, standing_refusal}
use Rattle.basic_solution.proofs.sided.SidedBasis.standing_value.Goals as goal

pub returns-in-Ok : goal.returns-in-Ok
returns-in-Ok c =
    let s = c.args.self.now in
    let row = c.args.row in
    let places = c.args.places.now in
    let n = c.args.count in
    let columns = ap (λ s. s.tableau.columns) c.self.view_is in
    let activities = ap (λ s. s.tableau.activities) c.self.view_is in
    let few : variables s < 2 ^ 32 = let w = c.columns-few.ensures.lawful.few in omega (arith, w, columns, activities) in
    let a : ℕ → ℚ = λ j. (table s).entry row (get_or places j 0) in
    let x : ℕ → ℚ = listed_number s places in
    let h = subst (λ z. AllFit z a x n × (c.in-Ok.value ≡ partial z a x n)) c.whole.ensures c.in-Ok.ensures in
    standing_answer s (subst IsSided c.self.view_is c.self.invariant) few row places n c.requires.standing c.in-Ok.value h.0 h.1

pub returns-in-Err : goal.returns-in-Err
returns-in-Err c =
    let s = c.args.self.now in
    let row = c.args.row in
    let places = c.args.places.now in
    let n = c.args.count in
    let columns = ap (λ s. s.tableau.columns) c.self.view_is in
    let activities = ap (λ s. s.tableau.activities) c.self.view_is in
    let few : variables s < 2 ^ 32 = let w = c.columns-few.ensures.lawful.few in omega (arith, w, columns, activities) in
    let a : ℕ → ℚ = λ j. (table s).entry row (get_or places j 0) in
    let x : ℕ → ℚ = listed_number s places in
    let turn = c.in-Err.ensures.0 in
    let wide = subst (λ z. IsFirstWide z a x n turn) c.whole.ensures c.in-Err.ensures.1.0 in
    let variable_is : c.nonbasic.result ≡ listed_variable s places c.in-Err.turn = subst (λ t. c.nonbasic.result ≡ (table t).nonbasic (get_or places c.in-Err.turn 0)) c.self.view_is c.nonbasic.ensures.value in
    let same : listed_variable s places turn ≡ c.nonbasic.result = ap (λ t. listed_variable s places t) (sym c.in-Err.ensures.1.1) ∙ sym variable_is in
    c.point_step.ensures (subst (λ v. IsFirstWideValue s row v) same (standing_refusal s (subst IsSided c.self.view_is c.self.invariant) few row places n c.requires.standing turn wide))
