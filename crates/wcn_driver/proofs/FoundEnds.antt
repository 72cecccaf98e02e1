-- The outcome of the optimum that a part is solved to, or why there is none, as the ends and the pull have it.
use Rattle.std.specs.Prelude.{ℕ, ◌-◌, ◌≤◌, ℤ, pos, true, All, Ok}
use Rattle.std.proofs.Common.{sym, subst, inl, inr}
use Rattle.lp_model.specs.Program.{Program, Point, IsFeasible}
use Rattle.search_answers.specs.declared.answers.Answer.{Answer}
use Rattle.model_points.specs.Answers.{IsFeasibilityAnswer}
use Rattle.frontier.specs.declared.outcomes.Outcome.{Outcome}
use Rattle.frontier.specs.Outcomes.{HasOutcome}
use Rattle.inner_models.specs.Inner.{left_model, right_model, pull_model}
use Rattle.front_sweeps.specs.Steps.{IsBase}
use Rattle.front_solver.specs.declared.solved.Solved.{Solved}
use Rattle.front_solver.specs.Solved.{HasSolved}
use Rattle.front_parts.specs.Sums.{HasCostSum}
use Rattle.wcn_driver.specs.declared.answers.Part.TheVariants.{Left, Right, Pull}
use Rattle.wcn_driver.specs.declared.task.Task.{Task}
use Rattle.wcn_driver.specs.declared.settling.Optimum.{Optimum}
use Rattle.wcn_driver.specs.declared.settling.Halt.{Halt}
use Rattle.wcn_driver.specs.declared.ends.PartFound.{PartFound}
use Rattle.wcn_driver.specs.Parts.{IsLeastFeasibleValue}
use Rattle.wcn_driver.specs.private.Settled.{IsOptimumOf, IsHalt}
use Rattle.wcn_driver.specs.private.Ends.{IsLeftEnd, IsRightEnd, IsSettledFound, IsSettledHalt}
use Rattle.wcn_driver.specs.private.Gaps.{IsPulled}
use Rattle.wcn_driver.proofs.EndSteps.{left_feasible, left_found, right_feasible, right_found}
use Rattle.wcn_driver.proofs.EndHalts.{left_halt, right_halt}
use Rattle.wcn_driver.proofs.GapEnds.{pull_feasible, pull_halt}
use Rattle.wcn_driver.proofs.JudgedPoints.{left_judged, right_judged, pull_judged}
use Rattle.wcn_driver.proofs.SettledParts.{optimum_of, halt_of}

module _ (stops : Program → ℕ → Answer → Type 0) (g : Task) (base : IsBase g.base) (before : ℕ) (s : Solved) (within : before ≤ g.nodes) where
  module _ (i1 : ℤ) (least : IsLeastFeasibleValue g.base 1 i1) (is : HasSolved stops (left_model g.base i1) (g.nodes - before) s) where
    pub left_judges : (o : Optimum) → IsOptimumOf before s o → IsFeasibilityAnswer g.base o.point (Ok true)
    left_judges o h =
        let p = optimum_of stops (left_model g.base i1) g.nodes before s is within o h in
        left_judged g.base o.point (left_feasible g.base g.constant1 g.constant2 base i1 least o.point p.optimum) i1 p.judged

    pub left_ends : (f : PartFound) → IsSettledFound g before s f → IsLeftEnd g i1 f
    left_ends f h =
        let p = optimum_of stops (left_model g.base i1) g.nodes before s is within h.optimum h.answered in
        let shown = left_found g.base g.constant1 g.constant2 base i1 least h.optimum.point f.found p.optimum h.found in
        record { found = shown.0; first = shown.1; within = subst (λ (n : ℕ). n ≤ g.nodes) (sym h.results) p.within }

    pub left_halts : (halt : Halt) → IsSettledHalt g before s halt → IsHalt stops g.base g.nodes g.constant1 g.constant2 i1 (pos 0) Left halt
    left_halts halt (inl h) = halt_of stops g.base g.nodes before g.constant1 g.constant2 i1 (pos 0) Left s is within halt h
    left_halts halt (inr h) =
        left_halt stops g.base g.nodes g.constant1 g.constant2 i1 (pos 0) h.0.point (optimum_of stops (left_model g.base i1) g.nodes before s is within h.0 h.1.0).optimum halt h.1.1

  module _ (i2 : ℤ) (least : IsLeastFeasibleValue g.base 2 i2) (is : HasSolved stops (right_model g.base i2) (g.nodes - before) s) where
    pub right_judges : (o : Optimum) → IsOptimumOf before s o → IsFeasibilityAnswer g.base o.point (Ok true)
    right_judges o h =
        let p = optimum_of stops (right_model g.base i2) g.nodes before s is within o h in
        right_judged g.base o.point (right_feasible g.base g.constant1 g.constant2 base i2 least o.point p.optimum) i2 p.judged

    pub right_ends : (f : PartFound) → IsSettledFound g before s f → IsRightEnd g i2 f
    right_ends f h =
        let p = optimum_of stops (right_model g.base i2) g.nodes before s is within h.optimum h.answered in
        let shown = right_found g.base g.constant1 g.constant2 base i2 least h.optimum.point f.found p.optimum h.found in
        record { found = shown.0; second = shown.1; within = subst (λ (n : ℕ). n ≤ g.nodes) (sym h.results) p.within }

    pub right_halts : (halt : Halt) → IsSettledHalt g before s halt → IsHalt stops g.base g.nodes g.constant1 g.constant2 (pos 0) i2 Right halt
    right_halts halt (inl h) = halt_of stops g.base g.nodes before g.constant1 g.constant2 (pos 0) i2 Right s is within halt h
    right_halts halt (inr h) =
        right_halt stops g.base g.nodes g.constant1 g.constant2 (pos 0) i2 h.0.point (optimum_of stops (right_model g.base i2) g.nodes before s is within h.0 h.1.0).optimum halt h.1.1

  module _ (r : Outcome) (x : Point) (feasible : IsFeasible g.base x) (has : HasOutcome g.base x r) (is : HasSolved stops (pull_model g.base r.f1 r.f2) (g.nodes - before) s) where
    pub pull_judges : (o : Optimum) → IsOptimumOf before s o → IsFeasibilityAnswer g.base o.point (Ok true)
    pull_judges o h =
        let p = optimum_of stops (pull_model g.base r.f1 r.f2) g.nodes before s is within o h in
        pull_judged g.base o.point (pull_feasible g.base base r x feasible has o.point p.optimum) r.f1 r.f2 p.judged

    pub pull_ends : (f : PartFound) → IsSettledFound g before s f → IsPulled g r f
    pull_ends f h =
        let p = optimum_of stops (pull_model g.base r.f1 r.f2) g.nodes before s is within h.optimum h.answered in
        record { point = h.optimum.point; optimum = p.optimum; found = h.found; within = subst (λ (n : ℕ). n ≤ g.nodes) (sym h.results) p.within }

    pub pull_halts : All HasCostSum g.base.cols → (i1 i2 : ℤ) (halt : Halt) → IsSettledHalt g before s halt → IsHalt stops g.base g.nodes g.constant1 g.constant2 i1 i2 (Pull r) halt
    pull_halts sums i1 i2 halt (inl h) = halt_of stops g.base g.nodes before g.constant1 g.constant2 i1 i2 (Pull r) s is within halt h
    pull_halts sums i1 i2 halt (inr h) =
        pull_halt stops g.base g.nodes g.constant1 g.constant2 i1 i2 r h.0.point sums (optimum_of stops (pull_model g.base r.f1 r.f2) g.nodes before s is within h.0 h.1.0).optimum halt h.1.1
