use Rattle.std.specs.Prelude.{length}
use Rattle.std.proofs.Common.{◌∙◌, ap}
use Rattle.std.proofs.lemmas.List.{length-map}
use Rattle.std.proofs.lemmas.Result.{IfOk-weaker, on_ok_weaker}
use Rattle.frac128.specs.Rational.{ℚ, ◌+ℚ◌}
use Rattle.lp_model.specs.declared.types.Col.{Col}
use Rattle.inner_models.specs.Inner.{pull_model}
use Rattle.inner_models.proofs.FittingEdits.{fitting_edits}
use Rattle.front_solver.proofs.Costs.{objective_recosted}
use Rattle.front_solver.proofs.Steps.{solved_before}
use Rattle.front_parts.proofs.PartEdits.{pull_is, cap_fits, second_cap_fits}
use Rattle.front_parts.proofs.parts.solve_pull.Goals as goal

abbrev sum : Col → ℚ
sum c = c.cost +ℚ c.cost2

pub set_objective-requires-clause-all : goal.set_objective-requires-clause-all
set_objective-requires-clause-all g c = ap length c.requires.sums ∙ length-map c.args.base.now.cols sum

pub solve_capped_twice-requires-clause-first : goal.solve_capped_twice-requires-clause-first
solve_capped_twice-requires-clause-first g c =
    let N = c.args.base.now in
    let P = g.S.Solver.program c.set_objective.new.solver in
    cap_fits N P sum (λ d. d.cost) c.args.most1.now c.in-Ok.first (fitting_edits N c.requires.wide c.requires.room) (c.in-Ok-set_objective.ensures.edited sum c.requires.sums) c.in-Ok.ensures

pub solve_capped_twice-requires-clause-second : goal.solve_capped_twice-requires-clause-second
solve_capped_twice-requires-clause-second g c =
    let N = c.args.base.now in
    let P = g.S.Solver.program c.set_objective.new.solver in
    second_cap_fits N P sum (λ d. d.cost) (λ d. d.cost2) c.args.most1.now c.args.most2.now c.in-Ok.first c.in-Ok-second_cap.second (fitting_edits N c.requires.wide c.requires.room) (c.in-Ok-set_objective.ensures.edited sum c.requires.sums) c.in-Ok.ensures c.in-Ok-second_cap.ensures

pub returns-clause-kept : goal.returns-clause-kept
returns-clause-kept g c =
    on_ok_weaker c.solve_capped_twice.result (λ h. objective_recosted c.args.base.now (g.S.Solver.program c.solve_capped_twice.new.solver) sum (h ∙ c.in-Ok-set_objective.ensures.edited sum c.requires.sums)) c.solve_capped_twice.ensures.kept

pub returns-clause-steady : goal.returns-clause-steady
returns-clause-steady g c = on_ok_weaker c.solve_capped_twice.result (λ h M n answer stop. c.in-Ok-set_objective.ensures.steady M n answer (h M n answer stop)) c.solve_capped_twice.ensures.steady

pub returns-clause-solved : goal.returns-clause-solved
returns-clause-solved g c = λ r1 r2 is1 is2.
    let N = c.args.base.now in
    let P = g.S.Solver.program c.set_objective.new.solver in
    let same = pull_is N P c.in-Ok.first c.in-Ok-second_cap.second c.args.most1.now c.args.most2.now r1 r2 (c.in-Ok-set_objective.ensures.edited sum c.requires.sums) c.in-Ok.ensures c.in-Ok-second_cap.ensures is1 is2 in
    IfOk-weaker c.solve_capped_twice.result _ _ (λ s h. solved_before (g.S.Solver.stops c.set_objective.new.solver) (g.S.Solver.stops c.args.solver.now) _ (pull_model N r1 r2) c.args.nodes s c.in-Ok-set_objective.ensures.steady same h) c.solve_capped_twice.ensures.solved
