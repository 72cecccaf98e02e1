use Rattle.std.specs.Prelude.{ℕ, ◌-◌, ◌≤◌}
use Rattle.std.proofs.Common.{sym, ap, subst}
use Rattle.lp_model.specs.Program.{Program}
use Rattle.search_answers.specs.declared.answers.Answer.{Answer}
use Rattle.tree_search.specs.declared.limits.Limits.{Limits}
use Rattle.front_solver.specs.Truth.{IsTrueOf, IsStop}
use Rattle.front_env.specs.FrontEnvs.{PlainFrontEnv, program_in, program_of, with_results, behind, IsStopBy, IsStopBehind}
use Rattle.front_env.proofs.Behind.{behind_true, stopped_behind}
use Rattle.front_env.proofs.front_env.FrontEnvSolver.solve.Goals as goal

pub go_on-requires-clause-plain : goal.go_on-requires-clause-plain
go_on-requires-clause-plain c = ap (λ (l : Limits). l.gap) c.with_results-limits.ensures

pub solved_anew-answer-requires-clause-plain : goal.solved_anew-answer-requires-clause-plain
solved_anew-answer-requires-clause-plain c = ap (λ (l : Limits). l.gap) c.with_results-rest.ensures

pub returns-in-Stopped-clause-true_of : goal.returns-in-Stopped-clause-true_of
returns-in-Stopped-clause-true_of c =
    let n = c.args.nodes in
    let before = c.in-Stopped.results in
    let answer = c.solved_anew-answer.result in
    let M = program_in c.go_on.new.env.search in
    let few = subst (λ (m : ℕ). before ≤ m) (ap (λ (l : Limits). l.nodes) c.with_results-limits.ensures) c.in-Stopped.ensures.end in
    let truth = subst (λ (m : ℕ). IsTrueOf M m answer) (ap (λ (l : Limits). l.nodes) c.with_results-rest.ensures) c.solved_anew-answer.ensures.true_of in
    subst (λ (a : Answer). IsTrueOf (program_in c.solved_anew-answer.new.env.search) n a) (sym c.behind.ensures)
    (subst (λ (P : Program). IsTrueOf P n (behind before answer)) (sym c.solved_anew-answer.ensures.program) (behind_true M n before answer few truth))

pub returns-in-Stopped-clause-stopped : goal.returns-in-Stopped-clause-stopped
returns-in-Stopped-clause-stopped c =
    let i = c.self.inside in
    let n = c.args.nodes in
    let before = c.in-Stopped.results in
    let answer = c.solved_anew-answer.result in
    let few = subst (λ (m : ℕ). before ≤ m) (ap (λ (l : Limits). l.nodes) c.with_results-limits.ensures) c.in-Stopped.ensures.end in
    let stopped =
    subst (λ (P : Program). IsStop answer → IsStopBy (with_results i.limits (n - before)) P answer) c.go_on.ensures.program
    (subst (λ (l : Limits). IsStop answer → IsStopBy l (program_in c.go_on.new.env.search) answer) c.with_results-rest.ensures c.solved_anew-answer.ensures.stopped) in
    subst (λ (e : PlainFrontEnv). IsStop c.behind.result → IsStopBehind e.limits (program_of e) n c.behind.result) c.self.view_is
    (subst (λ (a : Answer). IsStop a → IsStopBehind i.limits (program_in i.env.search) n a) (sym c.behind.ensures) (stopped_behind i.limits (program_in i.env.search) n before answer few stopped))
