use Rattle.std.proofs.Common.{subst, inl}
use Rattle.ray_phase.specs.private.Answers.{IsRunTo}
use Rattle.ray_phase.proofs.DirectionLemmas.{run_state, never_infeasible, answered, wide_end}
use Rattle.ray_phase.proofs.phase.answer_of.Goals as goal

pub judged-requires-clause-directions : goal.judged-requires-clause-directions
judged-requires-clause-directions c = run_state c.args.model.now c.requires.0 c.args.end c.args.state.now c.requires.1

pub judged-requires-clause-best : goal.judged-requires-clause-best
judged-requires-clause-best c =
    let run = subst (λ e. IsRunTo c.args.model.now c.requires.0 e c.args.state.now) c.in-Optimal.is c.requires.1 in
    (c.in-Optimal.mult, run.solved.1.1.1.0)

pub judged-requires-clause-basis : goal.judged-requires-clause-basis
judged-requires-clause-basis c =
    let run = subst (λ e. IsRunTo c.args.model.now c.requires.0 e c.args.state.now) c.in-Optimal.is c.requires.1 in
    run.solved.1.1.1.1

pub returns-in-Optimal : goal.returns-in-Optimal
returns-in-Optimal c = λ limit run.
    answered c.args.model.now limit run.start c.args.state.now run.start_is run.solved.0 run.solved.1.0 run.solved.1.1.0 c.judged.result c.judged.ensures

pub unreachable-requires : goal.unreachable-requires
unreachable-requires c =
    let M = c.args.model.now in
    let s = c.args.state.now in
    let run = subst (λ e. IsRunTo M c.requires.0 e s) c.in-Infeasible.is c.requires.1 in
    let start = run.start_is in
    never_infeasible M start.0 start.1.0 s (run.relaxation start.0 start.1.1.0.is) _ run.solved.1.1.1.1.0.empty

pub returns-in-Pivots : goal.returns-in-Pivots
returns-in-Pivots c = λ limit before.
    let run = subst (λ e. IsRunTo c.args.model.now limit e c.args.state.now) c.in-Pivots.is before in
    (run.start, (c.args.state.now, (run.start_is, (run.solved.0, (run.solved.1.0, (run.solved.1.1.0, run.solved.1.1.1))))))

pub returns-in-Wide : goal.returns-in-Wide
returns-in-Wide c = λ limit before.
    let M = c.args.model.now in
    let s = c.args.state.now in
    let run = subst (λ e. IsRunTo M limit e s) c.in-Wide.is before in
    let end = wide_end M run.solved.0 limit s c.in-Wide.step c.in-Wide.basis (inl run.solved.1.1.1.0) run.solved.1.1.1.1 c.wide_at.result c.wide_at.ensures in
    (run.start, (s, (run.start_is, (run.solved.0, (run.solved.1.0, (run.solved.1.1.0, end))))))
