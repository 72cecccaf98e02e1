use Rattle.std.proofs.Common.{◌∙◌, ap, arith, length}
use Rattle.node_solve.specs.Places.{basis_in_relaxation}
use Rattle.node_solve.specs.private.RoundCode.{task_work}
use Rattle.node_solve.proofs.LiveLemmas.{live-few, places-length}
use Rattle.node_solve.proofs.RoundLemmas.{first_kept}
use Rattle.node_solve.proofs.rounds.Task.first_round.Goals as goal

pub basis_in_relaxation-requires : goal.basis_in_relaxation-requires
basis_in_relaxation-requires c =
    let W = task_work c.args.self.now in
    let count = ap length (c.deref.ensures.value ∙ c.in-Ok.ensures.places) in
    omega (arith, count, places-length 200 0 W.pool, live-few 200 W.pool)

pub returns-clause-first : goal.returns-clause-first
returns-clause-first c =
    let W = task_work c.args.self.now in
    let list = c.in-Ok-basis_in_relaxation.ensures ∙ ap (λ ps. basis_in_relaxation ps W.job.basis) (c.deref.ensures.value ∙ c.in-Ok.ensures.places) in
    λ i. record { cuts = c.in-Ok.ensures.cuts i; places = c.in-Ok.ensures.places i; added = c.new-added.ensures.items i; list = list i }

pub returns-clause-kept : goal.returns-clause-kept
returns-clause-kept c = first_kept (task_work c.args.self.now) c.requires.pool c.in-Ok.ensures.few _ c.in-Ok.ensures.cuts c.in-Ok.ensures.places c.new-added.ensures.items
