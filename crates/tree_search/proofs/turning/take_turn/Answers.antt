use Rattle.std.specs.Prelude.{◌<◌, length}
use Rattle.std.proofs.Common.{sym, subst, ap, ◌∙◌}
use Rattle.turn_order.specs.Turns.{SomeCanAct, IsNextTurn}
use Rattle.tree_search.specs.Turns.{jobs_on}
use Rattle.tree_search.specs.private.Stepping.{Hands}
use Rattle.tree_search.proofs.CrewLemmas.{some-acts}
use Rattle.tree_search.proofs.TurnLemmas.{hands-turn, works-turn, leaves-turn}
use Rattle.tree_search.proofs.turning.take_turn.Goals as goal

pub whose_turn-worker-requires : goal.whose_turn-worker-requires
whose_turn-worker-requires c =
    let P = c.args.manager.now in
    subst (SomeCanAct c.has_free_leaf-free.result) (sym c.held.ensures.held) (some-acts P.search P.held c.has_free_leaf-free.result c.show_manager.ensures.manager.held.some c.requires.left c.has_free_leaf-free.ensures)

pub returns-in-Ok-clause-turned : goal.returns-in-Ok-clause-turned
returns-in-Ok-clause-turned c =
    let P = c.args.manager.now in
    let jobs = c.args.jobs.now.items in
    let w = c.whose_turn-worker.result in
    let left = c.whose_turn-worker.new.words in
    let turn = subst (λ l. IsNextTurn c.args.words.now c.has_free_leaf-free.result l w left) c.held.ensures.held c.whose_turn-worker.ensures.turn in
    let within = subst (λ l. w < length l) c.held.ensures.held c.whose_turn-worker.ensures.within in
    hands-turn P jobs c.args.words.now left c.requires.jobs c.has_free_leaf-free.result c.has_free_leaf-free.ensures w turn within c.hand_out.new.manager c.hand_out.new.jobs.items
    (sym c.take_job.ensures.job ∙ c.in-None.is) (subst (λ l. Hands w P l c.hand_out.new.manager c.hand_out.new.jobs.items) c.take_job.ensures.rest c.in-Ok.ensures.hands)

pub returns-in-Ok-step-clause-turned : goal.returns-in-Ok-step-clause-turned
returns-in-Ok-step-clause-turned c =
    let P = c.args.manager.now in
    let jobs = c.args.jobs.now.items in
    let w = c.whose_turn-worker.result in
    let left = c.whose_turn-worker.new.words in
    let turn = subst (λ l. IsNextTurn c.args.words.now c.has_free_leaf-free.result l w left) c.held.ensures.held c.whose_turn-worker.ensures.turn in
    let within = subst (λ l. w < length l) c.held.ensures.held c.whose_turn-worker.ensures.within in
    works-turn P jobs c.args.words.now left c.requires.jobs c.has_free_leaf-free.result c.has_free_leaf-free.ensures w turn within c.step.new.manager c.keep_jobs.new.jobs.items c.args.working.now c.in-Some.job
    (sym c.take_job.ensures.job ∙ c.in-Some.is) c.in-Ok-step.stepped c.in-Ok-step.ensures.steps c.in-Ok-step.ensures.held
    (c.keep_jobs.ensures ∙ ap (λ l. jobs_on c.step.new.manager.search l) c.take_job.ensures.rest)

pub returns-in-Err-step-clause-leaves : goal.returns-in-Err-step-clause-leaves
returns-in-Err-step-clause-leaves c =
    let P = c.args.manager.now in
    let jobs = c.args.jobs.now.items in
    let w = c.whose_turn-worker.result in
    let left = c.whose_turn-worker.new.words in
    let turn = subst (λ l. IsNextTurn c.args.words.now c.has_free_leaf-free.result l w left) c.held.ensures.held c.whose_turn-worker.ensures.turn in
    let within = subst (λ l. w < length l) c.held.ensures.held c.whose_turn-worker.ensures.within in
    leaves-turn P jobs c.args.words.now left c.requires.jobs c.has_free_leaf-free.result c.has_free_leaf-free.ensures w turn within c.args.working.now c.in-Some.job (sym c.take_job.ensures.job ∙ c.in-Some.is) c.step.new.manager.search
    c.in-Err-step.ensures.leaves
