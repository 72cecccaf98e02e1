use Rattle.std.specs.Prelude.{◌↔◌, length, replicate, IsTrue, IsSome, None}
use Rattle.lp_model.specs.Program.{Program, HasWholeObjective}
use Rattle.std.proofs.Common.{refl, sym, ap, subst, ◌∙◌}
use Rattle.std.proofs.lemmas.Bool.{false≢true}
use Rattle.std.proofs.lemmas.List.{length-replicate}
use Rattle.sound_searches.specs.Sound.{PlainSearch}
use Rattle.tree_search.specs.Solves.{turn_order_of}
use Rattle.tree_search.specs.private.Stepping.{IsTurned, Comes}
use Rattle.tree_search.proofs.TurnLemmas.{hands-smaller, works-smaller}
use Rattle.tree_search.specs.declared.turning.Turned.TheVariants.{HasWorked}
use Rattle.tree_search.proofs.GoesLemmas.{begins, gives-up, gives-none, hands-on, goes-on, at-limit, ends-within, done-gap, finishes, finds-point, stops}
use Rattle.tree_search.proofs.StepLemmas.{first-next, next-open_leaf, no-leaf_open, open-left}
use Rattle.tree_search.proofs.searching.go_on.Goals as goal

pub loop-first-init : goal.loop-first-init
loop-first-init c =
    let order = turn_order_of c.args.limits.now in
    let count = ap length (c.held.ensures.held ∙ c.requires.idle) ∙ length-replicate c.args.limits.now.workers None in
    begins c.args.working.now order c.args.limits.now.nodes c.args.manager.now.search c.args.manager.now c.in-Ok.jobs.items c.words_of-words.result refl c.requires.ready c.requires.idle
    (c.in-Ok.ensures ∙ ap (λ n. replicate n None) count) c.words_of-words.ensures

pub returns-in-Err-clause-unfinished : goal.returns-in-Err-clause-unfinished
returns-in-Err-clause-unfinished c = gives-none c.args.working.now (turn_order_of c.args.limits.now) c.args.limits.now.nodes c.args.manager.now c.show_manager.ensures.sound c.requires.ready c.requires.idle

pub is_within-requires-clause-whole : goal.is_within-requires-clause-whole
is_within-requires-clause-whole c =
    subst (λ (M : Program). IsTrue c.has_whole_objective-whole.result ↔ HasWholeObjective M 1) (c.model.ensures ∙ ap (λ (S : PlainSearch). S.model) c.search.ensures.search ∙ sym c.loop-first.invariant.model)
    c.has_whole_objective-whole.ensures

pub end_within-requires : goal.end_within-requires
end_within-requires c =
    let given = done-gap c.args.working.now.ways c.args.limits.now.gap c.loop-first.manager.search (c.is_within.ensures.0 c.if-is_within.true) in
    subst IsSome (sym given.1) refl

pub returns-then-is_within-clause-comes : goal.returns-then-is_within-clause-comes
returns-then-is_within-clause-comes c =
    let order = turn_order_of c.args.limits.now in
    let done = c.is_within.ensures.0 c.if-is_within.true in
    let (g, asked) = done-gap c.args.working.now.ways c.args.limits.now.gap c.loop-first.manager.search done in
    subst (Comes c.args.working.now order c.args.limits.now.nodes c.args.manager.now.search c.loop-first.manager.search) (sym (c.ended_with.ensures ∙ ap (λ e. record { ended = e; results = c.loop-first.results }) (c.end_within.ensures g asked)))
    (ends-within c.args.working.now order c.args.limits.now.nodes c.args.manager.now.search c.loop-first.results c.loop-first.manager c.loop-first.jobs.items c.loop-first.words c.loop-first.invariant g asked done c.show_manager-in-Some.ensures.sound)

pub take_turn-requires-clause-left : goal.take_turn-requires-clause-left
take_turn-requires-clause-left c = open-left c.loop-first.manager.search (next-open_leaf c.loop-first.manager.search c.in-Some.first.id c.show_manager-in-Some.ensures.numbered (first-next c.loop-first.manager.search c.in-Some.first c.in-Some.ensures))

pub returns-in-Err-take_turn-clause-unfinished : goal.returns-in-Err-take_turn-clause-unfinished
returns-in-Err-take_turn-clause-unfinished c = gives-up c.args.working.now (turn_order_of c.args.limits.now) c.args.limits.now.nodes c.args.manager.now.search c.loop-first.results c.loop-first.manager c.loop-first.jobs.items c.loop-first.words c.loop-first.invariant
    (λ done. false≢true (sym c.if-is_within.false ∙ c.is_within.ensures.1 done)) c.take_turn.new.manager.search c.show_manager-in-Some.ensures.sound c.if-results-limits.false c.in-Err-take_turn.ensures.leaves

pub loop-first-preserved-in-HandedOut : goal.loop-first-preserved-in-HandedOut
loop-first-preserved-in-HandedOut c = hands-on c.args.working.now (turn_order_of c.args.limits.now) c.args.limits.now.nodes c.args.manager.now.search c.loop-first.results c.loop-first.manager c.loop-first.jobs.items c.loop-first.words c.loop-first.invariant (λ done. false≢true (sym c.if-is_within.false ∙ c.is_within.ensures.1 done)) c.take_turn.new.manager c.take_turn.new.jobs.items c.take_turn.new.words (subst (λ t. IsTurned c.args.working.now c.loop-first.manager c.loop-first.jobs.items c.loop-first.words t c.take_turn.new.manager c.take_turn.new.jobs.items c.take_turn.new.words) c.in-HandedOut.is c.in-Ok-take_turn.ensures.turned)

pub loop-first-smaller-in-HandedOut : goal.loop-first-smaller-in-HandedOut
loop-first-smaller-in-HandedOut c = hands-smaller c.loop-first.manager c.take_turn.new.manager c.loop-first.jobs.items c.take_turn.new.jobs.items c.loop-first.words c.take_turn.new.words (subst (λ t. IsTurned c.args.working.now c.loop-first.manager c.loop-first.jobs.items c.loop-first.words t c.take_turn.new.manager c.take_turn.new.jobs.items c.take_turn.new.words) c.in-HandedOut.is c.in-Ok-take_turn.ensures.turned)

pub loop-first-preserved : goal.loop-first-preserved
loop-first-preserved c =
    goes-on c.args.working.now (turn_order_of c.args.limits.now) c.args.limits.now.nodes c.args.manager.now.search c.loop-first.results c.loop-first.manager c.loop-first.jobs.items c.loop-first.words c.loop-first.invariant (λ done. false≢true (sym c.if-is_within.false ∙ c.is_within.ensures.1 done)) c.show_manager-in-Some.ensures.manager c.take_turn.new.manager c.show_manager-in-Some-2.ensures.sound c.show_manager-in-Some-2.ensures.numbered c.if-results-limits.false c.take_turn.new.jobs.items c.take_turn.new.words
    (subst (λ t. IsTurned c.args.working.now c.loop-first.manager c.loop-first.jobs.items c.loop-first.words t c.take_turn.new.manager c.take_turn.new.jobs.items c.take_turn.new.words) (c.in-HasWorked-Placed.is ∙ ap HasWorked c.in-HasWorked-Placed.field-0-is) c.in-Ok-take_turn.ensures.turned)

pub loop-first-smaller : goal.loop-first-smaller
loop-first-smaller c =
    works-smaller c.loop-first.manager c.take_turn.new.manager c.loop-first.jobs.items c.take_turn.new.jobs.items c.loop-first.words c.take_turn.new.words c.args.working.now
    (subst (λ t. IsTurned c.args.working.now c.loop-first.manager c.loop-first.jobs.items c.loop-first.words t c.take_turn.new.manager c.take_turn.new.jobs.items c.take_turn.new.words) (c.in-HasWorked-Placed.is ∙ ap HasWorked c.in-HasWorked-Placed.field-0-is) c.in-Ok-take_turn.ensures.turned)

pub returns-then-results-limits-clause-comes : goal.returns-then-results-limits-clause-comes
returns-then-results-limits-clause-comes c =
    subst (Comes c.args.working.now (turn_order_of c.args.limits.now) c.args.limits.now.nodes c.args.manager.now.search c.loop-first.manager.search) (sym c.ended_with-then-results-limits.ensures)
    (at-limit c.args.working.now (turn_order_of c.args.limits.now) c.args.limits.now.nodes c.args.manager.now.search c.loop-first.results c.loop-first.manager c.loop-first.jobs.items c.loop-first.words c.loop-first.invariant (λ done. false≢true (sym c.if-is_within.false ∙ c.is_within.ensures.1 done)) c.show_manager-in-Some.ensures.sound c.if-results-limits.true (next-open_leaf c.loop-first.manager.search c.in-Some.first.id c.show_manager-in-Some.ensures.numbered (first-next c.loop-first.manager.search c.in-Some.first c.in-Some.ensures)))

pub returns-in-HasWorked-Found-clause-comes : goal.returns-in-HasWorked-Found-clause-comes
returns-in-HasWorked-Found-clause-comes c =
    subst (Comes c.args.working.now (turn_order_of c.args.limits.now) c.args.limits.now.nodes c.args.manager.now.search c.take_turn.new.manager.search) (sym c.ended_with-in-HasWorked-Found.ensures)
    (finds-point c.args.working.now (turn_order_of c.args.limits.now) c.args.limits.now.nodes c.args.manager.now.search c.loop-first.results c.loop-first.manager c.loop-first.jobs.items c.loop-first.words c.loop-first.invariant c.take_turn.new.manager c.take_turn.new.jobs.items c.take_turn.new.words
    (λ done. false≢true (sym c.if-is_within.false ∙ c.is_within.ensures.1 done)) c.show_manager-in-Some.ensures.sound c.show_manager-in-Some.ensures.numbered c.if-results-limits.false
    (subst (λ t. IsTurned c.args.working.now c.loop-first.manager c.loop-first.jobs.items c.loop-first.words t c.take_turn.new.manager c.take_turn.new.jobs.items c.take_turn.new.words) (c.in-HasWorked-Found.is ∙ ap HasWorked c.in-HasWorked-Found.field-0-is) c.in-Ok-take_turn.ensures.turned))

pub returns-in-HasWorked-Stopped-clause-comes : goal.returns-in-HasWorked-Stopped-clause-comes
returns-in-HasWorked-Stopped-clause-comes c =
    subst (Comes c.args.working.now (turn_order_of c.args.limits.now) c.args.limits.now.nodes c.args.manager.now.search c.take_turn.new.manager.search) (sym c.ended_with-in-HasWorked-Stopped.ensures)
    (stops c.args.working.now (turn_order_of c.args.limits.now) c.args.limits.now.nodes c.args.manager.now.search c.loop-first.results c.loop-first.manager c.loop-first.jobs.items c.loop-first.words c.loop-first.invariant c.take_turn.new.manager c.take_turn.new.jobs.items c.take_turn.new.words c.in-HasWorked-Stopped.why
    (subst (λ t. IsTurned c.args.working.now c.loop-first.manager c.loop-first.jobs.items c.loop-first.words t c.take_turn.new.manager c.take_turn.new.jobs.items c.take_turn.new.words) (c.in-HasWorked-Stopped.is ∙ ap HasWorked c.in-HasWorked-Stopped.field-0-is) c.in-Ok-take_turn.ensures.turned)
    (λ done. false≢true (sym c.if-is_within.false ∙ c.is_within.ensures.1 done)) c.show_manager-in-Some.ensures.sound c.show_manager-in-Some.ensures.numbered c.if-results-limits.false (next-open_leaf c.loop-first.manager.search c.in-Some.first.id c.show_manager-in-Some.ensures.numbered (first-next c.loop-first.manager.search c.in-Some.first c.in-Some.ensures)))

pub returns-clause-comes : goal.returns-clause-comes
returns-clause-comes c =
    subst (Comes c.args.working.now (turn_order_of c.args.limits.now) c.args.limits.now.nodes c.args.manager.now.search c.loop-first.manager.search) (sym c.ended_with-2.ensures)
    (finishes c.args.working.now (turn_order_of c.args.limits.now) c.args.limits.now.nodes c.args.manager.now.search c.loop-first.results c.loop-first.manager c.loop-first.jobs.items c.loop-first.words c.loop-first.invariant c.show_manager-2.ensures.sound (no-leaf_open c.loop-first.manager.search c.in_default.ensures))
