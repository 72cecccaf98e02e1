use Rattle.std.proofs.Common.{◌≡◌, ◌∙◌, ◌+◌, ◌++◌, ◌∷◌, [], refl, sym, ap, inr, arith, length}
use Rattle.std.proofs.lemmas.Bool.{false≢true}
use Rattle.node_solve.specs.private.RoundCode.{task_work}
use Rattle.node_solve.proofs.RoundLemmas.{added_kept}
use Rattle.node_solve.proofs.TaskLemmas.{added_is}
use Rattle.node_solve.proofs.rounds.Task.add_one.Goals as goal

pub returns-then-not-is_addable-clause-adds : goal.returns-then-not-is_addable-clause-adds
returns-then-not-is_addable-clause-adds c = (c.in-Ok.cut, (c.in-Ok.ensures.from, (c.in-Ok.ensures.cut, inr ((λ may. false≢true (sym c.if-not-is_addable.true ∙ c.is_addable.ensures.1 may)), refl))))

pub returns-clause-adds : goal.returns-clause-adds
returns-clause-adds c =
    let W = task_work c.args.self.now in
    let r = c.args.round.now in
    let place_is = ap length c.rows.ensures.rows in
    let place : length c.rows.result.now + c.len.result ≡ length W.pool + length r.added.items = λ i. place_is i + (c.len.ensures ∙ r.added.ok.0) i in
    added_is W r _ _ _ c.in-Ok.cut _ c.args.from.now c.args.from.now c.in-Ok.ensures.from c.in-Ok.ensures.cut (c.is_addable.ensures.0 c.if-not-is_addable.false)
    c.in-Ok-push.ensures.items c.in-Ok-note_cut.ensures.places place c.in-Ok-note_cut.ensures.added refl

pub returns-clause-kept : goal.returns-clause-kept
returns-clause-kept c =
    let W = task_work c.args.self.now in
    let r = c.args.round.now in
    let place_is = ap length c.rows.ensures.rows in
    let place : length c.rows.result.now + c.len.result ≡ length W.pool + length r.added.items = λ i. place_is i + (c.len.ensures ∙ r.added.ok.0) i in
    added_kept W r _ c.in-Ok.cut c.requires.kept c.in-Ok.ensures.cut (c.is_addable.ensures.0 c.if-not-is_addable.false)
    c.in-Ok-push.ensures.items (c.in-Ok-note_cut.ensures.places ∙ ap (λ p. r.places.items ++ p ∷ []) place)
    (c.in-Ok-note_cut.ensures.added ∙ ap (λ x. r.added.items ++ x ∷ []) (sym c.in-Ok.ensures.from))

pub overflow_add-place : goal.overflow_add-place
overflow_add-place c =
    let rows = ap length c.rows.ensures.rows in
    let added = c.len.ensures in
    let items = c.args.round.now.added.ok.0 in
    let room = c.requires.kept.room in
    omega (arith, rows, added, items, room)
