use Rattle.std.specs.Prelude.{Result, Ok, Err, IfOk}
use Rattle.std.proofs.Common.{◌≡◌, ◌≤◌, ◌+◌, ◌∙◌, sym, subst, arith, length}
use Rattle.lp_model.specs.Formulations.{Formulation, formulation}
use Rattle.leaf_judging.specs.declared.entry.LeafEntry.{LeafEntry}
use Rattle.leaf_judging.specs.private.Entries.{MovesSide}
use Rattle.leaf_judging.proofs.SameEntry.{entry-same}
use Rattle.leaf_judging.proofs.WayLemmas.{few-terms, moved-row, moved-steps, moved-way}
use Rattle.leaf_judging.proofs.numbering.moved_entry.Goals as goal
use Rattle.leaf_judging.proofs.numbering.moved_entry.Goals.{in-Some+in-Ok+else-move_side+in-Some-1, in-Some+in-Ok+else-move_side+in-None-1, in_default}

if_ok : {A E : Type 0} {P Q : A → Type 0} (r : Result A E) → ((a : A) → P a → Q a) → IfOk r P → IfOk r Q
if_ok (Ok a) f h = f a h
if_ok (Err e) f h = h

pub move_side-requires-clause-within : goal.move_side-requires-clause-within
move_side-requires-clause-within g c = (moved-row c.args.former.now (formulation c.args.model.now c.args.pool.now) c.args.region.now c.args.kept.now c.args.row c.requires.way).0

pub move_side-requires-clause-there : goal.move_side-requires-clause-there
move_side-requires-clause-there g c = (moved-row c.args.former.now (formulation c.args.model.now c.args.pool.now) c.args.region.now c.args.kept.now c.args.row c.requires.way).1

pub returns-then-move_side-clause-entry : goal.returns-then-move_side-clause-entry
returns-then-move_side-clause-entry g c = λ path same held.
    let F : Formulation = formulation c.args.model.now c.args.pool.now in
    let former = c.args.former.now in
    let kept = c.args.kept.now in
    let old = c.in-Some.before.now in
    let new = c.move_side.new.self in
    let few = few-terms F c.rows-lawful.ensures.lawful c.rows-few.ensures.few in
    let moves : MovesSide c.args.row former.model.now F.model kept.mult old new = subst (λ (e : LeafEntry). MovesSide c.args.row former.model.now F.model kept.mult e new) c.in-Ok.ensures (c.move_side.ensures.moved c.if-move_side.true) in
    let moved = moved-way F c.args.id c.args.region.now path same kept c.args.row few old new former c.requires.way held (sym c.in-Some.ensures) moves in
    let most = moved.1 in
    let taken : c.move_side.new.steps ≤ c.args.steps.now + (length old.lag.totals.kept + 1) = subst (λ (e : LeafEntry). c.move_side.new.steps ≤ c.args.steps.now + (length e.lag.totals.kept + 1)) c.in-Ok.ensures c.move_side.ensures.steps in
    (moved.0, omega (arith, most, taken))

pub returns-clause-entry : goal.returns-clause-entry
returns-clause-entry g c =
    let F : Formulation = formulation c.args.model.now c.args.pool.now in
    let kept = c.args.kept.now in
    let none : c.match-entry.steps ≡ c.args.steps.now = elim c.match-entry.branch [
      | in-Some+in-Ok+else-move_side+in-Some-1 w ↦ w.steps-is ∙ w.move_side.ensures.none w.if-move_side.false
      | in-Some+in-Ok+else-move_side+in-None-1 w ↦ w.steps-is ∙ w.move_side.ensures.none w.if-move_side.false
      | in_default w ↦ w.steps-is
    ] in
    let taken = c.entry_by.ensures.steps in
    if_ok c.entry_by.result (λ e is path same held.
    let all = moved-steps F c.args.id c.args.region.now path same kept c.args.former.now c.args.row c.requires.way in (
      entry-same F c.args.region.now path same kept.mult kept.farkas e is,
      omega (arith, all, none, taken),
    )) c.entry_by.ensures.entry
