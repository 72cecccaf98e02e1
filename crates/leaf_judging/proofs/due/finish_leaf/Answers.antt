use Rattle.std.specs.Prelude.{◌≤◌, Some, Result, Ok, Err, OnOk}
use Rattle.std.proofs.Common.{refl, sym, subst, arith}
use Rattle.lp_model.specs.Regions.{Path, AreNarrow}
use Rattle.lp_model.specs.Formulations.{Formulation, formulation}
use Rattle.branch_tree.specs.Plain.{leaves_with}
use Rattle.leaf_judging.specs.declared.entry.LeafEntry.{LeafEntry}
use Rattle.leaf_judging.specs.Totals.{IsLeafEntry}
use Rattle.leaf_judging.proofs.DueLemmas.{IsFound, found-narrow, found-kept, found-some, found-all, found-back, found-room, found-after, finish-none, finish-put}
use Rattle.leaf_judging.proofs.due.finish_leaf.Goals as goal

on_ok : {A E P Q : Type 0} (r : Result A E) → (P → Q) → OnOk r P → OnOk r Q
on_ok (Ok a) f h = f h
on_ok (Err e) f h = h

pub returns-in_default-clause-finishes : goal.returns-in_default-clause-finishes
returns-in_default-clause-finishes g c = finish-none (Some c.args.former.now) (formulation c.args.model.now c.args.pool.now) c.args.tree.now.root c.args.leaf.now c.args.numbers.now c.args.numbers.now c.in_default.ensures.found refl

pub unreachable-requires : goal.unreachable-requires
unreachable-requires g c =
    let F : Formulation = formulation c.args.model.now c.args.pool.now in
    found-some c.args.former.now F c.args.tree.now.root c.args.leaf.now c.args.col c.requires.touched c.requires.former c.requires.due c.in-Some.kept.now (sym c.in-Some.ensures.data) c.in_default-entry.ensures

pub go_on_from-requires-clause-narrow : goal.go_on_from-requires-clause-narrow
go_on_from-requires-clause-narrow g c =
    let F : Formulation = formulation c.args.model.now c.args.pool.now in
    subst AreNarrow (sym c.as_slice.ensures)
    (found-narrow c.args.former.now F c.args.tree.now.root c.args.leaf.now c.args.col c.requires.touched c.requires.former c.requires.due c.in-Some.kept.now (sym c.in-Some.ensures.data))

pub go_on_from-requires-clause-back : goal.go_on_from-requires-clause-back
go_on_from-requires-clause-back g c =
    let former = c.args.former.now in
    let F : Formulation = formulation c.args.model.now c.args.pool.now in
    let T = c.args.tree.now.root in
    let kept = c.in-Some.kept.now in
    let leaf = c.args.leaf.now in
    let had = found-kept former F T leaf c.args.col c.requires.touched c.requires.former c.requires.due kept (sym c.in-Some.ensures.data) c.in-Some-entry.before.now c.in-Some-entry.ensures in
    let path = c.as_slice.result.now in
    let found : IsFound former F c.args.col path kept c.in-Ok.entry = subst (λ (e : LeafEntry). IsFound former F c.args.col path kept e) (sym c.in-Ok.ensures) (subst (λ (p : Path). IsFound former F c.args.col p kept c.in-Some-entry.before.now) (sym c.as_slice.ensures) had) in
    found-back former F c.args.col path kept c.in-Ok.entry found

pub go_on_from-requires-clause-room : goal.go_on_from-requires-clause-room
go_on_from-requires-clause-room g c =
    let former = c.args.former.now in
    let F : Formulation = formulation c.args.model.now c.args.pool.now in
    let T = c.args.tree.now.root in
    let kept = c.in-Some.kept.now in
    let leaf = c.args.leaf.now in
    let had = found-kept former F T leaf c.args.col c.requires.touched c.requires.former c.requires.due kept (sym c.in-Some.ensures.data) c.in-Some-entry.before.now c.in-Some-entry.ensures in
    let path = c.as_slice.result.now in
    let found : IsFound former F c.args.col path kept c.in-Ok.entry = subst (λ (e : LeafEntry). IsFound former F c.args.col path kept e) (sym c.in-Ok.ensures) (subst (λ (p : Path). IsFound former F c.args.col p kept c.in-Some-entry.before.now) (sym c.as_slice.ensures) had) in
    found-room former F c.args.col path kept c.in-Ok.entry found

pub returns-in-Ok-clause-finishes : goal.returns-in-Ok-clause-finishes
returns-in-Ok-clause-finishes g c =
    let former = c.args.former.now in
    let F : Formulation = formulation c.args.model.now c.args.pool.now in
    let T = c.args.tree.now.root in
    let kept = c.in-Some.kept.now in
    let leaf = c.args.leaf.now in
    let had = found-kept former F T leaf c.args.col c.requires.touched c.requires.former c.requires.due kept (sym c.in-Some.ensures.data) c.in-Some-entry.before.now c.in-Some-entry.ensures in
    let path = c.as_slice.result.now in
    let found : IsFound former F c.args.col path kept c.in-Ok.entry = subst (λ (e : LeafEntry). IsFound former F c.args.col path kept e) (sym c.in-Ok.ensures) (subst (λ (p : Path). IsFound former F c.args.col p kept c.in-Some-entry.before.now) (sym c.as_slice.ensures) had) in
    let new = c.go_on_from.new.self in
    let is = subst (λ (p : Path). IsLeafEntry F p kept new) c.as_slice.ensures (found-after former F c.args.col path kept c.in-Ok.entry found new c.go_on_from.ensures.went) in
    let count = c.in-Some.ensures.found in
    let one : leaves_with leaf.id T ≤ 1 = omega (arith, count) in
    let each = found-all former F T leaf c.args.col c.requires.touched c.requires.former c.requires.due kept (sym c.in-Some.ensures.data) new one is in
    on_ok c.put.result (λ puts. finish-put (Some former) F T leaf c.args.numbers.now c.put.new.self new puts each) c.put.ensures.put
