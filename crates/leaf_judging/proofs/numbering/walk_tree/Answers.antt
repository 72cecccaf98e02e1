use Rattle.std.specs.Prelude.{ℕ, ◌≤◌, ◌+◌, [], Result, Ok, Err, OnOk}
use Rattle.std.proofs.Common.{refl, sym, ap, subst, arith}
use Rattle.lp_model.specs.Formulations.{Formulation, formulation}
use Rattle.branch_tree.specs.Plain.{leaves_with}
use Rattle.branch_tree.specs.Leaves.{region_leaves}
use Rattle.branch_tree.proofs.NumberedLaws.{one_leaf}
use Rattle.leaf_judging.specs.declared.numbering.Numbered.{Numbered}
use Rattle.leaf_judging.specs.Former.{former_steps}
use Rattle.leaf_judging.specs.private.Walked.{due_steps, dues, AreBut}
use Rattle.leaf_judging.proofs.WalkedLemmas.{walked-but, walked-steps}
use Rattle.leaf_judging.proofs.numbering.walk_tree.Goals as goal

on_ok : {A E P Q : Type 0} (r : Result A E) → (P → Q) → OnOk r P → OnOk r Q
on_ok (Ok a) f h = f h
on_ok (Err e) f h = h

pub returns-clause-but : goal.returns-clause-but
returns-clause-but g c =
    on_ok c.visit_leaves.result (λ visits.
    let T = c.args.tree.now in
    let new = c.visit_leaves.new.visitor in
    let one : (i : ℕ) → leaves_with i T.root ≤ 1 = λ i. one_leaf T i c.visit_leaves.ensures.numbered in
    let steps = walked-steps c.args.model.now c.args.pool.now c.args.former.now T.root _ new (refl, (refl, refl)) c.requires.none one c.requires.former visits in
    let but = walked-but c.args.model.now c.args.pool.now c.args.former.now T.root _ new (refl, (refl, refl)) c.requires.none one c.requires.former visits in
    subst (λ (o : Numbered). AreBut c.args.former.now (formulation c.args.model.now c.args.pool.now) o.numbers o.due.items T.root) (sym (c.out-1.given.1 (sym steps.name_out))) but) c.visit_leaves.ensures.visits

pub returns-clause-rises : goal.returns-clause-rises
returns-clause-rises g c =
    on_ok c.visit_leaves.result (λ visits.
    let T = c.args.tree.now in
    let new = c.visit_leaves.new.visitor in
    let one : (i : ℕ) → leaves_with i T.root ≤ 1 = λ i. one_leaf T i c.visit_leaves.ensures.numbered in
    let steps = walked-steps c.args.model.now c.args.pool.now c.args.former.now T.root _ new (refl, (refl, refl)) c.requires.none one c.requires.former visits in
    subst (λ n. c.args.steps.now ≤ n) (sym (c.steps-1.given.1 (sym steps.name))) steps.rises) c.visit_leaves.ensures.visits

pub returns-clause-steps : goal.returns-clause-steps
returns-clause-steps g c =
    on_ok c.visit_leaves.result (λ visits.
    let T = c.args.tree.now in
    let F : Formulation = formulation c.args.model.now c.args.pool.now in
    let former = c.args.former.now in
    let new = c.visit_leaves.new.visitor in
    let one : (i : ℕ) → leaves_with i T.root ≤ 1 = λ i. one_leaf T i c.visit_leaves.ensures.numbered in
    let steps = walked-steps c.args.model.now c.args.pool.now former T.root _ new (refl, (refl, refl)) c.requires.none one c.requires.former visits in
    let takes = steps.takes in
    let none = ap (dues (due_steps former F)) c.requires.none in
    let bound : new.steps.now + dues (due_steps former F) new.out.now.due.items ≤ c.args.steps.now + former_steps former F (region_leaves [] T.root) = omega (arith, takes, none) in
    subst (λ n. n + dues (due_steps former F) c.out-1.given.0.due.items ≤ c.args.steps.now + former_steps former F (region_leaves [] T.root)) (sym (c.steps-1.given.1 (sym steps.name)))
    (subst (λ (o : Numbered). new.steps.now + dues (due_steps former F) o.due.items ≤ c.args.steps.now + former_steps former F (region_leaves [] T.root)) (sym (c.out-1.given.1 (sym steps.name_out))) bound)) c.visit_leaves.ensures.visits
