use Rattle.std.specs.Prelude.{ℕ, [], ◌∷◌, ◌+◌, ◌<◌, ◌≤◌, Option, Some, List, drop, length}
use Rattle.std.proofs.Common.{◌≡◌, ◌∙◌, sym, ap, subst, arith}
use Rattle.std.proofs.lemmas.List.{at_drop_more, drop_all}
use Rattle.lp_model.specs.Formulations.{Formulation, formulation}
use Rattle.leaf_judging.specs.Former.{AreFormer}
use Rattle.leaf_judging.specs.declared.due.DueLeaf.{DueLeaf}
use Rattle.leaf_judging.specs.declared.former.Former.{Former}
use Rattle.leaf_judging.specs.private.Walked.{IsDue, due_steps, dues, AreBut}
use Rattle.leaf_judging.proofs.DueLemmas.{none-due, no-cost, head-due, all-done}
use Rattle.leaf_judging.proofs.due.finish.Goals as goal

rises-on : (a b c : ℕ) → a ≤ b → b ≤ c → a ≤ c
rises-on a b c h k = omega arith

-- one id's steps more
steps-on : (old new first before s rest all : ℕ) → before ≡ s + rest → old + before ≤ first + all → new ≤ old + s → new + rest ≤ first + all
steps-on old new first before s rest all e h k = omega arith

less-on : (a b c : ℕ) → a + b ≤ c → a ≤ c
less-on a b c h = omega arith

pub returns-in_default-clause-numbers : goal.returns-in_default-clause-numbers
returns-in_default-clause-numbers g c =
    let F : Formulation = formulation c.args.model.now c.args.pool.now in
    none-due c.args.former.now F c.args.numbers.now c.args.due.now c.args.tree.now.root (λ kept due. subst (λ (o : Option Former). IsDue o F kept) c.in_default.is due) c.requires.but

pub returns-in_default-cost_place-clause-numbers : goal.returns-in_default-cost_place-clause-numbers
returns-in_default-cost_place-clause-numbers g c =
    let F : Formulation = formulation c.args.model.now c.args.pool.now in
    let before = c.in-Some.before in
    none-due c.args.former.now F c.args.numbers.now c.args.due.now c.args.tree.now.root
    (λ kept due. no-cost before.touched before F kept c.in_default-cost_place.ensures (subst (λ (o : Option Former). IsDue o F kept) c.in-Some.is due)) c.requires.but

pub finish_leaf-requires-clause-due : goal.finish_leaf-requires-clause-due
finish_leaf-requires-clause-due g c =
    let F : Formulation = formulation c.args.model.now c.args.pool.now in
    let due = c.args.due.now in
    let k = c.loop-leaf.leaf-index in
    let T = c.args.tree.now.root in
    let within : k < length due = omega arith in
    let leaf = c.leaf-item.result in
    let rest_is : drop k due ≡ leaf ∷ drop (k + 1) due = at_drop_more (λ (ds : List DueLeaf). ds) due k leaf within ∙ ap (λ d. d ∷ drop (k + 1) due) (sym c.leaf-item.is) in
    head-due (Some c.in-Some.before) F c.loop-leaf.numbers leaf (drop (k + 1) due) T (subst (λ (ds : List DueLeaf). AreBut (Some c.in-Some.before) F c.loop-leaf.numbers ds T) rest_is c.loop-leaf.invariant.but)

pub finish_leaf-requires-clause-former : goal.finish_leaf-requires-clause-former
finish_leaf-requires-clause-former g c =
    subst (λ (o : Option Former). AreFormer o (formulation c.args.model.now c.args.pool.now) c.args.tree.now.root) c.in-Some.is c.requires.former

pub finish_leaf-requires-clause-touched : goal.finish_leaf-requires-clause-touched
finish_leaf-requires-clause-touched g c = c.in-Some-cost_place.ensures

pub loop-leaf-preserved : goal.loop-leaf-preserved
loop-leaf-preserved g c =
    let F : Formulation = formulation c.args.model.now c.args.pool.now in
    let due = c.args.due.now in
    let k = c.loop-leaf.leaf-index in
    let T = c.args.tree.now.root in
    let before = c.in-Some.before in
    let within : k < length due = c.loop-leaf-test.true in
    let leaf = c.leaf-item.result in
    let rest_is : drop k due ≡ leaf ∷ drop (k + 1) due = at_drop_more (λ (ds : List DueLeaf). ds) due k leaf within ∙ ap (λ d. d ∷ drop (k + 1) due) (sym c.leaf-item.is) in
    record {
      but = c.in_ok-finish_leaf.ensures.finishes (drop (k + 1) due) (subst (λ (ds : List DueLeaf). AreBut (Some before) F c.loop-leaf.numbers ds T) rest_is c.loop-leaf.invariant.but);
      rises = rises-on _ _ _ c.loop-leaf.invariant.rises c.in_ok-finish_leaf.ensures.rises;
      steps = steps-on c.loop-leaf.steps c.finish_leaf.new.steps c.args.steps.now (dues (due_steps (Some before) F) (drop k due)) (due_steps (Some before) F)
          (dues (due_steps (Some before) F) (drop (k + 1) due)) (dues (due_steps (Some before) F) due)
          (ap (dues (due_steps (Some before) F)) rest_is) c.loop-leaf.invariant.steps c.in_ok-finish_leaf.ensures.steps;
    }

pub returns-clause-numbers : goal.returns-clause-numbers
returns-clause-numbers g c =
    let F : Formulation = formulation c.args.model.now c.args.pool.now in
    let due = c.args.due.now in
    let k = c.loop-leaf.leaf-index in
    let none : drop k due ≡ [] = drop_all k due c.loop-leaf-test.false in
    all-done (Some c.in-Some.before) F c.loop-leaf.numbers c.args.tree.now.root (subst (λ (ds : List DueLeaf). AreBut (Some c.in-Some.before) F c.loop-leaf.numbers ds c.args.tree.now.root) none c.loop-leaf.invariant.but)

pub returns-clause-rises : goal.returns-clause-rises
returns-clause-rises g c = c.loop-leaf.invariant.rises

pub returns-clause-steps : goal.returns-clause-steps
returns-clause-steps g c =
    let F : Formulation = formulation c.args.model.now c.args.pool.now in
    subst (λ (o : Option Former). c.loop-leaf.steps ≤ c.args.steps.now + dues (due_steps o F) c.args.due.now) (sym c.in-Some.is)
    (less-on _ _ _ c.loop-leaf.invariant.steps)
