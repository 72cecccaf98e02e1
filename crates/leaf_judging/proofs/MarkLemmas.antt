-- A walk that judges leaves by the numbers that are kept of them.
use Rattle.std.specs.Prelude.{◌≡◌, ◌+◌, List, [], ◌∷◌, ◌++◌, length, All, Option, Some}
use Rattle.std.specs.List.{AllZip}
use Rattle.std.specs.Option.{option_map}
use Rattle.std.proofs.Common.{refl, sym, subst, ap, arith, append_assoc, length-append}
use Rattle.std.proofs.lemmas.List.{append-nil}
use Rattle.std.proofs.lemmas.List.Elements.{All-map, All-head, All-tail}
use Rattle.frac128.specs.Rational.{ℚ}
use Rattle.lp_model.specs.Formulations.{Formulation}
use Rattle.branch_tree.specs.Tree.{leaves}
use Rattle.branch_tree.specs.Plain.{Plain}
use Rattle.branch_tree.specs.Leaves.{region_leaf, region_leaves}
use Rattle.branch_tree.specs.Visits.{Visits}
use Rattle.branch_tree.specs.declared.node.LeafState.{LeafState}
use Rattle.branch_tree.specs.declared.node.RegionLeaf.{RegionLeaf}
use Rattle.branch_tree.proofs.TreeLemmas.{each_leaf-leaves}
use Rattle.leaf_judging.specs.declared.entry.LeafEntry.{LeafEntry}
use Rattle.leaf_judging.specs.declared.numbers.LeafNumbers.{LeafNumbers}
use Rattle.leaf_judging.specs.declared.judging.Against.{Against}
use Rattle.leaf_judging.specs.declared.judging.Marking.{Marking}
use Rattle.leaf_judging.specs.Closing.{IsNumber, NumberCloses, StateSays}
use Rattle.leaf_judging.specs.Choosing.{finite_number}
use Rattle.leaf_judging.specs.Queued.{candidate_of}
use Rattle.leaf_judging.specs.private.Queued.{leaf_in, AreQueued}
use Rattle.leaf_judging.specs.Numbers.{kept_number, HasKept, AreNumbersOf, MarksLeaf}
use Rattle.leaf_judging.proofs.JudgeLemmas.{JudgedAs, zipped-push}
use Rattle.leaf_judging.proofs.QueueLists.{child-candidate, queued-push}

module _ (F : Formulation) (t : Option ℚ) (numbers : LeafNumbers) where
  abbrev pub IsKept : RegionLeaf → Type 0
  IsKept l = HasKept F numbers l.region (record { id = l.id; kept = l.kept })

  pub all-kept : (u : Plain) → AreNumbersOf F u numbers → All IsKept (region_leaves [] u)
  all-kept u h = All-map IsKept region_leaf (leaves [] u) (each_leaf-leaves (HasKept F numbers) [] u h)

  abbrev pub IsAgainst : Against → Type 0
  IsAgainst a = (a.model.now ≡ F.model) × ((a.target.now ≡ t) × (a.numbers.now ≡ numbers))

  -- the leaves so far have these states, and stand in the queue
  abbrev pub AreMarked : List RegionLeaf → Marking → Type 0
  AreMarked done m = IsAgainst m.against × (AllZip (JudgedAs F t) done m.states.items × AreQueued F done m.states.items m.queue)

  -- one leaf more
  marked-one : (done : List RegionLeaf) (l : RegionLeaf) (old new : Marking) → IsKept l → AreMarked done old → MarksLeaf old l new → AreMarked (done ++ l ∷ []) new
  marked-one done l old new kept marks step =
      let against = marks.0 in
      let own : kept_number numbers l.id ≡ Some kept.0.number = ap (option_map (λ (e : LeafEntry). e.number)) kept.1.0 in
      let same : step.number ≡ kept.0.number = step.number_is kept.0.number (subst (λ (m : LeafNumbers). kept_number m l.id ≡ Some kept.0.number) (sym against.1.1) own) in
      let is : IsNumber F l.region l.kept.mult l.kept.farkas step.number = subst (IsNumber F l.region l.kept.mult l.kept.farkas) (sym same) kept.1.1.number in
      let says : StateSays step.state (NumberCloses F.model t step.number) = subst (λ P. P) (λ i. StateSays step.state (NumberCloses (against.0 i) (against.1.0 i) step.number)) step.says in
      let child = child-candidate F l.region l.id (leaf_in step.state l).kept (finite_number step.number) (step.number, (is, refl)) (candidate_of step.state (finite_number step.number) l.id) refl in (
        subst IsAgainst (sym step.same) against,
        subst (λ (states : List LeafState). AllZip (JudgedAs F t) (done ++ l ∷ []) states × AreQueued F (done ++ l ∷ []) states new.queue) (sym step.states_are) (
          zipped-push (JudgedAs F t) done old.states.items l step.state marks.1.0 (record { number = step.number; number_is = is; says = says }),
          queued-push F old.queue new.queue done old.states.items l step.state (candidate_of step.state (finite_number step.number) l.id) marks.1.1 step.queue_is child,
        ),
      )

  pub marked : (done more : List RegionLeaf) (old new : Marking) → All IsKept more → AreMarked done old → Visits MarksLeaf more old new → AreMarked (done ++ more) new
  marked done [] old new all marks walk = subst (λ ls. AreMarked ls new) (sym (append-nil done)) (subst (AreMarked done) (sym walk) marks)
  marked done (l ∷ more) old new all marks walk =
      subst (λ ls. AreMarked ls new) (append_assoc done (l ∷ []) more)
      (marked (done ++ l ∷ []) more walk.0 new (All-tail IsKept l more all) (marked-one done l old walk.0 (All-head IsKept l more all) marks walk.1.0) walk.1.1)

-- a walk puts down a state for each leaf
pub marked-count : (more : List RegionLeaf) (old new : Marking) → Visits MarksLeaf more old new → length new.states.items ≡ length old.states.items + length more
marked-count [] old new walk = let same = ap (λ (m : Marking). length m.states.items) walk in omega (arith, same)
marked-count (l ∷ more) old new walk =
    let step = walk.1.0 in
    let rest = marked-count more walk.0 new walk.1.1 in
    let longer = ap length step.states_are in
    let one = length-append old.states.items (step.state ∷ []) in
    omega (arith, rest, longer, one)
