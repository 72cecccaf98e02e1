use Rattle.std.proofs.Common.{◌≡◌, ◌∙◌, ℕ, ◌+◌, ◌≤ℤ◌, ◌<ℤ◌, pos, neg_ℤ, refl, sym, ap, subst, arith}
use Rattle.frac128.specs.Range.{largest}
use Rattle.lp_model.specs.Formulations.{formulation}
use Rattle.branch_tree.specs.Tree.{left_path, right_path}
use Rattle.branch_tree.specs.Plain.{replaced}
use Rattle.branch_tree.specs.Numbered.{NumberedTree, IsNumbered}
use Rattle.branch_tree.specs.Changes.{HasLeaf, HasRoom}
use Rattle.leaf_judging.specs.Choosing.{finite_number}
use Rattle.leaf_judging.specs.Queued.{IsQueueOf, HasFiniteNumber, AddsBoth}
use Rattle.leaf_judging.specs.Numbers.{HasBoth, KeepsOtherTwo, AreNumbersOf}
use Rattle.sound_searches.specs.Sound.{PlainSearch, formulation_of}
use Rattle.tree_edit.specs.Indexed.{IsIndexed}
use Rattle.sound_searches.specs.Placing.{IsAt, IsSplitSound, search_with_split, split_with_leaves}
use Rattle.tree_edit.specs.private.PlacingSteps.{IsEnteredChild, child_candidate}
use Rattle.tree_edit.proofs.SplitLemmas.{kept-split}
use Rattle.tree_edit.proofs.QueueChanges.{queue-same, other-id, new-candidate, split-queue}
use Rattle.tree_edit.proofs.SameNumbers.{numbers-fresh, numbers-split}
use Rattle.tree_edit.proofs.search.Search.split_leaf.Goals as goal

pub enter_split-requires-clause-has : goal.enter_split-requires-clause-has
enter_split-requires-clause-has c = subst (λ (R : PlainSearch). HasLeaf R.tree c.args.id) (sym c.self.view_is) c.requires.leaf.has

pub enter_split-requires-clause-high : goal.enter_split-requires-clause-high
enter_split-requires-clause-high c = c.requires.room.1

pub enter_split-requires-clause-apart : goal.enter_split-requires-clause-apart
enter_split-requires-clause-apart c =
    let first : c.in-Some.one ≡ c.self.inside.tree.last + 1 = ap (λ (p : ℕ × ℕ). p.0) c.in-Some.ensures.1 in
    let second : c.in-Some.two ≡ c.self.inside.tree.last + 2 = ap (λ (p : ℕ × ℕ). p.1) c.in-Some.ensures.1 in
    λ e. absurd (omega (arith, e, first, second))

pub enter_split-requires-clause-first : goal.enter_split-requires-clause-first
enter_split-requires-clause-first c =
    let i = c.self.inside in
    let T : NumberedTree = i.tree in
    let left = c.args.branching.left in
    let n : IsNumbered T = c.nodes-numbered.ensures.numbered in
    let first : c.in-Some.one ≡ T.last + 1 = ap (λ (p : ℕ × ℕ). p.0) c.in-Some.ensures.1 in
    new-candidate (formulation i.model i.pool) T n i.queue c.self.invariant.queue_is c.in-Some.one (omega (arith, first)) left.kept.state (finite_number left.entry.number) (child_candidate left c.in-Some.one) refl

pub enter_split-requires-clause-second : goal.enter_split-requires-clause-second
enter_split-requires-clause-second c =
    let i = c.self.inside in
    let T : NumberedTree = i.tree in
    let right = c.args.branching.right in
    let n : IsNumbered T = c.nodes-numbered.ensures.numbered in
    let second : c.in-Some.two ≡ T.last + 2 = ap (λ (p : ℕ × ℕ). p.1) c.in-Some.ensures.1 in
    new-candidate (formulation i.model i.pool) T n i.queue c.self.invariant.queue_is c.in-Some.two (omega (arith, second)) right.kept.state (finite_number right.entry.number) (child_candidate right c.in-Some.two) refl

pub invariant_of-self-in-Err : goal.invariant_of-self-in-Err
invariant_of-self-in-Err c =
    let i = c.self.inside in
    let T : NumberedTree = i.tree in
    let kept = c.self.invariant in
    let n : IsNumbered T = c.nodes-numbered.ensures.numbered in
    let first : c.in-Some.one ≡ T.last + 1 = ap (λ (p : ℕ × ℕ). p.0) c.in-Some.ensures.1 in
    let second : c.in-Some.two ≡ T.last + 2 = ap (λ (p : ℕ × ℕ). p.1) c.in-Some.ensures.1 in
    let others : KeepsOtherTwo i.numbers (T.last + 1) (T.last + 2) c.enter_split.new.numbers = subst (λ P. P) (λ k. KeepsOtherTwo i.numbers (first k) (second k) c.enter_split.new.numbers) c.enter_split.ensures.others in
    subst (λ (U : NumberedTree). IsIndexed (record { model = i.model; cuts = i.pool; tree = U; points = i.points.items }) i.values.items c.enter_split.new.numbers c.enter_split.new.queue) (sym c.in-Err.ensures.kept)
    (record {
      sound = kept.sound;
      values_are = kept.values_are;
      numbers_are = numbers-fresh (formulation i.model i.pool) T.root i.numbers kept.numbers_are (T.last + 1) (T.last + 2) (omega (arith, n.given (T.last + 1) (omega arith))) (omega (arith, n.given (T.last + 2) (omega arith))) c.enter_split.new.numbers others;
      queue_is = queue-same (formulation i.model i.pool) T.root i.queue c.enter_split.new.queue kept.queue_is c.in-Err.ensures.same;
    })

pub invariant_of-self : goal.invariant_of-self
invariant_of-self c =
    let i = c.self.inside in
    let S : PlainSearch = record { model = i.model; cuts = i.pool; tree = i.tree; points = i.points.items } in
    let T : NumberedTree = i.tree in
    let one = c.args.branching.left in
    let two = c.args.branching.right in
    let left = one.kept in
    let right = two.kept in
    let n : IsNumbered T = c.nodes-numbered.ensures.numbered in
    let v = c.args.branching.split.v in
    let j = c.args.branching.split.col.0 in
    let mult = c.args.branching.split.mult in
    let basis = c.args.branching.split.basis in
    let low : neg_ℤ (pos largest) ≤ℤ v = c.requires.room.0 in
    let high : v <ℤ pos largest = c.requires.room.1 in
    let path = c.args.region.now in
    let has : HasLeaf T c.args.id = subst (λ (R : PlainSearch). HasLeaf R.tree c.args.id) (sym c.self.view_is) c.requires.leaf.has in
    let at : IsAt c.args.id path S.tree.root = subst (λ (R : PlainSearch). IsAt c.args.id path R.tree.root) (sym c.self.view_is) c.requires.leaf.at in
    let fit : IsSplitSound (formulation_of S) path j v mult basis = subst (λ (R : PlainSearch). IsSplitSound (formulation_of R) path j v mult basis) (sym c.self.view_is) c.requires.sound in
    let is_left : IsEnteredChild S (left_path path j v) mult basis one = subst (λ (R : PlainSearch). IsEnteredChild R (left_path path j v) mult basis one) (sym c.self.view_is) c.requires.left in
    let is_right : IsEnteredChild S (right_path path j v) mult basis two = subst (λ (R : PlainSearch). IsEnteredChild R (right_path path j v) mult basis two) (sym c.self.view_is) c.requires.right in
    let r = c.leaf_number_of-own.result in
    let ranked : HasFiniteNumber (formulation_of S) T.root (record { leaf_number = r; id = c.args.id }) = subst (λ (R : PlainSearch). HasFiniteNumber (formulation_of R) R.tree.root (record { leaf_number = r; id = c.args.id })) (sym c.self.view_is) c.leaf_number_of-own.ensures in
    let first : c.in-Some.one ≡ T.last + 1 = ap (λ (p : ℕ × ℕ). p.0) c.in-Some.ensures.1 in
    let second : c.in-Some.two ≡ T.last + 2 = ap (λ (p : ℕ × ℕ). p.1) c.in-Some.ensures.1 in
    let others : KeepsOtherTwo i.numbers (T.last + 1) (T.last + 2) c.enter_split.new.numbers = subst (λ P. P) (λ k. KeepsOtherTwo i.numbers (first k) (second k) c.enter_split.new.numbers) c.enter_split.ensures.others in
    let both : HasBoth c.enter_split.new.numbers (T.last + 1) one.entry (T.last + 2) two.entry = subst (λ P. P) (λ k. HasBoth c.enter_split.new.numbers (first k) one.entry (second k) two.entry) c.in-Ok.ensures.put in
    let added : AddsBoth i.queue (child_candidate one (T.last + 1)) (child_candidate two (T.last + 2)) c.enter_split.new.queue = subst (λ P. P) (λ k. AddsBoth i.queue (child_candidate one (first k)) (child_candidate two (second k)) c.enter_split.new.queue) c.in-Ok.ensures.added in
    let numbers : AreNumbersOf (formulation_of S) (replaced c.args.id (split_with_leaves T.last c.args.id j v mult basis left right) T.root) c.remove-in-Ok.new.self =
    numbers-split (formulation_of S) T.root i.numbers c.enter_split.new.numbers c.remove-in-Ok.new.self T.last c.args.id path j v mult basis left right one.entry two.entry c.self.invariant.numbers_are at
    (omega (arith, n.given (T.last + 1) (omega arith))) (omega (arith, n.given (T.last + 2) (omega arith))) (other-id T n (T.last + 1) c.args.id (omega arith) has) (other-id T n (T.last + 2) c.args.id (omega arith) has)
    both others c.remove-in-Ok.ensures.others is_left.entry is_right.entry in
    let queue : IsQueueOf (formulation_of S) (replaced c.args.id (split_with_leaves T.last c.args.id j v mult basis left right) T.root) c.remove.new.self =
    split-queue (formulation_of S) T n i.queue c.enter_split.new.queue c.remove.new.self left right (finite_number one.entry.number) (finite_number two.entry.number) (child_candidate one (T.last + 1)) (child_candidate two (T.last + 2)) c.self.invariant.queue_is refl refl added
    r c.args.id path j v mult basis has at ranked c.remove.ensures (one.entry.number, (is_left.entry.number, refl)) (two.entry.number, (is_right.entry.number, refl)) in
    subst (λ (U : NumberedTree). IsIndexed (record { model = i.model; cuts = i.pool; tree = U; points = i.points.items }) i.values.items c.remove-in-Ok.new.self c.remove.new.self) (sym c.in-Ok.ensures.split)
    (kept-split S i.values.items i.numbers c.remove-in-Ok.new.self i.queue c.remove.new.self c.args.id path j v mult basis left right c.self.invariant at fit low high is_left.kept is_right.kept numbers queue)

pub returns-in-Ok-clause-taken : goal.returns-in-Ok-clause-taken
returns-in-Ok-clause-taken c =
    let i = c.self.inside in
    let left = c.args.branching.left.kept in
    let right = c.args.branching.right.kept in
    let v = c.args.branching.split.v in
    let j = c.args.branching.split.col.0 in
    let mult = c.args.branching.split.mult in
    let basis = c.args.branching.split.basis in
    let room : HasRoom c.args.self.now.tree = subst (λ (R : PlainSearch). HasRoom R.tree) c.self.view_is c.in-Ok.ensures.room in (
      c.requires.sound,
      room,
      (
        left,
        (
          right,
          (
            c.requires.left.kept,
            (
              c.requires.right.kept,
              ap (λ (U : NumberedTree). let R : PlainSearch = record { model = i.model; cuts = i.pool; tree = U; points = i.points.items } in R) c.in-Ok.ensures.split
                  ∙ ap (λ (R : PlainSearch). search_with_split R c.args.id j v mult basis left right) c.self.view_is,
            ),
          ),
        ),
      ),
    )
