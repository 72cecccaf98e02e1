-- What changes of a tree do to sums over its open leaves.
use Rattle.std.specs.Prelude.{◌≡◌, ◌⊎◌, ℕ, zero, suc, ◌+◌, ◌*◌, ◌-◌, ◌≤◌, Bool, true, false, if◌then◌else◌, nat_eq, List, [], ◌∷◌, drop, Option, Some, None}
use Rattle.std.specs.Option.{option_or}
use Rattle.std.proofs.Common.{refl, sym, subst, ap, ◌∙◌, inl, inr, arith}
use Rattle.std.proofs.lemmas.Bool.Decides.{eqb_tells}
use Rattle.frac128.specs.Rational.{ℚ}
use Rattle.lp_model.specs.Program.{Program}
use Rattle.lp_model.specs.Lawful.{IsLawful}
use Rattle.lp_model.specs.Regions.{Path}
use Rattle.lp_model.specs.Formulations.{formulation}
use Rattle.lp_model.specs.declared.types.CutRow.{CutRow}
use Rattle.leaf_dual.specs.Dual.{Multipliers}
use Rattle.branch_tree.specs.Tree.{Leaf, Split, left_path, right_path, EachLeaf}
use Rattle.branch_tree.specs.Plain.{Plain, LeafKept, leaves_with, one_if_same, leaf_below, replaced}
use Rattle.branch_tree.specs.Leaves.{with_states, with_state, leaf_count}
use Rattle.branch_tree.specs.declared.node.LeafData.{LeafData}
use Rattle.branch_tree.specs.declared.node.LeafState.{LeafState}
use Rattle.branch_tree.specs.declared.node.LeafState.TheVariants.{IsOpen, IsClosed}
use Rattle.branch_tree.proofs.LeafLemmas.{leaf_below-split}
use Rattle.branch_tree.proofs.IdLemmas.{no_leaf}
use Rattle.branch_tree.proofs.StateLemmas.{leaves_with-states}
use Rattle.leaf_judging.specs.declared.closing.LeafNumber.{LeafNumber}
use Rattle.leaf_judging.specs.Closing.{NumberCloses, StateSays, IsJudged, IsJudgedLeaf}
use Rattle.sound_searches.specs.Sound.{PlainSearch, IsSound}
use Rattle.sound_searches.specs.Calls.{IsLeafAt}
use Rattle.leaf_judging.proofs.JudgeLemmas.{closes_same}
use Rattle.search_counting.specs.Points.{points}
use Rattle.search_counting.specs.Work.{if_open, sum_open, work_of}
use Rattle.search_counting.proofs.PointLemmas.{points-some}
use Rattle.sound_searches.proofs.OpenLemmas.{leaf_at}
use Rattle.search_counting.proofs.LeafLemmas.{some_is, open-found}

-- ---- a leaf replaced

one_of : (m n : ℕ) → m + n ≡ 1 → ((m ≡ 1) × (n ≡ 0)) ⊎ ((m ≡ 0) × (n ≡ 1))
one_of zero n e = inr (refl, omega arith)
one_of (suc m) n e = inl (omega arith, omega arith)

module _ (f : ℕ → ℕ) (M : Program) (id : ℕ) (new : Plain) (d : ℕ) where
  -- with d less in the place of the leaf with the id there is d less of it
  pub sum-replaced : (path : Path) (t : Plain) → leaves_with id t ≡ 1 → EachLeaf (λ p l. l.id ≡ id → sum_open f M p new + d ≤ if_open f l.kept.state (points M p)) path t → sum_open f M path (replaced id new t) + d ≤ sum_open f M path t
  sum-replaced path (Leaf l) one less = elim (eqb_tells l.id id) [
    | inl same ↦ subst (λ (c : Bool). sum_open f M path (if c then new else Leaf l) + d ≤ if_open f l.kept.state (points M path)) (sym same.0) (less same.1)
    | inr apart ↦ let none : one_if_same l.id id ≡ 0 = ap (λ (c : Bool). if c then 1 else 0) apart.0 in absurd (omega (arith, none, one))
  ]
  sum-replaced path (Split kept j v left right) one less = elim (one_of (leaves_with id left) (leaves_with id right) one) [
    | inl first ↦
        let h : sum_open f M (left_path path j v) (replaced id new left) + d ≤ sum_open f M (left_path path j v) left = sum-replaced (left_path path j v) left first.0 less.0 in
        let same : sum_open f M (right_path path j v) (replaced id new right) ≡ sum_open f M (right_path path j v) right = ap (sum_open f M (right_path path j v)) (no_leaf id new right first.1) in
        omega (arith, h, same)
    | inr second ↦
        let h : sum_open f M (right_path path j v) (replaced id new right) + d ≤ sum_open f M (right_path path j v) right = sum-replaced (right_path path j v) right second.1 less.1 in
        let same : sum_open f M (left_path path j v) (replaced id new left) ≡ sum_open f M (left_path path j v) left = ap (sum_open f M (left_path path j v)) (no_leaf id new left second.0) in
        omega (arith, h, same)
  ]

-- ---- leaves judged again

module _ (f : ℕ → ℕ) (M : Program) (cuts : List CutRow) (t t' : Option ℚ) (closer : (n : LeafNumber) → NumberCloses M t n → NumberCloses M t' n) where
  -- a leaf that was closed stays closed
  judged-le : (path : Path) (mult farkas : Multipliers) (s s' : LeafState) (n : ℕ) → IsJudged (formulation M cuts) t path mult farkas s → IsJudged (formulation M cuts) t' path mult farkas s' → if_open f s' n ≤ if_open f s n
  judged-le path mult farkas s s' n old new = by s s' old.says new.says
    where
      by : (s s' : LeafState) → StateSays s (NumberCloses M t old.number) → StateSays s' (NumberCloses M t' new.number) → if_open f s' n ≤ if_open f s n
      by IsOpen IsOpen h k = omega arith
      by IsOpen IsClosed h k = omega arith
      by IsClosed IsClosed h k = omega arith
      by IsClosed IsOpen h k = absurd (k (closes_same (formulation M cuts) path mult farkas t' new.number old.number new.number_is old.number_is (closer old.number h)))

  sum-states : (path : Path) (u : Plain) (states : List LeafState) → EachLeaf (λ p l. IsJudgedLeaf (formulation M cuts) t p l.kept) path u → EachLeaf (λ p l. IsJudgedLeaf (formulation M cuts) t' p l.kept) path (with_states states u)
      → sum_open f M path (with_states states u) ≤ sum_open f M path u
  sum-states path (Leaf l) [] old new = omega arith
  sum-states path (Leaf l) (s ∷ states) old new = judged-le path l.kept.mult l.kept.farkas l.kept.state s (points M path) old new
  sum-states path (Split kept j v left right) states old new =
      let a : sum_open f M (left_path path j v) (with_states states left) ≤ sum_open f M (left_path path j v) left = sum-states (left_path path j v) left states old.0 new.0 in
      let b : sum_open f M (right_path path j v) (with_states (drop (leaf_count left) states) right) ≤ sum_open f M (right_path path j v) right = sum-states (right_path path j v) right (drop (leaf_count left) states) old.1 new.1 in
      omega (arith, a, b)

  module _ (id : ℕ) (new : Plain) (d : ℕ) where
    -- and the leaf with the id replaced, in the place of which there is d less
    pub sum-changed : (path : Path) (u : Plain) (states : List LeafState) → leaves_with id u ≡ 1 → EachLeaf (λ p l. IsJudgedLeaf (formulation M cuts) t p l.kept) path u → EachLeaf (λ p l. IsJudgedLeaf (formulation M cuts) t' p l.kept) path (with_states states u)
        → EachLeaf (λ p l. l.id ≡ id → sum_open f M p new + d ≤ if_open f l.kept.state (points M p)) path u → sum_open f M path (replaced id new (with_states states u)) + d ≤ sum_open f M path u
    sum-changed path (Leaf l) states one old again less = by states
      where
        by : (states : List LeafState) → sum_open f M path (replaced id new (with_states states (Leaf l))) + d ≤ if_open f l.kept.state (points M path)
        by [] = elim (eqb_tells l.id id) [
          | inl same ↦ subst (λ (c : Bool). sum_open f M path (if c then new else Leaf l) + d ≤ if_open f l.kept.state (points M path)) (sym same.0) (less same.1)
          | inr apart ↦ let none : one_if_same l.id id ≡ 0 = ap (λ (c : Bool). if c then 1 else 0) apart.0 in absurd (omega (arith, none, one))
        ]
        by (s ∷ states) = elim (eqb_tells l.id id) [
          | inl same ↦ subst (λ (c : Bool). sum_open f M path (if c then new else Leaf (record { id = l.id; kept = with_state s l.kept })) + d ≤ if_open f l.kept.state (points M path)) (sym same.0) (less same.1)
          | inr apart ↦ let none : one_if_same l.id id ≡ 0 = ap (λ (c : Bool). if c then 1 else 0) apart.0 in absurd (omega (arith, none, one))
        ]
    sum-changed path (Split kept j v left right) states one old again less = elim (one_of (leaves_with id left) (leaves_with id right) one) [
      | inl first ↦
          let later : List LeafState = drop (leaf_count left) states in
          let h : sum_open f M (left_path path j v) (replaced id new (with_states states left)) + d ≤ sum_open f M (left_path path j v) left = sum-changed (left_path path j v) left states first.0 old.0 again.0 less.0 in
          let same : sum_open f M (right_path path j v) (replaced id new (with_states later right)) ≡ sum_open f M (right_path path j v) (with_states later right) =
          ap (sum_open f M (right_path path j v)) (no_leaf id new (with_states later right) (leaves_with-states id later right ∙ first.1)) in
          let k : sum_open f M (right_path path j v) (with_states later right) ≤ sum_open f M (right_path path j v) right = sum-states (right_path path j v) right later old.1 again.1 in
          omega (arith, h, same, k)
      | inr second ↦
          let later : List LeafState = drop (leaf_count left) states in
          let h : sum_open f M (right_path path j v) (replaced id new (with_states later right)) + d ≤ sum_open f M (right_path path j v) right = sum-changed (right_path path j v) right later second.1 old.1 again.1 less.1 in
          let same : sum_open f M (left_path path j v) (replaced id new (with_states states left)) ≡ sum_open f M (left_path path j v) (with_states states left) =
          ap (sum_open f M (left_path path j v)) (no_leaf id new (with_states states left) (leaves_with-states id states left ∙ second.0)) in
          let k : sum_open f M (left_path path j v) (with_states states left) ≤ sum_open f M (left_path path j v) left = sum-states (left_path path j v) left states old.0 again.0 in
          omega (arith, h, same, k)
    ]

-- ---- an open leaf has work

module _ (f : ℕ → ℕ) (M : Program) (id : ℕ) (p : Path) (l : LeafKept) where
  -- the part of a leaf is within the sum
  pub found-sum : (path : Path) (t : Plain) → leaf_below id path t ≡ Some (p, l) → if_open f l.kept.state (points M p) ≤ sum_open f M path t
  found-sum path (Leaf k) e = by (nat_eq k.id id) e
    where
      by : (c : Bool) → (let here : Path × LeafKept = (path, k) in ◌≡◌ {A = Option (Path × LeafKept)} (if c then Some here else None) (Some (p, l))) → if_open f l.kept.state (points M p) ≤ if_open f k.kept.state (points M path)
      by true h = let same = some_is (path, k) (p, l) h in subst (λ (q : Path × LeafKept). if_open f q.1.kept.state (points M q.0) ≤ if_open f k.kept.state (points M path)) same (omega arith)
      by false h = cc
  found-sum path (Split kept j v left right) e =
      either (leaf_below id (left_path path j v) left) (leaf_below id (right_path path j v) right) (if_open f l.kept.state (points M p)) (sum_open f M (left_path path j v) left) (sum_open f M (right_path path j v) right)
      (found-sum (left_path path j v) left) (found-sum (right_path path j v) right) (sym (leaf_below-split id path kept j v left right) ∙ e)
    where
      either : (a b : Option (Path × LeafKept)) (n m k : ℕ) → (a ≡ Some (p, l) → n ≤ m) → (b ≡ Some (p, l) → n ≤ k) → option_or a b ≡ Some (p, l) → n ≤ m + k
      either None b n m k one two h = let le : n ≤ k = two h in omega (arith, le)
      either (Some q) b n m k one two h = let le : n ≤ m = one h in omega (arith, le)

module _ (S : PlainSearch) (id : ℕ) (path : Path) (kept : LeafData) (sound : IsSound S) (lawful : IsLawful S.model) (at : IsLeafAt S.tree.root id path kept) (is_open : kept.state ≡ IsOpen) where
  -- what an open leaf can take is within what the search can
  pub own-part : (f : ℕ → ℕ) → f (points S.model path) ≤ sum_open f S.model [] S.tree.root
  own-part f =
      let l = leaf_at S.tree.root id path kept at in
      let state : l.0.kept.state ≡ IsOpen = ap (λ (k : LeafData). k.state) l.1.1 ∙ is_open in
      subst (λ s. if_open f s (points S.model path) ≤ sum_open f S.model [] S.tree.root) state (found-sum f S.model id path l.0 [] S.tree.root l.1.0)

  pub open-work : 1 ≤ work_of S
  open-work =
      let some : 1 ≤ points S.model path = points-some S.model path lawful (open-found S sound id path kept at is_open) in
      let k : 2 * points S.model path - 1 ≤ work_of S = own-part (λ n. 2 * n - 1) in
      omega (arith, some, k)
