-- A result that closes or splits a leaf leaves less to place.
use Rattle.std.specs.Prelude.{◌≡◌, ℕ, ◌+◌, ◌*◌, ◌-◌, ◌<◌, ◌≤◌, List, [], pos, Option, Some, None, ℤ, ◌+ℤ◌, ◌≤ℤ◌, ◌<ℤ◌, MatchOption}
use Rattle.std.proofs.Common.{refl, sym, subst, ap, ◌∙◌, inl, inr, arith}
use Rattle.std.proofs.lemmas.Bool.Decides.{eqb_tells}
use Rattle.std.proofs.lemmas.Int.{ints}
use Rattle.frac128.specs.Rational.{ℚ, int, ◌≤ℚ◌, floor}
use Rattle.frac128.specs.RationalOrder.{≤ℚ_trans, not_both_ℚ}
use Rattle.frac128.proofs.Rounding.{int-≤ℚ}
use Rattle.frac128.proofs.Integers.{int-≤ℚ-int, IsWhole-int}
use Rattle.lp_model.specs.Program.{Program, Point}
use Rattle.lp_model.specs.Lawful.{IsLawful}
use Rattle.lp_model.specs.Regions.{Path, region_low, region_high, tighter_low, tighter_high, IsCrossed, IsEmptyRegion}
use Rattle.lp_model.specs.declared.types.Basis.{Basis}
use Rattle.leaf_dual.specs.Dual.{Multipliers}
use Rattle.branch_tree.specs.Tree.{Leaf, left_path, right_path, EachLeaf, split_count}
use Rattle.branch_tree.specs.Plain.{Plain, leaves_with, replaced}
use Rattle.branch_tree.specs.Leaves.{with_states}
use Rattle.branch_tree.specs.Numbered.{NumberedTree, IsNumbered}
use Rattle.branch_tree.specs.Changes.{with_leaf_states, with_leaf, HasRoom}
use Rattle.branch_tree.specs.declared.node.LeafData.{LeafData}
use Rattle.branch_tree.specs.declared.node.LeafState.{LeafState}
use Rattle.branch_tree.specs.declared.node.LeafState.TheVariants.{IsOpen, IsClosed}
use Rattle.branch_tree.specs.declared.node.NodeResult.{NodeResult}
use Rattle.branch_tree.specs.declared.node.NodeResult.TheVariants.{Close, Split as SplitAt, PointAndClose, Keep}
use Rattle.branch_tree.proofs.LeafLemmas.{leaf_below-found}
use Rattle.branch_tree.proofs.IdLemmas.{splits-replaced_leaf, splits-replaced_split}
use Rattle.branch_tree.proofs.StateLemmas.{split_count-states}
use Rattle.sound_searches.specs.declared.taken.Taken.{Taken}
use Rattle.sound_searches.specs.declared.taken.Taken.TheVariants.{Stale, Refused, Reopened, Full, Closed, Split, Kept}
use Rattle.leaf_judging.specs.Closing.{IsJudgedLeaf}
use Rattle.search_parts.specs.Points.{IsKeepable, target}
use Rattle.search_parts.specs.Checks.{IsFrom, IsUnder, IsSplitAllowed}
use Rattle.sound_searches.specs.Sound.{PlainSearch, formulation_of, IsSound}
use Rattle.sound_searches.specs.Calls.{IsLeafAt}
use Rattle.sound_searches.specs.Placing.{TakesResult, Takes, TakesPoint, search_with_leaf, split_with_leaves, tree_with_split, search_with_split, closed_data}
use Rattle.sound_searches.proofs.TakenLemmas.{old_closes}
use Rattle.sound_searches.proofs.SoundLemmas.{each-weaker}
use Rattle.sound_searches.proofs.OpenLemmas.{leaf_at}
use Rattle.search_counting.specs.Points.{points}
use Rattle.search_counting.specs.Work.{if_open, sum_open, work, splits, HasRoomFor, splits_of, IsRoomy, Lowers}
use Rattle.search_counting.specs.Laws.{IsEffective}
use Rattle.model_points.proofs.WithinRegionLemmas.{IsWholeBound}
use Rattle.search_counting.proofs.RegionLemmas.{region_high-whole, floor-less, floor-int}
use Rattle.search_counting.proofs.PointLemmas.{points-split, points-some, low-left, high-left, low-right, high-right, high-left_other, low-right_other, min-below, max-above}
use Rattle.search_counting.proofs.LeafLemmas.{once, at_leaf, open-found}
use Rattle.search_counting.proofs.WorkLemmas.{sum-replaced, sum-changed, own-part}
use Rattle.search_counting.proofs.RoomLemmas.{room-after, room-now}

-- ---- the children of a split at a number of the column

crossed_not : (l h : ℚ) → l ≤ℚ h → ¬ IsCrossed (Some l) (Some h)
crossed_not l h under crossed = not_both_ℚ under crossed

left_bounds : (lo hi : Option ℚ) (v : ℤ) → IsFrom lo v → IsUnder hi v → ¬ IsCrossed lo (tighter_high hi (int v))
left_bounds None hi v from under = absurd from
left_bounds (Some l) None v from under = absurd under
left_bounds (Some l) (Some h) v from under = subst (λ z. ¬ IsCrossed (Some l) (Some z)) (sym (min-below h v under)) (crossed_not l (int v) from)

right_bounds : (lo hi : Option ℚ) (v : ℤ) → IsWholeBound hi → IsFrom lo v → IsUnder hi v → ¬ IsCrossed (tighter_low lo (int (v +ℤ pos 1))) hi
right_bounds None hi v whole from under = absurd from
right_bounds (Some l) None v whole from under = absurd under
right_bounds (Some l) (Some h) v whole from under =
    let low : l ≤ℚ int (v +ℤ pos 1) = ≤ℚ_trans from ((int-≤ℚ-int v (v +ℤ pos 1)).1 (omega (arith, ints))) in
    let apart : floor (int v) <ℤ floor h = floor-less (int v) h (IsWhole-int v) whole under in
    let is : floor (int v) ≡ v = floor-int v in
    let next : int (v +ℤ pos 1) ≤ℚ h = (int-≤ℚ (v +ℤ pos 1) h).1 (above v (floor (int v)) (floor h) is apart) in
    subst (λ z. ¬ IsCrossed (Some z) (Some h)) (sym (max-above l (v +ℤ pos 1) low)) (crossed_not (int (v +ℤ pos 1)) h next)
  where
    above : (v f h : ℤ) → f ≡ v → f <ℤ h → (v +ℤ pos 1) ≤ℤ h
    above v f h e less = omega (arith, ints, e, less)

module _ (M : Program) (lawful : IsLawful M) (path : Path) (some : ¬ IsEmptyRegion M path) (j : ℕ) (v : ℤ) (allowed : IsSplitAllowed M path j v) where
  left_some : ¬ IsEmptyRegion M (left_path path j v)
  left_some (k, (within, crossed)) = elim (eqb_tells j k) [
    | inl same ↦
        let at : IsCrossed (region_low M (left_path path j v) j) (region_high M (left_path path j v) j) = subst (λ n. IsCrossed (region_low M (left_path path j v) n) (region_high M (left_path path j v) n)) (sym same.1) crossed in
        left_bounds (region_low M path j) (region_high M path j) v allowed.low allowed.high (subst (λ P. P) (λ t. IsCrossed (low-left M path j v j t) (high-left M path j v t)) at)
    | inr other ↦ some (k, (within, subst (λ P. P) (λ t. IsCrossed (low-left M path j v k t) (high-left_other M path j v k other.1 t)) crossed))
  ]

  right_some : ¬ IsEmptyRegion M (right_path path j v)
  right_some (k, (within, crossed)) = elim (eqb_tells j k) [
    | inl same ↦
        let at : IsCrossed (region_low M (right_path path j v) j) (region_high M (right_path path j v) j) = subst (λ n. IsCrossed (region_low M (right_path path j v) n) (region_high M (right_path path j v) n)) (sym same.1) crossed in
        right_bounds (region_low M path j) (region_high M path j) v (region_high-whole M lawful path j allowed.there allowed.integer) allowed.low allowed.high (subst (λ P. P) (λ t. IsCrossed (low-right M path j v t) (high-right M path j v j t)) at)
    | inr other ↦ some (k, (within, subst (λ P. P) (λ t. IsCrossed (low-right_other M path j v k other.1 t) (high-right M path j v k t)) crossed))
  ]

  some_left : 1 ≤ points M (left_path path j v)
  some_left = points-some M (left_path path j v) lawful left_some

  some_right : 1 ≤ points M (right_path path j v)
  some_right = points-some M (right_path path j v) lawful right_some

  -- a region that can be split has two points or more
  pub two_points : 2 ≤ points M path
  two_points = let l = some_left in let r = some_right in let n = points-split M path j v lawful allowed.there allowed.integer in omega (arith, l, r, n)

  module _ (f : ℕ → ℕ) (fewer : (p q : ℕ) → 1 ≤ p → 1 ≤ q → f p + f q + 1 ≤ f (p + q)) where
    leaf_most : (s : LeafState) (n : ℕ) → if_open f s n ≤ f n
    leaf_most IsOpen n = omega arith
    leaf_most IsClosed n = omega arith

    -- the two children have less together than an open leaf of the region
    split_less : (s s' : LeafState) → if_open f s (points M (left_path path j v)) + if_open f s' (points M (right_path path j v)) + 1 ≤ f (points M path)
    split_less s s' =
        let a : if_open f s (points M (left_path path j v)) ≤ f (points M (left_path path j v)) = leaf_most s (points M (left_path path j v)) in
        let b : if_open f s' (points M (right_path path j v)) ≤ f (points M (right_path path j v)) = leaf_most s' (points M (right_path path j v)) in
        let c : f (points M (left_path path j v)) + f (points M (right_path path j v)) + 1 ≤ f (points M path) =
        subst (λ n. f (points M (left_path path j v)) + f (points M (right_path path j v)) + 1 ≤ f n) (points-split M path j v lawful allowed.there allowed.integer) (fewer (points M (left_path path j v)) (points M (right_path path j v)) some_left some_right) in
        omega (arith, a, b, c)

-- ---- the open leaf

module _ (S : PlainSearch) (sound : IsSound S) (numbered : IsNumbered S.tree) (lawful : IsLawful S.model) (id : ℕ) (path : Path) (kept : LeafData) (at : IsLeafAt S.tree.root id path kept) (is_open : kept.state ≡ IsOpen) where
  not_empty : ¬ IsEmptyRegion S.model path
  not_empty = open-found S sound id path kept at is_open

  one : leaves_with id S.tree.root ≡ 1
  one =
      let l = leaf_at S.tree.root id path kept at in
      let some : 0 < leaves_with id S.tree.root = subst (λ o. MatchOption o (leaves_with id S.tree.root ≡ 0) (λ _. 0 < leaves_with id S.tree.root)) l.1.0 (leaf_below-found id [] S.tree.root) in
      let most : leaves_with id S.tree.root ≤ 1 = once S.tree numbered id in
      omega (arith, some, most)

  -- what is d less than the leaf's part is so at each leaf with the id
  less_there : (f : ℕ → ℕ) (d : ℕ) (new : Plain) → sum_open f S.model path new + d ≤ f (points S.model path) → EachLeaf (λ p l. l.id ≡ id → sum_open f S.model p new + d ≤ if_open f l.kept.state (points S.model p)) [] S.tree.root
  less_there f d new less =
      each-weaker (λ p l. l.id ≡ id → (p ≡ path) × (l.kept ≡ kept)) (λ p l. l.id ≡ id → sum_open f S.model p new + d ≤ if_open f l.kept.state (points S.model p))
      (λ p l h same.
      let state : l.kept.state ≡ IsOpen = ap (λ (k : LeafData). k.state) (h same).1 ∙ is_open in
      subst (λ q. sum_open f S.model q new + d ≤ if_open f l.kept.state (points S.model q)) (sym (h same).0) (subst (λ s. sum_open f S.model path new + d ≤ if_open f s (points S.model path)) (sym state) less))
      [] S.tree.root (at_leaf S.tree.root id path kept (once S.tree numbered) at)

  -- d less in the place of the leaf
  lowered : (f : ℕ → ℕ) (d : ℕ) (new : Plain) → sum_open f S.model path new + d ≤ f (points S.model path) → sum_open f S.model [] (replaced id new S.tree.root) + d ≤ sum_open f S.model [] S.tree.root
  lowered f d new less = sum-replaced f S.model id new d [] S.tree.root one (less_there f d new less)

  some_points : 1 ≤ points S.model path
  some_points = points-some S.model path lawful not_empty

  module _ (S' : PlainSearch) where
    -- ---- closed

    closed : (shut : LeafData) → shut.state ≡ IsClosed → S' ≡ search_with_leaf S id shut → Lowers S S'
    closed shut state is =
        let leaf : Plain = Leaf (record { id = id; kept = shut }) in
        let none : (f : ℕ → ℕ) → sum_open f S.model path leaf ≡ 0 = λ f. ap (λ s. if_open f s (points S.model path)) state in
        let less : sum_open (λ n. 2 * n - 1) S.model path leaf + 1 ≤ 2 * points S.model path - 1 = let some : 1 ≤ points S.model path = some_points in let z = none (λ n. 2 * n - 1) in omega (arith, some, z) in
        let fewer : sum_open (λ n. n - 1) S.model path leaf + 0 ≤ points S.model path - 1 = let z = none (λ n. n - 1) in omega (arith, z) in
        subst (Lowers S) (sym is)
        (record {
          model = refl;
          work = lowered (λ n. 2 * n - 1) 1 leaf less;
          room = room-after S.tree (with_leaf S.tree id shut) (splits_of S) (splits S.model [] (with_leaf S.tree id shut).root) 0 refl (omega arith)
              (splits-replaced_leaf id leaf refl S.tree.root ∙ omega arith)
              (lowered (λ n. n - 1) 0 leaf fewer);
        })

    -- ---- closed with a point

    closed_with_point : (x : Point) (shut : LeafData) → shut.state ≡ IsClosed → (mid : PlainSearch) → IsKeepable S.model x → TakesPoint S x mid → S' ≡ search_with_leaf mid id shut → Lowers S S'
    closed_with_point x shut state mid keepable takes is =
        let states : List LeafState = takes.tree.states in
        let tree_is : mid.tree ≡ with_leaf_states S.tree states = takes.tree.tree in
        let root_is : mid.tree.root ≡ with_states states S.tree.root = ap (λ (T : NumberedTree). T.root) tree_is in
        let again : EachLeaf (λ p l. IsJudgedLeaf (formulation_of S) (target S.model mid.points) p l.kept) [] (with_states states S.tree.root) =
        subst (λ t. EachLeaf (λ p l. IsJudgedLeaf (formulation_of S) (target S.model mid.points) p l.kept) [] t) root_is takes.tree.judged in
        let leaf : Plain = Leaf (record { id = id; kept = shut }) in
        let none : (f : ℕ → ℕ) → sum_open f S.model path leaf ≡ 0 = λ f. ap (λ s. if_open f s (points S.model path)) state in
        let less : (f : ℕ → ℕ) (d : ℕ) → sum_open f S.model path leaf + d ≤ f (points S.model path) → sum_open f S.model [] (replaced id leaf (with_states states S.tree.root)) + d ≤ sum_open f S.model [] S.tree.root = λ f d here.
        sum-changed f S.model S.cuts (target S.model S.points) (target S.model mid.points) (old_closes S.model S.points x sound.points keepable mid.points takes.points) id leaf d [] S.tree.root states one sound.judged again (less_there f d leaf here) in
        let work_less : work S.model [] (replaced id leaf (with_states states S.tree.root)) + 1 ≤ work S.model [] S.tree.root =
        less (λ n. 2 * n - 1) 1 (let some : 1 ≤ points S.model path = some_points in let z = none (λ n. 2 * n - 1) in omega (arith, some, z)) in
        let room : IsRoomy S → HasRoomFor (splits S.model [] (with_leaf (with_leaf_states S.tree states) id shut).root) (with_leaf (with_leaf_states S.tree states) id shut) =
        room-after S.tree (with_leaf (with_leaf_states S.tree states) id shut) (splits_of S) (splits S.model [] (with_leaf (with_leaf_states S.tree states) id shut).root) 0 refl (omega arith)
        (splits-replaced_leaf id leaf refl (with_states states S.tree.root) ∙ split_count-states states S.tree.root ∙ omega arith) (less (λ n. n - 1) 0 (let z = none (λ n. n - 1) in omega (arith, z))) in
        subst (Lowers S) (sym is)
        (record {
          model = takes.model;
          work = subst (λ m. work m [] (replaced id leaf mid.tree.root) + 1 ≤ work S.model [] S.tree.root) (sym takes.model)
              (subst (λ t. work S.model [] (replaced id leaf t) + 1 ≤ work S.model [] S.tree.root) (sym root_is) work_less);
          room = subst (λ m. IsRoomy S → HasRoomFor (splits m [] (with_leaf mid.tree id shut).root) (with_leaf mid.tree id shut)) (sym takes.model)
              (subst (λ T. IsRoomy S → HasRoomFor (splits S.model [] (with_leaf T id shut).root) (with_leaf T id shut)) (sym tree_is) room);
        })

    -- ---- split

    split : (j : ℕ) (v : ℤ) (mult : Multipliers) (basis : Basis) (left right : LeafData) → IsSplitAllowed S.model path j v → S' ≡ search_with_split S id j v mult basis left right → Lowers S S'
    split j v mult basis left right allowed is =
        let node : Plain = split_with_leaves S.tree.last id j v mult basis left right in
        subst (Lowers S) (sym is)
        (record {
          model = refl;
          work = lowered (λ n. 2 * n - 1) 1 node (split_less S.model lawful path not_empty j v allowed (λ n. 2 * n - 1) (λ p q a b. omega (arith, a, b)) left.state right.state);
          room = room-after S.tree (tree_with_split S.tree id j v mult basis left right) (splits_of S) (splits S.model [] (tree_with_split S.tree id j v mult basis left right).root) 1 refl (omega arith)
              (splits-replaced_split id node refl S.tree.root ∙ ap (λ n. split_count S.tree.root + n) one)
              (lowered (λ n. n - 1) 1 node (split_less S.model lawful path not_empty j v allowed (λ n. n - 1) (λ p q a b. omega (arith, a, b)) left.state right.state));
        })

    -- ---- any result

    by_closed : (done : NodeResult) → TakesResult S id path kept done S' Closed → Lowers S S'
    by_closed (Close mult farkas basis) h = closed (closed_data mult farkas basis) refl h.2
    by_closed (SplitAt col v mult basis) h = absurd h
    by_closed (PointAndClose x mult basis) h = closed_with_point x (closed_data mult kept.farkas basis) refl h.3.0 h.0 h.3.1.0 h.3.1.1
    by_closed (Keep None basis) h = absurd h
    by_closed (Keep (Some x) basis) h = absurd h

    by_split : (done : NodeResult) → TakesResult S id path kept done S' Split → Lowers S S'
    by_split (Close mult farkas basis) h = absurd h
    by_split (SplitAt col v mult basis) h = split col.0 v mult basis h.2.0 h.2.1.0 h.0.allowed h.2.1.1.1.1
    by_split (PointAndClose x mult basis) h = absurd h
    by_split (Keep None basis) h = absurd h
    by_split (Keep (Some x) basis) h = absurd h

-- ---- searches

pub lowers : (S : PlainSearch) (id : ℕ) (done : NodeResult) (S' : PlainSearch) (taken : Taken) → IsSound S → IsNumbered S.tree → IsLawful S.model → Takes S id done S' taken → IsEffective taken → Lowers S S'
lowers S id done S' Stale sound numbered lawful takes effective = absurd effective
lowers S id done S' Refused sound numbered lawful takes effective = absurd effective
lowers S id done S' Reopened sound numbered lawful takes effective = absurd effective
lowers S id done S' Full sound numbered lawful takes effective = absurd effective
lowers S id done S' Closed sound numbered lawful takes effective = by_closed S sound numbered lawful id takes.path takes.kept takes.leaf takes.state S' done takes.result_is
lowers S id done S' Split sound numbered lawful takes effective = by_split S sound numbered lawful id takes.path takes.kept takes.leaf takes.state S' done takes.result_is
lowers S id done S' Kept sound numbered lawful takes effective = absurd effective

pub has-room : (S : PlainSearch) (id : ℕ) (path : Path) (kept : LeafData) (j : ℕ) (v : ℤ) → IsSound S → IsLawful S.model → IsLeafAt S.tree.root id path kept → kept.state ≡ IsOpen → IsSplitAllowed S.model path j v → IsRoomy S → HasRoom S.tree
has-room S id path kept j v sound lawful at is_open allowed roomy =
    let two : 2 ≤ points S.model path = two_points S.model lawful path (open-found S sound id path kept at is_open) j v allowed in
    let own : points S.model path - 1 ≤ splits_of S = own-part S id path kept sound lawful at is_open (λ n. n - 1) in
    room-now S.tree (splits_of S) (omega (arith, two, own)) roomy
