-- Along a ray from a feasible point each point is feasible, and the value falls below each number.
use Rattle.std.specs.Prelude.{◌≡◌, ◌≢◌, ℕ, zero, suc, ℤ, [], ◌∷◌, length, pos, is_none, Option, Some, None}
use Rattle.std.proofs.Common.{refl, sym, ap, subst, ◌∙◌, arith, inl, inr}
use Rattle.std.proofs.lemmas.Bool.{false≢true}
use Rattle.frac128.specs.Rational.{ℚ, int, ◌+ℚ◌, ◌-ℚ◌, ◌*ℚ◌, ◌/ℚ◌, neg_ℚ, ◌≤ℚ◌, ◌<ℚ◌, IsWhole}
use Rattle.frac128.specs.RationalRing.{ring, reads_ℚ}
use Rattle.frac128.specs.RationalOrder.{linear, linear_strict, add-≤ℚ, mul-≤ℚ, zero-≤ℚ-*ℚ, ≤ℚ_of_<ℚ, ≤ℚ_or_>ℚ, <ℚ_irrefl, zero-<ℚ-one}
use Rattle.frac128.proofs.Division.{zero-<ℚ-inverse, /ℚ-*ℚ}
use Rattle.frac128.specs.Sums.{sum_below}
use Rattle.lp_model.specs.Program.{Program, Point, coordinate, constant, cost, coefficient, lower, upper, is_integer, low_side, high_side, in_least_form, least_value, AtLeast, AtMost, Within, IsAllowed, IsFeasible}
use Rattle.lp_model.specs.declared.types.Sense.{Sense}
use Rattle.lp_model.specs.declared.types.Sense.TheVariants.{Min, Max}
use Rattle.model_points.specs.Rays.{GoesOn, IsRay, direction_cost, IsUnbounded}

some_none : (v : ℚ) → Some v ≢ None
some_none v e = false≢true (ap (λ o. is_none o) e)

-- q times the direction further
abbrev pub moved : ℚ → Point → Point → Point
moved q [] ds = []
moved q (x ∷ xs) [] = x ∷ xs
moved q (x ∷ xs) (d ∷ ds) = (x +ℚ q *ℚ d) ∷ moved q xs ds

length-moved : (q : ℚ) (xs ds : Point) → length (moved q xs ds) ≡ length xs
length-moved q [] ds = refl
length-moved q (x ∷ xs) [] = refl
length-moved q (x ∷ xs) (d ∷ ds) = ap suc (length-moved q xs ds)

pub coordinate-moved : (q : ℚ) (xs ds : Point) → length xs ≡ length ds → (j : ℕ) → coordinate (moved q xs ds) j ≡ coordinate xs j +ℚ q *ℚ coordinate ds j
coordinate-moved q [] [] same j = ring (q ∷ []) (search reads_ℚ) tt
coordinate-moved q [] (d ∷ ds) same j = absurd (omega arith)
coordinate-moved q (x ∷ xs) [] same j = absurd (omega arith)
coordinate-moved q (x ∷ xs) (d ∷ ds) same zero = refl
coordinate-moved q (x ∷ xs) (d ∷ ds) same (suc j) = let rest : length xs ≡ length ds = omega arith in coordinate-moved q xs ds rest j

module _ (q : ℚ) (nonnegative : int (pos 0) ≤ℚ q) where
  low-moved : (lo hi : Option ℚ) (v g : ℚ) → AtLeast lo v → GoesOn lo hi g → AtLeast lo (v +ℚ q *ℚ g)
  low-moved None hi v g h goes = tt
  low-moved (Some l) hi v g h goes = linear (l ∷ v ∷ q ∷ g ∷ []) (add-≤ℚ h (zero-≤ℚ-*ℚ nonnegative (goes.above (some_none l)))) (search reads_ℚ depth 9) tt

  high-moved : (lo hi : Option ℚ) (v g : ℚ) → AtMost hi v → GoesOn lo hi g → AtMost hi (v +ℚ q *ℚ g)
  high-moved lo None v g h goes = tt
  high-moved lo (Some u) v g h goes = linear (u ∷ v ∷ q ∷ g ∷ []) (add-≤ℚ h (mul-≤ℚ nonnegative (goes.below (some_none u)))) (search reads_ℚ depth 9) tt

  within-moved : (lo hi : Option ℚ) (v g : ℚ) → Within lo hi v → GoesOn lo hi g → Within lo hi (v +ℚ q *ℚ g)
  within-moved lo hi v g h goes = record { low = low-moved lo hi v g h.low goes; high = high-moved lo hi v g h.high goes }

module _ (M : Program) (x d : Point) (q : ℚ) (same : length x ≡ length d) where
  sum-moved : (n : ℕ) (a : ℕ → ℚ) → sum_below n (λ j. a j *ℚ coordinate (moved q x d) j) ≡ sum_below n (λ j. a j *ℚ coordinate x j) +ℚ q *ℚ sum_below n (λ j. a j *ℚ coordinate d j)
  sum-moved zero a = ring (q ∷ []) (search reads_ℚ) tt
  sum-moved (suc n) a =
      (λ i. sum-moved n a i +ℚ a n *ℚ coordinate-moved q x d same n i)
      ∙ ring (sum_below n (λ j. a j *ℚ coordinate x j) ∷ sum_below n (λ j. a j *ℚ coordinate d j) ∷ a n ∷ coordinate x n ∷ coordinate d n ∷ q ∷ []) (search reads_ℚ depth 9) tt

  pub feasible-moved : int (pos 0) ≤ℚ q → IsFeasible M x → IsRay M d → IsFeasible M (moved q x d)
  feasible-moved nonnegative feasible ray = record {
    shape = length-moved q x d ∙ feasible.shape;
    columns = λ j below.
        let held = feasible.columns j below in
        let goes = ray.columns j below in
        subst (IsAllowed (is_integer M j) (lower M j) (upper M j)) (sym (coordinate-moved q x d same j)) (record {
          bounds = within-moved q nonnegative (lower M j) (upper M j) (coordinate x j) (coordinate d j) held.bounds goes.bounds;
          whole = λ t.
              let stays : coordinate x j ≡ coordinate x j +ℚ q *ℚ int (pos 0) = ring (coordinate x j ∷ q ∷ []) (search reads_ℚ) tt in
              subst IsWhole (stays ∙ ap (λ z. coordinate x j +ℚ q *ℚ z) (sym (goes.integer t))) (held.whole t);
        });
    rows = λ i below.
        subst (Within (low_side M i) (high_side M i)) (sym (sum-moved (length M.cols) (coefficient M i)))
        (within-moved q nonnegative (low_side M i) (high_side M i) _ _ (feasible.rows i below) (ray.rows i below));
  }

  least-form : (s : Sense) (c a b : ℚ) → in_least_form s (c +ℚ (a +ℚ q *ℚ b)) ≡ in_least_form s (c +ℚ a) +ℚ q *ℚ in_least_form s b
  least-form Min c a b = ring (c ∷ a ∷ b ∷ q ∷ []) (search reads_ℚ depth 9) tt
  least-form Max c a b = ring (c ∷ a ∷ b ∷ q ∷ []) (search reads_ℚ depth 9) tt

  pub least-moved : least_value M 1 (moved q x d) ≡ least_value M 1 x +ℚ q *ℚ direction_cost M d
  least-moved =
      ap (λ t. in_least_form M.sense (constant M 1 +ℚ t)) (sum-moved (length M.cols) (cost M 1))
      ∙ least-form M.sense (constant M 1) (sum_below (length M.cols) (λ j. cost M 1 j *ℚ coordinate x j)) (sum_below (length M.cols) (λ j. cost M 1 j *ℚ coordinate d j))

-- how far to go from the value l for one that is 1 below k, where each step gains g
module _ (l g : ℚ) (k : ℤ) (gains : g <ℚ int (pos 0)) (over : int k ≤ℚ l) where
  abbrev pub gap : ℚ
  gap = l -ℚ int k +ℚ int (pos 1)

  abbrev pub far : ℚ
  far = gap /ℚ neg_ℚ g

  step : int (pos 0) <ℚ neg_ℚ g
  step = linear_strict (g ∷ []) gains (search reads_ℚ depth 9) tt

  pub far-positive : int (pos 0) ≤ℚ far
  far-positive =
      zero-≤ℚ-*ℚ {x = gap} (linear (l ∷ int k ∷ []) (add-≤ℚ over (≤ℚ_of_<ℚ zero-<ℚ-one)) (search reads_ℚ depth 9) tt) (≤ℚ_of_<ℚ (zero-<ℚ-inverse step))

  pub far-below : l +ℚ far *ℚ g <ℚ int k
  far-below =
      let product : far *ℚ neg_ℚ g ≡ gap = /ℚ-*ℚ gap (neg_ℚ g) (λ e. <ℚ_irrefl (subst (λ t. int (pos 0) <ℚ t) e step)) in
      let turned : l +ℚ far *ℚ g ≡ l -ℚ far *ℚ neg_ℚ g = ring (l ∷ far ∷ g ∷ []) (search reads_ℚ depth 9) tt in
      let rest : l -ℚ gap ≡ int k -ℚ int (pos 1) = ring (l ∷ int k ∷ []) (search reads_ℚ depth 9) tt in
      let less : int k -ℚ int (pos 1) <ℚ int k = linear_strict (int k ∷ []) zero-<ℚ-one (search reads_ℚ depth 9) tt in
      subst (λ t. t <ℚ int k) (sym (turned ∙ ap (λ t. l -ℚ t) product ∙ rest)) less

pub unbounded : (M : Program) (x d : Point) → IsFeasible M x → IsRay M d → IsUnbounded M
unbounded M x d feasible ray = record {
  point = (x, feasible);
  below = λ k. elim (≤ℚ_or_>ℚ (int k) (least_value M 1 x)) [
    | inl over ↦
        let same : length x ≡ length d = feasible.shape ∙ sym ray.shape in
        let q = far (least_value M 1 x) (direction_cost M d) k ray.improves over in (
          moved q x d,
          (
            feasible-moved M x d q same (far-positive (least_value M 1 x) (direction_cost M d) k ray.improves over) feasible ray,
            subst (λ t. t <ℚ int k) (sym (least-moved M x d q same)) (far-below (least_value M 1 x) (direction_cost M d) k ray.improves over),
          ),
        )
    | inr less ↦ (x, (feasible, less))
  ];
}
