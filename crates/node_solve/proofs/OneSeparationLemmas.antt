-- Separation has one answer.
use Rattle.std.specs.Prelude.{◌≡◌, ◌⊎◌, ℕ, zero, suc, ◌+◌, ◌<◌, Bool, true, false, if◌then◌else◌, List, [], ◌∷◌, ◌++◌, length, get_or, map, pos, Option, Some, None, Result, Ok, Err}
use Rattle.std.specs.Ordering.{is_lt, is_eq, nat_cmp, ordering_then, ordering_reverse}
use Rattle.std.specs.Cmp.{IsTotalOrder, IsStrictWeakOrder}
use Rattle.std.specs.List.{sum_by}
use Rattle.std.specs.List.Sorted.{IsSorted, IsPermutation}
use Rattle.std.specs.declared.cmp.Ordering.{Ordering}
use Rattle.std.specs.declared.cmp.Ordering.TheVariants.{Less, Equal, Greater}
use Rattle.std.proofs.Common.{refl, sym, ap, subst, ◌∙◌, inl, inr, arith, true≢false}
use Rattle.std.proofs.lemmas.Bool.{cases_order}
use Rattle.std.proofs.lemmas.Cmp.{ranked, tied_itself, on_total, then_total, nat_cmp_total}
use Rattle.std.proofs.lemmas.List.Sums.{sum_by-cons}
use Rattle.std.proofs.lemmas.List.Sorted.{ranks_by, sorted_far, IsPermutation-sym, IsPermutation-trans, sum_by-IsPermutation}
use Rattle.frac128.specs.Rational.{ℚ, int, ◌+ℚ◌, rational_cmp}
use Rattle.frac128.specs.ComparisonLaws.{same_from_cmp, rational_cmp_total}
use Rattle.checked_sum.proofs.AnswerLaws.{first_wide_unique}
use Rattle.lp_model.specs.Program.{Program, Point}
use Rattle.lp_model.specs.declared.types.Side.{Side}
use Rattle.lp_model.specs.declared.types.Side.TheVariants.{Lo, Hi}
use Rattle.lp_model.specs.declared.types.Literal.{Literal}
use Rattle.lp_model.specs.declared.types.Derivation.{Derivation}
use Rattle.lp_model.specs.declared.types.WideStep.{WideStep}
use Rattle.cover_cuts.specs.Covers.{side_coefficient, contribution_number}
use Rattle.cover_cuts.specs.Answers.{CoverSumFits, IsFirstWideCoverTerm, cover_step, IsValidAnswer}
use Rattle.cut_find.specs.Greedy.{IsLiteralCandidate, GapFits, HasWideGap, gap, AreCandidates, rank_cmp, IsOrder, cover_of, by_answer, TakesGreedily, places_without, Drops, literal_value, AddsUp, IsViolated, IsViolatedAnswer, AfterDropping, AfterTaking, IsGreedyAnswer}
use Rattle.cut_find.specs.Separation.{FindsNext, FindsBelow, IsSeparation}

-- ---- whether a cover derives

module _ (M : Program) (d : Derivation) where
  step_fits : (k : ℕ) → IsFirstWideCoverTerm M d k → CoverSumFits M d → ⊥
  step_fits k wide fits = wide.here (fits k wide.within)

  valid_one : (r t : Result Bool WideStep) → IsValidAnswer M d r → IsValidAnswer M d t → r ≡ t
  valid_one (Ok true) (Ok true) h k = refl
  valid_one (Ok true) (Ok false) h (inl not) = absurd (not h.derives.posed)
  valid_one (Ok true) (Ok false) h (inr (posed, fits, not)) = absurd (not h.derives.fails)
  valid_one (Ok true) (Err e) h (posed, (k, (wide, is))) = absurd (step_fits k wide h.fits)
  valid_one (Ok false) (Ok true) (inl not) k = absurd (not k.derives.posed)
  valid_one (Ok false) (Ok true) (inr (posed, fits, not)) k = absurd (not k.derives.fails)
  valid_one (Ok false) (Ok false) h k = refl
  valid_one (Ok false) (Err e) (inl not) (posed, other) = absurd (not posed)
  valid_one (Ok false) (Err e) (inr (posed, fits, not)) (other, (k, (wide, is))) = absurd (step_fits k wide fits)
  valid_one (Err e) (Ok true) (posed, (k, (wide, is))) h = absurd (step_fits k wide h.fits)
  valid_one (Err e) (Ok false) (posed, other) (inl not) = absurd (not posed)
  valid_one (Err e) (Ok false) (other, (k, (wide, is))) (inr (posed, fits, not)) = absurd (step_fits k wide fits)
  valid_one (Err e) (Err f) (posed, (k, (wide, is))) (other, (l, (also, here))) =
      ap Err (is ∙ ap (cover_step d.row.0) (first_wide_unique (int (pos 0)) (contribution_number M d) (side_coefficient M d.row.0 d.side) (length M.cols) k l wide also) ∙ sym here)

-- ---- taking and dropping

module _ (M : Program) (i : ℕ) (s : Side) where
  takes_one : (js taken : List ℕ) (o p : Option (List ℕ)) → TakesGreedily M i s taken js o → TakesGreedily M i s taken js p → o ≡ p
  takes_one [] taken o p (r, (v, h)) (t, (w, k)) =
      by r h (subst (λ u. by_answer u (p ≡ Some taken) (p ≡ None) (p ≡ None)) (sym (valid_one M (cover_of M i s taken) r t v w)) k)
    where
      by : (u : Result Bool WideStep) → by_answer u (o ≡ Some taken) (o ≡ None) (o ≡ None) → by_answer u (p ≡ Some taken) (p ≡ None) (p ≡ None) → o ≡ p
      by (Ok true) a b = a ∙ sym b
      by (Ok false) a b = a ∙ sym b
      by (Err e) a b = a ∙ sym b
  takes_one (j ∷ js) taken o p (r, (v, h)) (t, (w, k)) =
      by r (λ a b. takes_one js (taken ++ j ∷ []) o p a b) h
      (subst (λ u. by_answer u (p ≡ Some taken) (TakesGreedily M i s (taken ++ j ∷ []) js p) (p ≡ None)) (sym (valid_one M (cover_of M i s taken) r t v w)) k)
    where
      by : (u : Result Bool WideStep) → (TakesGreedily M i s (taken ++ j ∷ []) js o → TakesGreedily M i s (taken ++ j ∷ []) js p → o ≡ p)
          → by_answer u (o ≡ Some taken) (TakesGreedily M i s (taken ++ j ∷ []) js o) (o ≡ None) → by_answer u (p ≡ Some taken) (TakesGreedily M i s (taken ++ j ∷ []) js p) (p ≡ None) → o ≡ p
      by (Ok true) on a b = a ∙ sym b
      by (Ok false) on a b = on a b
      by (Err e) on a b = a ∙ sym b

  drops_one : (js kept : List ℕ) (o p : Option (List ℕ)) → Drops M i s kept js o → Drops M i s kept js p → o ≡ p
  drops_one [] kept o p h k = h ∙ sym k
  drops_one (j ∷ js) kept o p (r, (v, h)) (t, (w, k)) =
      by r (λ a b. drops_one js (places_without j kept) o p a b) (λ a b. drops_one js kept o p a b) h
      (subst (λ u. by_answer u (Drops M i s (places_without j kept) js p) (Drops M i s kept js p) (p ≡ None)) (sym (valid_one M (cover_of M i s (places_without j kept)) r t v w)) k)
    where
      by : (u : Result Bool WideStep) → (Drops M i s (places_without j kept) js o → Drops M i s (places_without j kept) js p → o ≡ p) → (Drops M i s kept js o → Drops M i s kept js p → o ≡ p)
          → by_answer u (Drops M i s (places_without j kept) js o) (Drops M i s kept js o) (o ≡ None) → by_answer u (Drops M i s (places_without j kept) js p) (Drops M i s kept js p) (p ≡ None) → o ≡ p
      by (Ok true) fewer same a b = fewer a b
      by (Ok false) fewer same a b = same a b
      by (Err e) fewer same a b = a ∙ sym b

-- ---- what the point violates

adds_one : (x : Point) (ls : List Literal) (total : ℚ) (r t : Option ℚ) → AddsUp x total ls r → AddsUp x total ls t → r ≡ t
adds_one x [] total r t h k = h ∙ sym k
adds_one x (l ∷ ls) total r t (inl (fits, h)) (inl (also, k)) = adds_one x ls (total +ℚ literal_value x l) r t h k
adds_one x (l ∷ ls) total r t (inl (fits, h)) (inr (not, k)) = absurd (not fits)
adds_one x (l ∷ ls) total r t (inr (not, h)) (inl (fits, k)) = absurd (not fits)
adds_one x (l ∷ ls) total r t (inr (not, h)) (inr (also, k)) = h ∙ sym k

violated_one : (x : Point) (d : Derivation) (o p : Option Derivation) → IsViolatedAnswer x d o → IsViolatedAnswer x d p → o ≡ p
violated_one x d o p (r, (adds, h)) (t, (other, k)) =
    by h (subst (λ u. (IsViolated d.literals u × (p ≡ Some d)) ⊎ ((¬ IsViolated d.literals u) × (p ≡ None))) (sym (adds_one x d.literals (int (pos 0)) r t adds other)) k)
  where
    by : (IsViolated d.literals r × (o ≡ Some d)) ⊎ ((¬ IsViolated d.literals r) × (o ≡ None)) → (IsViolated d.literals r × (p ≡ Some d)) ⊎ ((¬ IsViolated d.literals r) × (p ≡ None)) → o ≡ p
    by (inl (v, a)) (inl (w, b)) = a ∙ sym b
    by (inl (v, a)) (inr (not, b)) = absurd (not v)
    by (inr (not, a)) (inl (w, b)) = absurd (not w)
    by (inr (not, a)) (inr (also, b)) = a ∙ sym b

module _ (M : Program) (i : ℕ) (s : Side) (x : Point) where
  dropped_one : (kept : Option (List ℕ)) (o p : Option Derivation) → AfterDropping M i s x kept o → AfterDropping M i s x kept p → o ≡ p
  dropped_one None o p h k = h ∙ sym k
  dropped_one (Some kept) o p h k = violated_one x (cover_of M i s kept) o p h k

  taken_one : (taken : Option (List ℕ)) (o p : Option Derivation) → AfterTaking M i s x taken o → AfterTaking M i s x taken p → o ≡ p
  taken_one None o p h k = h ∙ sym k
  taken_one (Some taken) o p (kept, (drops, h)) (other, (also, k)) = dropped_one kept o p h (subst (λ q. AfterDropping M i s x q p) (sym (drops_one M i s taken taken kept other drops also)) k)

  -- ---- the order

  candidates_one : (n : ℕ) (a b : List (ℚ × ℕ)) → AreCandidates M i s x n a → AreCandidates M i s x n b → a ≡ b
  candidates_one zero a b h k = h ∙ sym k
  candidates_one (suc n) a b (inl (c, f, (before, (h, e)))) (inl (_, _, (other, (k, g)))) = e ∙ ap (λ l. l ++ (gap M i s x n, n) ∷ []) (candidates_one n before other h k) ∙ sym g
  candidates_one (suc n) a b (inl (c, f, h)) (inr (not, k)) = absurd (not c)
  candidates_one (suc n) a b (inr (not, h)) (inl (c, f, k)) = absurd (not c)
  candidates_one (suc n) a b (inr (not, h)) (inr (also, k)) = candidates_one n a b h k

  gaps_fit : (n : ℕ) (a : List (ℚ × ℕ)) → AreCandidates M i s x n a → (j : ℕ) → j < n → IsLiteralCandidate M i s j → GapFits M i s x j
  gaps_fit zero a h j below is = absurd (omega arith)
  gaps_fit (suc n) a (inl (c, f, (before, (h, e)))) j below is = elim (cases_order j n) [
    | inl same ↦ subst (GapFits M i s x) (sym same) f
    | inr apart ↦ elim apart [ inl less ↦ gaps_fit n before h j less is | inr more ↦ absurd (omega arith) ]
  ]
  gaps_fit (suc n) a (inr (not, h)) j below is = elim (cases_order j n) [
    | inl same ↦ absurd (not (subst (IsLiteralCandidate M i s) same is))
    | inr apart ↦ elim apart [ inl less ↦ gaps_fit n a h j less is | inr more ↦ absurd (omega arith) ]
  ]

-- ---- lists in order that have the same elements are one

order : IsTotalOrder rank_cmp
order = then_total (on_total (λ (p : ℚ × ℕ). p.0) rational_cmp_total) (on_total (λ (p : ℚ × ℕ). p.1) nat_cmp_total)

weak : IsStrictWeakOrder (λ a b. is_lt (rank_cmp a b))
weak = ranks_by order (λ (p : ℚ × ℕ). p)

same_rank : (a b : ℚ × ℕ) → rank_cmp a b ≡ Equal → a ≡ b
same_rank a b e = by (rational_cmp a.0 b.0) refl e
  where
    by : (r : Ordering) → rational_cmp a.0 b.0 ≡ r → ordering_then r (nat_cmp a.1 b.1) ≡ Equal → a ≡ b
    by Less c h = absurd (true≢false (ap is_lt h))
    by Equal c h =
        let numbers : a.0 ≡ b.0 = same_from_cmp a.0 b.0 c in
        let columns : a.1 ≡ b.1 = ranked a.1 b.1 Equal (sym h) in
        (λ t. (numbers t, columns t))
    by Greater c h = absurd (true≢false (sym (ap is_eq h)))

own_rank : (a : ℚ × ℕ) → is_eq (rank_cmp a a) ≡ true
own_rank a = ap is_eq (tied_itself order a)

-- 1 at what has the same rank
abbrev tie : ℚ × ℕ → ℚ × ℕ → ℕ
tie a b = if is_eq (rank_cmp a b) then 1 else 0

none_tied : (a : ℚ × ℕ) (xs : List (ℚ × ℕ)) → ((k : ℕ) (d : ℚ × ℕ) → k < length xs → is_eq (rank_cmp a (get_or xs k d)) ≡ false) → sum_by (tie a) xs ≡ 0
none_tied a [] h = refl
none_tied a (x ∷ xs) h =
    let first : tie a x ≡ 0 = ap (λ b. if b then 1 else 0) (h 0 x (omega arith)) in
    let rest : sum_by (tie a) xs ≡ 0 = none_tied a xs (λ k d below. h (suc k) d (omega arith)) in
    let whole = sum_by-cons (tie a) x xs in
    omega (arith, first, rest, whole)

own_tied : (x : ℚ × ℕ) (xs : List (ℚ × ℕ)) → 0 < sum_by (tie x) (x ∷ xs)
own_tied x xs =
    let first : tie x x ≡ 1 = ap (λ b. if b then 1 else 0) (own_rank x) in
    let whole = sum_by-cons (tie x) x xs in
    omega (arith, first, whole)

-- what is below the first of a list in order has the rank of none
below_none : (a y : ℚ × ℕ) (ys : List (ℚ × ℕ)) → IsSorted rank_cmp (y ∷ ys) → rank_cmp a y ≡ Less → sum_by (tie a) (y ∷ ys) ≡ 0
below_none a y ys sorted less = none_tied a (y ∷ ys) (λ k d below. by k d below (is_eq (rank_cmp a (get_or (y ∷ ys) k d))) refl)
  where
    by : (k : ℕ) (d : ℚ × ℕ) → k < length (y ∷ ys) → (b : Bool) → is_eq (rank_cmp a (get_or (y ∷ ys) k d)) ≡ b → b ≡ false
    by k d below false e = refl
    by k d below true e =
        let tied : rank_cmp a (get_or (y ∷ ys) k d) ≡ Equal = equal (rank_cmp a (get_or (y ∷ ys) k d)) e in
        let far : is_lt (rank_cmp (get_or (y ∷ ys) k d) y) ≡ false = sorted_far (λ a b. is_lt (rank_cmp a b)) weak (y ∷ ys) sorted 0 k d (omega arith) below in
        absurd (true≢false (sym (ap is_lt (sym (order.congr a (get_or (y ∷ ys) k d) y tied) ∙ less)) ∙ far))
      where
        equal : (r : Ordering) → is_eq r ≡ true → r ≡ Equal
        equal Less h = absurd (true≢false (sym h))
        equal Equal h = refl
        equal Greater h = absurd (true≢false (sym h))

tail_sorted : (x : ℚ × ℕ) (xs : List (ℚ × ℕ)) → IsSorted rank_cmp (x ∷ xs) → IsSorted rank_cmp xs
tail_sorted x xs h k d low below =
    let e : suc k + 1 ≡ suc (k + 1) = omega arith in
    subst (λ n. is_lt (rank_cmp (get_or (x ∷ xs) n d) (get_or xs k d)) ≡ false) e (h (suc k) d (omega arith) (omega (arith, below)))

sorted_one : (xs ys : List (ℚ × ℕ)) → IsSorted rank_cmp xs → IsSorted rank_cmp ys → ((a : ℚ × ℕ) → sum_by (tie a) xs ≡ sum_by (tie a) ys) → xs ≡ ys
sorted_one [] [] h k same = refl
sorted_one [] (y ∷ ys) h k same = let own = own_tied y ys in let e : 0 ≡ sum_by (tie y) (y ∷ ys) = same y in absurd (omega (arith, own, e))
sorted_one (x ∷ xs) [] h k same = let own = own_tied x xs in let e : sum_by (tie x) (x ∷ xs) ≡ 0 = same x in absurd (omega (arith, own, e))
sorted_one (x ∷ xs) (y ∷ ys) h k same = by (rank_cmp x y) refl (λ e. sorted_one xs ys (tail_sorted x xs h) (tail_sorted y ys k) (rest e))
  where
    rest : x ≡ y → (a : ℚ × ℕ) → sum_by (tie a) xs ≡ sum_by (tie a) ys
    rest e a =
        let here : tie a x ≡ tie a y = ap (tie a) e in
        let own = sum_by-cons (tie a) x xs in
        let other = sum_by-cons (tie a) y ys in
        let whole = same a in
        omega (arith, here, own, other, whole)

    turned : rank_cmp x y ≡ Greater → rank_cmp y x ≡ Less
    turned e = order.antisymm y x ∙ ap ordering_reverse e

    by : (r : Ordering) → rank_cmp x y ≡ r → (x ≡ y → xs ≡ ys) → x ∷ xs ≡ y ∷ ys
    by Less e on = let own = own_tied x xs in let none = below_none x y ys k e in let whole = same x in absurd (omega (arith, own, none, whole))
    by Equal e on = let first : x ≡ y = same_rank x y e in let more : xs ≡ ys = on first in (λ t. first t ∷ more t)
    by Greater e on = let own = own_tied y ys in let none = below_none y x xs h (turned e) in let whole = same y in absurd (omega (arith, own, none, whole))

-- ---- covers

module _ (M : Program) (i : ℕ) (s : Side) (x : Point) where
  order_one : (a b : List ℕ) → IsOrder M i s x a → IsOrder M i s x b → a ≡ b
  order_one a b h k =
      let found : k.found ≡ h.found = candidates_one M i s x (length M.cols) k.found h.found k.candidates h.candidates in
      let other : IsPermutation h.found k.ranked = subst (λ l. IsPermutation l k.ranked) found k.permuted in
      let both : IsPermutation h.ranked k.ranked = IsPermutation-trans h.ranked h.found k.ranked (IsPermutation-sym h.found h.ranked h.permuted) other in
      let ranked_is : h.ranked ≡ k.ranked = sorted_one h.ranked k.ranked h.sorted k.sorted (λ c. sym (sum_by-IsPermutation (tie c) h.ranked k.ranked both)) in
      h.columns ∙ ap (map (λ (r : ℚ × ℕ). r.1)) ranked_is ∙ sym k.columns

  wide_not_ordered : HasWideGap M i s x → (a : List ℕ) → ¬ IsOrder M i s x a
  wide_not_ordered (j, (below, (is, not))) a h = not (gaps_fit M i s x (length M.cols) h.found h.candidates j below is)

  greedy_one : (o p : Option Derivation) → IsGreedyAnswer M i s x o → IsGreedyAnswer M i s x p → o ≡ p
  greedy_one o p (inl (wide, h)) (inl (also, k)) = h ∙ sym k
  greedy_one o p (inl (wide, h)) (inr (b, (ordered, k))) = absurd (wide_not_ordered wide b ordered)
  greedy_one o p (inr (a, (ordered, h))) (inl (wide, k)) = absurd (wide_not_ordered wide a ordered)
  greedy_one o p (inr (a, (ordered, (taken, (takes, h))))) (inr (b, (also, (other, (more, k))))) =
      let same : b ≡ a = order_one b a also ordered in
      let one : other ≡ taken = takes_one M i s a [] other taken (subst (λ l. TakesGreedily M i s [] l other) same more) takes in
      taken_one M i s x taken o p h (subst (λ t. AfterTaking M i s x t p) one k)

-- ---- separation

some_same : (d e : Derivation) → Some d ≡ Some e → d ≡ e
some_same d e h = cc

none_not : (d : Derivation) → ¬ (None ≡ Some d)
none_not d h = cc

module _ (M : Program) (x : Point) (max : ℕ) where
  next_one : (i : ℕ) (s : Side) (before a b : List Derivation) → FindsNext M x max i s before a → FindsNext M x max i s before b → a ≡ b
  next_one i s before a b (inl (full, h)) (inl (also, k)) = h ∙ sym k
  next_one i s before a b (inl (full, h)) (inr (room, k)) = absurd (omega (arith, full, room))
  next_one i s before a b (inr (room, h)) (inl (full, k)) = absurd (omega (arith, full, room))
  next_one i s before a b (inr (room, inl (none, h))) (inr (also, inl (other, k))) = h ∙ sym k
  next_one i s before a b (inr (room, inl (none, h))) (inr (also, inr (e, (some, k)))) = absurd (none_not e (greedy_one M i s x None (Some e) none some))
  next_one i s before a b (inr (room, inr (d, (some, h)))) (inr (also, inl (none, k))) = absurd (none_not d (greedy_one M i s x None (Some d) none some))
  next_one i s before a b (inr (room, inr (d, (some, h)))) (inr (also, inr (e, (other, k)))) =
      h ∙ ap (λ c. before ++ c ∷ []) (some_same d e (greedy_one M i s x (Some d) (Some e) some other)) ∙ sym k

  below_one : (n : ℕ) (a b : List Derivation) → FindsBelow M x max n a → FindsBelow M x max n b → a ≡ b
  below_one zero a b h k = h ∙ sym k
  below_one (suc n) a b (before, (h, (between, (up, down)))) (other, (k, (middle, (over, under)))) =
      let first : other ≡ before = below_one n other before k h in
      let second : middle ≡ between = next_one n Hi before middle between (subst (λ l. FindsNext M x max n Hi l middle) first over) up in
      next_one n Lo between a b down (subst (λ l. FindsNext M x max n Lo l b) second under)

  pub separation_one : (a b : List Derivation) → IsSeparation M x max a → IsSeparation M x max b → a ≡ b
  separation_one a b h k = below_one (length M.rows) a b h k
