-- Totals that are moved, where the side of one row becomes another one.
use Rattle.std.specs.Prelude.{◌≡◌, ◌≢◌, ◌⊎◌, ℕ, zero, suc, ◌+◌, ◌*◌, ◌<◌, ◌≤◌, ℤ, List, [], ◌∷◌, length, map, Some, None, IfSome, Ok}
use Rattle.std.proofs.Common.{refl, sym, ap, subst, ◌∙◌, inl, inr, arith}
use Rattle.std.proofs.lemmas.Bool.{cases_eq}
use Rattle.std.proofs.lemmas.List.{length-map}
use Rattle.frac128.specs.Rational.{ℚ, ◌+ℚ◌, ◌-ℚ◌, ◌*ℚ◌}
use Rattle.frac128.specs.RationalRing.{ring, reads_ℚ}
use Rattle.frac128.specs.Sums.{sum_below}
use Rattle.checked_sum.specs.Steps.{AllFit, partial}
use Rattle.whole_sums.specs.Wholes.{IsDenominator}
use Rattle.kept_totals.specs.Kept.{RunningTotals, moved_by}
use Rattle.kept_totals.specs.Short.{IsShortFraction}
use Rattle.kept_totals.specs.Walk.{AllFrom}
use Rattle.kept_totals.proofs.TotalsLemmas.{like_product}
use Rattle.leaf_dual.specs.Answers.{row_number, RowsFit, cut_number, CutsFit}
use Rattle.leaf_dual.specs.ShortTerms.{AreFewTerms}
use Rattle.leaf_dual.proofs.ShortTerms.{short_terms}
use Rattle.leaf_dual.specs.declared.dual.LagValue.TheVariants.{Num}
use Rattle.leaf_totals.specs.declared.keeping.LeafTotals.{LeafTotals}
use Rattle.leaf_totals.specs.Keeping.{Question, AnswersQuestion, HasSideOfRow, cuts_start, columns_start, asked_reduced, asked_bound, AreRowsReached, AreCutsReached, IsBeforeColumn, IsKeptTotal, AreKeptTotals, kept_most, kept_to, IsEnding, AreShortFor, AreAllAdded, IsSumOfShortTerms, AreTrueTotals, AreComplete}
use Rattle.leaf_totals.specs.Moving.{row_product, growth, IsMovedSide, ShortMovedLaw, MovedLaw}
use Rattle.leaf_totals.proofs.EndLemmas.{all_answer}

regroup : (c s b : ℚ) → c +ℚ (s +ℚ b) ≡ c +ℚ s +ℚ b
regroup c s b = ring (c ∷ s ∷ b ∷ []) (search reads_ℚ) tt

last_first : (s b t : ℚ) → s +ℚ b +ℚ t ≡ s +ℚ t +ℚ b
last_first s b t = ring (s ∷ b ∷ t ∷ []) (search reads_ℚ) tt

grows : (a b : ℚ) → b ≡ a +ℚ (b -ℚ a)
grows a b = ring (a ∷ b ∷ []) (search reads_ℚ) tt

-- ---- sums of which one term is another one

module _ (f g : ℕ → ℚ) (i : ℕ) (by : ℚ) (other : (k : ℕ) → k ≢ i → f k ≡ g k) (here : g i ≡ f i +ℚ by) where
  sum-before : (n : ℕ) → n ≤ i → sum_below n g ≡ sum_below n f
  sum-before zero w = refl
  sum-before (suc n) w = let before = sum-before n (omega (arith, w)) in let same = sym (other n (λ e. omega (arith, e, w))) in (λ t. before t +ℚ same t)

  sum-behind : (n : ℕ) → i < n → sum_below n g ≡ sum_below n f +ℚ by
  sum-behind zero w = absurd (omega (arith, w))
  sum-behind (suc n) w = elim (cases_eq n i) [
    | inl e ↦
        let before = sum-before n (omega (arith, e)) in
        let same : g n ≡ f n +ℚ by = subst (λ k. g k ≡ f k +ℚ by) (sym e) here in
        (λ t. before t +ℚ same t) ∙ regroup (sum_below n f) (f n) by
    | inr apart ↦
        let before = sum-behind n (omega (arith, apart, w)) in
        let same = sym (other n apart) in
        (λ t. before t +ℚ same t) ∙ last_first (sum_below n f) by (f n)
  ]

-- sums from a start that is moved
module _ (s t : ℚ) (by : ℚ) (is : t ≡ s +ℚ by) (a x b y : ℕ → ℚ) where
  sum-alike : (n : ℕ) → ((k : ℕ) → k < n → a k *ℚ x k ≡ b k *ℚ y k) → sum_below n (λ k. b k *ℚ y k) ≡ sum_below n (λ k. a k *ℚ x k)
  sum-alike zero like = refl
  sum-alike (suc n) like = let before = sum-alike n (λ k below. like k (omega (arith, below))) in let here = sym (like n (omega arith)) in (λ j. before j +ℚ here j)

  partial-moved : (n : ℕ) → ((k : ℕ) → k < n → a k *ℚ x k ≡ b k *ℚ y k) → partial t b y n ≡ partial s a x n +ℚ by
  partial-moved n like = (λ j. is j +ℚ sum-alike n like j) ∙ last_first s by (sum_below n (λ k. a k *ℚ x k))

-- ---- lists

module _ (P Q : ℕ → ℚ → Type 0) (by : ℚ) (p : ℕ) (f : (n : ℕ) (v : ℚ) → n < p → P n v → Q n (v +ℚ by)) where
  all-moved : (k : ℕ) (vs : List ℚ) → k + length vs ≤ p → AllFrom P k vs → AllFrom Q k (map (λ v. v +ℚ by) vs)
  all-moved k [] few all = tt
  all-moved k (v ∷ vs) few all =
      let long : k + suc (length vs) ≤ p = few in
      (f k v (omega (arith, long)) all.0, all-moved (suc k) vs (omega (arith, long)) all.1)

-- ---- the question with another side

module _ (i : ℕ) (d : ℤ) (q r : Question) (is : IsDenominator d) (few : AreFewTerms r.form) (moves : IsMovedSide i q r) (short : AreShortFor d r) where
  abbrev growing : ℚ
  growing = growth i q r

  fits : RowsFit r.form.model r.row_weights r.constant × (CutsFit r.form r.row_weights r.live_weights r.constant × AllFit (columns_start r) (asked_reduced r) (asked_bound r) (length r.form.model.cols))
  fits = short_terms d is r.form r.path r.row_weights r.live_weights r.constant r.costs few short

  grown : row_product r i ≡ row_product q i +ℚ growing
  grown = grows (row_product q i) (row_product r i)

  rows-moved : cuts_start r ≡ cuts_start q +ℚ growing
  rows-moved =
      let sums = sum-behind (row_product q) (row_product r) i growing moves.row_terms grown (length q.form.model.rows) moves.within in
      ap (λ n. partial r.constant r.row_weights (row_number r.form.model r.row_weights) n) (sym moves.row_count)
      ∙ (λ t. sym moves.constant t +ℚ sums t)
      ∙ regroup q.constant (sum_below (length q.form.model.rows) (row_product q)) growing

  cuts-moved : columns_start r ≡ columns_start q +ℚ growing
  cuts-moved =
      ap (λ n. partial (cuts_start r) r.live_weights (cut_number r.form.cuts r.live_weights) n) (sym moves.cut_count)
      ∙ partial-moved (cuts_start q) (cuts_start r) growing rows-moved q.live_weights (cut_number q.form.cuts q.live_weights) r.live_weights (cut_number r.form.cuts r.live_weights) (length q.form.cuts)
      (λ k below. like_product _ _ _ _ (moves.cut_terms k))

  row-there : AreRowsReached q → (k : ℕ) → k < length r.form.model.rows → (k ≡ i) ⊎ (k ≢ i) → HasSideOfRow r k
  row-there reached k below (inl e) = subst (HasSideOfRow r) (sym e) moves.side
  row-there reached k below (inr apart) = let same = moves.row_count in moves.row_sides k apart (reached.all k (omega (arith, below, same)))

  rows-reached : AreRowsReached q → AreRowsReached r
  rows-reached reached = record { fits = fits.0; all = λ k below. row-there reached k below (cases_eq k i) }

  cuts-reached : AreCutsReached q → AreCutsReached r
  cuts-reached reached = record { fits = fits.1.0; all = λ k below. let same = moves.cut_count in moves.cut_sides k (reached.all k (omega (arith, below, same))) }

  column-moved : (j : ℕ) (v : ℚ) → j ≤ length q.form.model.cols → IsBeforeColumn q j v → IsBeforeColumn r j (v +ℚ growing)
  column-moved j v within at =
      let same = moves.column_count in
      record {
        reached = record {
          fits = λ k below. fits.1.1 k (omega (arith, below, within, same));
          all = λ k below. moves.column_sides k (omega (arith, below, within)) (at.reached.all k below);
        };
        is = ap (λ t. t +ℚ growing) at.is
            ∙ sym (partial-moved (columns_start q) (columns_start r) growing cuts-moved (asked_reduced q) (asked_bound q) (asked_reduced r) (asked_bound r) j
            (λ k below. like_product _ _ _ _ (moves.column_terms k (omega (arith, below, within)))));
      }

  kept-moved : (k : ℕ) (v : ℚ) → k < kept_most q → IsKeptTotal q k v → IsKeptTotal r k (v +ℚ growing)
  kept-moved zero v few at = record { reached = rows-reached at.reached; is = ap (λ t. t +ℚ growing) at.is ∙ sym rows-moved }
  kept-moved (suc b) v few at = (rows-reached at.0, (cuts-reached at.1.0, column-moved (64 * b) v (omega (arith, few)) at.1.1))

  module _ (old : RunningTotals) (kept : AreKeptTotals q old.kept) (all : AreAllAdded q old) where
    pub moved-kept : AreKeptTotals r (moved_by old growing).kept
    moved-kept = let n = all.count in all-moved (IsKeptTotal q) (IsKeptTotal r) growing (kept_most q) kept-moved 0 old.kept (omega (arith, n)) kept

    pub moved-all : AreAllAdded r (moved_by old growing)
    moved-all =
        let same = moves.column_count in
        let n = all.count in
        let long = length-map old.kept (λ v. v +ℚ growing) in
        record {
          rows = rows-reached all.rows;
          cuts = cuts-reached all.cuts;
          columns = subst (λ m. IsBeforeColumn r m (old.total +ℚ growing)) same (column-moved (length q.form.model.cols) old.total (omega arith) all.columns);
          count = omega (arith, same, n, long);
        }

pub moved_totals : MovedLaw
moved_totals i d q r old new is few moves short new_is kept all =
    (subst (λ (t : RunningTotals). AreKeptTotals r t.kept) (sym new_is) (moved-kept i d q r is few moves short old kept all), subst (AreAllAdded r) (sym new_is) (moved-all i d q r is few moves short old kept all))

short-row : (i : ℕ) (d : ℤ) (q r : Question) → IsMovedSide i q r → AreShortFor d q → IsShortFraction d (row_product r i) → (k : ℕ) → k < length r.form.model.rows → (k ≡ i) ⊎ (k ≢ i) → IsShortFraction d (row_product r k)
short-row i d q r moves short here k below (inl e) = subst (λ n. IsShortFraction d (row_product r n)) (sym e) here
short-row i d q r moves short here k below (inr apart) = let same = moves.row_count in subst (IsShortFraction d) (moves.row_terms k apart) (short.rows k (omega (arith, below, same)))

pub short_moved : ShortMovedLaw
short_moved i d q r moves short here = record {
  start = subst (IsShortFraction d) moves.constant short.start;
  rows = λ k below. short-row i d q r moves short here k below (cases_eq k i);
  cuts = λ k below. let same = moves.cut_count in subst (IsShortFraction d) (like_product _ _ _ _ (moves.cut_terms k)) (short.cuts k (omega (arith, below, same)));
  columns = λ j below. let same = moves.column_count in let within : j < length q.form.model.cols = omega (arith, below, same) in subst (IsShortFraction d) (like_product _ _ _ _ (moves.column_terms j within)) (short.columns j within);
}

-- ---- the totals of a leaf, moved by the term of the row

module _ (i : ℕ) (d : ℤ) (q r : Question) (old new : LeafTotals) (by : ℚ) (over_is : old.over ≡ Some d) (is : IsDenominator d) (few : AreFewTerms r.form) (moves : IsMovedSide i q r) (here : IsShortFraction d (row_product r i)) (by_is : by ≡ growth i q r)
    (totals_are : new.totals ≡ moved_by old.totals by) (ending_same : new.ending ≡ old.ending) (over_same : new.over ≡ old.over) (are : AreTrueTotals q old) where
  was_short : IsSumOfShortTerms q old d
  was_short = subst (λ o. IfSome o (IsSumOfShortTerms q old)) over_is are.over

  still_short : AreShortFor d r
  still_short = short_moved i d q r moves was_short.terms here

  all_moved : AreKeptTotals r new.totals.kept × AreAllAdded r new.totals
  all_moved = moved_totals i d q r old.totals new.totals is few moves still_short (totals_are ∙ ap (moved_by old.totals) by_is) are.kept was_short.added

  not_ended : new.ending ≡ None
  not_ended = ending_same ∙ was_short.ended

  is_short : IsSumOfShortTerms r new d
  is_short = record { denominator = is; terms = still_short; added = all_moved.1; ended = not_ended }

  pub side_moved : AreTrueTotals r new × (AreComplete r new × AnswersQuestion r (Ok (Num new.totals.total)))
  side_moved =
      let count = all_moved.1.count in (
        record {
          kept = all_moved.0;
          few = omega (arith, count);
          ending = subst (IsEnding r) (sym not_ended) tt;
          over = subst (λ o. IfSome o (IsSumOfShortTerms r new)) (sym (over_same ∙ over_is)) is_short;
        },
        (count ∙ sym (ap (kept_to r) not_ended), all_answer r.form.model r.form.cuts r.path r.row_weights r.live_weights r.costs r.constant new.totals all_moved.1),
      )
