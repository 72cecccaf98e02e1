-- Two models with their cuts that give a region the same answers under the same multipliers.
-- Idea: of a row or a cut whose multiplier is 0 an answer takes nothing, and of a column whose term makes no step, that its entries
-- have room and its bound is there; what it takes of the others is the same in both.
use Rattle.std.specs.Prelude.{◌≡◌, ◌≢◌, ◌⊎◌, ◌↔◌, ℕ, ◌<◌, ◌≤◌, List, length, [], ◌∷◌, pos, Option, Some, None, Result, Ok, Err}
use Rattle.std.specs.Option.{IsSomeAnd}
use Rattle.std.proofs.Common.{refl, sym, ap, subst, ◌∙◌, inl, inr, arith}
use Rattle.frac128.specs.Rational.{ℚ, int, ◌+ℚ◌, ◌-ℚ◌, ◌*ℚ◌, neg_ℚ}
use Rattle.frac128.specs.RationalRing.{ring, reads_ℚ}
use Rattle.frac128.specs.ComparisonLaws.{cmp_self}
use Rattle.frac128.specs.Sums.{sum_below}
use Rattle.lp_model.specs.Program.{Program, coefficient, low_side, high_side}
use Rattle.lp_model.specs.Regions.{Path}
use Rattle.lp_model.specs.Formulations.{Formulation, formulation, cut_coefficient, cut_high}
use Rattle.lp_model.specs.WideSteps.{LagPlace, Entry, Term, lag_place}
use Rattle.lp_model.specs.declared.types.CutRow.{CutRow}
use Rattle.lp_model.specs.declared.types.Var.{Var}
use Rattle.lp_model.specs.declared.types.Var.TheVariants.{Col, Row, Cut}
use Rattle.lp_model.specs.declared.types.WideStep.{WideStep}
use Rattle.leaf_dual.specs.declared.dual.LagValue.{LagValue}
use Rattle.leaf_dual.specs.declared.dual.LagValue.TheVariants.{Minus, Num}
use Rattle.leaf_dual.specs.Dual.{side_by, needed_side, left_by_rows, column_reduced_cost, row_side, cut_side, column_side, times, plus, rows_number, cuts_number, dual_number}
use Rattle.leaf_dual.specs.Answers.{side_number, row_number, RowsFit, rows_total, cut_number, CutsFit, cuts_total, EntriesFit, IsFirstWideEntry, bound_number, ColumnFits, ColumnsFit, IsReachedColumn, IsFirstWideTerm, IsFirstWidePlace, IsFirstWideStep, LacksRowSide, LacksCutSide, LacksSide, IsDualAnswer}
use Rattle.spared_leaves.specs.Alike.{IsSameSides}
use Rattle.spared_leaves.specs.Questions.{IsSameHigh, IsSameColumn, IsQuietColumn, IsLikeQuestion}
use Rattle.spared_leaves.specs.Laws.{LikeQuestionsLaw}
use Rattle.spared_leaves.proofs.LikeTerms.{IsNoStep, IsLikeTerm, IsLikeValue, nothing, total-like, sum-like, partial-like, step-is, step-like, fits-like, first-like, fits-none}

-- ---- back

sides-back : (M N : Program) (i : ℕ) → IsSameSides M N i → IsSameSides N M i
sides-back M N i s = record { there = (s.there.1, s.there.0); low = sym s.low; high = sym s.high }

high-back : (cuts others : List CutRow) (k : ℕ) → IsSameHigh cuts others k → IsSameHigh others cuts k
high-back cuts others k s = record { there = (s.there.1, s.there.0); high = sym s.high }

column-back : (M N : Program) (path : Path) (cuts others : List CutRow) (y z c d : ℕ → ℚ) (j : ℕ) → IsSameColumn M N path cuts others y z c d j → IsSameColumn N M path others cuts y z d c j
column-back M N path cuts others y z c d j s = record {
  there = (s.there.1, s.there.0);
  cost_is = sym s.cost_is;
  low = sym s.low;
  high = sym s.high;
  entry = λ i. elim (s.entry i) [ inl none ↦ inl none | inr same ↦ inr (sym same.0, (same.1.1, same.1.0)) ];
  cut_entry = λ k. elim (s.cut_entry k) [ inl none ↦ inl none | inr same ↦ inr (sym same.0, (same.1.1, same.1.0)) ];
}

pub question-back : (M N : Program) (path : Path) (cuts others : List CutRow) (y z c d : ℕ → ℚ) → IsLikeQuestion M N path cuts others y z c d → IsLikeQuestion N M path others cuts y z d c
question-back M N path cuts others y z c d q = record {
  rows_are = λ i. elim (q.rows_are i) [ inl none ↦ inl none | inr same ↦ inr (sides-back M N i same) ];
  cuts_are = λ k. elim (q.cuts_are k) [ inl none ↦ inl none | inr same ↦ inr (high-back cuts others k same) ];
  columns_are = λ j. elim (q.columns_are j) [ inl same ↦ inl (column-back M N path cuts others y z c d j same) | inr quiet ↦ inr (quiet.1, quiet.0) ];
}

-- ---- a number of 0

-- takes the side 0
pub side-zero : (v : ℚ) (lo hi : Option ℚ) → v ≡ int (pos 0) → needed_side v lo hi ≡ Some (int (pos 0))
side-zero v lo hi none = ap (λ u. needed_side u lo hi) none ∙ ap (λ r. side_by r lo hi) (cmp_self (int (pos 0)))

pub some-none : (v : ℚ) → Some v ≢ None
some-none v e = cc

times-zero : (v : ℚ) (lo hi : Option ℚ) → v ≡ int (pos 0) → times v (needed_side v lo hi) ≡ nothing
times-zero v lo hi none = (λ i. times (none i) (side-zero v lo hi none i))

times-quiet : (v b : ℚ) → (v ≡ int (pos 0)) ⊎ (b ≡ int (pos 0)) → times v (Some b) ≡ nothing
times-quiet v b (inl none) = let zeroed : int (pos 0) *ℚ b ≡ int (pos 0) *ℚ int (pos 0) = ring (b ∷ []) (search reads_ℚ) tt in ap (λ u. Num (u *ℚ b)) none ∙ ap Num zeroed
times-quiet v b (inr none) = let zeroed : v *ℚ int (pos 0) ≡ int (pos 0) *ℚ int (pos 0) = ring (v ∷ []) (search reads_ℚ) tt in ap (λ u. Num (v *ℚ u)) none ∙ ap Num zeroed

neg-zero : (v : ℚ) → v ≡ int (pos 0) → neg_ℚ v ≡ int (pos 0)
neg-zero v none = let zeroed : neg_ℚ (int (pos 0)) ≡ int (pos 0) = ring [] (search reads_ℚ) tt in ap neg_ℚ none ∙ zeroed

-- one factor on both sides: it is 0, or the numbers are the same
one-factor : (a x w : ℕ → ℚ) (n m k : ℕ) → (a k ≡ int (pos 0)) ⊎ ((x k ≡ w k) × (k < n ↔ k < m)) → IsLikeTerm a x a w n m k
one-factor a x w n m k (inl none) = inr ((λ h. inl none), (λ h. inl none))
one-factor a x w n m k (inr same) = inl (refl, same)

module _ (F : Formulation) (path : Path) (y z c : ℕ → ℚ) (j : ℕ) (q : IsQuietColumn F path y z c j) where
  pub quiet-step : IsNoStep (column_reduced_cost F y z c) (bound_number F path y z c) j
  quiet-step = elim q.quiet [ inl none ↦ inl none | inr none ↦ inr (ap side_number q.bound_is ∙ none) ]

  pub quiet-value : times (column_reduced_cost F y z c j) (column_side F path y z c j) ≡ nothing
  quiet-value = ap (times (column_reduced_cost F y z c j)) q.bound_is ∙ times-quiet (column_reduced_cost F y z c j) q.bound q.quiet

  pub quiet-there : column_side F path y z c j ≢ None
  quiet-there e = some-none q.bound (sym q.bound_is ∙ e)

  -- no step of its entries is the first without room
  pub quiet-entry : (by : Var) → ¬ IsFirstWideEntry F y z c j by
  quiet-entry (Row row) h = h.here (q.entries.of_rows row.0 h.within)
  quiet-entry (Cut cut) h = h.1.here (q.entries.of_cuts cut.0 h.1.within)
  quiet-entry (Col col) h = h

-- ---- one and the other

module _ (M N : Program) (path : Path) (cuts others : List CutRow) (y z c d : ℕ → ℚ) (c₀ : ℚ) (q : IsLikeQuestion M N path cuts others y z c d) where
  abbrev F : Formulation
  F = formulation M cuts

  abbrev G : Formulation
  G = formulation N others

  -- ---- rows

  pub row_side-like : (i : ℕ) → row_side M y i ≡ row_side N y i
  row_side-like i = elim (q.rows_are i) [
    | inl none ↦ side-zero (y i) (low_side M i) (high_side M i) none ∙ sym (side-zero (y i) (low_side N i) (high_side N i) none)
    | inr same ↦ (λ t. needed_side (y i) (same.low t) (same.high t))
  ]

  pub row_terms : (i : ℕ) → IsLikeTerm y (row_number M y) y (row_number N y) (length M.rows) (length N.rows) i
  row_terms i = one-factor y (row_number M y) (row_number N y) (length M.rows) (length N.rows) i (elim (q.rows_are i) [ inl none ↦ inl none | inr same ↦ inr (ap side_number (row_side-like i), same.there) ])

  pub rows_total-like : rows_total M y c₀ ≡ rows_total N y c₀
  rows_total-like = partial-like y (row_number M y) y (row_number N y) (length M.rows) (length N.rows) row_terms c₀ c₀ (λ i. c₀)

  pub rows_fit-like : RowsFit M y c₀ → RowsFit N y c₀
  rows_fit-like = fits-like y (row_number M y) y (row_number N y) (length M.rows) (length N.rows) row_terms c₀ c₀ (λ i. c₀)

  row_values : (i : ℕ) → IsLikeValue (λ k. times (y k) (row_side M y k)) (λ k. times (y k) (row_side N y k)) (length M.rows) (length N.rows) i
  row_values i = elim (q.rows_are i) [
    | inl none ↦ inr ((λ h. times-zero (y i) (low_side M i) (high_side M i) none), (λ h. times-zero (y i) (low_side N i) (high_side N i) none))
    | inr same ↦ inl (ap (times (y i)) (row_side-like i), same.there)
  ]

  rows_number-like : rows_number M y ≡ rows_number N y
  rows_number-like = total-like (λ i. times (y i) (row_side M y i)) (λ i. times (y i) (row_side N y i)) (length M.rows) (length N.rows) row_values

  pub lacks_row-like : LacksRowSide M y → LacksRowSide N y
  lacks_row-like (i, (below, lacks)) = elim (q.rows_are i) [
    | inl none ↦ absurd (some-none (int (pos 0)) (sym (side-zero (y i) (low_side M i) (high_side M i) none) ∙ lacks))
    | inr same ↦ (i, (same.there.0 below, sym (row_side-like i) ∙ lacks))
  ]

  -- ---- cuts

  pub cut_side-like : (k : ℕ) → cut_side cuts z k ≡ cut_side others z k
  cut_side-like k = elim (q.cuts_are k) [
    | inl none ↦ side-zero (z k) None (cut_high cuts k) none ∙ sym (side-zero (z k) None (cut_high others k) none)
    | inr same ↦ ap (needed_side (z k) None) same.high
  ]

  pub cut_terms : (k : ℕ) → IsLikeTerm z (cut_number cuts z) z (cut_number others z) (length cuts) (length others) k
  cut_terms k = one-factor z (cut_number cuts z) (cut_number others z) (length cuts) (length others) k (elim (q.cuts_are k) [ inl none ↦ inl none | inr same ↦ inr (ap side_number (cut_side-like k), same.there) ])

  pub cuts_total-like : cuts_total F y z c₀ ≡ cuts_total G y z c₀
  cuts_total-like = partial-like z (cut_number cuts z) z (cut_number others z) (length cuts) (length others) cut_terms (rows_total M y c₀) (rows_total N y c₀) rows_total-like

  pub cuts_fit-like : CutsFit F y z c₀ → CutsFit G y z c₀
  cuts_fit-like = fits-like z (cut_number cuts z) z (cut_number others z) (length cuts) (length others) cut_terms (rows_total M y c₀) (rows_total N y c₀) rows_total-like

  cut_values : (k : ℕ) → IsLikeValue (λ i. times (z i) (cut_side cuts z i)) (λ i. times (z i) (cut_side others z i)) (length cuts) (length others) k
  cut_values k = elim (q.cuts_are k) [
    | inl none ↦ inr ((λ h. times-zero (z k) None (cut_high cuts k) none), (λ h. times-zero (z k) None (cut_high others k) none))
    | inr same ↦ inl (ap (times (z k)) (cut_side-like k), same.there)
  ]

  cuts_number-like : cuts_number cuts z ≡ cuts_number others z
  cuts_number-like = total-like (λ k. times (z k) (cut_side cuts z k)) (λ k. times (z k) (cut_side others z k)) (length cuts) (length others) cut_values

  pub lacks_cut-like : LacksCutSide cuts z → LacksCutSide others z
  lacks_cut-like (k, (below, lacks)) = elim (q.cuts_are k) [
    | inl none ↦ absurd (some-none (int (pos 0)) (sym (side-zero (z k) None (cut_high cuts k) none) ∙ lacks))
    | inr same ↦ (k, (same.there.0 below, sym (cut_side-like k) ∙ lacks))
  ]

  -- ---- a column that is the same

  module _ (j : ℕ) (s : IsSameColumn M N path cuts others y z c d j) where
    row_entries : (i : ℕ) → IsLikeTerm (λ k. neg_ℚ (y k)) (λ k. coefficient M k j) (λ k. neg_ℚ (y k)) (λ k. coefficient N k j) (length M.rows) (length N.rows) i
    row_entries i = one-factor (λ k. neg_ℚ (y k)) (λ k. coefficient M k j) (λ k. coefficient N k j) (length M.rows) (length N.rows) i (elim (s.entry i) [ inl none ↦ inl (neg-zero (y i) none) | inr same ↦ inr same ])

    row_products : (i : ℕ) → IsLikeTerm y (λ k. coefficient M k j) y (λ k. coefficient N k j) (length M.rows) (length N.rows) i
    row_products i = one-factor y (λ k. coefficient M k j) (λ k. coefficient N k j) (length M.rows) (length N.rows) i (s.entry i)

    cut_entries : (k : ℕ) → IsLikeTerm (λ i. neg_ℚ (z i)) (λ i. cut_coefficient cuts i j) (λ i. neg_ℚ (z i)) (λ i. cut_coefficient others i j) (length cuts) (length others) k
    cut_entries k = one-factor (λ i. neg_ℚ (z i)) (λ i. cut_coefficient cuts i j) (λ i. cut_coefficient others i j) (length cuts) (length others) k (elim (s.cut_entry k) [ inl none ↦ inl (neg-zero (z k) none) | inr same ↦ inr same ])

    cut_products : (k : ℕ) → IsLikeTerm z (λ i. cut_coefficient cuts i j) z (λ i. cut_coefficient others i j) (length cuts) (length others) k
    cut_products k = one-factor z (λ i. cut_coefficient cuts i j) (λ i. cut_coefficient others i j) (length cuts) (length others) k (s.cut_entry k)

    row_sum-like : sum_below (length M.rows) (λ i. y i *ℚ coefficient M i j) ≡ sum_below (length N.rows) (λ i. y i *ℚ coefficient N i j)
    row_sum-like = sum-like y (λ k. coefficient M k j) y (λ k. coefficient N k j) (length M.rows) (length N.rows) row_products

    cut_sum-like : sum_below (length cuts) (λ k. z k *ℚ cut_coefficient cuts k j) ≡ sum_below (length others) (λ k. z k *ℚ cut_coefficient others k j)
    cut_sum-like = sum-like z (λ i. cut_coefficient cuts i j) z (λ i. cut_coefficient others i j) (length cuts) (length others) cut_products

    left-like : left_by_rows M y c j ≡ left_by_rows N y d j
    left-like = λ t. s.cost_is t -ℚ row_sum-like t

    pub reduced-like : column_reduced_cost F y z c j ≡ column_reduced_cost G y z d j
    reduced-like = λ t. s.cost_is t -ℚ cut_sum-like t -ℚ row_sum-like t

    pub side-like : column_side F path y z c j ≡ column_side G path y z d j
    side-like = λ t. needed_side (reduced-like t) (s.low t) (s.high t)

    pub entries-like : EntriesFit F y z c j → EntriesFit G y z d j
    entries-like h = record {
      of_rows = fits-like (λ k. neg_ℚ (y k)) (λ k. coefficient M k j) (λ k. neg_ℚ (y k)) (λ k. coefficient N k j) (length M.rows) (length N.rows) row_entries (c j) (d j) s.cost_is h.of_rows;
      of_cuts = fits-like (λ i. neg_ℚ (z i)) (λ i. cut_coefficient cuts i j) (λ i. neg_ℚ (z i)) (λ i. cut_coefficient others i j) (length cuts) (length others) cut_entries (left_by_rows M y c j) (left_by_rows N y d j) left-like h.of_cuts;
    }

    entry-like : (by : Var) → IsFirstWideEntry F y z c j by → IsFirstWideEntry G y z d j by
    entry-like (Row row) h = first-like (λ k. neg_ℚ (y k)) (λ k. coefficient M k j) (λ k. neg_ℚ (y k)) (λ k. coefficient N k j) (length M.rows) (length N.rows) row_entries (c j) (d j) s.cost_is row.0 h
    entry-like (Cut cut) h = (
      fits-like (λ k. neg_ℚ (y k)) (λ k. coefficient M k j) (λ k. neg_ℚ (y k)) (λ k. coefficient N k j) (length M.rows) (length N.rows) row_entries (c j) (d j) s.cost_is h.0,
      first-like (λ i. neg_ℚ (z i)) (λ i. cut_coefficient cuts i j) (λ i. neg_ℚ (z i)) (λ i. cut_coefficient others i j) (length cuts) (length others) cut_entries (left_by_rows M y c j) (left_by_rows N y d j) left-like cut.0 h.1,
    )
    entry-like (Col col) h = absurd h

  -- ---- all columns

  pub column_terms : (j : ℕ) → IsLikeTerm (column_reduced_cost F y z c) (bound_number F path y z c) (column_reduced_cost G y z d) (bound_number G path y z d) (length M.cols) (length N.cols) j
  column_terms j = elim (q.columns_are j) [
    | inl same ↦ inl (reduced-like j same, (ap side_number (side-like j same), same.there))
    | inr quiet ↦ inr ((λ h. quiet-step F path y z c j (quiet.0 h)), (λ h. quiet-step G path y z d j (quiet.1 h)))
  ]

  column_values : (j : ℕ) → IsLikeValue (λ k. times (column_reduced_cost F y z c k) (column_side F path y z c k)) (λ k. times (column_reduced_cost G y z d k) (column_side G path y z d k)) (length M.cols) (length N.cols) j
  column_values j = elim (q.columns_are j) [
    | inl same ↦ inl ((λ i. times (reduced-like j same i) (side-like j same i)), same.there)
    | inr quiet ↦ inr ((λ h. quiet-value F path y z c j (quiet.0 h)), (λ h. quiet-value G path y z d j (quiet.1 h)))
  ]

  -- a column that both have
  pub column-like : (j : ℕ) → j < length M.cols → j < length N.cols → ColumnFits F path y z c (cuts_total F y z c₀) j → ColumnFits G path y z d (cuts_total G y z c₀) j
  column-like j left right own = record {
    entries = elim (q.columns_are j) [ inl same ↦ entries-like j same own.entries | inr quiet ↦ (quiet.1 right).entries ];
    term = step-like (column_reduced_cost F y z c) (bound_number F path y z c) (column_reduced_cost G y z d) (bound_number G path y z d) (length M.cols) (length N.cols) column_terms (cuts_total F y z c₀) (cuts_total G y z c₀) cuts_total-like j left right own.term;
  }

  pub all_columns-like : ColumnsFit F path y z c (cuts_total F y z c₀) (length M.cols) → ColumnsFit G path y z d (cuts_total G y z c₀) (length N.cols)
  all_columns-like h j below = elim (q.columns_are j) [
    | inl same ↦ let left = same.there.1 below in column-like j left below (h j left)
    | inr quiet ↦ record {
      entries = (quiet.1 below).entries;
      term = fits-none (cuts_total G y z c₀ +ℚ sum_below j (λ k. column_reduced_cost G y z d k *ℚ bound_number G path y z d k)) (column_reduced_cost G y z d) (bound_number G path y z d) j (quiet-step G path y z d j (quiet.1 below));
    }
  ]

  -- a column up to which all has room, and that both have
  reached-like : (j : ℕ) → j < length N.cols → IsReachedColumn F path y z c₀ c j → IsReachedColumn G path y z c₀ d j
  reached-like j right h = record {
    rows = rows_fit-like h.rows;
    cuts = cuts_fit-like h.cuts;
    within = right;
    before = λ k below. let left : k < length M.cols = let w : j < length M.cols = h.within in omega (arith, below) in column-like k left (omega (arith, below)) (h.before k below);
  }

  pub lacks-like : LacksSide F path y z c → LacksSide G path y z d
  lacks-like (inl row) = inl (lacks_row-like row)
  lacks-like (inr (inl cut)) = inr (inl (lacks_cut-like cut))
  lacks-like (inr (inr (j, (within, (entries, e))))) = elim (q.columns_are j) [
    | inl same ↦ inr (inr (j, (same.there.0 within, (entries-like j same entries, sym (side-like j same) ∙ e))))
    | inr quiet ↦ absurd (quiet-there F path y z c j (quiet.0 within) e)
  ]

  number-like : dual_number F path y z c₀ c ≡ dual_number G path y z c₀ d
  number-like =
      let columns = total-like (λ k. times (column_reduced_cost F y z c k) (column_side F path y z c k)) (λ k. times (column_reduced_cost G y z d k) (column_side G path y z d k)) (length M.cols) (length N.cols) column_values in
      (λ i. plus (plus (plus (Num c₀) (rows_number-like i)) (cuts_number-like i)) (columns i))

  -- ---- steps without room

  pub wide_term-like : (of : Var) → IsFirstWideTerm F path y z c₀ c of → IsFirstWideTerm G path y z c₀ d of
  wide_term-like (Row row) h = first-like y (row_number M y) y (row_number N y) (length M.rows) (length N.rows) row_terms c₀ c₀ (λ i. c₀) row.0 h
  wide_term-like (Cut cut) h = (
    rows_fit-like h.0,
    first-like z (cut_number cuts z) z (cut_number others z) (length cuts) (length others) cut_terms (rows_total M y c₀) (rows_total N y c₀) rows_total-like cut.0 h.1,
  )
  wide_term-like (Col col) h = elim (q.columns_are col.0) [
    | inl same ↦
        let left : col.0 < length M.cols = h.0.within in
        let right : col.0 < length N.cols = same.there.0 left in
        let l : col.0 ≤ length M.cols = omega arith in
        let r : col.0 ≤ length N.cols = omega arith in (
          reached-like col.0 right h.0,
          entries-like col.0 same h.1,
          λ fits. h.2 (subst (λ P. P) (sym (step-is (column_reduced_cost F y z c) (bound_number F path y z c) (column_reduced_cost G y z d) (bound_number G path y z d) (length M.cols) (length N.cols) column_terms (cuts_total F y z c₀) (cuts_total G y z c₀) cuts_total-like col.0 l r (reduced-like col.0 same) (ap side_number (side-like col.0 same)))) fits),
        )
    | inr quiet ↦ absurd (h.2 (fits-none (cuts_total F y z c₀ +ℚ sum_below col.0 (λ k. column_reduced_cost F y z c k *ℚ bound_number F path y z c k)) (column_reduced_cost F y z c) (bound_number F path y z c) col.0 (quiet-step F path y z c col.0 (quiet.0 h.0.within))))
  ]

  pub place-like : (p : LagPlace) → IsFirstWidePlace F path y z c₀ c p → IsFirstWidePlace G path y z c₀ d p
  place-like (Entry col by) h = elim (q.columns_are col) [
    | inl same ↦ (reached-like col (same.there.0 h.0.within) h.0, entry-like col same by h.1)
    | inr quiet ↦ absurd (quiet-entry F path y z c col (quiet.0 h.0.within) by h.1)
  ]
  place-like (Term of) h = wide_term-like of h

  step_place-like : (step : WideStep) → IsFirstWideStep F path y z c₀ c step → IsFirstWideStep G path y z c₀ d step
  step_place-like step h = by (lag_place step) h
    where
      by : (p : Option LagPlace) → IsSomeAnd p (IsFirstWidePlace F path y z c₀ c) → IsSomeAnd p (IsFirstWidePlace G path y z c₀ d)
      by None none = none
      by (Some p) here = place-like p here

  -- ---- answers

  module _ (back : LacksSide G path y z d → LacksSide F path y z c) where
    pub answer-like : (r : Result LagValue WideStep) → IsDualAnswer F path y z c₀ c r → IsDualAnswer G path y z c₀ d r
    answer-like (Ok Minus) h = lacks-like h
    answer-like (Ok (Num p)) h = ((λ lacks. h.0 (back lacks)), rows_fit-like h.1, cuts_fit-like h.2, all_columns-like h.3, h.4 ∙ number-like)
    answer-like (Err step) h = ((λ lacks. h.0 (back lacks)), step_place-like step h.1)

pub like_questions : LikeQuestionsLaw
like_questions M N path cuts others y z c d c₀ q r =
    let back = question-back M N path cuts others y z c d q in (
      answer-like M N path cuts others y z c d c₀ q (lacks-like N M path others cuts y z d c c₀ back) r,
      answer-like N M path others cuts y z d c c₀ back (lacks-like M N path cuts others y z c d c₀ q) r,
    )
