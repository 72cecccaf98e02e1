-- Lists of a leaf's kept totals.
use Rattle.std.specs.Prelude.{◌≡◌, ◌≢◌, ℕ, zero, suc, ◌+◌, ◌-◌, ◌*◌, ◌/◌, ◌≤◌, ℤ, Option, Some, None, IfSome, List, [], ◌∷◌, ◌++◌, length, take}
use Rattle.std.proofs.Common.{sym, ap, subst, ◌∙◌, arith}
use Rattle.std.proofs.lemmas.List.{length-take-le, take_all}
use Rattle.frac128.specs.Rational.{ℚ}
use Rattle.kept_totals.specs.Kept.{RunningTotals, IsBackAt, with_kept}
use Rattle.kept_totals.specs.Walk.{AllFrom, IsBlockTotal, KeepsMore, IsSumStop, stop_place}
use Rattle.kept_totals.specs.declared.walk.Stop.{Stop}
use Rattle.kept_totals.proofs.WalkLemmas.{all_last, all_appended, all_next, none_added}
use Rattle.whole_sums.specs.Wholes.{IsDenominator}
use Rattle.leaf_dual.specs.Answers.{row_number, cut_number}
use Rattle.leaf_totals.specs.declared.end.End.{End}
use Rattle.leaf_totals.specs.declared.keeping.LeafTotals.{LeafTotals}
use Rattle.leaf_totals.specs.Keeping.{Question, rows_start, cuts_start, columns_start, asked_reduced, asked_bound, HasSideOfRow, HasSideOfCut, HasTermOfColumn, AreRowsReached, AreCutsReached, IsBeforeRow, IsBeforeCut, IsBeforeColumn, IsKeptTotal, AreKeptTotals, kept_most, terms_behind, IsTermsEnd, kept_at, row_end, cut_end, IsColumnEnd, AreShortFor, AreAllAdded, IsSumOfShortTerms, IsEndedBy}
use Rattle.leaf_totals.proofs.EndLemmas.{row_ends, cut_ends, column_ends}

module _ (q : Question) where
  -- behind those that are kept come those after each further block of columns
  pub columns_kept : AreRowsReached q → AreCutsReached q → (old new : List ℚ) → 2 ≤ length old → AreKeptTotals q old
      → KeepsMore (columns_start q) (asked_reduced q) (asked_bound q) (HasTermOfColumn q) (length old - 2 + 1) old new → AreKeptTotals q new
  columns_kept rows cuts old new some kept behind =
      let e : suc (length old - 2 + 1) ≡ 0 + length old = omega (arith, some) in
      let more = all_next (IsBlockTotal (columns_start q) (asked_reduced q) (asked_bound q) (HasTermOfColumn q)) (IsKeptTotal q) (length old - 2 + 1) behind.more (λ n v at. (rows, (cuts, at))) behind.all in
      subst (AreKeptTotals q) (sym behind.is) (all_appended (IsKeptTotal q) 0 old behind.more kept (subst (λ n. AllFrom (IsKeptTotal q) n behind.more) e more))

  pub behind_columns : (n : ℕ) → 2 ≤ n → terms_behind q n ≡ length q.form.model.cols - 64 * (n - 2)
  behind_columns zero h = absurd (omega (arith, h))
  behind_columns (suc zero) h = absurd (omega (arith, h))
  behind_columns (suc (suc b)) h = let e : b ≡ suc (suc b) - 2 = omega arith in ap (λ n. length q.form.model.cols - 64 * n) e

  pub at_columns : (k : ℕ) (v : ℚ) → 1 ≤ k → IsKeptTotal q k v → AreRowsReached q × (AreCutsReached q × IsBeforeColumn q (64 * (k - 1)) v)
  at_columns zero v h at = absurd (omega (arith, h))
  at_columns (suc b) v h at = let e : b ≡ suc b - 1 = omega arith in (at.0, (at.1.0, subst (λ n. IsBeforeColumn q (64 * n) v) e at.1.1))

  -- back at the last one
  module _ (was new : RunningTotals) (k : ℕ) (last : k + 1 ≡ length was.kept) (back : IsBackAt was k new) where
    all_taken : take (k + 1) was.kept ≡ was.kept
    all_taken = ap (λ n. take n was.kept) last ∙ take_all (length was.kept) was.kept (omega arith)

    pub back_kept : new.kept ≡ was.kept
    back_kept = back.kept ∙ (back.was ∙ all_taken)

    pub back_total : AreKeptTotals q was.kept → IsKeptTotal q k new.total
    back_total kept =
        let count : length (take k was.kept) ≡ k = length-take-le k was.kept (omega (arith, last)) in
        let first : 0 + length (take k was.kept) ≡ k = omega (arith, count) in
        subst (λ n. IsKeptTotal q n new.total) first (all_last (IsKeptTotal q) 0 (take k was.kept) new.total (subst (AreKeptTotals q) (sym (back.was ∙ all_taken)) kept))

    -- at the first one
    pub back_first : k ≡ 0 → AreKeptTotals q was.kept → IsBeforeRow q (length q.form.model.rows) new.total × (new.kept ≡ new.total ∷ [])
    back_first none kept = (subst (λ n. IsKeptTotal q n new.total) none (back_total kept), back.kept ∙ ap (λ n. take n was.kept ++ new.total ∷ []) none)

    -- at a later one
    pub back_later : 1 ≤ k → AreKeptTotals q was.kept → AreRowsReached q × (AreCutsReached q × IsBeforeColumn q (64 * (length new.kept - 2)) new.total)
    back_later some kept =
        let at = at_columns k new.total some (back_total kept) in
        let count : length new.kept ≡ length was.kept = ap length back_kept in
        let e : 64 * (k - 1) ≡ 64 * (length new.kept - 2) = omega (arith, last, count) in
        (at.0, (at.1.0, subst (λ n. IsBeforeColumn q n new.total) e at.1.1))

-- ---- what a part of the walk leaves

module _ (q : Question) where
  abbrev RowStop : ℕ → Stop → Type 0
  RowStop n s = IsSumStop (rows_start q) q.row_weights (row_number q.form.model q.row_weights) (HasSideOfRow q) n s

  abbrev CutStop : ℕ → Stop → Type 0
  CutStop n s = IsSumStop (cuts_start q) q.live_weights (cut_number q.form.cuts q.live_weights) (HasSideOfCut q) n s

  abbrev ColumnStop : ℕ → Stop → Type 0
  ColumnStop n s = IsSumStop (columns_start q) (asked_reduced q) (asked_bound q) (HasTermOfColumn q) n s

  no_row : (v : ℚ) → v ≡ rows_start q → IsBeforeRow q 0 v
  no_row v is = none_added (rows_start q) q.row_weights (row_number q.form.model q.row_weights) (HasSideOfRow q) v is

  no_cut : (v : ℚ) → IsBeforeRow q (length q.form.model.rows) v → IsBeforeCut q 0 v
  no_cut v at = none_added (cuts_start q) q.live_weights (cut_number q.form.cuts q.live_weights) (HasSideOfCut q) v at.is

  -- the rows, from the constant
  module _ (began new : RunningTotals) (start : began.total ≡ rows_start q) (none : began.kept ≡ []) (n : ℕ) (all : n ≡ length q.form.model.rows) (same : new.kept ≡ began.kept) where
    pub rows_done : (IsBeforeRow q 0 began.total → IsBeforeRow q n new.total) → (kept : RunningTotals) → kept ≡ with_kept new → IsBeforeRow q (length q.form.model.rows) kept.total × (kept.kept ≡ kept.total ∷ [])
    rows_done add kept is =
        let t : kept.total ≡ new.total = ap (λ r. r.total) is in (
          subst (λ v. IsBeforeRow q (length q.form.model.rows) v) (sym t) (subst (λ m. IsBeforeRow q m new.total) all (add (no_row began.total start))),
          ap (λ r. r.kept) is ∙ (λ i. (same ∙ none) i ++ new.total ∷ []) ∙ ap (λ v. v ∷ []) (sym t),
        )

    pub rows_ended : (s : Stop) → (IsBeforeRow q 0 began.total → RowStop n s) → (e : End) → e ≡ row_end s → IsTermsEnd q e × ((kept_at e ≡ 0) × (new.kept ≡ []))
    rows_ended s stops e is =
        let ends = row_ends q s (subst (λ m. RowStop m s) all (stops (no_row began.total start))) in
        subst (λ d. IsTermsEnd q d × ((kept_at d ≡ 0) × (new.kept ≡ []))) (sym is) (ends.0, (ends.1, same ∙ none))

  -- the cuts, from the rows' total
  module _ (old new : RunningTotals) (before : IsBeforeRow q (length q.form.model.rows) old.total) (n : ℕ) (all : n ≡ length q.form.cuts) (same : new.kept ≡ old.kept) where
    pub cuts_done : (IsBeforeCut q 0 old.total → IsBeforeCut q n new.total) → (kept : RunningTotals) → kept ≡ with_kept new
        → AreCutsReached q × (IsBeforeColumn q 0 kept.total × (kept.kept ≡ old.kept ++ kept.total ∷ []))
    cuts_done add kept is =
        let t : kept.total ≡ new.total = ap (λ r. r.total) is in
        let at : IsBeforeCut q (length q.form.cuts) new.total = subst (λ m. IsBeforeCut q m new.total) all (add (no_cut old.total before)) in (
          at.reached,
          (
            none_added (columns_start q) (asked_reduced q) (asked_bound q) (HasTermOfColumn q) kept.total (t ∙ at.is),
            ap (λ r. r.kept) is ∙ (λ i. same i ++ new.total ∷ []) ∙ ap (λ v. old.kept ++ v ∷ []) (sym t),
          ),
        )

    pub cuts_ended : (s : Stop) → (IsBeforeCut q 0 old.total → CutStop n s) → (e : End) → e ≡ cut_end s → IsTermsEnd q e × ((kept_at e ≡ 1) × (new.kept ≡ old.kept))
    cuts_ended s stops e is =
        let ends = cut_ends q s before.reached (subst (λ m. CutStop m s) all (stops (no_cut old.total before))) in
        subst (λ d. IsTermsEnd q d × ((kept_at d ≡ 1) × (new.kept ≡ old.kept))) (sym is) (ends.0, (ends.1, same))

  -- the columns, from the last total, before which stand this many blocks
  module _ (rows : AreRowsReached q) (cuts : AreCutsReached q) (old new : RunningTotals) (some : 2 ≤ length old.kept) (few : length old.kept ≤ kept_most q) (blocks : ℕ) (is : blocks ≡ length old.kept - 2) (before : IsBeforeColumn q (64 * (length old.kept - 2)) old.total) where
    here : IsBeforeColumn q (64 * blocks) old.total
    here = subst (λ n. IsBeforeColumn q (64 * n) old.total) (sym is) before

    pub columns_done : (IsBeforeColumn q (64 * blocks) old.total → IsBeforeColumn q (length q.form.model.cols) new.total) → length new.kept ≡ length old.kept + (length q.form.model.cols / 64 - blocks) → AreAllAdded q new
    columns_done add count = record {
      rows = rows;
      cuts = cuts;
      columns = add here;
      count = let more : length old.kept + (length q.form.model.cols / 64 - blocks) ≡ kept_most q = omega (arith, some, few, is) in count ∙ more;
    }

    pub columns_ended : (s : Stop) → (IsBeforeColumn q (64 * blocks) old.total → ColumnStop (length q.form.model.cols) s) → 64 * blocks ≤ stop_place s → length new.kept ≡ length old.kept + (stop_place s / 64 - blocks)
        → (e : End) → IsColumnEnd q s e → IsEndedBy q new e
    columns_ended s stops from count e end =
        let ends = column_ends q rows cuts s e (stops here) end in
        record {
          ends = ends.0;
          count = let more : length old.kept + (stop_place s / 64 - blocks) ≡ stop_place s / 64 + 2 = omega (arith, some, from, is) in count ∙ more ∙ sym ends.1;
        }

    pub columns_keep : AreKeptTotals q old.kept → (IsBeforeColumn q (64 * blocks) old.total → KeepsMore (columns_start q) (asked_reduced q) (asked_bound q) (HasTermOfColumn q) (blocks + 1) old.kept new.kept) → AreKeptTotals q new.kept
    columns_keep kept keeps =
        columns_kept q rows cuts old.kept new.kept some kept (subst (λ n. KeepsMore (columns_start q) (asked_reduced q) (asked_bound q) (HasTermOfColumn q) (n + 1) old.kept new.kept) is (keeps here))

  -- ---- one part after the other

  -- after the rows alone, and after the rows and the cuts
  pub one_kept : (t : RunningTotals) → IsBeforeRow q (length q.form.model.rows) t.total → t.kept ≡ t.total ∷ [] → AreKeptTotals q t.kept
  one_kept t at is = subst (AreKeptTotals q) (sym is) (at, tt)

  module _ (old new : RunningTotals) (before : IsBeforeRow q (length q.form.model.rows) old.total) (was : old.kept ≡ old.total ∷ []) (cuts : AreCutsReached q) (at : IsBeforeColumn q 0 new.total) (is : new.kept ≡ old.kept ++ new.total ∷ []) where
    two : new.kept ≡ old.total ∷ new.total ∷ []
    two = is ∙ ap (λ vs. vs ++ new.total ∷ []) was

    pub two_count : length new.kept ≡ 2
    two_count = ap length two

    pub two_kept : AreKeptTotals q new.kept
    two_kept = subst (AreKeptTotals q) (sym two) (before, ((before.reached, (cuts, at)), tt))

    pub two_before : IsBeforeColumn q (64 * (length new.kept - 2)) new.total
    two_before = let e : 0 ≡ 64 * (length new.kept - 2) = let count = two_count in omega (arith, count) in subst (λ n. IsBeforeColumn q n new.total) e at

  pub ended_first : (t : RunningTotals) (e : End) → IsTermsEnd q e → kept_at e ≡ 0 → t.kept ≡ [] → IsEndedBy q t e
  ended_first t e ends at is = record { ends = ends; count = ap length is ∙ sym at }

  pub ended_second : (t : RunningTotals) (e : End) (v : ℚ) → IsTermsEnd q e → kept_at e ≡ 1 → t.kept ≡ v ∷ [] → IsEndedBy q t e
  ended_second t e v ends at is = record { ends = ends; count = ap length is ∙ sym at }

  pub none_kept : (vs : List ℚ) → vs ≡ [] → AreKeptTotals q vs
  none_kept vs is = subst (AreKeptTotals q) (sym is) tt

pub some_end : (e : End) → Some e ≢ None
some_end e is = cc

-- ---- whether all terms are known to be short

abbrev pub SaysShort : Question → Option End → ℤ → Type 0
SaysShort q r d = (r ≡ None) × (IsDenominator d × AreShortFor d q)

pub added_over : (q : Question) (t : LeafTotals) (r : Option End) → AreAllAdded q t.totals → t.ending ≡ None → (o : Option ℤ) → IfSome o (SaysShort q r) → IfSome o (IsSumOfShortTerms q t)
added_over q t r all none None h = h
added_over q t r all none (Some d) h = record { denominator = h.1.0; terms = h.1.1; added = all; ended = none }

pub ended_over : (q : Question) (t : LeafTotals) (r : Option End) (e : End) → r ≡ Some e → (o : Option ℤ) → IfSome o (SaysShort q r) → IfSome o (IsSumOfShortTerms q t)
ended_over q t r e is None h = h
ended_over q t r e is (Some d) h = absurd (some_end e (sym is ∙ h.0))
