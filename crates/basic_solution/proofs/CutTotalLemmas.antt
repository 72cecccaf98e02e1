-- The values of basic cuts by their terms.
use Rattle.std.specs.Prelude.{◌≡◌, ℕ, ◌+◌, ◌*◌, ◌<◌, ◌≤◌, ◌^◌, ℤ, pos, ◌<ℤ◌, ◌+ℤ◌, ◌*ℤ◌, unsigned_abs, List, length, set, Option, Some, None, IfSome}
use Rattle.std.proofs.Common.{sym, ap, subst, ◌∙◌, ⊎_elim, arith}
use Rattle.std.proofs.lemmas.Bool.{cases_eq}
use Rattle.std.proofs.lemmas.Int.{ints}
use Rattle.std.proofs.lemmas.List.{get_or-set_same, get_or-set_other}
use Rattle.frac128.specs.Rational.{ℚ, ◌*ℚ◌}
use Rattle.frac128.specs.RationalRing.{zero-+ℚ}
use Rattle.frac128.specs.LowestTerms.{quotient_of}
use Rattle.frac128.specs.Sums.{sum_below}
use Rattle.checked_sum.proofs.SumLaws.{sum_below-same}
use Rattle.table_entries.specs.Relaxation.{Relaxation, Table, IsTable, IsArranged, point}
use Rattle.table_entries.specs.States.{basic_value}
use Rattle.table_entries.proofs.Arranged.{assigned-basic, Rows-point}
use Rattle.table_entries.proofs.BringIn.{basic_within}
use Rattle.lp_model.specs.declared.types.ColId.{ColId}
use Rattle.lp_model.specs.CutTerms.{term_of, AreTerms}
use Rattle.row_tableau.specs.Activities.{activity_coefficient}
use Rattle.table_entries.specs.WholeSteps.{IsShort, IsShortOver, whole_number_at}
use Rattle.whole_sums.proofs.SumLemmas.{term_of_factor}
use Rattle.basic_solution.specs.Held.{Held, IsSided, relaxation, state, table, variables}
use Rattle.basic_solution.specs.RowTotals.{IsSmallNumber, HasSmallTerm}
use Rattle.basic_solution.specs.private.RowTotals.{IsRowTotal}
use Rattle.basic_solution.specs.CutTotals.{IsColumnTotal, AreColumnTotals}
use Rattle.basic_solution.specs.private.CutTotals.{StandsSmall, IsTermsTotal, IsCutTotal}
use Rattle.basic_solution.proofs.RowTotalLemmas.{small_product, total_of_row}
use Rattle.basic_solution.proofs.TermLemmas.{sum_of_terms, AreBelow, terms_sum, terms_from}

pub small_term : (s : Held) (k : ℕ) (a : ℚ) (d : ℤ) → pos 0 <ℤ d → IsShortOver d a → StandsSmall s k → HasSmallTerm d a ((state s).at k)
small_term s k a d h e n = (e.0, (n.0, (term_of_factor a ((state s).at k) e.0 n.0 d h e.1.0 (let w = n.1.0 in omega (arith, w)) e.1.1 n.1.1, n.1.0)))

-- ---- columns

pub column_total_of : (s : Held) (column : ℕ) (d total read : ℤ) → quotient_of total d ≡ point (relaxation s) (table s) (state s).at column → read ≡ total
    → (r : Option ℤ) → IfSome r (λ n. IsShort n) → IfSome r (λ n. n ≡ read) → IfSome r (λ n. IsColumnTotal s column d n)
column_total_of s column d total read value read_is None short same = tt
column_total_of s column d total read value read_is (Some n) short same = record { short = short; value = ap (λ t. quotient_of t d) (same ∙ read_is) ∙ value }

pub totals_more : (s : Held) (d : ℤ) (totals : List ℤ) (column : ℕ) (n : ℤ) → column < length totals → IsColumnTotal s column d n
    → ((j : ℕ) → j < column → IsColumnTotal s j d (whole_number_at totals j)) → (j : ℕ) → j < column + 1 → IsColumnTotal s j d (whole_number_at (set totals column n) j)
totals_more s d totals column n within here before j below = ⊎_elim
    (λ same. subst (λ i. IsColumnTotal s i d (whole_number_at (set totals column n) i)) (sym same) (subst (IsColumnTotal s column d) (sym (get_or-set_same totals column n (pos 0) within)) here))
    (λ other. subst (IsColumnTotal s j d) (sym (get_or-set_other totals column j n (pos 0) other)) (before j (omega (arith, below, other))))
    (cases_eq j column)

-- ---- terms

pub terms_size : (total f n : ℤ) (columns end column : ℕ) → IsShort f → IsSmallNumber n → column < end → unsigned_abs total + end * 2 ^ 93 ≤ columns * 2 ^ 93 → unsigned_abs (total +ℤ f *ℤ n) + column * 2 ^ 93 ≤ columns * 2 ^ 93
terms_size total f n columns end column short small before size = more total (f *ℤ n) (small_product f n short small) size
  where
    more : (a b : ℤ) → unsigned_abs b ≤ 2 ^ 93 → unsigned_abs a + end * 2 ^ 93 ≤ columns * 2 ^ 93 → unsigned_abs (a +ℤ b) + column * 2 ^ 93 ≤ columns * 2 ^ 93
    more a b p q = omega (arith, ints, before)

pub terms_total_of : (columns end : ℕ) (terms : List (ColId × ℚ)) (totals : List ℤ) (total : ℤ) → unsigned_abs total + end * 2 ^ 93 ≤ columns * 2 ^ 93 → AreTerms end terms → AreBelow columns terms
    → ((d : ℤ) → pos 0 <ℤ d → quotient_of total d ≡ sum_of_terms (λ j. quotient_of (whole_number_at totals j) d) terms) → IsTermsTotal columns terms totals total
terms_total_of columns end terms totals total size rising below value = record {
  size = omega (arith, size);
  value = λ d h. value d h ∙ sym (terms_sum columns (λ j. quotient_of (whole_number_at totals j) d) 0 terms (terms_from 0 end terms (omega arith) rising) below);
}

-- ---- cuts

pub cut_total_of : (s : Held) (columns activity : ℕ) (terms : List (ColId × ℚ)) (totals : List ℤ) → columns ≡ s.tableau.columns → ((j : ℕ) → term_of j terms ≡ activity_coefficient s.form activity j)
    → (variable : ℕ) → variable ≡ columns + activity → (total : ℤ) → IsTermsTotal columns terms totals total → IsCutTotal s variable totals total
cut_total_of s columns activity terms totals columns_are same variable is total of = record {
  activity = activity;
  is = is ∙ ap (λ n. n + activity) columns_are;
  size = subst (λ n. unsigned_abs total ≤ n * 2 ^ 93) columns_are of.size;
  value = λ d h. of.value d h ∙ ap (λ n. sum_below n (λ j. term_of j terms *ℚ quotient_of (whole_number_at totals j) d)) columns_are
      ∙ sum_below-same s.tableau.columns _ (λ j. (relaxation s).coefficient activity j *ℚ quotient_of (whole_number_at totals j) d) (λ j q. ap (λ a. a *ℚ quotient_of (whole_number_at totals j) d) (same j));
}

-- ---- values: what the row of a basic activity says of the columns' numbers

pub activity_value : (p : Relaxation) (d : Table) → IsTable p d → IsArranged p d → (c : ℕ → ℚ) (row i : ℕ) → row < p.activities → i < p.activities → d.basic row ≡ p.columns + i
    → sum_below p.columns (λ k. d.entry row k *ℚ c k) ≡ sum_below p.columns (λ j. p.coefficient i j *ℚ point p d c j)
activity_value p d is arranged c row i row_within within basic =
    sym (assigned-basic p d arranged _ c row row_within) ∙ ap (point p d c) basic ∙ is.suffices (point p d c) (Rows-point p d arranged c) i within

pub cut_row_total : (s : Held) → IsSided s → variables s < 2 ^ 32 → (row : ℕ) → row < s.tableau.activities → (d : ℤ) (totals : List ℤ) → AreColumnTotals s d totals
    → (variable : ℕ) → variable ≡ (table s).basic row → (total : ℤ) → IsCutTotal s variable totals total → IsRowTotal s row d total
cut_row_total s sided few row within d totals are variable is total of =
    let at = (state s).at in
    let basic : (table s).basic row ≡ s.tableau.columns + of.activity = sym is ∙ of.is in
    let there = basic_within (relaxation s) (table s) sided.table.arranged row within in
    let activity_within : of.activity < s.tableau.activities = omega (arith, there, basic) in
    let by_columns : quotient_of total d ≡ sum_below s.tableau.columns (λ j. (relaxation s).coefficient of.activity j *ℚ point (relaxation s) (table s) at j) =
    of.value d are.positive
    ∙ sum_below-same s.tableau.columns _ (λ j. (relaxation s).coefficient of.activity j *ℚ point (relaxation s) (table s) at j) (λ j q. ap (λ x. (relaxation s).coefficient of.activity j *ℚ x) (are.each j q).value) in
    total_of_row s sided few row d are.positive are.denominator_short (λ k q. are.terms row k within q) total of.size
    (by_columns ∙ sym (activity_value (relaxation s) (table s) sided.table.table sided.table.arranged at row of.activity within activity_within basic) ∙ sym (zero-+ℚ (basic_value (relaxation s) (state s) row)))
