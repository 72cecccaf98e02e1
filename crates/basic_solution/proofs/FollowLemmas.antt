-- What an exchange makes of values and of reduced costs, by the entries after it; and of their numbers over the denominators before and after it.
use Rattle.std.specs.Prelude.{◌≡◌, ◌≢◌, ℕ, ◌<◌, [], ◌∷◌, ℤ, pos, ◌<ℤ◌, ◌+ℤ◌, ◌*ℤ◌, ◌^◌, List, length, get_or, set, None, Bool, true, false, if◌then◌else◌, ◌==◌}
use Rattle.std.proofs.Common.{sym, ap, ap₂, subst, ◌∙◌, ⊎_elim, arith, to_z, of_z, w64}
use Rattle.std.proofs.lemmas.Bool.{cases_eq, cases_lt}
use Rattle.std.proofs.lemmas.Int.{ints}
use Rattle.std.proofs.lemmas.List.{get_or-set_same, get_or-set_other, get_or_past, length-set}
use Rattle.frac128.specs.Rational.{ℚ, int, ◌+ℚ◌, ◌-ℚ◌, ◌*ℚ◌, ◌/ℚ◌, inverse}
use Rattle.frac128.specs.IntegerRing.{ring_ℤ, reads_ℤ}
use Rattle.frac128.specs.RationalOrder.{product_positive}
use Rattle.frac128.specs.RationalRing.{ring, reads_ℚ, zero-+ℚ}
use Rattle.frac128.specs.LowestTerms.{quotient_of}
use Rattle.frac128.specs.Sums.{sum_below}
use Rattle.frac128.proofs.Terms.{same_quotient, quotient-*ℚ}
use Rattle.whole_sums.proofs.SumLemmas.{sum_is, start_is, nothing_over}
use Rattle.checked_sum.proofs.SumLaws.{sum_below-same}
use Rattle.table_entries.specs.declared.stand.Stand.{Stand}
use Rattle.table_entries.specs.declared.stand.Stand.TheVariants.{Free}
use Rattle.table_entries.specs.WholeSteps.{IsShort, whole_number_at}
use Rattle.whole_sums.specs.Wholes.{IsDenominator}
use Rattle.table_entries.specs.Directions.{stand_number}
use Rattle.table_entries.specs.Relaxation.{reduced_cost}
use Rattle.table_entries.specs.States.{basic_value}
use Rattle.table_entries.proofs.Exchange.{moved, sum_moved}
use Rattle.table_entries.proofs.Pivot.{unit, sum_unit, pivoted-row, pivoted-other}
use Rattle.table_entries.proofs.ReducedCosts.{reduced-pivoted}
use Rattle.table_entries.proofs.SumBelowLaws.{if_same, if_other}
use Rattle.basic_solution.specs.Held.{Held, IsSided, relaxation, state, table}
use Rattle.basic_solution.specs.Exchanges.{IsMove}
use Rattle.basic_solution.specs.KeptCosts.{IsShortOrMark, AreShortOrMarks, AreKeptCosts}
use Rattle.basic_solution.specs.KeptValues.{AreKeptValues}
use Rattle.basic_solution.specs.RowNumbers.{AreEntryNumbers}
use Rattle.basic_solution.specs.private.Followed.{IsFollowed, AreUnknown, number_but}
use Rattle.basic_solution.proofs.ExchangeLemmas.{made_is, made_relaxation, reduced_agree}

-- ---- numbers

-- a number over the denominator after, from those over that before and one over that after
pub quotient_moved : (n x c e d after : ℤ) → pos 0 <ℤ d → pos 0 <ℤ after → n *ℤ d ≡ x *ℤ after +ℤ c *ℤ e → quotient_of n after ≡ quotient_of x d +ℚ quotient_of c d *ℚ quotient_of e after
quotient_moved n x c e d after h k is =
    let both : pos 0 <ℤ (d *ℤ after) = product_positive d after h k in
    let regrouped : n *ℤ (d *ℤ after) ≡ (n *ℤ d) *ℤ after = ring_ℤ (n ∷ d ∷ after ∷ []) (search reads_ℤ) (search reads_ℤ) tt in
    let crossed : n *ℤ (d *ℤ after) ≡ (x *ℤ after +ℤ c *ℤ e) *ℤ after = regrouped ∙ ap (λ t. t *ℤ after) is in
    let widened : (x *ℤ after) *ℤ d ≡ x *ℤ (d *ℤ after) = ring_ℤ (x ∷ d ∷ after ∷ []) (search reads_ℤ) (search reads_ℤ) tt in
    same_quotient n after (x *ℤ after +ℤ c *ℤ e) (d *ℤ after) k both crossed
    ∙ sym (sum_is (x *ℤ after) (c *ℤ e) (d *ℤ after))
    ∙ ap₂ ◌+ℚ◌ (same_quotient (x *ℤ after) (d *ℤ after) x d both h widened) (sym (quotient-*ℚ c d e after h k both))

-- ---- lists of numbers that are kept

pub kept_read : (n : ℤ) → IsShortOrMark n → to_z w64 (of_z w64 n) ≡ n
kept_read n h = omega (arith, ints, h)

pub short_kept : (n : ℤ) → IsShort n → IsShortOrMark n
short_kept n h = omega (arith, h)

pub mark_kept : (n : ℤ) → n ≡ pos (2 ^ 62) → IsShortOrMark n
mark_kept n e = subst IsShortOrMark (sym e) (omega arith)

pub mark_long : (n : ℤ) → n ≡ pos (2 ^ 62) → ¬ IsShort n
mark_long n e h = let long : IsShort (pos (2 ^ 62)) = subst IsShort e h in omega (arith, long)

pub but_kept : (exchanged : ℕ) (other : ℤ) (numbers : List ℤ) (at : ℕ) → IsShortOrMark other → AreShortOrMarks numbers → IsShortOrMark (number_but exchanged other numbers at)
but_kept exchanged other numbers at h range = by (at == exchanged)
  where
    by : (t : Bool) → IsShortOrMark (if t then other else whole_number_at numbers at)
    by true = h
    by false = range at

-- one number more
pub set_kept : (numbers : List ℤ) (at : ℕ) (n : ℤ) → at < length numbers → IsShortOrMark n → AreShortOrMarks numbers → AreShortOrMarks (set numbers at n)
set_kept numbers at n room h range = λ k. ⊎_elim
    (λ e. subst IsShortOrMark (sym (ap (whole_number_at (set numbers at n)) e ∙ get_or-set_same numbers at n (pos 0) room)) h)
    (λ other. subst IsShortOrMark (sym (get_or-set_other numbers at k n (pos 0) other)) (range k))
    (cases_eq k at)

pub unknown_range : (numbers : List ℤ) → AreUnknown numbers → AreShortOrMarks numbers
unknown_range numbers unknown = λ k. ⊎_elim (λ q. mark_kept _ (unknown k q)) (λ past. subst IsShortOrMark (sym (get_or_past numbers k (pos 0) past)) (omega arith)) (cases_lt k (length numbers))

-- ---- reduced costs and values

-- the reduced cost of a place
abbrev pub cost_at : Held → ℕ → ℚ
cost_at s k = reduced_cost (relaxation s) (table s) (relaxation s).cost k

-- the value of the basic variable of a row
abbrev pub value_at : Held → ℕ → ℚ
value_at s i = basic_value (relaxation s) (state s) i

-- a list in which no reduced cost is known
pub unknown_costs : (s : Held) (d : ℤ) (numbers : List ℤ) → IsDenominator d → length numbers ≡ s.tableau.columns → AreUnknown numbers → AreKeptCosts s d numbers
unknown_costs s d numbers over size unknown = record {
  positive = over.positive;
  denominator_short = over.short;
  size = size;
  range = unknown_range numbers unknown;
  value = λ k within short. absurd (mark_long _ (unknown k (subst (λ n. k < n) (sym size) within)) short);
}

-- one in which that of a place is
pub known_cost : (s : Held) (d : ℤ) (numbers : List ℤ) → AreKeptCosts s d numbers → (place : ℕ) → place < s.tableau.columns → (n : ℤ) → IsShort n → quotient_of n d ≡ cost_at s place → AreKeptCosts s d (set numbers place n)
known_cost s d numbers kept place within n short value =
    let room : place < length numbers = subst (λ m. place < m) (sym kept.size) within in
    let here : whole_number_at (set numbers place n) place ≡ n = get_or-set_same numbers place n (pos 0) room in
    record {
      positive = kept.positive;
      denominator_short = kept.denominator_short;
      size = length-set numbers place n ∙ kept.size;
      range = set_kept numbers place n room (short_kept n short) kept.range;
      value = λ k q h. ⊎_elim
          (λ e. subst (λ v. quotient_of (whole_number_at (set numbers place n) v) d ≡ cost_at s v) (sym e) (ap (λ m. quotient_of m d) here ∙ value))
          (λ other.
          let same : whole_number_at (set numbers place n) k ≡ whole_number_at numbers k = get_or-set_other numbers place k n (pos 0) other in
          ap (λ m. quotient_of m d) same ∙ kept.value k q (subst IsShort same h))
          (cases_eq k place);
    }

-- likewise values
pub unknown_values : (s : Held) (d : ℤ) (numbers : List ℤ) → IsDenominator d → length numbers ≡ s.tableau.activities → AreUnknown numbers → AreKeptValues s d numbers
unknown_values s d numbers over size unknown = record {
  positive = over.positive;
  denominator_short = over.short;
  size = size;
  range = unknown_range numbers unknown;
  value = λ k within short. absurd (mark_long _ (unknown k (subst (λ n. k < n) (sym size) within)) short);
}

pub known_value : (s : Held) (d : ℤ) (numbers : List ℤ) → AreKeptValues s d numbers → (row : ℕ) → row < s.tableau.activities → (n : ℤ) → IsShort n → quotient_of n d ≡ value_at s row → AreKeptValues s d (set numbers row n)
known_value s d numbers kept row within n short value =
    let room : row < length numbers = subst (λ m. row < m) (sym kept.size) within in
    let here : whole_number_at (set numbers row n) row ≡ n = get_or-set_same numbers row n (pos 0) room in
    record {
      positive = kept.positive;
      denominator_short = kept.denominator_short;
      size = length-set numbers row n ∙ kept.size;
      range = set_kept numbers row n room (short_kept n short) kept.range;
      value = λ k q h. ⊎_elim
          (λ e. subst (λ v. quotient_of (whole_number_at (set numbers row n) v) d ≡ value_at s v) (sym e) (ap (λ m. quotient_of m d) here ∙ value))
          (λ other.
          let same : whole_number_at (set numbers row n) k ≡ whole_number_at numbers k = get_or-set_other numbers row k n (pos 0) other in
          ap (λ m. quotient_of m d) same ∙ kept.value k q (subst IsShort same h))
          (cases_eq k row);
    }

module _ (s after : Held) (sided : IsSided s) (row : ℕ) (side : Stand) (place : ℕ) (row_within : row < s.tableau.activities) (place_within : place < s.tableau.columns)
    (some : (table s).entry row place ≢ int (pos 0)) (move : IsMove s after row side place) where
  same_relaxation : relaxation s ≡ relaxation after
  same_relaxation = made_relaxation s after sided.shape row side place move ∙ ap relaxation (made_is s after sided.shape row side place move)

  abbrev line : ℕ → ℚ
  line = (table s).entry row

  entry_other : (k : ℕ) → k < s.tableau.columns → ¬ (k ≡ place) → (table after).entry row k ≡ int (pos 0) -ℚ line k /ℚ line place
  entry_other k k_within other =
      move.exchanged.entry row k row_within k_within ∙ if_same row _ _ ∙ if_other k place _ _ other
      ∙ ring (line k ∷ inverse (line place) ∷ []) {y = int (pos 0) -ℚ line k /ℚ line place} (search reads_ℚ depth 9) tt

  entry_place : (table after).entry row place ≡ inverse (line place)
  entry_place = move.exchanged.entry row place row_within place_within ∙ if_same row _ _ ∙ if_same place _ _

  cost_moved : (k : ℕ) → k < s.tableau.columns → cost_at after k ≡ moved (cost_at s) line place k
  cost_moved k k_within =
      ap (λ p. reduced_cost p (table after) p.cost k) (sym same_relaxation)
      ∙ sym (reduced_agree (relaxation s) (relaxation s).cost _ (table after) move.exchanged k k_within)
      ∙ reduced-pivoted (relaxation s) (table s) row place row_within some (relaxation s).cost k

  pub cost_other : (k : ℕ) → k < s.tableau.columns → ¬ (k ≡ place) → cost_at after k ≡ cost_at s k +ℚ cost_at s place *ℚ (table after).entry row k
  cost_other k k_within other =
      cost_moved k k_within ∙ if_other k place _ _ other
      ∙ ring (cost_at s k ∷ cost_at s place ∷ line k ∷ inverse (line place) ∷ []) {y = cost_at s k +ℚ cost_at s place *ℚ (int (pos 0) -ℚ line k /ℚ line place)} (search reads_ℚ depth 9) tt
      ∙ ap (λ e. cost_at s k +ℚ cost_at s place *ℚ e) (sym (entry_other k k_within other))

  pub cost_place : cost_at after place ≡ cost_at s place *ℚ (table after).entry row place
  cost_place = cost_moved place place_within ∙ if_same place _ _ ∙ ap (λ e. cost_at s place *ℚ e) (sym entry_place)

  -- ---- numbers that are kept

  -- the reduced costs over the denominator after the exchange, where the numbers that were kept are followed
  module _ (before d : ℤ) (old new entries : List ℤ) (kept : AreKeptCosts s before old) (over : IsDenominator d) (are : AreEntryNumbers after row d entries)
      (factor_short : IsShort (whole_number_at old place))
      (follows : (k : ℕ) → k < s.tableau.columns → IsFollowed before d (whole_number_at old place) (whole_number_at entries k) (number_but place (pos 0) old k) (whole_number_at new k)) where
    number_moved : (k : ℕ) → k < s.tableau.columns → IsShort (whole_number_at new k)
        → quotient_of (whole_number_at new k) d ≡ quotient_of (number_but place (pos 0) old k) before +ℚ cost_at s place *ℚ (table after).entry row k
    number_moved k k_within short =
        quotient_moved (whole_number_at new k) (number_but place (pos 0) old k) (whole_number_at old place) (whole_number_at entries k) before d kept.positive over.positive (follows k k_within short).1
        ∙ ap₂ (λ c e. quotient_of (number_but place (pos 0) old k) before +ℚ c *ℚ e) (kept.value place place_within factor_short) (sym (are.entries k (subst (λ n. k < n) (sym move.columns) k_within)))

    number_other : (k : ℕ) → k < s.tableau.columns → ¬ (k ≡ place) → IsShort (whole_number_at new k) → quotient_of (whole_number_at new k) d ≡ cost_at after k
    number_other k k_within other short =
        let same : number_but place (pos 0) old k ≡ whole_number_at old k = if_other k place (pos 0) (whole_number_at old k) other in
        let known : IsShort (whole_number_at old k) = subst IsShort same (follows k k_within short).0 in
        number_moved k k_within short
        ∙ ap (λ x. x +ℚ cost_at s place *ℚ (table after).entry row k) (ap (λ n. quotient_of n before) same ∙ kept.value k k_within known)
        ∙ sym (cost_other k k_within other)

    number_place : IsShort (whole_number_at new place) → quotient_of (whole_number_at new place) d ≡ cost_at after place
    number_place short =
        number_moved place place_within short
        ∙ ap (λ x. x +ℚ cost_at s place *ℚ (table after).entry row place) (nothing_over (number_but place (pos 0) old place) before kept.positive (if_same place (pos 0) (whole_number_at old place)))
        ∙ zero-+ℚ (cost_at s place *ℚ (table after).entry row place)
        ∙ sym cost_place

    pub costs_kept : length new ≡ after.tableau.columns → AreShortOrMarks new → AreKeptCosts after d new
    costs_kept size range = record {
      positive = over.positive;
      denominator_short = over.short;
      size = size;
      range = range;
      value = λ k within short.
          let k_within : k < s.tableau.columns = subst (λ n. k < n) move.columns within in
          ⊎_elim (λ e. subst (λ v. quotient_of (whole_number_at new v) d ≡ cost_at after v) (sym e) (number_place (subst (λ v. IsShort (whole_number_at new v)) e short)))
          (λ other. number_other k k_within other short) (cases_eq k place);
    }

  -- ---- values

  entering_moved : (i : ℕ) → i < s.tableau.activities → ¬ (i ≡ row) → (table after).entry i place ≡ (table s).entry i place /ℚ line place
  entering_moved i i_within other = move.exchanged.entry i place i_within place_within ∙ if_other i row _ _ other ∙ if_same place _ _

  same_variable : (k : ℕ) → k < s.tableau.columns → ¬ (k ≡ place) → (table after).nonbasic k ≡ (table s).nonbasic k
  same_variable k k_within other = move.exchanged.nonbasic k k_within ∙ if_other k place _ _ other

  same_stand : (k : ℕ) → ¬ (k ≡ place) → get_or after.stands k Free ≡ get_or s.stands k Free
  same_stand k other = ap (λ l. get_or l k Free) move.stands ∙ get_or-set_other s.stands place k side Free other

  pub same_at : (k : ℕ) → k < s.tableau.columns → ¬ (k ≡ place) → (state after).at k ≡ (state s).at k
  same_at k k_within other = λ i.
      stand_number (same_stand k other i) (get_or (move.low i) (same_variable k k_within other i) None) (get_or (move.high i) (same_variable k k_within other i) None)

  -- the value of a row by its entries before the exchange, as they moved
  abbrev moved_sum : (ℕ → ℚ) → ℚ
  moved_sum a = sum_below s.tableau.columns (λ k. moved a line place k *ℚ (state after).at k)

  value_by : (i : ℕ) (a : ℕ → ℚ) → ((k : ℕ) → k < s.tableau.columns → (table after).entry i k ≡ moved a line place k) → value_at after i ≡ moved_sum a
  value_by i a entries =
      ap (λ n. sum_below n (λ k. (table after).entry i k *ℚ (state after).at k)) move.columns
      ∙ sum_below-same s.tableau.columns _ _ (λ k k_within. ap (λ e. e *ℚ (state after).at k) (entries k k_within))

  -- how far the leaving variable moves
  abbrev pub way_of : ℚ
  way_of = (state after).at place -ℚ value_at s row

  sum_after : (a : ℕ → ℚ) → moved_sum a ≡ sum_below s.tableau.columns (λ k. a k *ℚ (state s).at k) +ℚ (a place /ℚ line place) *ℚ way_of
  sum_after a = sum_moved s.tableau.columns place a line (state s).at (state after).at place_within some same_at

  pub value_other : (i : ℕ) → i < s.tableau.activities → ¬ (i ≡ row) → value_at after i ≡ value_at s i +ℚ (table after).entry i place *ℚ way_of
  value_other i i_within other =
      value_by i ((table s).entry i) (λ k k_within. move.exchanged.entry i k i_within k_within ∙ pivoted-other (table s).entry row place i k other)
      ∙ sum_after ((table s).entry i)
      ∙ ap (λ e. value_at s i +ℚ e *ℚ way_of) (sym (entering_moved i i_within other))

  pub value_own : value_at after row ≡ (state s).at place +ℚ (table after).entry row place *ℚ way_of
  value_own =
      value_by row (unit place) (λ k k_within. move.exchanged.entry row k row_within k_within ∙ pivoted-row (table s).entry row place k)
      ∙ sum_after (unit place)
      ∙ ap₂ (λ v w. v +ℚ (w /ℚ line place) *ℚ way_of) (sum_unit s.tableau.columns place (state s).at place_within) (if_same place (int (pos 1)) (int (pos 0)))
      ∙ ring ((state s).at place ∷ inverse (line place) ∷ way_of ∷ []) {y = (state s).at place +ℚ inverse (line place) *ℚ way_of} (search reads_ℚ depth 9) tt
      ∙ ap (λ e. (state s).at place +ℚ e *ℚ way_of) (sym entry_place)

  -- the values over the denominator after the exchange likewise: the number of the leaving row is that at which the entering variable stood, and the factor how far the leaving one moves
  module _ (before d : ℤ) (old new : List ℤ) (kept : AreKeptValues s before old) (over : IsDenominator d) (stood left factor : ℤ)
      (stood_is : (state s).at place ≡ int stood) (left_is : (state after).at place ≡ int left) (leaving_short : IsShort (whole_number_at old row)) (factor_is : factor +ℤ whole_number_at old row ≡ left *ℤ before)
      (follows : (i : ℕ) → i < s.tableau.activities → IsShort (whole_number_at new i)
      → (e : ℤ) × (((table after).entry i place ≡ quotient_of e d) × IsFollowed before d factor e (number_but row (stood *ℤ before) old i) (whole_number_at new i))) where
    way_is : quotient_of factor before ≡ way_of
    way_is =
        let x = quotient_of (whole_number_at old row) before in
        let whole : quotient_of factor before +ℚ x ≡ int left = sum_is factor (whole_number_at old row) before ∙ ap (λ n. quotient_of n before) factor_is ∙ start_is left before kept.positive in
        ring (quotient_of factor before ∷ x ∷ []) {y = (quotient_of factor before +ℚ x) -ℚ x} (search reads_ℚ depth 9) tt
        ∙ ap₂ ◌-ℚ◌ (whole ∙ sym left_is) (kept.value row row_within leaving_short)

    value_moved : (i : ℕ) → i < s.tableau.activities → IsShort (whole_number_at new i)
        → quotient_of (whole_number_at new i) d ≡ quotient_of (number_but row (stood *ℤ before) old i) before +ℚ (table after).entry i place *ℚ way_of
    value_moved i i_within short =
        let f = follows i i_within short in
        quotient_moved (whole_number_at new i) (number_but row (stood *ℤ before) old i) factor f.0 before d kept.positive over.positive (f.1.1 short).1
        ∙ ap₂ (λ w e. quotient_of (number_but row (stood *ℤ before) old i) before +ℚ w *ℚ e) way_is (sym f.1.0)
        ∙ ring (quotient_of (number_but row (stood *ℤ before) old i) before ∷ way_of ∷ (table after).entry i place ∷ [])
        {y = quotient_of (number_but row (stood *ℤ before) old i) before +ℚ (table after).entry i place *ℚ way_of} (search reads_ℚ depth 9) tt

    kept_other : (i : ℕ) → i < s.tableau.activities → ¬ (i ≡ row) → IsShort (whole_number_at new i) → quotient_of (whole_number_at new i) d ≡ value_at after i
    kept_other i i_within other short =
        let same : number_but row (stood *ℤ before) old i ≡ whole_number_at old i = if_other i row (stood *ℤ before) (whole_number_at old i) other in
        let known : IsShort (whole_number_at old i) = subst IsShort same ((follows i i_within short).1.1 short).0 in
        value_moved i i_within short
        ∙ ap (λ x. x +ℚ (table after).entry i place *ℚ way_of) (ap (λ n. quotient_of n before) same ∙ kept.value i i_within known)
        ∙ sym (value_other i i_within other)

    kept_own : IsShort (whole_number_at new row) → quotient_of (whole_number_at new row) d ≡ value_at after row
    kept_own short =
        value_moved row row_within short
        ∙ ap (λ x. x +ℚ (table after).entry row place *ℚ way_of)
        (ap (λ n. quotient_of n before) (if_same row (stood *ℤ before) (whole_number_at old row)) ∙ start_is stood before kept.positive ∙ sym stood_is)
        ∙ sym value_own

    pub values_kept : length new ≡ after.tableau.activities → AreShortOrMarks new → AreKeptValues after d new
    values_kept size range = record {
      positive = over.positive;
      denominator_short = over.short;
      size = size;
      range = range;
      value = λ i within short.
          let i_within : i < s.tableau.activities = subst (λ n. i < n) move.activities within in
          ⊎_elim (λ e. subst (λ v. quotient_of (whole_number_at new v) d ≡ value_at after v) (sym e) (kept_own (subst (λ v. IsShort (whole_number_at new v)) e short)))
          (λ other. kept_other i i_within other short) (cases_eq i row);
    }
