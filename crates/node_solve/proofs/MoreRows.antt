-- The table of a relaxation with cuts at a basis of that without them, where the activities of the cuts are basic besides.
-- Idea: a cut is a sum over columns, so its row says what the table makes of that sum, its reduced costs (`value-reduced`).
use Rattle.std.specs.Prelude.{◌≡◌, ℕ, ◌+◌, ◌-◌, ◌<◌, ◌≤◌, ltb, if◌then◌else◌, List, [], ◌∷◌, length, pos}
use Rattle.std.proofs.Common.{sym, ap, ap₂, ◌∙◌, arith, ⊎_elim}
use Rattle.std.proofs.lemmas.Bool.{cases_lt, lt-ltb, le-ltb}
use Rattle.frac128.specs.Rational.{ℚ, int, ◌+ℚ◌, ◌*ℚ◌}
use Rattle.frac128.specs.RationalRing.{ring, reads_ℚ}
use Rattle.frac128.specs.Sums.{sum_below}
use Rattle.checked_sum.proofs.SumLaws.{sum_below-same}
use Rattle.lp_model.specs.Program.{Program}
use Rattle.lp_model.specs.Regions.{Path, region_low, region_high}
use Rattle.lp_model.specs.Formulations.{Formulation, formulation, without_cuts, cut_coefficient}
use Rattle.lp_model.specs.declared.types.CutRow.{CutRow}
use Rattle.table_entries.specs.Relaxation.{Relaxation, Table, Solves, Rows, IsTable, IsArranged, reduced_cost, total_cost}
use Rattle.table_entries.proofs.SumBelowLaws.{sum_below-zero}
use Rattle.table_entries.proofs.Arranged.{sum_below-split}
use Rattle.table_entries.proofs.BringIn.{basic_within, nonbasic_within}
use Rattle.table_entries.proofs.Duality.{value-reduced}
use Rattle.row_tableau.specs.Activities.{activity_count, activity_coefficient, activity_low, activity_high}
use Rattle.row_tableau.specs.Relaxations.{plain}
use Rattle.row_tableau.proofs.CutLemmas.{row_activity, row_low, row_high, cut_activity, rows_alone}
use Rattle.row_tableau.proofs.TiltLemmas.{by_column, by_activity}

module _ (M : Program) (cuts : List CutRow) (path : Path) where
  abbrev pub F₀ : Formulation
  F₀ = without_cuts M

  abbrev pub F₁ : Formulation
  F₁ = formulation M cuts

  abbrev pub p₀ : Relaxation
  p₀ = plain F₀ path

  abbrev pub p₁ : Relaxation
  p₁ = plain F₁ path

  abbrev pub n : ℕ
  n = length M.cols

  abbrev pub m : ℕ
  m = activity_count F₀

  abbrev pub c : ℕ
  c = length cuts

  pub count : activity_count F₁ ≡ m + c
  count = let e = rows_alone M in omega (arith, e)

  in-rows : (i : ℕ) → i < m → i < length M.rows
  in-rows i w = let e = rows_alone M in omega (arith, e, w)

  -- ---- what both relaxations say

  coefficient-old : (i j : ℕ) → i < m → activity_coefficient F₁ i j ≡ activity_coefficient F₀ i j
  coefficient-old i j w = sym (row_activity F₁ i j (in-rows i w)) ∙ row_activity F₀ i j (in-rows i w)

  coefficient-new : (k j : ℕ) → activity_coefficient F₁ (m + k) j ≡ cut_coefficient cuts k j
  coefficient-new k j = sym (cut_activity F₁ m k j (rows_alone M))

  pub low-old : (v : ℕ) → v < n + m → p₁.low v ≡ p₀.low v
  low-old v w = ⊎_elim
      (λ q. by_column n (region_low M path) (activity_low F₁) v q ∙ sym (by_column n (region_low M path) (activity_low F₀) v q))
      (λ q. let r : v - n < length M.rows = in-rows (v - n) (omega (arith, w, q)) in
      by_activity n (region_low M path) (activity_low F₁) v q ∙ sym (row_low F₁ (v - n) r) ∙ row_low F₀ (v - n) r ∙ sym (by_activity n (region_low M path) (activity_low F₀) v q))
      (cases_lt v n)

  pub high-old : (v : ℕ) → v < n + m → p₁.high v ≡ p₀.high v
  high-old v w = ⊎_elim
      (λ q. by_column n (region_high M path) (activity_high F₁) v q ∙ sym (by_column n (region_high M path) (activity_high F₀) v q))
      (λ q. let r : v - n < length M.rows = in-rows (v - n) (omega (arith, w, q)) in
      by_activity n (region_high M path) (activity_high F₁) v q ∙ sym (row_high F₁ (v - n) r) ∙ row_high F₀ (v - n) r ∙ sym (by_activity n (region_high M path) (activity_high F₀) v q))
      (cases_lt v n)

  -- a cut as costs of the columns
  abbrev pub cut_cost : ℕ → ℕ → ℚ
  cut_cost k v = if ltb v n then cut_coefficient cuts k v else int (pos 0)

  pub cost-column : (k v : ℕ) → v < n → cut_cost k v ≡ cut_coefficient cuts k v
  cost-column k v w = ap (λ b. if b then cut_coefficient cuts k v else int (pos 0)) (lt-ltb v n w)

  pub cost-past : (k v : ℕ) → n ≤ v → cut_cost k v ≡ int (pos 0)
  cost-past k v w = ap (λ b. if b then cut_coefficient cuts k v else int (pos 0)) (le-ltb v n w)

  cost-total : (k : ℕ) (x : ℕ → ℚ) → total_cost p₀ (cut_cost k) x ≡ sum_below n (λ j. cut_coefficient cuts k j *ℚ x j)
  cost-total k x =
      sum_below-split n m (λ v. cut_cost k v *ℚ x v)
      ∙ ap₂ ◌+ℚ◌
      (sum_below-same n (λ v. cut_cost k v *ℚ x v) (λ j. cut_coefficient cuts k j *ℚ x j) (λ j w. ap (λ t. t *ℚ x j) (cost-column k j w)))
      (sum_below-zero m (λ i. cut_cost k (n + i) *ℚ x (n + i)) (λ i w. ap (λ t. t *ℚ x (n + i)) (cost-past k (n + i) (omega arith)) ∙ ring (x (n + i) ∷ []) {x = int (pos 0) *ℚ x (n + i)} {y = int (pos 0)} (search reads_ℚ) tt))
      ∙ none (sum_below n (λ j. cut_coefficient cuts k j *ℚ x j))
    where
      none : (t : ℚ) → t +ℚ int (pos 0) ≡ t
      none t = ring (t ∷ []) {x = t +ℚ int (pos 0)} {y = t} (search reads_ℚ) tt

  -- ---- the table

  module _ (d : Table) (table : IsTable p₀ d) (arranged : IsArranged p₀ d) where
    abbrev pub d₁ : Table
    d₁ = record {
      basic = λ i. if ltb i m then d.basic i else n + i;
      nonbasic = d.nonbasic;
      entry = λ i s. if ltb i m then d.entry i s else reduced_cost p₀ d (cut_cost (i - m)) s;
    }

    pub basic-old : (i : ℕ) → i < m → d₁.basic i ≡ d.basic i
    basic-old i w = ap (λ b. if b then d.basic i else n + i) (lt-ltb i m w)

    pub basic-new : (i : ℕ) → m ≤ i → d₁.basic i ≡ n + i
    basic-new i w = ap (λ b. if b then d.basic i else n + i) (le-ltb i m w)

    entry-old : (i s : ℕ) → i < m → d₁.entry i s ≡ d.entry i s
    entry-old i s w = ap (λ b. if b then d.entry i s else reduced_cost p₀ d (cut_cost (i - m)) s) (lt-ltb i m w)

    entry-new : (k s : ℕ) → d₁.entry (m + k) s ≡ reduced_cost p₀ d (cut_cost k) s
    entry-new k s =
        let past : m ≤ m + k = omega arith in
        let same : m + k - m ≡ k = omega arith in
        ap (λ b. if b then d.entry (m + k) s else reduced_cost p₀ d (cut_cost (m + k - m)) s) (le-ltb (m + k) m past) ∙ ap (λ i. reduced_cost p₀ d (cut_cost i) s) same

    -- the row of a cut at a solution
    row-new : (x : ℕ → ℚ) → Solves p₀ x → (k : ℕ) → sum_below n (λ s. d₁.entry (m + k) s *ℚ x (d.nonbasic s)) ≡ sum_below n (λ j. cut_coefficient cuts k j *ℚ x j)
    row-new x solves k =
        sum_below-same n (λ s. d₁.entry (m + k) s *ℚ x (d.nonbasic s)) (λ s. reduced_cost p₀ d (cut_cost k) s *ℚ x (d.nonbasic s)) (λ s w. ap (λ t. t *ℚ x (d.nonbasic s)) (entry-new k s))
        ∙ sym (value-reduced p₀ d arranged x (table.holds x solves) (cut_cost k)) ∙ cost-total k x

    solves-old : (x : ℕ → ℚ) → Solves p₁ x → Solves p₀ x
    solves-old x solves i w =
        let within : i < activity_count F₁ = let e = count in omega (arith, e, w) in
        solves i within ∙ sum_below-same n (λ j. activity_coefficient F₁ i j *ℚ x j) (λ j. activity_coefficient F₀ i j *ℚ x j) (λ j q. ap (λ t. t *ℚ x j) (coefficient-old i j w))

    rows-old : (x : ℕ → ℚ) → Rows p₁ d₁ x → Rows p₀ d x
    rows-old x rows i w =
        let within : i < activity_count F₁ = let e = count in omega (arith, e, w) in
        ap x (sym (basic-old i w)) ∙ rows i within ∙ sum_below-same n (λ s. d₁.entry i s *ℚ x (d.nonbasic s)) (λ s. d.entry i s *ℚ x (d.nonbasic s)) (λ s q. ap (λ t. t *ℚ x (d.nonbasic s)) (entry-old i s w))

    holds-at : (x : ℕ → ℚ) → Solves p₁ x → (i : ℕ) → i < activity_count F₁ → x (d₁.basic i) ≡ sum_below n (λ s. d₁.entry i s *ℚ x (d.nonbasic s))
    holds-at x solves i within = ⊎_elim
        (λ w. ap x (basic-old i w) ∙ table.holds x (solves-old x solves) i w ∙ sum_below-same n (λ s. d.entry i s *ℚ x (d.nonbasic s)) (λ s. d₁.entry i s *ℚ x (d.nonbasic s)) (λ s q. ap (λ t. t *ℚ x (d.nonbasic s)) (sym (entry-old i s w))))
        (λ w.
        let same : i ≡ m + (i - m) = omega (arith, w) in
        ap x (basic-new i w) ∙ solves i within
        ∙ sum_below-same n (λ j. activity_coefficient F₁ i j *ℚ x j) (λ j. cut_coefficient cuts (i - m) j *ℚ x j) (λ j q. ap (λ t. t *ℚ x j) (ap (λ a. activity_coefficient F₁ a j) same ∙ coefficient-new (i - m) j))
        ∙ sym (row-new x (solves-old x solves) (i - m)) ∙ ap (λ a. sum_below n (λ s. d₁.entry a s *ℚ x (d.nonbasic s))) (sym same))
        (cases_lt i m)

    suffices-at : (x : ℕ → ℚ) → Rows p₁ d₁ x → (i : ℕ) → i < activity_count F₁ → x (n + i) ≡ sum_below n (λ j. activity_coefficient F₁ i j *ℚ x j)
    suffices-at x rows i within =
        let solves : Solves p₀ x = table.suffices x (rows-old x rows) in
        ⊎_elim
        (λ w. solves i w ∙ sum_below-same n (λ j. activity_coefficient F₀ i j *ℚ x j) (λ j. activity_coefficient F₁ i j *ℚ x j) (λ j q. ap (λ t. t *ℚ x j) (sym (coefficient-old i j w))))
        (λ w.
        let same : i ≡ m + (i - m) = omega (arith, w) in
        ap x (sym (basic-new i w)) ∙ rows i within ∙ ap (λ a. sum_below n (λ s. d₁.entry a s *ℚ x (d.nonbasic s))) same ∙ row-new x solves (i - m)
        ∙ sum_below-same n (λ j. cut_coefficient cuts (i - m) j *ℚ x j) (λ j. activity_coefficient F₁ i j *ℚ x j) (λ j q. ap (λ t. t *ℚ x j) (sym (ap (λ a. activity_coefficient F₁ a j) same ∙ coefficient-new (i - m) j))))
        (cases_lt i m)

    pub table-more : IsTable p₁ d₁
    table-more = record { holds = holds-at; suffices = suffices-at }

    -- ---- the arrangement

    basic-below : (i : ℕ) → i < m → d.basic i < n + m
    basic-below i w = basic_within p₀ d arranged i w

    nonbasic-below : (k : ℕ) → k < n → d.nonbasic k < n + m
    nonbasic-below k w = nonbasic_within p₀ d arranged k w

    once-more : (i j : ℕ) → d₁.basic i ≡ d₁.basic j → i ≡ j
    once-more i j e = ⊎_elim
        (λ v. ⊎_elim
        (λ w. arranged.basic_once i j v w (sym (basic-old i v) ∙ e ∙ basic-old j w))
        (λ w. let a = basic-old i v in let b = basic-new j w in let low = basic-below i v in absurd (omega (arith, e, a, b, low, w)))
        (cases_lt j m))
        (λ v. ⊎_elim
        (λ w. let a = basic-new i v in let b = basic-old j w in let low = basic-below j w in absurd (omega (arith, e, a, b, low, v)))
        (λ w. let a = basic-new i v in let b = basic-new j w in omega (arith, e, a, b))
        (cases_lt j m))
        (cases_lt i m)

    apart-more : (i k : ℕ) → k < n → ¬ (d₁.basic i ≡ d.nonbasic k)
    apart-more i k k_within e = ⊎_elim
        (λ w. arranged.apart i k w k_within (sym (basic-old i w) ∙ e))
        (λ w. let a = basic-new i w in let below = nonbasic-below k k_within in absurd (omega (arith, e, a, below, w)))
        (cases_lt i m)

    basics-sum : (f : ℕ → ℚ) → sum_below (m + c) (λ i. f (d₁.basic i)) ≡ sum_below m (λ i. f (d.basic i)) +ℚ sum_below c (λ k. f (n + (m + k)))
    basics-sum f =
        sum_below-split m c (λ i. f (d₁.basic i))
        ∙ ap₂ ◌+ℚ◌
        (sum_below-same m (λ i. f (d₁.basic i)) (λ i. f (d.basic i)) (λ i w. ap f (basic-old i w)))
        (sum_below-same c (λ k. f (d₁.basic (m + k))) (λ k. f (n + (m + k))) (λ k w. ap f (basic-new (m + k) (omega arith))))

    sums-more : (f : ℕ → ℚ) → sum_below (n + activity_count F₁) f ≡ sum_below (activity_count F₁) (λ i. f (d₁.basic i)) +ℚ sum_below n (λ k. f (d.nonbasic k))
    sums-more f =
        let longer : n + activity_count F₁ ≡ (n + m) + c = let e = count in omega (arith, e) in
        let a = sum_below m (λ i. f (d.basic i)) in
        let b = sum_below n (λ k. f (d.nonbasic k)) in
        let e = sum_below c (λ k. f (n + (m + k))) in
        ap (λ k. sum_below k f) longer
        ∙ sum_below-split (n + m) c f
        ∙ ap₂ ◌+ℚ◌ (arranged.sums f) (sum_below-same c (λ k. f (n + m + k)) (λ k. f (n + (m + k))) (λ k w. let same : n + m + k ≡ n + (m + k) = omega arith in ap f same))
        ∙ turned a b e
        ∙ ap (λ t. t +ℚ b) (sym (basics-sum f) ∙ ap (λ k. sum_below k (λ i. f (d₁.basic i))) (sym count))
      where
        turned : (a b e : ℚ) → a +ℚ b +ℚ e ≡ a +ℚ e +ℚ b
        turned a b e = ring (a ∷ b ∷ e ∷ []) {x = a +ℚ b +ℚ e} {y = a +ℚ e +ℚ b} (search reads_ℚ depth 9) tt

    pub arranged-more : IsArranged p₁ d₁
    arranged-more = record {
      basic_once = λ i j v w e. once-more i j e;
      nonbasic_once = arranged.nonbasic_once;
      apart = λ i k v w. apart-more i k w;
      sums = sums-more;
    }

    -- ---- reduced costs

    pub reduced-more : (b b₁ : ℕ → ℚ) → ((v : ℕ) → v < n + m → b₁ v ≡ b v) → (s : ℕ) → s < n → reduced_cost p₁ d₁ b₁ s ≡ reduced_cost p₀ d b s +ℚ sum_below c (λ k. b₁ (n + (m + k)) *ℚ reduced_cost p₀ d (cut_cost k) s)
    reduced-more b b₁ same s s_within =
        let f : ℕ → ℚ = λ i. b₁ (d₁.basic i) *ℚ d₁.entry i s in
        let old : sum_below m f ≡ sum_below m (λ i. b (d.basic i) *ℚ d.entry i s) =
        sum_below-same m f (λ i. b (d.basic i) *ℚ d.entry i s) (λ i w. ap₂ ◌*ℚ◌ (ap b₁ (basic-old i w) ∙ same (d.basic i) (basic-below i w)) (entry-old i s w)) in
        let new : sum_below c (λ k. f (m + k)) ≡ sum_below c (λ k. b₁ (n + (m + k)) *ℚ reduced_cost p₀ d (cut_cost k) s) =
        sum_below-same c (λ k. f (m + k)) (λ k. b₁ (n + (m + k)) *ℚ reduced_cost p₀ d (cut_cost k) s) (λ k w. ap₂ ◌*ℚ◌ (ap b₁ (basic-new (m + k) (omega arith))) (entry-new k s)) in
        ap₂ ◌+ℚ◌ (same (d.nonbasic s) (nonbasic-below s s_within)) (ap (λ k. sum_below k f) count ∙ sum_below-split m c f ∙ ap₂ ◌+ℚ◌ old new)
        ∙ joined (b (d.nonbasic s)) (sum_below m (λ i. b (d.basic i) *ℚ d.entry i s)) (sum_below c (λ k. b₁ (n + (m + k)) *ℚ reduced_cost p₀ d (cut_cost k) s))
      where
        joined : (a u w : ℚ) → a +ℚ (u +ℚ w) ≡ a +ℚ u +ℚ w
        joined a u w = ring (a ∷ u ∷ w ∷ []) {x = a +ℚ (u +ℚ w)} {y = a +ℚ u +ℚ w} (search reads_ℚ depth 9) tt
