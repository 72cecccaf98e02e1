-- What an exchange does to a row that is not written: its sum goes over to the sum of the columns' rows after the exchange.
use Rattle.std.specs.Prelude.{◌≡◌, ◌≢◌, ℕ, ◌+◌, ◌-◌, ◌<◌, ◌≤◌, ◌==◌, if◌then◌else◌, [], ◌∷◌, ℤ, pos}
use Rattle.std.proofs.Common.{sym, ap, subst, ◌∙◌, ⊎_elim, arith}
use Rattle.std.proofs.lemmas.Bool.{cases_eq, cases_lt, lt-ltb, le-ltb}
use Rattle.frac128.specs.Rational.{ℚ, int, ◌+ℚ◌, ◌-ℚ◌, ◌*ℚ◌, ◌/ℚ◌, neg_ℚ, inverse}
use Rattle.frac128.specs.RationalRing.{ring, reads_ℚ}
use Rattle.frac128.proofs.Rounding.{*ℚ-inverse}
use Rattle.frac128.specs.Sums.{sum_below}
use Rattle.checked_sum.proofs.SumLaws.{sum_below-add, sum_below-scale, sum_below-same}
use Rattle.table_entries.specs.Relaxation.{pivoted_entry, updated}
use Rattle.table_entries.proofs.SumBelowLaws.{if_same, if_other}
use Rattle.table_entries.proofs.Exchange.{moved}
use Rattle.table_entries.proofs.Pivot.{unit, pivoted-row, pivoted-other}
use Rattle.table_entries.specs.Parts.{slot_entry, unwritten_entry, swapped}

-- ---- weights by place, moved by the row that leaves

module _ (row : ℕ → ℚ) (s : ℕ) where
  -- the row itself: after the exchange its variable stands at the place
  pub moved_self : row s ≢ int (pos 0) → (k : ℕ) → moved row row s k ≡ unit s k
  moved_self some k = ⊎_elim here there (cases_eq k s)
    where
      one : row s *ℚ inverse (row s) ≡ int (pos 1)
      one = *ℚ-inverse (row s) some

      here : k ≡ s → moved row row s k ≡ unit s k
      here e = subst (λ v. moved row row s v ≡ unit s v) (sym e) (if_same s _ _ ∙ one ∙ sym (if_same s (int (pos 1)) (int (pos 0))))

      there : ¬ (k ≡ s) → moved row row s k ≡ unit s k
      there other =
          if_other k s _ _ other
          ∙ ring (row k ∷ row s ∷ inverse (row s) ∷ []) {y = row k -ℚ row k *ℚ (row s *ℚ inverse (row s))} (search reads_ℚ depth 9) tt
          ∙ ap (λ t. row k -ℚ row k *ℚ t) one ∙ ring (row k ∷ []) {y = int (pos 0)} (search reads_ℚ depth 9) tt
          ∙ sym (if_other k s (int (pos 1)) (int (pos 0)) other)

  -- another place stays
  pub moved_unit : (q k : ℕ) → ¬ (q ≡ s) → moved (unit q) row s k ≡ unit q k
  moved_unit q k apart = ⊎_elim here there (cases_eq k s)
    where
      none : unit q s ≡ int (pos 0)
      none = if_other s q (int (pos 1)) (int (pos 0)) (λ e. apart (sym e))

      here : k ≡ s → moved (unit q) row s k ≡ unit q k
      here e =
          subst (λ v. moved (unit q) row s v ≡ unit q v) (sym e)
          (if_same s _ _ ∙ ap (λ t. t /ℚ row s) none ∙ ring (inverse (row s) ∷ []) {y = int (pos 0)} (search reads_ℚ) tt ∙ sym none)

      there : ¬ (k ≡ s) → moved (unit q) row s k ≡ unit q k
      there other =
          if_other k s _ _ other ∙ ap (λ t. unit q k -ℚ t *ℚ (row k /ℚ row s)) none
          ∙ ring (unit q k ∷ row k ∷ inverse (row s) ∷ []) {y = unit q k} (search reads_ℚ depth 9) tt

  -- only the weights of the place and of s count
  pub moved_same : (a b : ℕ → ℚ) (k : ℕ) → a k ≡ b k → a s ≡ b s → moved a row s k ≡ moved b row s k
  moved_same a b k here there = λ i. if k == s then there i /ℚ row s else here i -ℚ there i *ℚ (row k /ℚ row s)

  -- a sum of weights is moved term by term
  pub moved_sum : (n : ℕ) (c : ℕ → ℚ) (f : ℕ → ℕ → ℚ) (k : ℕ) → sum_below n (λ j. c j *ℚ moved (f j) row s k) ≡ moved (λ l. sum_below n (λ j. c j *ℚ f j l)) row s k
  moved_sum n c f k = ⊎_elim here there (cases_eq k s)
    where
      whole : ℕ → ℚ
      whole l = sum_below n (λ j. c j *ℚ f j l)

      here : k ≡ s → sum_below n (λ j. c j *ℚ moved (f j) row s k) ≡ moved (λ l. sum_below n (λ j. c j *ℚ f j l)) row s k
      here e =
          subst (λ v. sum_below n (λ j. c j *ℚ moved (f j) row s v) ≡ moved (λ l. sum_below n (λ j. c j *ℚ f j l)) row s v) (sym e)
          (sum_below-same n (λ j. c j *ℚ moved (f j) row s s) (λ j. inverse (row s) *ℚ (c j *ℚ f j s))
          (λ j p. ap (λ t. c j *ℚ t) (if_same s _ _) ∙ ring (c j ∷ f j s ∷ inverse (row s) ∷ []) {y = inverse (row s) *ℚ (c j *ℚ f j s)} (search reads_ℚ depth 9) tt)
          ∙ sum_below-scale n (inverse (row s)) (λ j. c j *ℚ f j s)
          ∙ ring (inverse (row s) ∷ sum_below n (λ j. c j *ℚ f j s) ∷ []) {y = sum_below n (λ j. c j *ℚ f j s) /ℚ row s} (search reads_ℚ depth 9) tt
          ∙ sym (if_same s _ _))

      there : ¬ (k ≡ s) → sum_below n (λ j. c j *ℚ moved (f j) row s k) ≡ moved (λ l. sum_below n (λ j. c j *ℚ f j l)) row s k
      there other =
          sum_below-same n (λ j. c j *ℚ moved (f j) row s k) (λ j. c j *ℚ f j k +ℚ neg_ℚ (row k /ℚ row s) *ℚ (c j *ℚ f j s))
          (λ j p. ap (λ t. c j *ℚ t) (if_other k s _ _ other)
          ∙ ring (c j ∷ f j k ∷ f j s ∷ row k ∷ inverse (row s) ∷ []) {y = c j *ℚ f j k +ℚ neg_ℚ (row k /ℚ row s) *ℚ (c j *ℚ f j s)} (search reads_ℚ depth 9) tt)
          ∙ sum_below-add n (λ j. c j *ℚ f j k) (λ j. neg_ℚ (row k /ℚ row s) *ℚ (c j *ℚ f j s))
          ∙ ap (λ t. sum_below n (λ j. c j *ℚ f j k) +ℚ t) (sum_below-scale n (neg_ℚ (row k /ℚ row s)) (λ j. c j *ℚ f j s))
          ∙ ring (sum_below n (λ j. c j *ℚ f j k) ∷ sum_below n (λ j. c j *ℚ f j s) ∷ row k ∷ inverse (row s) ∷ [])
          {y = sum_below n (λ j. c j *ℚ f j k) -ℚ sum_below n (λ j. c j *ℚ f j s) *ℚ (row k /ℚ row s)} (search reads_ℚ depth 9) tt
          ∙ sym (if_other k s _ _ other)

-- ---- columns

-- t has the rows that are written before the exchange, u those after it; the slots are those of the columns and of the two variables that are exchanged
module _ (rows r s : ℕ) (r_within : r < rows) (t u : ℕ → ℕ → ℚ) (some : t r s ≢ int (pos 0)) where
  at_row : (slot k : ℕ) → slot < rows → slot_entry rows t slot k ≡ t slot k
  at_row slot k w = ap (λ b. if b then t slot k else unit (slot - rows) k) (lt-ltb slot rows w)

  at_place : (slot k : ℕ) → rows ≤ slot → slot_entry rows t slot k ≡ unit (slot - rows) k
  at_place slot k w = ap (λ b. if b then t slot k else unit (slot - rows) k) (le-ltb slot rows w)

  after_row : (slot k : ℕ) → slot < rows → slot_entry rows u slot k ≡ u slot k
  after_row slot k w = ap (λ b. if b then u slot k else unit (slot - rows) k) (lt-ltb slot rows w)

  after_place : (slot k : ℕ) → rows ≤ slot → slot_entry rows u slot k ≡ unit (slot - rows) k
  after_place slot k w = ap (λ b. if b then u slot k else unit (slot - rows) k) (le-ltb slot rows w)

  back : (q : ℕ) → rows + q - rows ≡ q
  back q = omega arith

  -- the column that enters stands at the place, and then in the row
  pub column_enters : (k : ℕ) → u r k ≡ pivoted_entry t r s r k → slot_entry rows u r k ≡ moved (λ l. slot_entry rows t (rows + s) l) (t r) s k
  column_enters k written =
      after_row r k r_within ∙ written ∙ pivoted-row t r s k
      ∙ moved_same (t r) s (unit s) (λ l. slot_entry rows t (rows + s) l) k (place k) (place s)
    where
      place : (l : ℕ) → unit s l ≡ slot_entry rows t (rows + s) l
      place l = sym (at_place (rows + s) l (omega arith) ∙ ap (λ q. unit q l) (back s))

  -- the column that leaves stands in the row, and then at the place
  pub column_leaves : (k : ℕ) → slot_entry rows u (rows + s) k ≡ moved (λ l. slot_entry rows t r l) (t r) s k
  column_leaves k =
      after_place (rows + s) k (omega arith) ∙ ap (λ q. unit q k) (back s) ∙ sym (moved_self (t r) s some k)
      ∙ moved_same (t r) s (t r) (λ l. slot_entry rows t r l) k (sym (at_row r k r_within)) (sym (at_row r s r_within))

  -- any other column stays where it is
  pub column_stays : (slot k : ℕ) → slot ≢ r → slot ≢ rows + s → (slot < rows → u slot k ≡ pivoted_entry t r s slot k)
      → slot_entry rows u slot k ≡ moved (λ l. slot_entry rows t slot l) (t r) s k
  column_stays slot k not_row not_place written = ⊎_elim in_row in_place (cases_lt slot rows)
    where
      in_row : slot < rows → slot_entry rows u slot k ≡ moved (λ l. slot_entry rows t slot l) (t r) s k
      in_row w =
          after_row slot k w ∙ written w ∙ pivoted-other t r s slot k not_row
          ∙ moved_same (t r) s (t slot) (λ l. slot_entry rows t slot l) k (sym (at_row slot k w)) (sym (at_row slot s w))

      in_place : rows ≤ slot → slot_entry rows u slot k ≡ moved (λ l. slot_entry rows t slot l) (t r) s k
      in_place w =
          after_place slot k w ∙ sym (moved_unit (t r) s (slot - rows) k (λ e. not_place (omega (arith, e, w))))
          ∙ moved_same (t r) s (unit (slot - rows)) (λ l. slot_entry rows t slot l) k (sym (at_place slot k w)) (sym (at_place slot s w))

-- ---- the row

-- the slots of all variables before and after: the two that are exchanged, and no other, change theirs
module _ (rows columns r s : ℕ) (r_within : r < rows) (t u : ℕ → ℕ → ℚ) (some : t r s ≢ int (pos 0))
    (slots : ℕ → ℕ) (entering leaving : ℕ) (entering_is : slots entering ≡ rows + s) (leaving_is : slots leaving ≡ r)
    (leaves_alone : (j : ℕ) → j < columns → slots j ≡ r → j ≡ leaving) (enters_alone : (j : ℕ) → j < columns → slots j ≡ rows + s → j ≡ entering) where
  abbrev slots' : ℕ → ℕ
  slots' = swapped slots r (rows + s) entering leaving

  -- the rows that columns are in, and that of the exchange, are written
  module _ (k : ℕ) (written_row : u r k ≡ pivoted_entry t r s r k) (written : (j : ℕ) → j < columns → slots j < rows → u (slots j) k ≡ pivoted_entry t r s (slots j) k) where
    pub column_moved : (j : ℕ) → j < columns → slot_entry rows u (slots' j) k ≡ moved (λ l. slot_entry rows t (slots j) l) (t r) s k
    column_moved j within = ⊎_elim leaves others (cases_eq j leaving)
      where
        leaves : j ≡ leaving → slot_entry rows u (slots' j) k ≡ moved (λ l. slot_entry rows t (slots j) l) (t r) s k
        leaves e =
            subst (λ v. slot_entry rows u (slots' v) k ≡ moved (λ l. slot_entry rows t (slots v) l) (t r) s k) (sym e)
            (ap (λ x. slot_entry rows u x k) (if_same leaving (rows + s) (updated slots entering r leaving))
            ∙ column_leaves rows r s r_within t u some k ∙ ap (λ x. moved (λ l. slot_entry rows t x l) (t r) s k) (sym leaving_is))

        enters : ¬ (j ≡ leaving) → j ≡ entering → slot_entry rows u (slots' j) k ≡ moved (λ l. slot_entry rows t (slots j) l) (t r) s k
        enters other e =
            ap (λ x. slot_entry rows u x k) (if_other j leaving (rows + s) (updated slots entering r j) other)
            ∙ subst (λ v. slot_entry rows u (updated slots entering r v) k ≡ moved (λ l. slot_entry rows t (slots v) l) (t r) s k) (sym e)
            (ap (λ x. slot_entry rows u x k) (if_same entering r (slots entering))
            ∙ column_enters rows r s r_within t u some k written_row ∙ ap (λ x. moved (λ l. slot_entry rows t x l) (t r) s k) (sym entering_is))

        stays : ¬ (j ≡ leaving) → ¬ (j ≡ entering) → slot_entry rows u (slots' j) k ≡ moved (λ l. slot_entry rows t (slots j) l) (t r) s k
        stays other apart =
            ap (λ x. slot_entry rows u x k) (if_other j leaving (rows + s) (updated slots entering r j) other ∙ if_other j entering r (slots j) apart)
            ∙ column_stays rows r s r_within t u some (slots j) k (λ e. other (leaves_alone j within e)) (λ e. apart (enters_alone j within e)) (written j within)

        others : ¬ (j ≡ leaving) → slot_entry rows u (slots' j) k ≡ moved (λ l. slot_entry rows t (slots j) l) (t r) s k
        others other = ⊎_elim (enters other) (stays other) (cases_eq j entering)

    -- so the row that is not written goes over as any other row does
    pub unwritten_moved : (c : ℕ → ℤ) → unwritten_entry rows columns u slots' c k ≡ moved (λ l. unwritten_entry rows columns t slots c l) (t r) s k
    unwritten_moved c =
        sum_below-same columns (λ j. int (c j) *ℚ slot_entry rows u (slots' j) k) (λ j. int (c j) *ℚ moved (λ l. slot_entry rows t (slots j) l) (t r) s k)
        (λ j within. ap (λ x. int (c j) *ℚ x) (column_moved j within))
        ∙ moved_sum (t r) s columns (λ j. int (c j)) (λ j l. slot_entry rows t (slots j) l) k
