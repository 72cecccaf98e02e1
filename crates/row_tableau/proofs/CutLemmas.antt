-- A cut written into a list of rows.
use Rattle.std.specs.Prelude.{◌≡◌, ◌≢◌, ℕ, zero, suc, ◌+◌, ◌-◌, ◌*◌, ◌/◌, ◌%◌, ◌<◌, ◌≤◌, false, if◌then◌else◌, nat_eq, List, [], ◌∷◌, get_or, set, drop, length, pos, None}
use Rattle.std.proofs.Common.{refl, sym, ap, subst, ◌∙◌, arith, ⊎_elim}
use Rattle.std.proofs.lemmas.Bool.{cases_eq, cases_lt, lt-ltb, le-ltb, ne_eqb}
use Rattle.std.proofs.lemmas.Nat.{div-add-mod', div_below, mod_below}
use Rattle.std.proofs.Math.Seq.{drop-cons}
use Rattle.std.proofs.lemmas.List.{get_or-set_same, get_or-set_other}
use Rattle.frac128.specs.Rational.{ℚ, int}
use Rattle.lp_model.specs.Program.{Program, coefficient, entry_of, low_side, high_side}
use Rattle.lp_model.specs.Lawful.{AreEntries, IsLawful, IsLawfulColumn}
use Rattle.lp_model.specs.CutTerms.{term_of}
use Rattle.lp_model.specs.Formulations.{Formulation, without_cuts, cut_coefficient, cut_high}
use Rattle.lp_model.specs.declared.types.ColId.{ColId}
use Rattle.lp_model.specs.declared.types.RowId.{RowId}
use Rattle.lp_model.proofs.ElementLemmas.{element, of_element-get, of_element-past}
use Rattle.row_tableau.specs.Activities.{activity_count, activity_coefficient, activity_low, activity_high}
use Rattle.table_entries.proofs.PivotLemmas.{flat_within}
use Rattle.table_entries.proofs.RowLemmas.{rows_apart, other_test, same_test}
use Rattle.row_tableau.proofs.ColumnLemmas.{places_apart}

term_first : (k : ℕ) (e : ColId × ℚ) (rest : List (ColId × ℚ)) → e.0.0 ≡ k → e.1 ≡ term_of k (e ∷ rest)
term_first k e rest is = sym (ap (λ b. if b then e.1 else term_of k rest) (ap (λ c. nat_eq c k) is ∙ same_test k))

term_later : (k : ℕ) (e : ColId × ℚ) (rest : List (ColId × ℚ)) → e.0.0 ≢ k → term_of k rest ≡ term_of k (e ∷ rest)
term_later k e rest other = sym (ap (λ b. if b then e.1 else term_of k rest) (other_test e.0.0 k other))

module _ (m n row : ℕ) (row_within : row < m) (list : List ℚ) (size : length list ≡ m * n) (terms : List (ColId × ℚ)) (left : ℕ) (some : 0 < left) (within : left ≤ length terms) (e : ColId × ℚ) (e_is : e ≡ get_or terms (left - 1) e) where
  terms_split : drop (left - 1) terms ≡ e ∷ drop left terms
  terms_split = drop-cons terms (left - 1) e (omega (arith, some, within)) ∙ ap (λ x. x ∷ drop (suc (left - 1)) terms) (sym e_is) ∙ ap (λ k. e ∷ drop k terms) (let same : suc (left - 1) ≡ left = omega (arith, some) in same)

  -- the term before is written
  module _ (at : ℕ) (col_within : e.0.0 < n) (at_is : at ≡ row * n + e.0.0) where
    pub cut_more : ((k : ℕ) → k < n → get_or list (row * n + k) (int (pos 0)) ≡ term_of k (drop left terms)) → (k : ℕ) → k < n → get_or (set list at e.1) (row * n + k) (int (pos 0)) ≡ term_of k (drop (left - 1) terms)
    cut_more before k k_within = ⊎_elim
        (λ same. subst (λ a. get_or (set list at e.1) a (int (pos 0)) ≡ e.1) (at_is ∙ ap (λ c. row * n + c) same)
        (get_or-set_same list at e.1 (int (pos 0)) (let w = flat_within n m row e.0.0 row_within col_within in omega (arith, w, at_is, size)))
        ∙ term_first k e (drop left terms) same)
        (λ other. get_or-set_other list at (row * n + k) e.1 (int (pos 0)) (λ q. places_apart n row row k e.0.0 (λ f. other (sym f)) k_within col_within (q ∙ at_is))
        ∙ before k k_within ∙ term_later k e (drop left terms) other)
        (cases_eq e.0.0 k)
        ∙ ap (term_of k) (sym terms_split)

    pub cut_others : (i k : ℕ) → k < n → i ≢ row → get_or (set list at e.1) (i * n + k) (int (pos 0)) ≡ get_or list (i * n + k) (int (pos 0))
    cut_others i k k_within other = get_or-set_other list at (i * n + k) e.1 (int (pos 0)) (λ q. rows_apart n i row k e.0.0 other k_within col_within (q ∙ at_is))

  -- the term before is of no column
  pub cut_past : n ≤ e.0.0 → ((k : ℕ) → k < n → get_or list (row * n + k) (int (pos 0)) ≡ term_of k (drop left terms)) → (k : ℕ) → k < n → get_or list (row * n + k) (int (pos 0)) ≡ term_of k (drop (left - 1) terms)
  cut_past past before k k_within = before k k_within ∙ term_later k e (drop left terms) (λ f. omega (arith, f, past, k_within)) ∙ ap (term_of k) (sym terms_split)

-- ---- activities

module _ (F : Formulation) where
  pub row_activity : (i k : ℕ) → i < length F.model.rows → coefficient F.model i k ≡ activity_coefficient F i k
  row_activity i k within = sym (ap (λ b. if b then coefficient F.model i k else cut_coefficient F.cuts (i - length F.model.rows) k) (lt-ltb i (length F.model.rows) within))

  pub row_low : (i : ℕ) → i < length F.model.rows → low_side F.model i ≡ activity_low F i
  row_low i within = sym (ap (λ b. if b then low_side F.model i else None) (lt-ltb i (length F.model.rows) within))

  pub row_high : (i : ℕ) → i < length F.model.rows → high_side F.model i ≡ activity_high F i
  row_high i within = sym (ap (λ b. if b then high_side F.model i else cut_high F.cuts (i - length F.model.rows)) (lt-ltb i (length F.model.rows) within))

  pub cut_activity : (rows cut k : ℕ) → rows ≡ length F.model.rows → cut_coefficient F.cuts cut k ≡ activity_coefficient F (rows + cut) k
  cut_activity rows cut k is =
      let past : length F.model.rows ≤ rows + cut = omega (arith, is) in
      let same : cut ≡ rows + cut - length F.model.rows = omega (arith, is) in
      ap (λ c. cut_coefficient F.cuts c k) same
      ∙ sym (ap (λ b. if b then coefficient F.model (rows + cut) k else cut_coefficient F.cuts (rows + cut - length F.model.rows) k) (le-ltb (rows + cut) (length F.model.rows) past))

  -- past the rows stand the cuts
  pub past_low : (i : ℕ) → length F.model.rows ≤ i → activity_low F i ≡ None
  past_low i past = ap (λ b. if b then low_side F.model i else None) (le-ltb i (length F.model.rows) past)

  pub past_high : (i : ℕ) → length F.model.rows ≤ i → activity_high F i ≡ cut_high F.cuts (i - length F.model.rows)
  past_high i past = ap (λ b. if b then high_side F.model i else cut_high F.cuts (i - length F.model.rows)) (le-ltb i (length F.model.rows) past)

  -- a cut has a high side alone
  pub cut_low : (rows cut : ℕ) → rows ≡ length F.model.rows → activity_low F (rows + cut) ≡ None
  cut_low rows cut is =
      let past : length F.model.rows ≤ rows + cut = omega (arith, is) in
      ap (λ b. if b then low_side F.model (rows + cut) else None) (le-ltb (rows + cut) (length F.model.rows) past)

  pub cut_high_is : (rows cut : ℕ) → rows ≡ length F.model.rows → cut_high F.cuts cut ≡ activity_high F (rows + cut)
  cut_high_is rows cut is =
      let past : length F.model.rows ≤ rows + cut = omega (arith, is) in
      let same : cut ≡ rows + cut - length F.model.rows = omega (arith, is) in
      ap (cut_high F.cuts) same
      ∙ sym (ap (λ b. if b then high_side F.model (rows + cut) else cut_high F.cuts (rows + cut - length F.model.rows)) (le-ltb (rows + cut) (length F.model.rows) past))

-- without cuts the activities are those of the rows
pub rows_alone : (M : Program) → activity_count (without_cuts M) ≡ length M.rows
rows_alone M = omega arith

entry_past : (from to : ℕ) (es : List (RowId × ℚ)) (i : ℕ) → AreEntries from to es → to ≤ i → entry_of i es ≡ int (pos 0)
entry_past from to [] i h past = refl
entry_past from to (e ∷ es) i h past =
    let high = h.1 in
    let apart : nat_eq e.0.0 i ≡ false = ne_eqb e.0.0 i (λ same. absurd (omega arith)) in
    rw apart (entry_past (suc e.0.0) to es i h.3 past)

-- no column has an entry past the last row
pub coefficient_past : (M : Program) → IsLawful M → (i j : ℕ) → length M.rows ≤ i → coefficient M i j ≡ int (pos 0)
coefficient_past M lawful i j past = ⊎_elim
    (λ within.
    let el = element M.cols j within in
    let column : IsLawfulColumn (length M.rows) el.0 = subst (IsLawfulColumn (length M.rows)) (sym el.1) (lawful.columns j el.0 within) in
    of_element-get (int (pos 0)) (λ c. entry_of i c.rows) M.cols j el.0 within el.1 ∙ entry_past 0 (length M.rows) el.0.rows i column.entries past)
    (λ beyond. of_element-past (int (pos 0)) (λ c. entry_of i c.rows) M.cols j beyond)
    (cases_lt j (length M.cols))

-- one more cut is written
module _ (F : Formulation) (m n rows cut : ℕ) (old next list : List ℚ) (list_is : list ≡ next) (row_within : rows + cut < m)
    (here : (k : ℕ) → k < n → get_or next ((rows + cut) * n + k) (int (pos 0)) ≡ activity_coefficient F (rows + cut) k)
    (others : (i k : ℕ) → i < m → k < n → i ≢ rows + cut → get_or next (i * n + k) (int (pos 0)) ≡ get_or old (i * n + k) (int (pos 0))) where
  pub cuts_written : ((i k : ℕ) → i < rows + cut → k < n → get_or old (i * n + k) (int (pos 0)) ≡ activity_coefficient F i k) → (i k : ℕ) → i < rows + (cut + 1) → k < n → get_or list (i * n + k) (int (pos 0)) ≡ activity_coefficient F i k
  cuts_written before i k i_within k_within = ap (λ xs. get_or xs (i * n + k) (int (pos 0))) list_is ∙ ⊎_elim
      (λ same. subst (λ r. get_or next (r * n + k) (int (pos 0)) ≡ activity_coefficient F r k) (sym same) (here k k_within))
      (λ other. others i k (omega (arith, i_within, row_within)) k_within other ∙ before i k (let w : i < rows + cut = omega (arith, other, i_within) in w) k_within)
      (cases_eq i (rows + cut))

  pub cuts_zero : ((i k : ℕ) → rows + cut ≤ i → i < m → k < n → get_or old (i * n + k) (int (pos 0)) ≡ int (pos 0)) → (i k : ℕ) → rows + (cut + 1) ≤ i → i < m → k < n → get_or list (i * n + k) (int (pos 0)) ≡ int (pos 0)
  cuts_zero before i k more i_within k_within = ap (λ xs. get_or xs (i * n + k) (int (pos 0))) list_is
      ∙ others i k i_within k_within (λ e. omega (arith, e, more)) ∙ before i k (let w : rows + cut ≤ i = omega (arith, more) in w) i_within k_within

some_place : (m n at : ℕ) → at < m * n → 0 < n
some_place m n at within = by n refl
  where
    by : (k : ℕ) → n ≡ k → 0 < k
    by zero e = absurd (let none : m * n ≡ 0 = ap (λ j. m * j) e ∙ (let z : m * 0 ≡ 0 = omega arith in z) in omega (arith, none, within))
    by (suc k) e = omega arith

-- a list of rows, read by place
pub flat_read : (F : Formulation) (m n : ℕ) (list : List ℚ) → ((i k : ℕ) → i < m → k < n → get_or list (i * n + k) (int (pos 0)) ≡ activity_coefficient F i k) → (at : ℕ) → at < m * n → get_or list at (int (pos 0)) ≡ activity_coefficient F (at / n) (at % n)
flat_read F m n list items at within =
    let some = some_place m n at within in
    ap (λ k. get_or list k (int (pos 0))) (sym (div-add-mod' at n)) ∙ items (at / n) (at % n) (div_below at n m some within) (mod_below at n some)
