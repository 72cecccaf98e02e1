-- The numbers beside the rows' names, taken from a column's own pairs, have the column's entries; and the numbers beside the objectives'
-- names are its costs.
use Rattle.std.proofs.Common.{◌≡◌, ◌≢◌, ℕ, zero, suc, ◌+◌, ◌<◌, ◌≤◌, Bool, true, false, ◌||◌, List, [], ◌∷◌, ◌++◌, map, refl, sym, ◌∙◌, ap, subst, pos, arith}
use Rattle.std.specs.Prelude.{if◌then◌else◌, ◌==◌, bytes_eq}
use Rattle.std.proofs.lemmas.Bool.{or_parts, true≢false, false_from_ne_true}
use Rattle.std.proofs.lemmas.Bool.Decides.{Decides-eqb}
use Rattle.std.proofs.lemmas.Slice.Eq.{bytes_eq-Decides}
use Rattle.frac128.specs.Rational.{ℚ, int}
use Rattle.lp_model.specs.Lawful.{AreEntries}
use Rattle.lp_model.specs.declared.types.RowId.{RowId}
use Rattle.lp_model.specs.Edits.{is_zero}
use Rattle.mps_sections.specs.Statements.{is_numbered}
use Rattle.mps_sections.specs.declared.statements.RowNumber.{RowNumber}
use Rattle.frac128.proofs.Comparison.{eq_by_cmp-decides}
use Rattle.mps_model.specs.Meaning.{row_number_beside, row_entries_from}
use Rattle.mps_writer.proofs.ColumnsBack.{beside}

-- ---- a number that is there, and one that is not

pub beside_absent : (found : List RowNumber) (name : List ℕ) → is_numbered found name ≡ false → row_number_beside name found ≡ int (pos 0)
beside_absent [] name e = refl
beside_absent (p ∷ found) name e =
    let parts = or_parts (bytes_eq p.row name) (is_numbered found name) e in
    ap (λ b. if b then p.number else row_number_beside name found) parts.0 ∙ beside_absent found name parts.1

pub beside_passed : (before found : List RowNumber) (name : List ℕ) → is_numbered before name ≡ false → row_number_beside name (before ++ found) ≡ row_number_beside name found
beside_passed [] found name e = refl
beside_passed (p ∷ before) found name e =
    let parts = or_parts (bytes_eq p.row name) (is_numbered before name) e in
    ap (λ b. if b then p.number else row_number_beside name (before ++ found)) parts.0 ∙ beside_passed before found name parts.1

pub beside_first : (found : List RowNumber) (name : List ℕ) (x : ℚ) → row_number_beside name (beside name x ∷ found) ≡ x
beside_first found name x = ap (λ b. if b then x else row_number_beside name found) ((bytes_eq-Decides name name).1 refl)

-- ---- entries

abbrev pub Entries : Type 0
Entries = List (RowId × ℚ)

abbrev pub at_names : (ℕ → List ℕ) → Entries → List RowNumber
at_names name_at es = map (λ (e : RowId × ℚ). beside (name_at e.0.0) e.1) es

-- the names of n rows from the k-th on
abbrev pub names_from : (ℕ → List ℕ) → ℕ → ℕ → List (List ℕ)
names_from name_at k zero = []
names_from name_at k (suc n) = name_at k ∷ names_from name_at (suc k) n

-- rows whose names differ
module _ (size : ℕ) (name_at : ℕ → List ℕ) (differ : (i j : ℕ) → i < size → j < size → name_at i ≡ name_at j → i ≡ j) where
  unnamed : (i k : ℕ) → i < size → k < size → i ≢ k → bytes_eq (name_at i) (name_at k) ≡ false
  unnamed i k a b apart = false_from_ne_true (bytes_eq (name_at i) (name_at k)) (λ s. apart (differ i k a b ((bytes_eq-Decides (name_at i) (name_at k)).0 s)))

  -- entries of later rows have no number beside an earlier one
  later_absent : (k from : ℕ) (es : Entries) → k < from → k < size → AreEntries from size es → is_numbered (at_names name_at es) (name_at k) ≡ false
  later_absent k from [] below within h = refl
  later_absent k from (e ∷ es) below within h =
      let first = h.0 in
      ap (λ b. b || is_numbered (at_names name_at es) (name_at k)) (unnamed e.0.0 k h.1 within (omega (arith, below, first)))
      ∙ later_absent k (suc e.0.0) es (omega (arith, below, first)) within h.3

  -- a number that is dropped from the front changes none of those behind
  without_first : (k n : ℕ) (x : ℚ) (i : ℕ) (found : List RowNumber) → i < k → k + n ≡ size → map (λ name. row_number_beside name (beside (name_at i) x ∷ found)) (names_from name_at k n) ≡ map (λ name. row_number_beside name found) (names_from name_at k n)
  without_first k zero x i found below whole = refl
  without_first k (suc n) x i found below whole =
      ap (λ y. y ∷ map (λ name. row_number_beside name (beside (name_at i) x ∷ found)) (names_from name_at (suc k) n))
      (ap (λ b. if b then x else row_number_beside (name_at k) found) (unnamed i k (omega (arith, below, whole)) (omega (arith, whole)) (omega (arith, below))))
      ∙ ap (λ ys. row_number_beside (name_at k) found ∷ ys) (without_first (suc k) n x i found (omega (arith, below)) (omega (arith, whole)))

  zero_number : is_zero (int (pos 0)) ≡ true
  zero_number = (eq_by_cmp-decides (int (pos 0)) (int (pos 0))).1 refl

  -- no entry at the k-th row
  skipped : (k n : ℕ) (es : Entries) → is_numbered (at_names name_at es) (name_at k) ≡ false → row_entries_from (suc k) (map (λ name. row_number_beside name (at_names name_at es)) (names_from name_at (suc k) n)) ≡ es
      → row_entries_from k (map (λ name. row_number_beside name (at_names name_at es)) (names_from name_at k (suc n))) ≡ es
  skipped k n es none rest =
      let others = map (λ name. row_number_beside name (at_names name_at es)) (names_from name_at (suc k) n) in
      ap (λ x. row_entries_from k (x ∷ others)) (beside_absent (at_names name_at es) (name_at k) none)
      ∙ ap (λ b. if b then row_entries_from (suc k) others else (record { 0 = k }, int (pos 0)) ∷ row_entries_from (suc k) others) zero_number ∙ rest

  -- the entry of the k-th row
  taken : (k n : ℕ) (x : ℚ) (es : Entries) → k + suc n ≡ size → x ≢ int (pos 0) → row_entries_from (suc k) (map (λ name. row_number_beside name (at_names name_at es)) (names_from name_at (suc k) n)) ≡ es
      → row_entries_from k (map (λ name. row_number_beside name (beside (name_at k) x ∷ at_names name_at es)) (names_from name_at k (suc n))) ≡ (record { 0 = k }, x) ∷ es
  taken k n x es whole some rest =
      let all = beside (name_at k) x ∷ at_names name_at es in
      let others = map (λ name. row_number_beside name all) (names_from name_at (suc k) n) in
      let nonzero : is_zero x ≡ false = false_from_ne_true (is_zero x) (λ z. some ((eq_by_cmp-decides x (int (pos 0))).0 z)) in
      ap (λ y. row_entries_from k (y ∷ others)) (beside_first (at_names name_at es) (name_at k) x)
      ∙ ap (λ b. if b then row_entries_from (suc k) others else (record { 0 = k }, x) ∷ row_entries_from (suc k) others) nonzero
      ∙ ap (λ (ys : List ℚ). (record { 0 = k }, x) ∷ row_entries_from (suc k) ys) (without_first (suc k) n x k (at_names name_at es) (omega arith) (omega (arith, whole)))
      ∙ ap (λ (ys : Entries). (record { 0 = k }, x) ∷ ys) rest

  pub entries_back : (k n : ℕ) (es : Entries) → k + n ≡ size → AreEntries k size es → row_entries_from k (map (λ name. row_number_beside name (at_names name_at es)) (names_from name_at k n)) ≡ es
  entries_back k zero [] whole h = refl
  entries_back k zero (e ∷ es) whole h = let low = h.0 in let high = h.1 in absurd (omega (arith, low, high, whole))
  entries_back k (suc n) [] whole h = skipped k n [] refl (entries_back (suc k) n [] (omega (arith, whole)) tt)
  entries_back k (suc n) (e ∷ es) whole h = by (k == e.0.0) refl (λ i. entries_back (suc k) n es (omega (arith, whole)) i) (λ i. entries_back (suc k) n (e ∷ es) (omega (arith, whole)) i)
    where
      by : (b : Bool) → (k == e.0.0) ≡ b
          → (AreEntries (suc k) size es → row_entries_from (suc k) (map (λ name. row_number_beside name (at_names name_at es)) (names_from name_at (suc k) n)) ≡ es)
          → (AreEntries (suc k) size (e ∷ es) → row_entries_from (suc k) (map (λ name. row_number_beside name (at_names name_at (e ∷ es))) (names_from name_at (suc k) n)) ≡ e ∷ es)
          → row_entries_from k (map (λ name. row_number_beside name (at_names name_at (e ∷ es))) (names_from name_at k (suc n))) ≡ e ∷ es
      by true q own later =
          let same : k ≡ e.0.0 = (Decides-eqb k e.0.0).0 q in
          let rest = own (subst (λ i. AreEntries (suc i) size es) (sym same) h.3) in
          subst (λ i. row_entries_from k (map (λ name. row_number_beside name (beside (name_at i) e.1 ∷ at_names name_at es)) (names_from name_at k (suc n))) ≡ (record { 0 = i }, e.1) ∷ es) same (taken k n e.1 es whole h.2 rest)
      by false q own later =
          let low = h.0 in
          let apart : k ≢ e.0.0 = λ s. true≢false (sym ((Decides-eqb k e.0.0).1 s) ∙ q) in
          let above : suc k ≤ e.0.0 = omega (arith, low, apart) in
          let moved : AreEntries (suc k) size (e ∷ es) = (above, h.1, h.2, h.3) in
          skipped k n (e ∷ es) (later_absent k (suc k) (e ∷ es) (omega arith) (omega (arith, whole)) moved) (later moved)
