-- The numbers beside names, taken from the last one on, and the entries of those that are not 0.
use Rattle.std.proofs.Common.{◌≡◌, ℕ, zero, suc, ◌+◌, ◌<◌, Bool, true, false, List, [], ◌∷◌, ◌++◌, map, length, get_or, refl, sym, ◌∙◌, ap, subst, arith, pos}
use Rattle.std.specs.Prelude.{if◌then◌else◌, bytes_eq, Some}
use Rattle.std.proofs.Math.ListN.{set}
use Rattle.std.proofs.lemmas.List.{length-map, get_or_default, map-append}
use Rattle.std.proofs.lemmas.Slice.Eq.{bytes_eq-Decides}
use Rattle.frac128.specs.Rational.{ℚ, int}
use Rattle.lp_model.specs.declared.types.RowId.{RowId}
use Rattle.mps_fields.specs.Words.{among}
use Rattle.lp_model.specs.Edits.{is_zero, entry_at}
use Rattle.mps_sections.specs.Statements.{stated_row_names}
use Rattle.mps_sections.specs.Limits.{AreNamesApart}
use Rattle.mps_sections.specs.declared.statements.RowLine.{RowLine}
use Rattle.mps_sections.specs.declared.statements.RowNumber.{RowNumber}
use Rattle.mps_sections.proofs.ListFacts.{bytes_eq-flips}
use Rattle.mps_model.specs.Meaning.{row_number_beside, row_numbers_beside, row_entries_from}
use Rattle.mps_model.specs.private.Places.{IsFoundAt}
use Rattle.mps_model.proofs.NamedItems.{unnamed, named}

pub names_as_they_are : (names : List (List ℕ)) → map (λ (name : List ℕ). name) names ≡ names
names_as_they_are [] = refl
names_as_they_are (name ∷ names) = ap (λ more. name ∷ more) (names_as_they_are names)

module _ (p : RowNumber) (behind : List RowNumber) where
  here : (name : List ℕ) → name ≡ p.row → row_number_beside name (p ∷ behind) ≡ p.number
  here name e = ap (λ b. if b then p.number else row_number_beside name behind) ((bytes_eq-Decides p.row name).1 (sym e))

  other : (name : List ℕ) → bytes_eq name p.row ≡ false → row_number_beside name (p ∷ behind) ≡ row_number_beside name behind
  other name e = ap (λ b. if b then p.number else row_number_beside name behind) (bytes_eq-flips p.row name ∙ e)

  -- the number is put where its name stands
  pub number_set : (names : List (List ℕ)) (k : ℕ) (numbers : List ℚ) → AreNamesApart names → IsFoundAt names p.row (Some k) → numbers ≡ row_numbers_beside names behind → set numbers k p.number ≡ row_numbers_beside names (p ∷ behind)
  number_set names k numbers apart found e =
      let old = row_numbers_beside names behind in
      let x = get_or old k (int (pos 0)) in
      let within : k < length old = let w = found.0 in omega (arith, length-map names (λ name. row_number_beside name behind)) in
      ap (λ ns. set ns k p.number) e
      ∙ named (λ name. name) (λ name. row_number_beside name behind) (λ name. row_number_beside name (p ∷ behind)) (λ y. p.number) p.row here other names k x p.number
      (subst AreNamesApart (sym (names_as_they_are names)) apart) found.0 (ap (λ ns. get_or ns k []) (names_as_they_are names) ∙ found.1) (get_or_default old k (int (pos 0)) x within) refl

  -- no name is its own
  pub number_unset : (names : List (List ℕ)) (numbers : List ℚ) → among names p.row ≡ false → numbers ≡ row_numbers_beside names behind → numbers ≡ row_numbers_beside names (p ∷ behind)
  number_unset names numbers none e =
      e ∙ unnamed (λ name. name) (λ name. row_number_beside name behind) (λ name. row_number_beside name (p ∷ behind)) (λ y. p.number) p.row here other names (ap (λ ns. among ns p.row) (names_as_they_are names) ∙ none)

pub zeros_beside : (names : List (List ℕ)) → map (λ (name : List ℕ). int (pos 0)) names ≡ row_numbers_beside names []
zeros_beside [] = refl
zeros_beside (name ∷ names) = ap (λ more. int (pos 0) ∷ more) (zeros_beside names)

-- ---- entries

abbrev entry : ℕ → ℚ → RowId × ℚ
entry k x = (record { 0 = k }, x)

one_entry : (k n : ℕ) (x : ℚ) (b : Bool) → k ≡ n → (if b then [] else entry k x ∷ []) ≡ (if b then [] else entry n x ∷ [])
one_entry k n x true e = refl
one_entry k n x false e = ap (λ i. entry i x ∷ []) e

-- one more number
pub entries_step : (k n : ℕ) (xs : List ℚ) (x : ℚ) → k + length xs ≡ n → row_entries_from k (xs ++ x ∷ []) ≡ row_entries_from k xs ++ entry_at n x
entries_step k n [] x e = one_entry k n x (is_zero x) (omega (arith, e))
entries_step k n (y ∷ xs) x e = by (is_zero y) (entries_step (suc k) n xs x (omega (arith, e)))
  where
    by : (b : Bool) → row_entries_from (suc k) (xs ++ x ∷ []) ≡ row_entries_from (suc k) xs ++ entry_at n x
        → (if b then row_entries_from (suc k) (xs ++ x ∷ []) else entry k y ∷ row_entries_from (suc k) (xs ++ x ∷ [])) ≡ (if b then row_entries_from (suc k) xs else entry k y ∷ row_entries_from (suc k) xs) ++ entry_at n x
    by true rest = rest
    by false rest = ap (λ es. entry k y ∷ es) rest

-- ---- lists that are made item by item

pub mapped_more : {A B : Type 0} (f : A → B) (xs : List A) (x : A) (more : List A) → more ≡ xs ++ x ∷ [] → map f xs ++ f x ∷ [] ≡ map f more
mapped_more f xs x more e = sym (map-append f xs (x ∷ [])) ∙ ap (map f) (sym e)

at_place : {A B : Type 0} (f : A → B) (xs : List A) (k : ℕ) (a : A) (b : B) → k < length xs → a ≡ get_or xs k a → get_or (map f xs) k b ≡ f a
at_place f [] k a b below is = absurd (omega arith)
at_place f (x ∷ xs) zero a b below is = ap f (sym is)
at_place f (x ∷ xs) (suc k) a b below is = let w : k < length xs = omega (arith, below) in at_place f xs k a b w is

pub mapped_at : {A B : Type 0} (f : A → B) (xs : List A) (ys : List B) (k : ℕ) (a : A) (b : B) → k < length xs → ys ≡ map f xs → a ≡ get_or xs k a → b ≡ get_or ys k b → b ≡ f a
mapped_at f xs ys k a b below e is there = there ∙ ap (λ all. get_or all k b) e ∙ at_place f xs k a b below is

as_mapped : (sided : List RowLine) (sides : List RowNumber) → row_numbers_beside (stated_row_names sided) sides ≡ map (λ (r : RowLine). row_number_beside r.name sides) sided
as_mapped [] sides = refl
as_mapped (r ∷ sided) sides = ap (λ more. row_number_beside r.name sides ∷ more) (as_mapped sided sides)

-- the number beside a row, by its place
pub beside_row : (sided : List RowLine) (sides : List RowNumber) (numbers : List ℚ) (k : ℕ) (x : ℚ) (r : RowLine) → k < length sided → numbers ≡ row_numbers_beside (stated_row_names sided) sides → x ≡ get_or numbers k x → r ≡ get_or sided k r → x ≡ row_number_beside r.name sides
beside_row sided sides numbers k x r below e there is = mapped_at (λ (q : RowLine). row_number_beside q.name sides) sided numbers k r x below (e ∙ as_mapped sided sides) is there
