-- The numbers beside the names of columns, by the columns' places.
use Rattle.std.specs.Prelude.{◌≡◌, ◌≢◌, ℕ, zero, suc, ◌<◌, Bool, true, false, List, [], ◌∷◌, ◌++◌, length, map, get_or, AllPairs, Contains, bytes_eq, pos}
use Rattle.std.proofs.Common.{refl, ◌∙◌, arith}
use Rattle.std.proofs.lemmas.List.{length-map}
use Rattle.std.proofs.lemmas.Slice.Eq.{bytes_eq-Decides}
use Rattle.frac128.specs.Rational.{ℚ, int}
use Rattle.lp_model.specs.Elements.{of_element}
use Rattle.lp_model.specs.Edits.{Named, number_beside}
use Rattle.lp_model.specs.declared.types.Col.{Col}
use Rattle.lp_model.proofs.NameLemmas.{contains_first, contains_later}

equal_test : (a b : List ℕ) → a ≡ b → bytes_eq a b ≡ true
equal_test a b e = (bytes_eq-Decides a b).1 e

pub apart_test : (a b : List ℕ) → ¬ (a ≡ b) → bytes_eq a b ≡ false
apart_test a b apart = by (bytes_eq a b) refl
  where
    by : (t : Bool) → bytes_eq a b ≡ t → t ≡ false
    by true e = absurd (apart ((bytes_eq-Decides a b).0 e))
    by false e = refl

of_element-get_or : {A B : Type 0} (d : B) (f : A → B) (xs : List A) (k : ℕ) → of_element d f xs k ≡ get_or (map f xs) k d
of_element-get_or d f [] k = refl
of_element-get_or d f (x ∷ xs) zero = refl
of_element-get_or d f (x ∷ xs) (suc k) = of_element-get_or d f xs k

-- what a function of names gives, at a place that is there
pub of_element-of_name : {A : Type 0} (d : A) (h : List ℕ → A) (cols : List Col) (j : ℕ) → j < length cols → of_element d (λ c. h c.name) cols j ≡ h (of_element [] (λ c. c.name) cols j)
of_element-of_name d h [] j below = absurd (omega arith)
of_element-of_name d h (c ∷ cols) zero below = refl
of_element-of_name d h (c ∷ cols) (suc j) below = let within : j < length cols = omega arith in of_element-of_name d h cols j within

abbrev pub pairs : (Col → ℚ) → List Col → Named
pairs f cols = map (λ c. (c.name, f c)) cols

pub number-pairs : (f : Col → ℚ) (cols : List Col) (more : Named) → AllPairs (λ a b. a ≢ b) (map (λ c. c.name) cols) → (j : ℕ) → j < length cols
    → number_beside (of_element [] (λ c. c.name) cols j) (pairs f cols ++ more) ≡ of_element (int (pos 0)) f cols j
number-pairs f [] more distinct j below = absurd (omega arith)
number-pairs f (c ∷ cols) more distinct zero below = rw (equal_test c.name c.name refl) refl
number-pairs f (c ∷ cols) more distinct (suc j) below =
    let within : j < length cols = omega arith in
    let long = length-map cols (λ (d : Col). d.name) in
    let apart : ¬ (c.name ≡ of_element [] (λ d. d.name) cols j) = λ e. distinct 0 (suc j) [] (omega arith) (omega arith) (e ∙ of_element-get_or [] (λ d. d.name) cols j) in
    rw (apart_test c.name (of_element [] (λ d. d.name) cols j) apart)
    (number-pairs f cols more (λ i k d h b. distinct (suc i) (suc k) d (omega arith) (omega arith)) j within)

-- the number of a name that no column has stands behind those of the columns
pub number-behind : (f : Col → ℚ) (cols : List Col) (name : List ℕ) (v : ℚ) → ¬ Contains (map (λ c. c.name) cols) name → number_beside name (pairs f cols ++ (name, v) ∷ []) ≡ v
number-behind f [] name v free = rw (equal_test name name refl) refl
number-behind f (c ∷ cols) name v free =
    rw (apart_test c.name name (λ e. free (contains_first c.name name (map (λ d. d.name) cols) e)))
    (number-behind f cols name v (λ there. free (contains_later c.name name (map (λ d. d.name) cols) there)))
