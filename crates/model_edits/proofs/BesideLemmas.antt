-- Numbers beside the names of a list, one name further.
use Rattle.std.specs.Prelude.{◌≡◌, ℕ, suc, ◌+◌, ◌<◌, true, false, not, List, [], ◌∷◌, ◌++◌, length, get_or, map, take, filter}
use Rattle.std.proofs.Common.{refl, sym, ap, ◌∙◌, arith}
use Rattle.std.proofs.lemmas.List.{take_more, length-map, length-take-le, append-nil}
use Rattle.std.proofs.lemmas.List.Elements.{filter-append}
use Rattle.frac128.specs.Rational.{ℚ}
use Rattle.lp_model.specs.Edits.{Named, number_beside, numbers_beside, entries_beside, is_zero}
use Rattle.lp_model.proofs.NameLemmas.{get_or-map}

pub numbers_beside-append : (k : ℕ) (xs ys : List (List ℕ)) (named : Named) → numbers_beside k (xs ++ ys) named ≡ numbers_beside k xs named ++ numbers_beside (k + length xs) ys named
numbers_beside-append k [] ys named = let e : k ≡ k + 0 = omega arith in ap (λ n. numbers_beside n ys named) e
numbers_beside-append k (x ∷ xs) ys named =
    let e : suc k + length xs ≡ k + suc (length xs) = omega arith in
    ap (λ l. (record { 0 = k }, number_beside x named) ∷ l) (numbers_beside-append (suc k) xs ys named ∙ ap (λ n. numbers_beside (suc k) xs named ++ numbers_beside n ys named) e)

module _ {A : Type 0} (f : A → List ℕ) (items : List A) (named : Named) (i : ℕ) (x : A) (within : i < length items) (is : x ≡ get_or items i x) (number : ℚ) (number_is : number ≡ number_beside (f x) named) where
  numbers_more : numbers_beside 0 (take (i + 1) (map f items)) named ≡ numbers_beside 0 (take i (map f items)) named ++ (record { 0 = i }, number) ∷ []
  numbers_more =
      let inside : i < length (map f items) = rw (length-map items f) within in
      let taken : length (take i (map f items)) ≡ i = length-take-le i (map f items) (omega (arith, inside)) in
      let long : 0 + length (take i (map f items)) ≡ i = omega (arith, taken) in
      ap (λ ns. numbers_beside 0 ns named) (take_more (map f items) i [] inside)
      ∙ numbers_beside-append 0 (take i (map f items)) (get_or (map f items) i [] ∷ []) named
      ∙ ap (λ n. numbers_beside 0 (take i (map f items)) named ++ (record { 0 = n }, number_beside (get_or (map f items) i []) named) ∷ []) long
      ∙ ap (λ q. numbers_beside 0 (take i (map f items)) named ++ (record { 0 = i }, q) ∷ []) (ap (λ n. number_beside n named) (get_or-map f items i x [] within is) ∙ sym number_is)

  entries_more : entries_beside 0 (take (i + 1) (map f items)) named ≡ entries_beside 0 (take i (map f items)) named ++ filter (λ e. not (is_zero e.1)) ((record { 0 = i }, number) ∷ [])
  entries_more = ap (filter (λ e. not (is_zero e.1))) numbers_more ∙ filter-append (λ e. not (is_zero e.1)) (numbers_beside 0 (take i (map f items)) named) ((record { 0 = i }, number) ∷ [])

  pub zero_more : is_zero number ≡ true → entries_beside 0 (take (i + 1) (map f items)) named ≡ entries_beside 0 (take i (map f items)) named
  zero_more e =
      let none : filter (λ d. not (is_zero d.1)) ((record { 0 = i }, number) ∷ []) ≡ [] = rw e refl in
      entries_more ∙ ap (λ l. entries_beside 0 (take i (map f items)) named ++ l) none ∙ append-nil (entries_beside 0 (take i (map f items)) named)

  pub entry_more : is_zero number ≡ false → entries_beside 0 (take (i + 1) (map f items)) named ≡ entries_beside 0 (take i (map f items)) named ++ (record { 0 = i }, number) ∷ []
  entry_more e =
      let one : filter (λ d. not (is_zero d.1)) ((record { 0 = i }, number) ∷ []) ≡ (record { 0 = i }, number) ∷ [] = rw e refl in
      entries_more ∙ ap (λ l. entries_beside 0 (take i (map f items)) named ++ l) one

pub length-numbers_beside : (k : ℕ) (names : List (List ℕ)) (named : Named) → length (numbers_beside k names named) ≡ length names
length-numbers_beside k [] named = refl
length-numbers_beside k (name ∷ names) named = ap suc (length-numbers_beside (suc k) names named)
