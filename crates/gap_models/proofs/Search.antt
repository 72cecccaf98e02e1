-- The search for a free name: one more underscore while the name is taken.
use Rattle.std.specs.Prelude.{◌≡◌, ℕ, zero, suc, Bool, true, false, if◌then◌else◌, List, [], ◌∷◌, ◌++◌, Contains, bytes_eq}
use Rattle.std.specs.List.{list_any}
use Rattle.std.proofs.Common.{refl, subst}
use Rattle.std.proofs.lemmas.Slice.Eq.{bytes_eq-Decides}
use Rattle.lp_model.proofs.NameLemmas.{contains_first, contains_later}
use Rattle.inner_models.specs.Names.{free_within, free_name}
use Rattle.inner_models.proofs.FreeNames.{test_true, free}

-- what the test finds stands among the names
test_contains : (names : List (List ℕ)) (name : List ℕ) → list_any (λ other. bytes_eq other name) names ≡ true → Contains names name
test_contains [] name e = let f : false ≡ true = e in absurd cc
test_contains (n ∷ names) name e = by (bytes_eq n name) refl e (test_contains names name)
  where
    by : (b : Bool) → bytes_eq n name ≡ b → list_any (λ other. bytes_eq other name) (n ∷ names) ≡ true → (list_any (λ other. bytes_eq other name) names ≡ true → Contains names name) → Contains (n ∷ names) name
    by true t e rest = contains_first n name names ((bytes_eq-Decides n name).0 t)
    by false t e rest = contains_later n name names (rest (rw t at e))

-- one more underscore, where the name is taken
pub one_more : (names : List (List ℕ)) (base name : List ℕ) (m : ℕ) → free_within m names name ≡ free_name names base → Contains names name → (k : ℕ) × (free_within k names (name ++ 95 ∷ []) ≡ free_name names base)
one_more names base name zero e there = absurd (free names base (subst (Contains names) e there))
one_more names base name (suc m) e there = let t : list_any (λ other. bytes_eq other name) names ≡ true = test_true names name there in (m, rw t at e)

-- the name is found, where it is free
pub found : (names : List (List ℕ)) (base name : List ℕ) (m : ℕ) → free_within m names name ≡ free_name names base → ¬ Contains names name → name ≡ free_name names base
found names base name zero e apart = e
found names base name (suc m) e apart = by (list_any (λ other. bytes_eq other name) names) refl e
  where
    by : (b : Bool) → list_any (λ other. bytes_eq other name) names ≡ b → (if b then free_within m names (name ++ 95 ∷ []) else name) ≡ free_name names base → name ≡ free_name names base
    by true t e = absurd (apart (test_contains names name t))
    by false t e = e
