-- A set of names after a name is put in.
use Rattle.std.proofs.Common.{◌≡◌, Bool, true, false, ◌||◌, List, [], ◌∷◌, refl, sym, ◌∙◌, ap}
use Rattle.std.specs.List.{list_any}
use Rattle.std.specs.declared.cmp.Ordering.{Ordering}
use Rattle.std.specs.declared.cmp.Ordering.TheVariants.{Less, Equal, Greater}
use Rattle.std.specs.Ordering.{match_ordering}
use Rattle.std.specs.BTreeSet.{insert_key}

pub any_same : {K : Type 0} (p q : K → Bool) → ((k : K) → p k ≡ q k) → (ks : List K) → list_any p ks ≡ list_any q ks
any_same p q h [] = refl
any_same p q h (k ∷ ks) = ap (λ b. b || list_any p ks) (h k) ∙ ap (λ b. q k || b) (any_same p q h ks)

either_once : (a b : Bool) → (a || b) ≡ (a || (a || b))
either_once true b = refl
either_once false b = refl

swapped : (a b c : Bool) → (a || (b || c)) ≡ (b || (a || c))
swapped true true c = refl
swapped true false c = refl
swapped false true c = refl
swapped false false c = refl

pub insert_any : {K : Type 0} (cmp : K → K → Ordering) (p : K → Bool) → ((k x : K) → cmp k x ≡ Equal → p x ≡ p k) → (ks : List K) (k : K) → list_any p (insert_key cmp ks k) ≡ (p k || list_any p ks)
insert_any cmp p same [] k = refl
insert_any cmp p same (x ∷ xs) k = at (cmp k x) refl (insert_any cmp p same xs k)
  where
    at : (o : Ordering) → cmp k x ≡ o → list_any p (insert_key cmp xs k) ≡ (p k || list_any p xs) → list_any p (match_ordering o (k ∷ x ∷ xs) (x ∷ xs) (x ∷ insert_key cmp xs k)) ≡ (p k || (p x || list_any p xs))
    at Less e rest = refl
    at Equal e rest = ap (λ b. b || list_any p xs) (same k x e) ∙ either_once (p k) (list_any p xs) ∙ ap (λ b. p k || (b || list_any p xs)) (sym (same k x e))
    at Greater e rest = ap (λ b. p x || b) rest ∙ swapped (p x) (p k) (list_any p xs)
