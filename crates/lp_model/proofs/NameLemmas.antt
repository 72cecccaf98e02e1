-- Names of the elements of a list.
use Rattle.std.specs.Prelude.{◌≡◌, ◌⊎◌, ℕ, zero, suc, ◌+◌, ◌<◌, true, false, List, [], ◌∷◌, length, get_or, map, Contains, bytes_eq}
use Rattle.std.proofs.Common.{sym, ap, ◌∙◌, arith, below_more, inl, inr}
use Rattle.std.proofs.lemmas.List.{get_or_default, length-map}
use Rattle.std.proofs.lemmas.Slice.Eq.{bytes_eq-Decides}

pub get_or-map : {A B : Type 0} (f : A → B) (xs : List A) (k : ℕ) (x : A) (d : B) → k < length xs → x ≡ get_or xs k x → get_or (map f xs) k d ≡ f x
get_or-map f [] k x d below e = absurd (omega arith)
get_or-map f (y ∷ ys) zero x d below e = ap f (sym e)
get_or-map f (y ∷ ys) (suc k) x d below e = let h : k < length ys = omega arith in get_or-map f ys k x d h e

module _ {A : Type 0} (f : A → List ℕ) (xs : List A) (name : List ℕ) where
  pub contains_at : (k : ℕ) (x : A) → k < length xs → x ≡ get_or xs k x → f x ≡ name → Contains (map f xs) name
  contains_at k x below is e = let h : k < length (map f xs) = rw (length-map xs f) below in (k, h, get_or-map f xs k x name below is ∙ e)

  -- none of the first n has the name
  abbrev pub NoneBefore : ℕ → Type 0
  NoneBefore n = (k : ℕ) → k < n → ¬ (get_or (map f xs) k [] ≡ name)

  pub none_before-more : (k : ℕ) (x : A) → k < length xs → x ≡ get_or xs k x → ¬ (f x ≡ name) → NoneBefore k → NoneBefore (k + 1)
  none_before-more k x below is apart before = below_more (λ j. ¬ (get_or (map f xs) j [] ≡ name)) k before (λ e. apart (sym (get_or-map f xs k x [] below is) ∙ e))

  pub not_contained : NoneBefore (length xs) → ¬ Contains (map f xs) name
  not_contained none (k, below, e) =
      let h : k < length xs = rw (← length-map xs f) below in
      none k h (get_or_default (map f xs) k [] name below ∙ e)

pub not_same : (a b : List ℕ) → bytes_eq a b ≡ false → ¬ (a ≡ b)
not_same a b e h = let t : bytes_eq a b ≡ true = (bytes_eq-Decides a b).1 h in cc

pub same : (a b : List ℕ) → bytes_eq a b ≡ true → a ≡ b
same a b e = (bytes_eq-Decides a b).0 e

pub contains_first : (x y : List ℕ) (xs : List (List ℕ)) → x ≡ y → Contains (x ∷ xs) y
contains_first x y xs e = (0, omega arith, e)

pub contains_later : (x y : List ℕ) (xs : List (List ℕ)) → Contains xs y → Contains (x ∷ xs) y
contains_later x y xs (k, below, e) = (suc k, omega arith, e)

pub contains_cases : (x y : List ℕ) (xs : List (List ℕ)) → Contains (x ∷ xs) y → (x ≡ y) ⊎ Contains xs y
contains_cases x y xs (zero, below, e) = inl e
contains_cases x y xs (suc k, below, e) = inr (k, omega arith, e)
