-- Tests of the variables in a list, one after the other.
use Rattle.std.specs.Prelude.{◌≡◌, ◌≢◌, ℕ, ◌+◌, ◌<◌, List, length, take, get_or, All, Contains}
use Rattle.std.proofs.Common.{sym, subst, ◌∙◌, arith}
use Rattle.std.proofs.lemmas.List.{length-take, get_or-take, get_or_default}
use Rattle.std.proofs.lemmas.List.Elements.{at_read}
use borrow.Author.Count.{below_more}

module _ {A : Type 0} (P : A → Type 0) (xs : List A) where
  -- P of the first n
  abbrev pub HoldsBefore : ℕ → Type 0
  HoldsBefore n = (k : ℕ) → k < n → (d : A) → P (get_or xs k d)

  module _ (n : ℕ) (x : A) (within : n < length xs) (is : x ≡ get_or xs n x) where
    pub before-more : HoldsBefore n → P x → HoldsBefore (n + 1)
    before-more h p = below_more (λ k. (d : A) → P (get_or xs k d)) n h (at_read xs P n x within is p)

    pub not_all : ¬ P x → ¬ All P xs
    not_all not all = not (subst P (sym is) (all n x within))

  -- one more element that is not among those before it
  pub once-more : (n : ℕ) (e : A) → n < length xs → ¬ Contains (take n xs) (get_or xs n e) → ((j : ℕ) → j < n → (i : ℕ) (d : A) → i < j → get_or xs i d ≢ get_or xs j d)
      → (j : ℕ) → j < n + 1 → (i : ℕ) (d : A) → i < j → get_or xs i d ≢ get_or xs j d
  once-more n e within not h =
      below_more (λ j. (i : ℕ) (d : A) → i < j → get_or xs i d ≢ get_or xs j d) n h
      (λ i d below same.
      let x = get_or xs n e in
      not (i, omega (arith, length-take n xs), get_or-take n xs i x below ∙ get_or_default xs i x d (omega arith) ∙ same ∙ get_or_default xs n d e within))

  pub before-all : (n : ℕ) → length xs ≡ n → HoldsBefore n → All P xs
  before-all n e h k d below = h k (omega arith) d
