-- Numbers by variable.
use Rattle.std.specs.Prelude.{◌≡◌, ◌↔◌, ℕ, ◌+◌, ◌-◌, ◌<◌, ◌≤◌, ◌==◌, ◌++◌, if◌then◌else◌, Bool, IsTrue, List, [], ◌∷◌, length, get_or}
use Rattle.std.proofs.Common.{refl, sym, ap, subst, ◌∙◌, arith, below_more}
use Rattle.std.proofs.lemmas.Bool.Decides.{Decides-eqb}
use Rattle.std.proofs.lemmas.Bool.{le-ltb}
use Rattle.std.proofs.lemmas.List.{get_or_push, get_or_append_left, length-append}
use Rattle.row_tableau.specs.Relaxations.{by_variable}

-- that of a row's activity
pub by_row : {A : Type 0} (n m : ℕ) (f g : ℕ → A) (v : ℕ) → m ≡ n → n ≤ v → g (v - m) ≡ by_variable n f g v
by_row n m f g v same past = ap (λ k. g (v - k)) same ∙ sym (ap (λ b. if b then f v else g (v - n)) (le-ltb v n past))

nil : {A : Type 0} (xs : List A) → length xs ≡ 0 → xs ≡ []
nil [] e = refl
nil (x ∷ xs) e = absurd (omega (arith, e))

pub empty_decided : {A : Type 0} (xs : List A) (r : Bool) → r ≡ (length xs == 0) → IsTrue r ↔ xs ≡ []
empty_decided xs r h = ((λ t. nil xs ((Decides-eqb (length xs) 0).0 (sym h ∙ t))), (λ e. h ∙ (Decides-eqb (length xs) 0).1 (ap length e)))

-- ---- a list of values that grows

module _ {A : Type 0} (f : ℕ → A) (none : A) (n : ℕ) (xs ys : List A) (y : A) (pushed : ys ≡ xs ++ y ∷ []) where
  pub size_more : length xs ≡ n → length ys ≡ n + 1
  size_more size = ap length pushed ∙ length-append xs (y ∷ []) ∙ ap (λ k. k + 1) size

  pub values_more : length xs ≡ n → ((u : ℕ) → u < n → get_or xs u none ≡ f u) → y ≡ f n → (u : ℕ) → u < n + 1 → get_or ys u none ≡ f u
  values_more size values is =
      subst (λ l. (u : ℕ) → u < n + 1 → get_or l u none ≡ f u) (sym pushed)
      (below_more (λ u. get_or (xs ++ y ∷ []) u none ≡ f u) n
      (λ u q. get_or_append_left xs (y ∷ []) none u (omega (arith, q, size)) ∙ values u q)
      (get_or_push xs y none n size ∙ is))
