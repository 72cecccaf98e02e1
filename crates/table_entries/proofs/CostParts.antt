-- The laws of numbers with parts.
use Rattle.std.specs.Prelude.{◌≡◌, ℕ, ◌<◌, ◌≤◌, [], ◌∷◌, pos}
use Rattle.std.proofs.Common.{sym, ap, ap₂, subst, ◌∙◌, arith, ⊎_elim}
use Rattle.std.proofs.lemmas.Bool.{cases_lt}
use Rattle.frac128.specs.Rational.{ℚ, int, ◌+ℚ◌, ◌*ℚ◌, inverse, ◌≤ℚ◌, ◌<ℚ◌}
use Rattle.frac128.specs.RationalRing.{ring, reads_ℚ, zero-+ℚ}
use Rattle.frac128.specs.RationalOrder.{zero-<ℚ-*ℚ, zero-<ℚ-+ℚ, ≤ℚ_of_<ℚ, ≤ℚ_or_>ℚ, ≤ℚ_antisymm, <ℚ_irrefl}
use Rattle.frac128.proofs.Rounding.{*ℚ-inverse}
use Rattle.frac128.proofs.Division.{zero-<ℚ-inverse}
use Rattle.table_entries.specs.States.{IsPositive, IsLess, IsSame}

pub positive_same : (f g : ℕ → ℚ) → IsSame f g → IsPositive f → IsPositive g
positive_same f g e h = record { first = h.first; before = λ q w. sym (e q) ∙ h.before q w; above = subst (λ x. int (pos 0) <ℚ x) (e h.first) h.above }

pub positive_scaled : (m : ℚ) (f : ℕ → ℚ) → int (pos 0) <ℚ m → IsPositive f → IsPositive (λ q. m *ℚ f q)
positive_scaled m f more h = record { first = h.first; before = λ q w. ap (λ x. m *ℚ x) (h.before q w) ∙ ring (m ∷ []) (search reads_ℚ) tt; above = zero-<ℚ-*ℚ more h.above }

pub positive_added : (f g : ℕ → ℚ) → IsPositive f → IsPositive g → IsPositive (λ q. f q +ℚ g q)
positive_added f g h k = ⊎_elim here there (cases_lt h.first k.first)
  where
    sums : (q : ℕ) → q < h.first → q < k.first → f q +ℚ g q ≡ int (pos 0)
    sums q v w = ap₂ ◌+ℚ◌ (h.before q v) (k.before q w) ∙ zero-+ℚ (int (pos 0))

    here : h.first < k.first → IsPositive (λ q. f q +ℚ g q)
    here less = record {
      first = h.first;
      before = λ q w. sums q w (omega arith);
      above = subst (λ x. int (pos 0) <ℚ x) (ring (f h.first ∷ []) (search reads_ℚ) tt ∙ ap (λ x. f h.first +ℚ x) (sym (k.before h.first less))) h.above;
    }

    at_same : h.first ≡ k.first → IsPositive (λ q. f q +ℚ g q)
    at_same e = record {
      first = h.first;
      before = λ q w. sums q w (omega arith);
      above = zero-<ℚ-+ℚ h.above (≤ℚ_of_<ℚ (subst (λ q. int (pos 0) <ℚ g q) (sym e) k.above));
    }

    later : k.first < h.first → IsPositive (λ q. f q +ℚ g q)
    later less = record {
      first = k.first;
      before = λ q w. sums q (omega arith) w;
      above = subst (λ x. int (pos 0) <ℚ x) (sym (zero-+ℚ (g k.first)) ∙ ap (λ x. x +ℚ g k.first) (sym (h.before k.first less))) k.above;
    }

    there : k.first ≤ h.first → IsPositive (λ q. f q +ℚ g q)
    there no_less = ⊎_elim later (λ w. at_same (omega arith)) (cases_lt k.first h.first)

-- a positive number and another positive one times what is at least 0
pub positive_more : (m : ℚ) (f g : ℕ → ℚ) → int (pos 0) ≤ℚ m → IsPositive f → IsPositive g → IsPositive (λ q. f q +ℚ m *ℚ g q)
positive_more m f g no_less h k = ⊎_elim none some (≤ℚ_or_>ℚ m (int (pos 0)))
  where
    none : m ≤ℚ int (pos 0) → IsPositive (λ q. f q +ℚ m *ℚ g q)
    none w =
        let zero_m : int (pos 0) ≡ m = ≤ℚ_antisymm no_less w in
        positive_same f (λ q. f q +ℚ m *ℚ g q) (λ q. ring (f q ∷ g q ∷ []) {y = f q +ℚ int (pos 0) *ℚ g q} (search reads_ℚ) tt ∙ ap (λ x. f q +ℚ x *ℚ g q) zero_m) h

    some : int (pos 0) <ℚ m → IsPositive (λ q. f q +ℚ m *ℚ g q)
    some w = positive_added f (λ q. m *ℚ g q) h (positive_scaled m g w k)

pub not_zero : {a : ℚ} → int (pos 0) <ℚ a → ¬ (a ≡ int (pos 0))
not_zero h e = <ℚ_irrefl (subst (λ z. int (pos 0) <ℚ z) e h)

-- a factor above 0 taken away
pub positive_cancelled : (m : ℚ) (f : ℕ → ℚ) → int (pos 0) <ℚ m → IsPositive (λ q. m *ℚ f q) → IsPositive f
positive_cancelled m f more h =
    positive_same (λ q. inverse m *ℚ (m *ℚ f q)) f
    (λ q. ring (m ∷ inverse m ∷ f q ∷ []) {y = (m *ℚ inverse m) *ℚ f q} (search reads_ℚ depth 9) tt ∙ ap (λ x. x *ℚ f q) (*ℚ-inverse m (not_zero more)) ∙ ring (f q ∷ []) (search reads_ℚ) tt)
    (positive_scaled (inverse m) (λ q. m *ℚ f q) (zero-<ℚ-inverse more) h)

-- an order: nothing is below itself, and what is below another is below what that is below
pub not_less_self : (f : ℕ → ℚ) → ¬ (IsLess f f)
not_less_self f h = <ℚ_irrefl (subst (λ x. int (pos 0) <ℚ x) (ring (f h.first ∷ []) {y = int (pos 0)} (search reads_ℚ) tt) h.above)

pub less_trans : (f g h : ℕ → ℚ) → IsLess f g → IsLess g h → IsLess f h
less_trans f g h a b = positive_same _ _ (λ q. ring (f q ∷ g q ∷ h q ∷ []) (search reads_ℚ depth 9) tt) (positive_added _ _ a b)
