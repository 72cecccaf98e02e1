-- A number with parts asks for one side, and the same parts ask for the same.
use Rattle.std.specs.Prelude.{◌≡◌, ℕ, [], ◌∷◌, pos}
use Rattle.std.proofs.Common.{refl, sym, ap, ◌∙◌}
use Rattle.frac128.specs.Rational.{ℚ, int, neg_ℚ}
use Rattle.frac128.specs.RationalRing.{ring, reads_ℚ}
use Rattle.table_entries.specs.declared.stand.Stand.{Stand}
use Rattle.table_entries.specs.declared.stand.Stand.TheVariants.{Low, High, Free}
use Rattle.table_entries.specs.States.{IsPositive, LawfulAt}
use Rattle.table_entries.proofs.CostParts.{positive_same, positive_added, not_zero}

turned_none : (a : ℚ) → a ≡ int (pos 0) → neg_ℚ a ≡ int (pos 0)
turned_none a e = ap neg_ℚ e ∙ ring [] (search reads_ℚ) tt

not_both : (f : ℕ → ℚ) → IsPositive f → IsPositive (λ q. neg_ℚ (f q)) → ⊥
not_both f h g = let both = positive_added f (λ q. neg_ℚ (f q)) h g in not_zero both.above (ring (f both.first ∷ []) (search reads_ℚ depth 9) tt)

not_none : (f : ℕ → ℚ) → IsPositive f → ((q : ℕ) → f q ≡ int (pos 0)) → ⊥
not_none f h none = not_zero h.above (none h.first)

pub asked_once : (f : ℕ → ℚ) (a b : Stand) → LawfulAt a f → LawfulAt b f → a ≡ b
asked_once f Low Low h g = refl
asked_once f Low High h g = absurd (not_both f h g)
asked_once f Low Free h g = absurd (not_none f h g)
asked_once f High Low h g = absurd (not_both f g h)
asked_once f High High h g = refl
asked_once f High Free h g = absurd (not_none (λ q. neg_ℚ (f q)) h (λ q. turned_none (f q) (g q)))
asked_once f Free Low h g = absurd (not_none f g h)
asked_once f Free High h g = absurd (not_none (λ q. neg_ℚ (f q)) g (λ q. turned_none (f q) (h q)))
asked_once f Free Free h g = refl

negated_same : (f g : ℕ → ℚ) → ((q : ℕ) → f q ≡ g q) → (q : ℕ) → neg_ℚ (f q) ≡ neg_ℚ (g q)
negated_same f g same q = ap neg_ℚ (same q)

pub asked_same : (f g : ℕ → ℚ) (stand : Stand) → ((q : ℕ) → f q ≡ g q) → LawfulAt stand f → LawfulAt stand g
asked_same f g Low same h = positive_same f g same h
asked_same f g High same h = positive_same (λ q. neg_ℚ (f q)) (λ q. neg_ℚ (g q)) (negated_same f g same) h
asked_same f g Free same h = λ q. sym (same q) ∙ h q
