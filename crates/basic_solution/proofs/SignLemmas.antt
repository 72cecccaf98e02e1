-- Which side a number with parts asks for.
use Rattle.std.specs.Prelude.{◌≡◌, ℕ, zero, suc, ◌+◌, ◌<◌, [], ◌∷◌, pos, Option, Some, None, IsSome}
use Rattle.std.proofs.Common.{refl, sym, ap, subst, ◌∙◌, arith, below_more}
use Rattle.std.proofs.lemmas.Bool.{false≢true}
use Rattle.frac128.specs.Rational.{ℚ, int, neg_ℚ, ◌<ℚ◌}
use Rattle.frac128.specs.RationalRing.{ring, reads_ℚ}
use Rattle.frac128.specs.RationalOrder.{≤ℚ_from_not, ≤ℚ_antisymm, linear_strict}
use Rattle.table_entries.specs.declared.stand.Stand.{Stand}
use Rattle.table_entries.specs.declared.stand.Stand.TheVariants.{Low, High, Free}
use Rattle.table_entries.specs.Relaxation.{Relaxation}
use Rattle.table_entries.specs.States.{IsPositive, LawfulAt, Standing}
use Rattle.table_entries.specs.Directions.{stand_number}
use Rattle.basic_solution.specs.Slack.{CanStand}

-- ---- the first part that is not 0

abbrev pub NoneBelow : ℕ → (ℕ → ℚ) → Type 0
NoneBelow n f = (q : ℕ) → q < n → f q ≡ int (pos 0)

turned_above : (a : ℚ) → a <ℚ int (pos 0) → int (pos 0) <ℚ neg_ℚ a
turned_above a h = linear_strict (a ∷ []) h (search reads_ℚ depth 9) tt

turned_none : (a : ℚ) → a ≡ int (pos 0) → neg_ℚ a ≡ int (pos 0)
turned_none a e = ap neg_ℚ e ∙ ring [] (search reads_ℚ) tt

pub above_here : (n : ℕ) (f : ℕ → ℚ) (a : ℚ) → NoneBelow n f → a ≡ f n → int (pos 0) <ℚ a → LawfulAt Low f
above_here n f a none is h = record { first = n; before = none; above = subst (λ x. int (pos 0) <ℚ x) is h }

pub below_here : (n : ℕ) (f : ℕ → ℚ) (a : ℚ) → NoneBelow n f → a ≡ f n → a <ℚ int (pos 0) → LawfulAt High f
below_here n f a none is h = record { first = n; before = λ q w. turned_none (f q) (none q w); above = turned_above (f n) (subst (λ x. x <ℚ int (pos 0)) is h) }

pub is_none_here : (a : ℚ) → ¬ (int (pos 0) <ℚ a) → ¬ (a <ℚ int (pos 0)) → a ≡ int (pos 0)
is_none_here a not_above not_below = ≤ℚ_antisymm (≤ℚ_from_not a (int (pos 0)) not_above) (≤ℚ_from_not (int (pos 0)) a not_below)

pub none_more : (n : ℕ) (f : ℕ → ℚ) (a : ℚ) → NoneBelow n f → a ≡ f n → ¬ (int (pos 0) <ℚ a) → ¬ (a <ℚ int (pos 0)) → NoneBelow (n + 1) f
none_more n f a none is not_above not_below = below_more (λ q. f q ≡ int (pos 0)) n none (sym is ∙ is_none_here a not_above not_below)

-- where the first part is 0 the others decide
later : (f : ℕ → ℚ) → f 0 ≡ int (pos 0) → IsPositive (λ q. f (suc q)) → IsPositive f
later f none h = record { first = suc h.first; before = before; above = h.above }
  where
    before : (q : ℕ) → q < suc h.first → f q ≡ int (pos 0)
    before zero w = none
    before (suc q) w = h.before q (omega (arith, w))

pub asked_later : (f : ℕ → ℚ) (stand : Stand) → f 0 ≡ int (pos 0) → LawfulAt stand (λ q. f (suc q)) → LawfulAt stand f
asked_later f Low none h = later f none h
asked_later f High none h = later (λ q. neg_ℚ (f q)) (turned_none (f 0) none) h
asked_later f Free none h = all
  where
    all : (q : ℕ) → f q ≡ int (pos 0)
    all zero = none
    all (suc q) = h q

-- ---- standing at a side

stands_go : (p : Relaxation) (v : ℕ) (stand : Stand) (lo hi : Option ℚ) → p.low v ≡ lo → p.high v ≡ hi → CanStand stand lo hi → Standing p v stand (stand_number stand lo hi)
stands_go p v Low (Some x) hi e f h = e
stands_go p v Low None hi e f h = absurd (false≢true h)
stands_go p v High lo (Some x) e f h = f
stands_go p v High lo None e f h = absurd (false≢true h)
stands_go p v Free lo hi e f h = (e ∙ h.0, f ∙ h.1, refl)

pub stands_of : (p : Relaxation) (v : ℕ) (stand : Stand) → CanStand stand (p.low v) (p.high v) → Standing p v stand (stand_number stand (p.low v) (p.high v))
stands_of p v stand h = stands_go p v stand (p.low v) (p.high v) refl refl h

pub can_of : (p : Relaxation) (v : ℕ) (stand : Stand) (x : ℚ) → Standing p v stand x → CanStand stand (p.low v) (p.high v)
can_of p v Low x h = subst (λ o. IsSome o) (sym h) refl
can_of p v High x h = subst (λ o. IsSome o) (sym h) refl
can_of p v Free x h = (h.0, h.1)
