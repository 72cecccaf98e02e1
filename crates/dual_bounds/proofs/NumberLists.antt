-- Lists of leaf numbers: what decides, what is least, and against which value each closes.
use Rattle.std.specs.Prelude.{◌≡◌, ℕ, ◌+◌, suc, ◌<◌, Bool, true, false, if◌then◌else◌, List, [], ◌∷◌, length, get_or, drop, Option, Some, None, unwrap_or, ◌≤ℤ◌}
use Rattle.std.specs.Option.{option_or}
use Rattle.std.proofs.Common.{refl, sym, ap, subst, ◌∙◌, arith, inl, inr}
use Rattle.std.proofs.Math.Seq.{drop-cons}
use Rattle.std.proofs.lemmas.Int.{ints}
use Rattle.frac128.specs.Rational.{ℚ, int, ceil, ◌≤ℚ◌, rational_le, min_ℚ}
use Rattle.frac128.specs.RationalOrder.{≤ℚ_refl, ≤ℚ_trans, ≤ℚ_antisymm}
use Rattle.frac128.proofs.Division.{min-≤ℚ, ≤ℚ-min}
use Rattle.frac128.proofs.Rounding.{≤ℚ-int}
use Rattle.frac128.proofs.Integers.{int-≤ℚ-int, IsWhole-int}
use Rattle.lp_model.specs.Program.{Program, HasWholeObjective}
use Rattle.leaf_dual.specs.declared.dual.LagValue.TheVariants.{Minus, Num}
use Rattle.leaf_judging.specs.declared.closing.LeafNumber.{LeafNumber}
use Rattle.leaf_judging.specs.declared.closing.LeafNumber.TheVariants.{Empty, Lag, Wide as WideNumber}
use Rattle.leaf_judging.specs.Closing.{NumberCloses}
use Rattle.leaf_judging.specs.Choosing.{finite_number}
use Rattle.search_parts.specs.Points.{lesser}
use Rattle.search_parts.proofs.PointLemmas.{IsBelow}
use Rattle.dual_bounds.specs.declared.answers.LowerBound.{LowerBound}
use Rattle.dual_bounds.specs.declared.answers.LowerBound.TheVariants.{Value, NoValue, Infeasible, Wide}
use Rattle.dual_bounds.specs.TreeBounds.{decided_by, deciding_bound, least_of_two, least_of_numbers, value_or_infeasible, bound_of_numbers, IsRoundedBound}

-- ---- from place to place

module _ (numbers : List LeafNumber) (i : ℕ) (n : LeafNumber) (below : i < length numbers) (is : n ≡ get_or numbers i n) where
  next : suc i ≡ i + 1
  next = omega arith

  here : drop i numbers ≡ n ∷ drop (i + 1) numbers
  here = drop-cons numbers i n below ∙ (λ t. sym is t ∷ drop (next t) numbers)

  -- the leaf at place i decides, or those after it do
  pub decided-next : (d : Option LowerBound) → d ≡ decided_by (i + 1) n → deciding_bound i (drop i numbers) ≡ option_or d (deciding_bound (i + 1) (drop (i + 1) numbers))
  decided-next d e = ap (deciding_bound i) here ∙ ap (λ o. option_or o (deciding_bound (i + 1) (drop (i + 1) numbers))) (sym e)

  pub least-here : least_of_numbers (drop i numbers) ≡ least_of_two (finite_number n) (least_of_numbers (drop (i + 1) numbers))
  least-here = ap least_of_numbers here

-- ---- the lesser of two

pub least-none : (o : Option ℚ) → least_of_two o None ≡ o
least-none None = refl
least-none (Some q) = refl

min-assoc : (p q r : ℚ) → min_ℚ (min_ℚ p q) r ≡ min_ℚ p (min_ℚ q r)
min-assoc p q r =
    let left = min-≤ℚ (min_ℚ p q) r in
    let first = min-≤ℚ p q in
    let right = min-≤ℚ p (min_ℚ q r) in
    let second = min-≤ℚ q r in
    ≤ℚ_antisymm
    (≤ℚ-min (min_ℚ (min_ℚ p q) r) p (min_ℚ q r) (≤ℚ_trans left.0 first.0) (≤ℚ-min (min_ℚ (min_ℚ p q) r) q r (≤ℚ_trans left.0 first.1) left.1))
    (≤ℚ-min (min_ℚ p (min_ℚ q r)) (min_ℚ p q) r (≤ℚ-min (min_ℚ p (min_ℚ q r)) p q right.0 (≤ℚ_trans right.1 second.0)) (≤ℚ_trans right.1 second.1))

pub least-assoc : (a b c : Option ℚ) → least_of_two (least_of_two a b) c ≡ least_of_two a (least_of_two b c)
least-assoc None b c = refl
least-assoc (Some p) None c = refl
least-assoc (Some p) (Some q) None = refl
least-assoc (Some p) (Some q) (Some r) = ap Some (min-assoc p q r)

lesser-below : (v : ℚ) (w : Option ℚ) → lesser v w ≤ℚ v
lesser-below v None = ≤ℚ_refl v
lesser-below v (Some w) = (min-≤ℚ v w).0

below-rest : (b v : ℚ) (w : Option ℚ) → b ≤ℚ lesser v w → IsBelow b w
below-rest b v None h = tt
below-rest b v (Some w) h = ≤ℚ_trans h (min-≤ℚ v w).1

-- the lesser is one of both
pick : (P : ℚ → Type 0) (b : Bool) (x y : ℚ) → P x → P y → P (if b then x else y)
pick P true x y p q = p
pick P false x y p q = q

-- ---- ceilings

pub below-ceil : (q : ℚ) → q ≤ℚ int (ceil q)
below-ceil q = let self : ceil q ≤ℤ ceil q = omega (arith, ints) in (≤ℚ-int q (ceil q)).1 self

ceil-rises : (q p : ℚ) → q ≤ℚ p → int (ceil q) ≤ℚ int (ceil p)
ceil-rises q p h = (int-≤ℚ-int (ceil q) (ceil p)).1 ((≤ℚ-int q (ceil p)).0 (≤ℚ_trans h (below-ceil p)))

-- ---- each number closes against t

module _ (M : Program) (t : Option ℚ) where
  abbrev pub AllClose : List LeafNumber → Type 0
  AllClose [] = Unit {0}
  AllClose (n ∷ numbers) = NumberCloses M t n × AllClose numbers

-- where none decides and none has a number, each is set aside
none-close : (M : Program) (k : ℕ) (numbers : List LeafNumber) → deciding_bound k numbers ≡ None → least_of_numbers numbers ≡ None → AllClose M None numbers
none-close M k [] undecided none = tt
none-close M k (Empty ∷ numbers) undecided none = (tt, none-close M (k + 1) numbers undecided none)
none-close M k (Lag Minus ∷ numbers) undecided none = absurd cc
none-close M k (Lag (Num p) ∷ numbers) undecided none = absurd cc
none-close M k (WideNumber step ∷ numbers) undecided none = absurd cc

-- where none decides, each closes against a value that no number from the least one on fails to reach
least-close : (M : Program) (q r : ℚ) → ((p : ℚ) → q ≤ℚ p → NumberCloses M (Some r) (Lag (Num p))) → (k : ℕ) (numbers : List LeafNumber) → deciding_bound k numbers ≡ None → IsBelow q (least_of_numbers numbers) → AllClose M (Some r) numbers
least-close M q r reach k [] undecided below = tt
least-close M q r reach k (Empty ∷ numbers) undecided below = (tt, least-close M q r reach (k + 1) numbers undecided below)
least-close M q r reach k (Lag Minus ∷ numbers) undecided below = absurd cc
least-close M q r reach k (Lag (Num p) ∷ numbers) undecided below = (
  reach p (≤ℚ_trans below (lesser-below p (least_of_numbers numbers))),
  least-close M q r reach (k + 1) numbers undecided (below-rest q p (least_of_numbers numbers) below),
)
least-close M q r reach k (WideNumber step ∷ numbers) undecided below = absurd cc

-- what decides says nothing
abbrev SaysNothing : LowerBound → Type 0
SaysNothing (Value q) = ⊥
SaysNothing NoValue = Unit {0}
SaysNothing Infeasible = ⊥
SaysNothing (Wide leaf step) = Unit {0}

some-is : (x y : LowerBound) → Some x ≡ Some y → x ≡ y
some-is x y e = cc

decided-nothing : (k : ℕ) (numbers : List LeafNumber) (b : LowerBound) → deciding_bound k numbers ≡ Some b → SaysNothing b
decided-nothing k [] b e = absurd cc
decided-nothing k (Empty ∷ numbers) b e = decided-nothing (k + 1) numbers b e
decided-nothing k (Lag Minus ∷ numbers) b e = subst SaysNothing (some-is NoValue b e) tt
decided-nothing k (Lag (Num p) ∷ numbers) b e = decided-nothing (k + 1) numbers b e
decided-nothing k (WideNumber step ∷ numbers) b e = subst SaysNothing (some-is (Wide (k + 1) step) b e) tt

-- what is bounded closes: each number against the bound's value, or against none
abbrev pub BoundCloses : Program → List LeafNumber → LowerBound → Type 0
BoundCloses M numbers (Value r) = AllClose M (Some r) numbers
BoundCloses M numbers NoValue = Unit {0}
BoundCloses M numbers Infeasible = AllClose M None numbers
BoundCloses M numbers (Wide leaf step) = Unit {0}

pub bound-closes : (M : Program) (numbers : List LeafNumber) (bound : LowerBound) → IsRoundedBound M (bound_of_numbers numbers) bound → BoundCloses M numbers bound
bound-closes M numbers bound h = by (deciding_bound 0 numbers) (least_of_numbers numbers) refl refl h
  where
    decided : (b : LowerBound) → SaysNothing b → IsRoundedBound M b bound → BoundCloses M numbers bound
    decided (Value q) s h = absurd s
    decided NoValue s h = subst (BoundCloses M numbers) (sym h) tt
    decided Infeasible s h = absurd s
    decided (Wide leaf step) s h = subst (BoundCloses M numbers) (sym h) tt

    by : (d : Option LowerBound) (l : Option ℚ) → deciding_bound 0 numbers ≡ d → least_of_numbers numbers ≡ l → IsRoundedBound M (unwrap_or d (value_or_infeasible l)) bound → BoundCloses M numbers bound
    by (Some b) l d_is l_is h = decided b (decided-nothing 0 numbers b d_is) h
    by None None d_is l_is h = subst (BoundCloses M numbers) (sym h) (none-close M 0 numbers d_is l_is)
    by None (Some q) d_is l_is (inl h) =
        subst (BoundCloses M numbers) (sym h.1)
        (least-close M q (int (ceil q)) (λ p above. inr (h.0, inr (refl, IsWhole-int (ceil q), ceil-rises q p above))) 0 numbers d_is (subst (IsBelow q) (sym l_is) (≤ℚ_refl q)))
    by None (Some q) d_is l_is (inr h) =
        subst (BoundCloses M numbers) (sym h.1)
        (least-close M q q (λ p above. inl (inl above)) 0 numbers d_is (subst (IsBelow q) (sym l_is) (≤ℚ_refl q)))

-- ---- where each closes against v, the least does, and none decides

module _ (M : Program) (v : ℚ) where
  minus-open : ¬ NumberCloses M (Some v) (Lag Minus)
  minus-open h = elim h [ inl plain ↦ plain | inr rounded ↦ rounded.1 ]

  pub closes-undecided : (k : ℕ) (numbers : List LeafNumber) → AllClose M (Some v) numbers → deciding_bound k numbers ≡ None
  closes-undecided k [] h = refl
  closes-undecided k (Empty ∷ numbers) h = closes-undecided (k + 1) numbers h.1
  closes-undecided k (Lag Minus ∷ numbers) h = absurd (minus-open h.0)
  closes-undecided k (Lag (Num p) ∷ numbers) h = closes-undecided (k + 1) numbers h.1
  closes-undecided k (WideNumber step ∷ numbers) h = absurd h.0

  abbrev pub LeastCloses : Option ℚ → Type 0
  LeastCloses None = Unit {0}
  LeastCloses (Some q) = NumberCloses M (Some v) (Lag (Num q))

  lesser-closes : (p : ℚ) (o : Option ℚ) → NumberCloses M (Some v) (Lag (Num p)) → LeastCloses o → LeastCloses (Some (lesser p o))
  lesser-closes p None h k = h
  lesser-closes p (Some w) h k = pick (λ z. NumberCloses M (Some v) (Lag (Num z))) (rational_le p w) p w h k

  pub closes-least : (numbers : List LeafNumber) → AllClose M (Some v) numbers → LeastCloses (least_of_numbers numbers)
  closes-least [] h = tt
  closes-least (Empty ∷ numbers) h = closes-least numbers h.1
  closes-least (Lag Minus ∷ numbers) h = absurd (minus-open h.0)
  closes-least (Lag (Num p) ∷ numbers) h = lesser-closes p (least_of_numbers numbers) h.0 (closes-least numbers h.1)
  closes-least (WideNumber step ∷ numbers) h = absurd h.0

  -- a number that closes is no less than v, once it is rounded
  pub closes-ceil : (q : ℚ) → NumberCloses M (Some v) (Lag (Num q)) → v ≤ℚ int (ceil q)
  closes-ceil q h = elim h [
    | inl plain ↦ elim plain [ inl reach ↦ ≤ℚ_trans reach (below-ceil q) | inr other ↦ let f : false ≡ true = other.0 in cc ]
    | inr rounded ↦ elim rounded.1 [ inl reach ↦ ≤ℚ_trans reach (below-ceil q) | inr up ↦ up.2 ]
  ]

  pub closes-plain : ¬ HasWholeObjective M 1 → (q : ℚ) → NumberCloses M (Some v) (Lag (Num q)) → v ≤ℚ q
  closes-plain not q h = elim h [
    | inl plain ↦ elim plain [ inl reach ↦ reach | inr other ↦ let f : false ≡ true = other.0 in cc ]
    | inr rounded ↦ absurd (not rounded.0)
  ]
