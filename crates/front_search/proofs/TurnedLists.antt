-- Outcomes in least form as they are in the model's own sense: negated and turned round for MAX.
use Rattle.std.specs.Prelude.{◌≡◌, zero, suc, ◌-◌, ◌<◌, ℤ, pos, negsuc, ◌<ℤ◌, neg_ℤ, List, [], ◌∷◌, length, get_or, map, reverse, All, AllPairs}
use Rattle.std.proofs.Common.{refl, sym, ap, subst, ◌∙◌, arith}
use Rattle.std.proofs.lemmas.Int.{ints}
use Rattle.std.proofs.lemmas.List.{get_or-reverse, get_or-map, length-reverse, length-map}
use Rattle.std.proofs.lemmas.List.Elements.{All-map, All-weaker}
use Rattle.frac128.specs.Range.{IsNarrow}
use Rattle.frac128.specs.Rational.{ℚ, int, neg_ℚ}
use Rattle.frac128.specs.RationalRing.{ring, reads_ℚ, int-neg_ℤ}
use Rattle.lp_model.specs.Program.{Program, Point, value, in_least_form}
use Rattle.lp_model.specs.declared.types.Sense.{Sense}
use Rattle.lp_model.specs.declared.types.Sense.TheVariants.{Min, Max}
use Rattle.frontier.specs.declared.outcomes.Outcome.{Outcome}
use Rattle.frontier.specs.Covers.{IsAhead, IsFront}
use Rattle.frontier.specs.Outcomes.{IsNondominated, HasOutcome, HasLeastOutcome, opposite, outcomes_in_own_sense}
use Rattle.front_search.specs.FrontsFound.{AreNondominated}

-- ---- lists turned round

pub all-reversed : (P : Outcome → Type 0) (l : List Outcome) → All P l → All P (reverse l)
all-reversed P l h k d below =
    let long = length-reverse l in
    let within : k < length l = omega arith in
    let back : length l - 1 - k < length l = omega arith in
    subst P (sym (get_or-reverse l k d within)) (h (length l - 1 - k) d back)

rising-reversed : (R : Outcome → Outcome → Type 0) (l : List Outcome) → AllPairs R l → AllPairs (λ a b. R b a) (reverse l)
rising-reversed R l h i j d less below =
    let long = length-reverse l in
    let j_within : j < length l = omega arith in
    let i_within : i < length l = omega arith in
    let order : length l - 1 - j < length l - 1 - i = omega arith in
    let within : length l - 1 - i < length l = omega arith in
    subst (λ a. R (get_or (reverse l) j d) a) (sym (get_or-reverse l i d i_within))
    (subst (λ b. R b (get_or l (length l - 1 - i) d)) (sym (get_or-reverse l j d j_within)) (h (length l - 1 - j) (length l - 1 - i) d order within))

pairs-mapped : (f : Outcome → Outcome) (R S : Outcome → Outcome → Type 0) → ((a b : Outcome) → R a b → S (f a) (f b)) → (l : List Outcome) → AllPairs R l → AllPairs S (map f l)
pairs-mapped f R S step l h i j d less below =
    let long = length-map l f in
    let j_within : j < length l = omega arith in
    let i_within : i < length l = omega arith in
    subst (λ a. S a (get_or (map f l) j d)) (sym (get_or-map f l i d d i_within))
    (subst (λ b. S (f (get_or l i d)) b) (sym (get_or-map f l j d d j_within)) (step (get_or l i d) (get_or l j d) (h i j d less j_within)))

abbrev Rises : Outcome → Outcome → Type 0
Rises a b = a.f1 <ℤ b.f1

negated-falls : (a b : Outcome) → IsAhead a b → Rises (opposite b) (opposite a)
negated-falls a b h = let up = h.first in omega (arith, ints)

-- a front rises, in least form and turned round
pub own-rising : (s : Sense) (l : List Outcome) → IsFront l → AllPairs (λ a b. a.f1 <ℤ b.f1) (outcomes_in_own_sense s l)
own-rising Min l front = λ i j d less below. (front i j d less below).first
own-rising Max l front = rising-reversed (λ a b. Rises b a) (map opposite l) (pairs-mapped opposite IsAhead (λ a b. Rises b a) negated-falls l front)

-- what holds of each outcome and of its opposite
pub own-all : (P Q : Outcome → Type 0) (s : Sense) → (s ≡ Min → (o : Outcome) → P o → Q o) → (s ≡ Max → (o : Outcome) → P o → Q (opposite o)) → (l : List Outcome) → All P l → All Q (outcomes_in_own_sense s l)
own-all P Q Min least most l h = All-weaker P Q (least refl) l h
own-all P Q Max least most l h = all-reversed Q (map opposite l) (All-map Q opposite l (All-weaker P (λ o. Q (opposite o)) (most refl) l h))

abbrev Narrow : Outcome → Type 0
Narrow o = IsNarrow o.f1 × IsNarrow o.f2

narrow-negated : (n : ℤ) → IsNarrow n → IsNarrow (neg_ℤ n)
narrow-negated (pos zero) h = h
narrow-negated (pos (suc k)) h = h
narrow-negated (negsuc k) h = h

pub own-narrow : (s : Sense) (l : List Outcome) → All (λ o. IsNarrow o.f1 × IsNarrow o.f2) l → All (λ o. IsNarrow o.f1 × IsNarrow o.f2) (outcomes_in_own_sense s l)
own-narrow s l narrow = own-all Narrow Narrow s (λ e o h. h) (λ e o h. (narrow-negated o.f1 h.0, narrow-negated o.f2 h.1)) l narrow

-- ---- outcomes

module _ (M : Program) where
  own-min : M.sense ≡ Min → (x : Point) (o : Outcome) → HasLeastOutcome M x o → HasOutcome M x o
  own-min least x o has = record {
    first = ap (λ s. in_least_form s (value M 1 x)) (sym least) ∙ has.first;
    second = ap (λ s. in_least_form s (value M 2 x)) (sym least) ∙ has.second;
  }

  twice : (v : ℚ) (z : ℤ) → neg_ℚ v ≡ int z → v ≡ int (neg_ℤ z)
  twice v z e =
      let back : v ≡ neg_ℚ (neg_ℚ v) = ring (v ∷ []) (search reads_ℚ) tt in
      back ∙ ap neg_ℚ e ∙ sym (int-neg_ℤ z)

  own-max : M.sense ≡ Max → (x : Point) (o : Outcome) → HasLeastOutcome M x o → HasOutcome M x (opposite o)
  own-max most x o has = record {
    first = twice (value M 1 x) o.f1 (ap (λ s. in_least_form s (value M 1 x)) (sym most) ∙ has.first);
    second = twice (value M 2 x) o.f2 (ap (λ s. in_least_form s (value M 2 x)) (sym most) ∙ has.second);
  }

  abbrev StandsLeast : Outcome → Type 0
  StandsLeast o = (x : Point) × (IsNondominated M x × HasLeastOutcome M x o)

  abbrev StandsOwn : Outcome → Type 0
  StandsOwn o = (x : Point) × (IsNondominated M x × HasOutcome M x o)

  -- outcomes in least form that stand are told in the model's own sense
  pub own-told : (l : List Outcome) → IsFront l → All (λ o. (x : Point) × (IsNondominated M x × HasLeastOutcome M x o)) l → All (λ o. IsNarrow o.f1 × IsNarrow o.f2) l → AreNondominated M (outcomes_in_own_sense M.sense l)
  own-told l front each narrow = record {
    rising = own-rising M.sense l front;
    each =
        own-all StandsLeast StandsOwn M.sense (λ e o held. (held.0, (held.1.0, own-min e held.0 o held.1.1))) (λ e o held. (held.0, (held.1.0, own-max e held.0 o held.1.1))) l each;
    narrow = own-narrow M.sense l narrow;
  }
