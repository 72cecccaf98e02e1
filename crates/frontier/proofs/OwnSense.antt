-- A front in least form and in the model's own sense.
use Rattle.std.specs.Prelude.{◌≡◌, ℕ, ◌-◌, ◌<◌, ℤ, ◌<ℤ◌, neg_ℤ, List, [], ◌∷◌, length, get_or, map, reverse, All, AllPairs, Contains}
use Rattle.std.proofs.Common.{refl, sym, ap, subst, ◌∙◌, arith}
use Rattle.std.proofs.lemmas.Int.{ints}
use Rattle.std.proofs.lemmas.List.{get_or-reverse, length-reverse, length-map, get_or_default}
use Rattle.frac128.specs.Rational.{ℚ, int, neg_ℚ}
use Rattle.frac128.specs.RationalRing.{ring, reads_ℚ, int-neg_ℤ}
use Rattle.lp_model.specs.Program.{Program, Point, value, in_least_form}
use Rattle.lp_model.specs.declared.types.Sense.{Sense}
use Rattle.lp_model.specs.declared.types.Sense.TheVariants.{Min, Max}
use Rattle.lp_model.proofs.ElementLemmas.{element}
use Rattle.lp_model.proofs.NameLemmas.{get_or-map}
use Rattle.frontier.specs.declared.outcomes.Outcome.{Outcome}
use Rattle.frontier.specs.Outcomes.{IsNondominated, HasOutcome, HasLeastOutcome, IsFrontier, IsLeastFrontier, opposite, outcomes_in_own_sense}

-- ---- lists turned round

module _ (l : List Outcome) where
  abbrev turned : List Outcome
  turned = reverse (map opposite l)

  length-turned : length turned ≡ length l
  length-turned = length-reverse (map opposite l) ∙ length-map l opposite

  -- a member, by its place in the list before
  turned_at : (k : ℕ) (d : Outcome) → k < length l → (a : Outcome) × ((a ≡ get_or l (length l - 1 - k) a) × (get_or turned k d ≡ opposite a))
  turned_at k d below =
      let long = length-map l opposite in
      let within : k < length (map opposite l) = omega arith in
      let back : length l - 1 - k < length l = omega arith in
      let found = element l (length l - 1 - k) back in (
        found.0,
        (
          found.1,
          get_or-reverse (map opposite l) k d within
              ∙ ap (λ n. get_or (map opposite l) (n - 1 - k) d) long
              ∙ get_or-map opposite l (length l - 1 - k) found.0 d back found.1,
        ),
      )

  turned-rising : AllPairs (λ a b. a.f1 <ℤ b.f1) l → AllPairs (λ a b. a.f1 <ℤ b.f1) turned
  turned-rising rising i j d h k =
      let long = length-turned in
      let j_below : j < length l = omega arith in
      let i_below : i < length l = omega arith in
      let a = turned_at i d i_below in
      let b = turned_at j d j_below in
      let order : length l - 1 - j < length l - 1 - i = omega arith in
      let within : length l - 1 - i < length l = omega arith in
      let up = rising (length l - 1 - j) (length l - 1 - i) b.0 order within in
      let at_a : get_or l (length l - 1 - i) b.0 ≡ a.0 = get_or_default l (length l - 1 - i) b.0 a.0 within ∙ sym a.1.0 in
      let less : b.0.f1 <ℤ a.0.f1 = subst (λ o. b.0.f1 <ℤ o.f1) at_a (subst (λ o. o.f1 <ℤ (get_or l (length l - 1 - i) b.0).f1) (sym b.1.0) up) in
      let turned_less : neg_ℤ a.0.f1 <ℤ neg_ℤ b.0.f1 = omega (arith, ints) in
      subst (λ o. o.f1 <ℤ (get_or turned j d).f1) (sym a.1.1) (subst (λ o. neg_ℤ a.0.f1 <ℤ o.f1) (sym b.1.1) turned_less)

  turned-all : (P Q : Outcome → Type 0) → ((o : Outcome) → P o → Q (opposite o)) → All P l → All Q turned
  turned-all P Q step all k d below =
      let long = length-turned in
      let within : k < length l = omega arith in
      let back : length l - 1 - k < length l = omega arith in
      let a = turned_at k d within in
      subst Q (sym a.1.1) (step a.0 (subst P (sym a.1.0) (all (length l - 1 - k) a.0 back)))

  turned-contains : (o : Outcome) → Contains l o → Contains turned (opposite o)
  turned-contains o (k, below, is) =
      let long = length-turned in
      let within : length l - 1 - k < length l = omega arith in
      let same : length l - 1 - (length l - 1 - k) ≡ k = omega arith in
      let a = turned_at (length l - 1 - k) (opposite o) within in
      let at_o : a.0 ≡ o = a.1.0 ∙ ap (λ n. get_or l n a.0) same ∙ get_or_default l k a.0 o below ∙ is in
      (length l - 1 - k, omega arith, a.1.1 ∙ ap opposite at_o)

-- ---- outcomes

module _ (M : Program) (x : Point) where
  own-min : M.sense ≡ Min → (o : Outcome) → HasLeastOutcome M x o → HasOutcome M x o
  own-min least o has = record {
    first = ap (λ s. in_least_form s (value M 1 x)) (sym least) ∙ has.first;
    second = ap (λ s. in_least_form s (value M 2 x)) (sym least) ∙ has.second;
  }

  twice : (v : ℚ) (z : ℤ) → neg_ℚ v ≡ int z → v ≡ int (neg_ℤ z)
  twice v z e =
      let back : v ≡ neg_ℚ (neg_ℚ v) = ring (v ∷ []) (search reads_ℚ) tt in
      back ∙ ap neg_ℚ e ∙ sym (int-neg_ℤ z)

  own-max : M.sense ≡ Max → (o : Outcome) → HasLeastOutcome M x o → HasOutcome M x (opposite o)
  own-max most o has = record {
    first = twice (value M 1 x) o.f1 (ap (λ s. in_least_form s (value M 1 x)) (sym most) ∙ has.first);
    second = twice (value M 2 x) o.f2 (ap (λ s. in_least_form s (value M 2 x)) (sym most) ∙ has.second);
  }

-- ---- the front

module _ (M : Program) (l : List Outcome) (least : IsLeastFrontier M l) where
  frontier-min : M.sense ≡ Min → IsFrontier M l
  frontier-min e = record {
    rising = least.rising;
    each = λ k d below. let held = least.each k d below in (held.0, (held.1.0, own-min M held.0 e (get_or l k d) held.1.1));
    all = λ x stands. let held = least.all x stands in (held.0, (held.1.0, own-min M x e held.0 held.1.1));
  }

  frontier-max : M.sense ≡ Max → IsFrontier M (reverse (map opposite l))
  frontier-max e = record {
    rising = turned-rising l least.rising;
    each =
        turned-all l (λ o. (x : Point) × (IsNondominated M x × HasLeastOutcome M x o)) (λ o. (x : Point) × (IsNondominated M x × HasOutcome M x o))
        (λ o held. (held.0, (held.1.0, own-max M held.0 e o held.1.1))) least.each;
    all = λ x stands. let held = least.all x stands in (opposite held.0, (turned-contains l held.0 held.1.0, own-max M x e held.0 held.1.1));
  }

  pub own-frontier : IsFrontier M (outcomes_in_own_sense M.sense l)
  own-frontier = by M.sense refl
    where
      by : (s : Sense) → M.sense ≡ s → IsFrontier M (outcomes_in_own_sense s l)
      by Min e = frontier-min e
      by Max e = frontier-max e
