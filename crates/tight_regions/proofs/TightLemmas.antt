-- A region that is tightened by a change has the bounds that the change leaves behind it: changes of one column may
-- change places, and of two for the same side of it the tighter one is enough.
use Rattle.std.proofs.Common.{◌≡◌, ℕ, zero, suc, ◌+◌, ◌<◌, ◌≤◌, [], ◌∷◌, ◌++◌, length, take, get_or, drop, refl, sym, ap, ◌∙◌, arith}
use Rattle.std.specs.Prelude.{ℤ, Bool, true, false, ◌&&◌, if◌then◌else◌, nat_eq, int_le, set, max, All, Option, Some, None}
use Rattle.std.proofs.Math.Seq.{take-set-lt}
use Rattle.std.proofs.lemmas.Bool.{eqb-true}
use Rattle.std.proofs.lemmas.List.{length-take-le, get_or-take, take_more_set, set-set, set-get_or}
use Rattle.std.proofs.lemmas.List.Elements.{All-cons}
use Rattle.std.proofs.lemmas.List.Kept.{AllPairs-cons}
use Rattle.std.proofs.lemmas.Int.{ints}
use Rattle.frac128.specs.Rational.{ℚ, int, ◌≤ℚ◌, min_ℚ, max_ℚ}
use Rattle.frac128.specs.RationalOrder.{≤ℚ_refl, ≤ℚ_trans, ≤ℚ_antisymm}
use Rattle.frac128.proofs.Integers.{int-≤ℚ-int}
use Rattle.frac128.proofs.Division.{min-≤ℚ, ≤ℚ-max, ≤ℚ-min, max-≤ℚ}
use Rattle.frac128.specs.Range.{IsNarrow}
use Rattle.lp_model.specs.Regions.{Path, AreNarrow, tighter_low, tighter_high, low_after, high_after, low_along, high_along}
use Rattle.lp_model.specs.declared.types.Side.{Side}
use Rattle.lp_model.specs.declared.types.Side.TheVariants.{Lo, Hi}
use Rattle.lp_model.specs.declared.types.BoundChange.{BoundChange}
use Rattle.tight_regions.specs.Tight.{is_same_side, are_rivals, AreChangesApart, tighter_number, tighter, tightened}
use Rattle.tight_regions.specs.private.Tight.{rival_place}

-- ---- bounds by turns

max-turned : (b u v : ℚ) → max_ℚ (max_ℚ b u) v ≤ℚ max_ℚ (max_ℚ b v) u
max-turned b u v =
    let whole = max_ℚ (max_ℚ b v) u in
    let first = ≤ℚ-max b v in
    let second = ≤ℚ-max (max_ℚ b v) u in
    max-≤ℚ (max_ℚ b u) v whole (max-≤ℚ b u whole (≤ℚ_trans first.0 second.0) second.1) (≤ℚ_trans first.1 second.0)

min-turned : (b u v : ℚ) → min_ℚ (min_ℚ b u) v ≤ℚ min_ℚ (min_ℚ b v) u
min-turned b u v =
    let whole = min_ℚ (min_ℚ b u) v in
    let first = min-≤ℚ b u in
    let second = min-≤ℚ (min_ℚ b u) v in
    ≤ℚ-min whole (min_ℚ b v) u (≤ℚ-min whole b v (≤ℚ_trans second.0 first.0) second.1) (≤ℚ_trans second.0 first.1)

low-turned : (b : Option ℚ) (u v : ℚ) → tighter_low (tighter_low b u) v ≡ tighter_low (tighter_low b v) u
low-turned None u v =
    ap Some
    (≤ℚ_antisymm (max-≤ℚ u v (max_ℚ v u) (≤ℚ-max v u).1 (≤ℚ-max v u).0) (max-≤ℚ v u (max_ℚ u v) (≤ℚ-max u v).1 (≤ℚ-max u v).0))
low-turned (Some b) u v = ap Some (≤ℚ_antisymm (max-turned b u v) (max-turned b v u))

high-turned : (b : Option ℚ) (u v : ℚ) → tighter_high (tighter_high b u) v ≡ tighter_high (tighter_high b v) u
high-turned None u v =
    ap Some
    (≤ℚ_antisymm (≤ℚ-min (min_ℚ u v) v u (min-≤ℚ u v).1 (min-≤ℚ u v).0) (≤ℚ-min (min_ℚ v u) u v (min-≤ℚ v u).1 (min-≤ℚ v u).0))
high-turned (Some b) u v = ap Some (≤ℚ_antisymm (min-turned b u v) (min-turned b v u))

-- ---- one bound is enough

low-last : (b : Option ℚ) (u v : ℚ) → u ≤ℚ v → tighter_low (tighter_low b u) v ≡ tighter_low b v
low-last None u v h = ap Some (≤ℚ_antisymm (max-≤ℚ u v v h (≤ℚ_refl v)) (≤ℚ-max u v).1)
low-last (Some b) u v h =
    ap Some
    (≤ℚ_antisymm (max-≤ℚ (max_ℚ b u) v (max_ℚ b v) (max-≤ℚ b u (max_ℚ b v) (≤ℚ-max b v).0 (≤ℚ_trans h (≤ℚ-max b v).1)) (≤ℚ-max b v).1)
    (max-≤ℚ b v (max_ℚ (max_ℚ b u) v) (≤ℚ_trans (≤ℚ-max b u).0 (≤ℚ-max (max_ℚ b u) v).0) (≤ℚ-max (max_ℚ b u) v).1))

high-last : (b : Option ℚ) (u v : ℚ) → v ≤ℚ u → tighter_high (tighter_high b u) v ≡ tighter_high b v
high-last None u v h = ap Some (≤ℚ_antisymm (min-≤ℚ u v).1 (≤ℚ-min v u v h (≤ℚ_refl v)))
high-last (Some b) u v h =
    ap Some
    (≤ℚ_antisymm (≤ℚ-min (min_ℚ (min_ℚ b u) v) b v (≤ℚ_trans (min-≤ℚ (min_ℚ b u) v).0 (min-≤ℚ b u).0) (min-≤ℚ (min_ℚ b u) v).1)
    (≤ℚ-min (min_ℚ b v) (min_ℚ b u) v (≤ℚ-min (min_ℚ b v) b u (min-≤ℚ b v).0 (≤ℚ_trans (min-≤ℚ b v).1 h)) (min-≤ℚ b v).1))

below : (v w : ℤ) → int_le v w ≡ true → int v ≤ℚ int w
below v w e = (int-≤ℚ-int v w).1 (omega (arith, ints, e))

above : (v w : ℤ) → int_le v w ≡ false → int w ≤ℚ int v
above v w e = (int-≤ℚ-int w v).1 (omega (arith, ints, e))

low-kept : (b : Option ℚ) (v w : ℤ) → tighter_low b (int (tighter_number Lo v w)) ≡ tighter_low (tighter_low b (int v)) (int w)
low-kept b v w = by (int_le v w) refl
  where
    by : (t : Bool) → int_le v w ≡ t → tighter_low b (int (if t then w else v)) ≡ tighter_low (tighter_low b (int v)) (int w)
    by true e = sym (low-last b (int v) (int w) (below v w e))
    by false e = sym (low-turned b (int v) (int w) ∙ low-last b (int w) (int v) (above v w e))

high-kept : (b : Option ℚ) (v w : ℤ) → tighter_high b (int (tighter_number Hi v w)) ≡ tighter_high (tighter_high b (int v)) (int w)
high-kept b v w = by (int_le v w) refl
  where
    by : (t : Bool) → int_le v w ≡ t → tighter_high b (int (if t then v else w)) ≡ tighter_high (tighter_high b (int v)) (int w)
    by true e = sym (high-turned b (int v) (int w) ∙ high-last b (int w) (int v) (below v w e))
    by false e = sym (high-last b (int v) (int w) (above v w e))

-- ---- a bound after a change, where t says that the change is for the column

low_by : Bool → Side → ℚ → Option ℚ → Option ℚ
low_by t s v b = if t then low_after s b v else b

high_by : Bool → Side → ℚ → Option ℚ → Option ℚ
high_by t s v b = if t then high_after s b v else b

low_by-turned : (t u : Bool) (s r : Side) (v w : ℚ) (b : Option ℚ) → low_by t s v (low_by u r w b) ≡ low_by u r w (low_by t s v b)
unfolding low_by
low_by-turned false u s r v w b = refl
low_by-turned true false s r v w b = refl
low_by-turned true true Lo Lo v w b = low-turned b w v
low_by-turned true true Lo Hi v w b = refl
low_by-turned true true Hi Lo v w b = refl
low_by-turned true true Hi Hi v w b = refl

high_by-turned : (t u : Bool) (s r : Side) (v w : ℚ) (b : Option ℚ) → high_by t s v (high_by u r w b) ≡ high_by u r w (high_by t s v b)
unfolding high_by
high_by-turned false u s r v w b = refl
high_by-turned true false s r v w b = refl
high_by-turned true true Lo Lo v w b = refl
high_by-turned true true Lo Hi v w b = refl
high_by-turned true true Hi Lo v w b = refl
high_by-turned true true Hi Hi v w b = high-turned b w v

low_by-kept : (t : Bool) (s : Side) (v w : ℤ) (b : Option ℚ) → low_by t s (int (tighter_number s v w)) b ≡ low_by t s (int w) (low_by t s (int v) b)
unfolding low_by
low_by-kept false s v w b = refl
low_by-kept true Lo v w b = low-kept b v w
low_by-kept true Hi v w b = refl

high_by-kept : (t : Bool) (s : Side) (v w : ℤ) (b : Option ℚ) → high_by t s (int (tighter_number s v w)) b ≡ high_by t s (int w) (high_by t s (int v) b)
unfolding high_by
high_by-kept false s v w b = refl
high_by-kept true Lo v w b = refl
high_by-kept true Hi v w b = high-kept b v w

pub low_step : ℕ → BoundChange → Option ℚ → Option ℚ
low_step j c b = low_by (nat_eq c.col.0 j) c.side (int c.v) b

pub high_step : ℕ → BoundChange → Option ℚ → Option ℚ
high_step j c b = high_by (nat_eq c.col.0 j) c.side (int c.v) b

both : (a b : Bool) → a && b ≡ true → (a ≡ true) × (b ≡ true)
both true b e = (refl, e)
both false b e = absurd cc

same_sides : (s r : Side) → is_same_side s r ≡ true → s ≡ r
same_sides Lo Lo e = refl
same_sides Lo Hi e = absurd cc
same_sides Hi Lo e = absurd cc
same_sides Hi Hi e = refl

module _ (d c : BoundChange) (rivals : are_rivals d c ≡ true) where
  same_col : d.col.0 ≡ c.col.0
  same_col = eqb-true d.col.0 c.col.0 (both (nat_eq d.col.0 c.col.0) (is_same_side d.side c.side) rivals).0

  same_side : d.side ≡ c.side
  same_side = same_sides d.side c.side (both (nat_eq d.col.0 c.col.0) (is_same_side d.side c.side) rivals).1

  low_step-kept : (j : ℕ) (b : Option ℚ) → low_step j (tighter d c) b ≡ low_step j c (low_step j d b)
  unfolding low_step
  low_step-kept j b = low_by-kept (nat_eq d.col.0 j) d.side d.v c.v b ∙ (λ i. low_by (nat_eq (same_col i) j) (same_side i) (int c.v) (low_by (nat_eq d.col.0 j) d.side (int d.v) b))

  high_step-kept : (j : ℕ) (b : Option ℚ) → high_step j (tighter d c) b ≡ high_step j c (high_step j d b)
  unfolding high_step
  high_step-kept j b = high_by-kept (nat_eq d.col.0 j) d.side d.v c.v b ∙ (λ i. high_by (nat_eq (same_col i) j) (same_side i) (int c.v) (high_by (nat_eq d.col.0 j) d.side (int d.v) b))

-- ---- a bound after the changes of a list, by steps that may change places and of which the tighter one is enough

module _ (f : BoundChange → Option ℚ → Option ℚ) where
  pub along : Path → Option ℚ → Option ℚ
  along [] b = b
  along (c ∷ R) b = along R (f c b)

  along-more : (R : Path) (c : BoundChange) (b : Option ℚ) → along (R ++ c ∷ []) b ≡ f c (along R b)
  unfolding along
  along-more [] c b = refl
  along-more (d ∷ R) c b = along-more R c (f d b)

  module _ (turns : (c d : BoundChange) (b : Option ℚ) → f c (f d b) ≡ f d (f c b)) (keeps : (d c : BoundChange) → are_rivals d c ≡ true → (b : Option ℚ) → f (tighter d c) b ≡ f c (f d b)) where
    along-last : (R : Path) (c : BoundChange) (b : Option ℚ) → along R (f c b) ≡ f c (along R b)
    unfolding along
    along-last [] c b = refl
    along-last (d ∷ R) c b = ap (along R) (turns d c b) ∙ along-last R c (f d b)

    along-tightened : (R : Path) (c : BoundChange) (b : Option ℚ) → along (tightened R c) b ≡ f c (along R b)
    unfolding along
    along-tightened [] c b = refl
    along-tightened (d ∷ R) c b = by (are_rivals d c) refl (along-tightened R c (f d b))
      where
        by : (t : Bool) → are_rivals d c ≡ t → along (tightened R c) (f d b) ≡ f c (along R (f d b)) → along (if t then tighter d c ∷ R else d ∷ tightened R c) b ≡ f c (along R (f d b))
        by true e rest = ap (along R) (keeps d c e b) ∙ along-last R c (f d b)
        by false e rest = rest

low-along : (R : Path) (j : ℕ) (b : Option ℚ) → low_along R j b ≡ along (low_step j) R b
unfolding along low_step low_by
low-along [] j b = refl
low-along (c ∷ R) j b = low-along R j (low_step j c b)

high-along : (R : Path) (j : ℕ) (b : Option ℚ) → high_along R j b ≡ along (high_step j) R b
unfolding along high_step high_by
high-along [] j b = refl
high-along (c ∷ R) j b = high-along R j (high_step j c b)

module _ (R : Path) (c : BoundChange) (j : ℕ) (b : Option ℚ) where
  pub low-more : low_along (R ++ c ∷ []) j b ≡ low_step j c (low_along R j b)
  low-more = low-along (R ++ c ∷ []) j b ∙ along-more (low_step j) R c b ∙ ap (low_step j c) (sym (low-along R j b))

  pub high-more : high_along (R ++ c ∷ []) j b ≡ high_step j c (high_along R j b)
  high-more = high-along (R ++ c ∷ []) j b ∙ along-more (high_step j) R c b ∙ ap (high_step j c) (sym (high-along R j b))

  low_turns : (c d : BoundChange) (b : Option ℚ) → low_step j c (low_step j d b) ≡ low_step j d (low_step j c b)
  unfolding low_step
  low_turns c d b = low_by-turned (nat_eq c.col.0 j) (nat_eq d.col.0 j) c.side d.side (int c.v) (int d.v) b

  high_turns : (c d : BoundChange) (b : Option ℚ) → high_step j c (high_step j d b) ≡ high_step j d (high_step j c b)
  unfolding high_step
  high_turns c d b = high_by-turned (nat_eq c.col.0 j) (nat_eq d.col.0 j) c.side d.side (int c.v) (int d.v) b

  pub low-tightened : low_along (tightened R c) j b ≡ low_step j c (low_along R j b)
  low-tightened = low-along (tightened R c) j b ∙ along-tightened (low_step j) low_turns (λ d c e b. low_step-kept d c e j b) R c b ∙ ap (low_step j c) (sym (low-along R j b))

  pub high-tightened : high_along (tightened R c) j b ≡ high_step j c (high_along R j b)
  high-tightened = high-along (tightened R c) j b ∙ along-tightened (high_step j) high_turns (λ d c e b. high_step-kept d c e j b) R c b ∙ ap (high_step j c) (sym (high-along R j b))

-- ---- room for the numbers

narrow_if : (t : Bool) (v w : ℤ) → IsNarrow v → IsNarrow w → IsNarrow (if t then v else w)
narrow_if true v w h k = h
narrow_if false v w h k = k

narrow_tighter : (s : Side) (v w : ℤ) → IsNarrow v → IsNarrow w → IsNarrow (tighter_number s v w)
narrow_tighter Lo v w h k = narrow_if (int_le v w) w v k h
narrow_tighter Hi v w h k = narrow_if (int_le v w) v w h k

pub narrow-tightened : (R : Path) (c : BoundChange) → AreNarrow R → IsNarrow c.v → AreNarrow (tightened R c)
narrow-tightened [] c narrow here = (here, tt)
narrow-tightened (d ∷ R) c narrow here = by (are_rivals d c) (narrow-tightened R c narrow.1 here)
  where
    by : (t : Bool) → AreNarrow (tightened R c) → AreNarrow (if t then tighter d c ∷ R else d ∷ tightened R c)
    by true rest = (narrow_tighter d.side d.v c.v narrow.0 here, narrow.1)
    by false rest = (narrow.0, rest)

pub narrow-fewer : (R : Path) (c : BoundChange) → AreNarrow (R ++ c ∷ []) → AreNarrow R × IsNarrow c.v
narrow-fewer [] c narrow = (tt, narrow.0)
narrow-fewer (d ∷ R) c narrow = let rest = narrow-fewer R c narrow.1 in ((narrow.0, rest.0), rest.1)

-- ---- at most one change for each side of each column

module _ (d c : BoundChange) (apart : are_rivals d c ≡ false) where
  apart_from : (R : Path) → All (λ e. are_rivals d e ≡ false) R → All (λ e. are_rivals d e ≡ false) (tightened R c)
  apart_from [] all = All-cons (λ e. are_rivals d e ≡ false) c [] apart all
  apart_from (e ∷ R) all = by (are_rivals e c) (all 0 e (omega arith)) (λ k o below. all (suc k) o (omega (arith, below))) (apart_from R (λ k o below. all (suc k) o (omega (arith, below))))
    where
      by : (t : Bool) → are_rivals d e ≡ false → All (λ o. are_rivals d o ≡ false) R → All (λ o. are_rivals d o ≡ false) (tightened R c) →
          All (λ o. are_rivals d o ≡ false) (if t then tighter e c ∷ R else e ∷ tightened R c)
      by true here rest after = All-cons (λ o. are_rivals d o ≡ false) (tighter e c) R here rest
      by false here rest after = All-cons (λ o. are_rivals d o ≡ false) e (tightened R c) here after

pub apart-none : AreChangesApart []
apart-none i j d before below = absurd (omega (arith, before, below))

pub apart-tightened : (R : Path) (c : BoundChange) → AreChangesApart R → AreChangesApart (tightened R c)
apart-tightened [] c apart = λ i j d before below. absurd (omega (arith, before, below))
apart-tightened (d ∷ R) c apart =
    let first : All (λ e. are_rivals d e ≡ false) R = λ k o below. apart 0 (suc k) o (omega arith) (omega (arith, below)) in
    let rest : AreChangesApart R = λ i j o before below. apart (suc i) (suc j) o (omega (arith, before)) (omega (arith, below)) in
    by (are_rivals d c) refl first rest (apart-tightened R c rest)
  where
    by : (t : Bool) → are_rivals d c ≡ t → All (λ e. are_rivals d e ≡ false) R → AreChangesApart R → AreChangesApart (tightened R c) → AreChangesApart (if t then tighter d c ∷ R else d ∷ tightened R c)
    by true e first rest after = AllPairs-cons (λ a b. are_rivals a b ≡ false) (tighter d c) R first rest
    by false e first rest after = AllPairs-cons (λ a b. are_rivals a b ≡ false) d (tightened R c) (apart_from d c e R first) after

-- ---- the place of a change

pub place_there : (R : Path) (c d : BoundChange) → rival_place R c < length R → set R (rival_place R c) (tighter (get_or R (rival_place R c) d) c) ≡ tightened R c
place_there [] c d h = absurd (omega (arith, h))
place_there (e ∷ R) c d h = by (are_rivals e c) (place_there R c d) h
  where
    by : (t : Bool) → (rival_place R c < length R → set R (rival_place R c) (tighter (get_or R (rival_place R c) d) c) ≡ tightened R c) → (if t then 0 else suc (rival_place R c)) < suc (length R) →
        set (e ∷ R) (if t then 0 else suc (rival_place R c)) (tighter (get_or (e ∷ R) (if t then 0 else suc (rival_place R c)) d) c) ≡ (if t then tighter e c ∷ R else e ∷ tightened R c)
    by true rest k = refl
    by false rest k = ap (λ l. e ∷ l) (rest (omega (arith, k)))

pub place_none : (R : Path) (c : BoundChange) → length R ≤ rival_place R c → R ++ c ∷ [] ≡ tightened R c
place_none [] c h = refl
place_none (e ∷ R) c h = by (are_rivals e c) (place_none R c) h
  where
    by : (t : Bool) → (length R ≤ rival_place R c → R ++ c ∷ [] ≡ tightened R c) → suc (length R) ≤ (if t then 0 else suc (rival_place R c)) → e ∷ (R ++ c ∷ []) ≡ (if t then tighter e c ∷ R else e ∷ tightened R c)
    by true rest k = absurd (omega (arith, k))
    by false rest k = ap (λ l. e ∷ l) (rest (omega (arith, k)))

pub place_on : (R : Path) (c : BoundChange) (k : ℕ) (d : BoundChange) → k < length R → rival_place (drop k R) c ≡ (if are_rivals (get_or R k d) c then 0 else suc (rival_place (drop (suc k) R) c))
place_on [] c k d h = absurd (omega (arith, h))
place_on (e ∷ R) c zero d h = refl
place_on (e ∷ R) c (suc k) d h = place_on R c k d (omega (arith, h))

pub place_within : (R : Path) (c : BoundChange) → rival_place R c ≤ length R
place_within [] c = omega arith
place_within (e ∷ R) c = by (are_rivals e c) (place_within R c)
  where
    by : (t : Bool) → rival_place R c ≤ length R → (if t then 0 else suc (rival_place R c)) ≤ suc (length R)
    by true h = omega arith
    by false h = omega (arith, h)

-- the region's first n places, where the change at one of them is written over or one is put behind them
module _ (places : Path) (n : ℕ) (c d : BoundChange) (p : ℕ) (below_end : n < length places) (is : p ≡ rival_place (take n places) c) where
  long : length (take n places) ≡ n
  long = length-take-le n places (omega (arith, below_end))

  pub tighten_there : p < n → (t : BoundChange) → t ≡ tighter (get_or places p d) c → take (max n (p + 1)) (set places p t) ≡ tightened (take n places) c
  tighten_there there t tight =
      let most : max n (p + 1) ≡ n = omega (arith, there) in
      ap (λ m. take m (set places p t)) most
      ∙ take-set-lt n places p t there
      ∙ (λ i. set (take n places) (is i) (tight i))
      ∙ ap (λ e. set (take n places) (rival_place (take n places) c) (tighter e c)) (sym (get_or-take n places p d there) ∙ ap (λ k. get_or (take n places) k d) is)
      ∙ place_there (take n places) c d (omega (arith, is, there, long))

  pub tighten_none : n ≤ p → take (max n (p + 1)) (set places p c) ≡ tightened (take n places) c
  tighten_none past =
      let within = place_within (take n places) c in
      let last : p ≡ n = omega (arith, within, is, long, past) in
      let most : max n (p + 1) ≡ n + 1 = omega (arith, last) in
      (λ i. take (most i) (set places (last i) c)) ∙ take_more_set places n c below_end ∙ place_none (take n places) c (omega (arith, is, long, past))

pub set_back : (places : Path) (p : ℕ) (t d : BoundChange) → set (set places p t) p (get_or places p d) ≡ places
set_back places p t d = set-set places p t (get_or places p d) ∙ set-get_or places p d
