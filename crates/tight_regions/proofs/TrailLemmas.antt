-- A trail's region has the bounds of its path, one change further and one change back.
use Rattle.std.proofs.Common.{◌≡◌, ◌≢◌, ℕ, zero, suc, ◌+◌, ◌-◌, ◌<◌, ◌≤◌, List, [], ◌∷◌, ◌++◌, length, take, get_or, refl, sym, ap, subst, ◌∙◌, arith}
use Rattle.std.specs.Prelude.{set, max}
use Rattle.std.proofs.Math.Path.{fun_ext}
use Rattle.std.proofs.lemmas.List.{take_more, take-append-le, get_or_default, get_or-set_same, get_or-set_other, length-append, length-set, get_or_append_left, set-append_left}
use Rattle.lp_model.specs.Regions.{Path, AreNarrow, low_along, high_along}
use Rattle.lp_model.specs.declared.types.BoundChange.{BoundChange}
use Rattle.tight_regions.specs.declared.trail.Replaced.{Replaced}
use Rattle.tight_regions.specs.declared.trail.Trail.{Trail}
use Rattle.tight_regions.specs.Tight.{AreChangesApart, tightened, no_change, no_replaced, undone, IsTightened, IsLed, IsTrail, path_of_trail, region_of}
use Rattle.tight_regions.proofs.TightLemmas.{low_step, high_step, low-more, high-more, low-tightened, high-tightened, narrow-tightened, narrow-fewer, apart-none, apart-tightened}
use Rattle.tight_regions.specs.SameBounds.{SameBounds}

pub bounds-more : (R Q P : Path) (c : BoundChange) → SameBounds R P → Q ≡ tightened R c → SameBounds Q (P ++ c ∷ [])
bounds-more R Q P c s is = record {
  low = ap low_along is ∙ fun_ext (λ j. fun_ext (λ b. low-tightened R c j b ∙ ap (λ f. low_step j c (f j b)) s.low ∙ sym (low-more P c j b)));
  high = ap high_along is ∙ fun_ext (λ j. fun_ext (λ b. high-tightened R c j b ∙ ap (λ f. high_step j c (f j b)) s.high ∙ sym (high-more P c j b)));
}

module _ (path : Path) (replaced : List Replaced) where
  one_more : (n : ℕ) → n < length path → take (suc n) path ≡ take n path ++ get_or path n no_change ∷ []
  one_more n below = let up : suc n ≡ n + 1 = omega arith in ap (λ k. take k path) up ∙ take_more path n no_change below

  led-bounds : (n : ℕ) (places : Path) (count : ℕ) → n ≤ length path → IsLed path replaced n places count → SameBounds (take count places) (take n path)
  led-bounds zero places count within led = subst (λ k. SameBounds (take k places) (take 0 path)) (sym led) (record { low = refl; high = refl })
  led-bounds (suc n) places count within led =
      let r = get_or replaced n no_replaced in
      let before = led-bounds n (undone places r) r.count (omega (arith, within)) led.1 in
      subst (SameBounds (take count places)) (sym (one_more n (omega (arith, within))))
      (bounds-more (take r.count (undone places r)) (take count places) (take n path) (get_or path n no_change) before led.0.is)

  led-narrow : (n : ℕ) (places : Path) (count : ℕ) → n ≤ length path → IsLed path replaced n places count → AreNarrow (take n path) → AreNarrow (take count places)
  led-narrow zero places count within led narrow = subst (λ k. AreNarrow (take k places)) (sym led) tt
  led-narrow (suc n) places count within led narrow =
      let r = get_or replaced n no_replaced in
      let parts = narrow-fewer (take n path) (get_or path n no_change) (subst AreNarrow (one_more n (omega (arith, within))) narrow) in
      subst AreNarrow (sym led.0.is)
      (narrow-tightened (take r.count (undone places r)) (get_or path n no_change) (led-narrow n (undone places r) r.count (omega (arith, within)) led.1 parts.0) parts.1)

  led-apart : (n : ℕ) (places : Path) (count : ℕ) → IsLed path replaced n places count → AreChangesApart (take count places)
  led-apart zero places count led = subst (λ k. AreChangesApart (take k places)) (sym led) apart-none
  led-apart (suc n) places count led =
      let r = get_or replaced n no_replaced in
      subst AreChangesApart (sym led.0.is) (apart-tightened (take r.count (undone places r)) (get_or path n no_change) (led-apart n (undone places r) r.count led.1))

  pub led-few : (n : ℕ) (places : Path) (count : ℕ) → IsLed path replaced n places count → count ≤ n
  led-few zero places count led = omega (arith, led)
  led-few (suc n) places count led =
      let r = get_or replaced n no_replaced in
      let before = led-few n (undone places r) r.count led.1 in
      let few = led.0.few in
      omega (arith, before, few)

  led-set : (m : ℕ) (c : BoundChange) (r : Replaced) (n : ℕ) (places : Path) (count : ℕ) → n ≤ m → IsLed path replaced n places count → IsLed (set path m c) (set replaced m r) n places count
  led-set m c r zero places count within led = led
  led-set m c r (suc n) places count within led =
      let apart : n ≢ m = λ e. absurd (omega (arith, e, within)) in
      let here = sym (get_or-set_other path m n c no_change apart) in
      let there = sym (get_or-set_other replaced m n r no_replaced apart) in
      let q = get_or replaced n no_replaced in
      subst (λ T. T)
      (λ i. IsTightened places count (here i) (there i) × IsLed (set path m c) (set replaced m r) n (undone places (there i)) (there i).count)
      (led.0, led-set m c r n (undone places q) q.count (omega (arith, within)) led.1)

  pub led-push : (n : ℕ) (c : BoundChange) (r : Replaced) (places old : Path) (count before : ℕ) → n < length path → length replaced ≡ length path → IsLed path replaced n old before →
      undone places r ≡ old → r.count ≡ before → IsTightened places count c r → IsLed (set path n c) (set replaced n r) (suc n) places count
  led-push n c r places old count before below same led back counted tight =
      let here = sym (get_or-set_same path n c no_change below) in
      let there = sym (get_or-set_same replaced n r no_replaced (omega (arith, same, below))) in
      subst (λ T. T)
      (λ i. IsTightened places count (here i) (there i) × IsLed (set path n c) (set replaced n r) n (undone places (there i)) (there i).count)
      (tight, led-set n c r n (undone places r) r.count (omega arith) (subst (λ T. T) (λ i. IsLed path replaced n (sym back i) (sym counted i)) led))

  -- with one more place behind each list
  led-grown : (a : BoundChange) (b : Replaced) (e : BoundChange) (n : ℕ) (places : Path) (count : ℕ) → length replaced ≡ length path → length places ≡ length path → n ≤ length path → IsLed path replaced n places count →
      IsLed (path ++ a ∷ []) (replaced ++ b ∷ []) n (places ++ e ∷ []) count
  led-grown a b e zero places count same even within led = led
  led-grown a b e (suc n) places count same even within led =
      let r = get_or replaced n no_replaced in
      let here = sym (get_or_append_left path (a ∷ []) no_change n (omega (arith, within))) in
      let there = sym (get_or_append_left replaced (b ∷ []) no_replaced n (omega (arith, same, within))) in
      let few = led-few (suc n) places count led in
      let before = led-few n (undone places r) r.count led.1 in
      let long = length-set places r.place r.was in
      let back : undone (places ++ e ∷ []) r ≡ undone places r ++ e ∷ [] = set-append_left places (e ∷ []) r.place r.was led.0.within in
      let top = take-append-le count places (e ∷ []) (omega (arith, few, within, even)) in
      let lower : take r.count (undone (places ++ e ∷ []) r) ≡ take r.count (undone places r) =
      ap (take r.count) back ∙ take-append-le r.count (undone places r) (e ∷ []) (omega (arith, before, within, even, long)) in
      let more = length-append places (e ∷ []) in
      let inside = led.0.within in
      subst (λ T. T)
      (λ i. IsTightened (places ++ e ∷ []) count (here i) (there i) × IsLed (path ++ a ∷ []) (replaced ++ b ∷ []) n (undone (places ++ e ∷ []) (there i)) (there i).count) (
        record { within = omega (arith, inside, more); few = led.0.few; is = top ∙ led.0.is ∙ ap (λ R. tightened R (get_or path n no_change)) (sym lower) },
        subst (λ p. IsLed (path ++ a ∷ []) (replaced ++ b ∷ []) n p r.count) (sym back) (led-grown a b e n (undone places r) r.count same (long ∙ even) (omega (arith, within)) led.1),
      )

pub trail-bounds : (t : Trail) → IsTrail t → SameBounds (region_of t) (path_of_trail t)
trail-bounds t is = led-bounds t.path.items t.replaced.items t.depth t.region.items t.count is.within is.led

pub trail-narrow : (t : Trail) → IsTrail t → AreNarrow (path_of_trail t) → AreNarrow (region_of t)
trail-narrow t is narrow = led-narrow t.path.items t.replaced.items t.depth t.region.items t.count is.within is.led narrow

pub trail-apart : (t : Trail) → IsTrail t → AreChangesApart (region_of t)
trail-apart t is = led-apart t.path.items t.replaced.items t.depth t.region.items t.count is.led

pub trail-few : (t : Trail) → IsTrail t → t.count ≤ t.depth
trail-few t is = led-few t.path.items t.replaced.items t.depth t.region.items t.count is.led

-- the trail with one more change
pub trail-push : (t : Trail) (c : BoundChange) (r : Replaced) (places : Path) (count : ℕ) → IsTrail t → t.depth < length t.path.items → length places ≡ length t.region.items → undone places r ≡ t.region.items → r.count ≡ t.count →
    r.place ≤ t.count → count ≡ max t.count (r.place + 1) → take count places ≡ tightened (region_of t) c → IsLed (set t.path.items t.depth c) (set t.replaced.items t.depth r) (t.depth + 1) places count
trail-push t c r places count is below same back counted within top tight =
    let few = trail-few t is in
    let even = is.region in
    let up : suc t.depth ≡ t.depth + 1 = omega arith in
    subst (λ n. IsLed (set t.path.items t.depth c) (set t.replaced.items t.depth r) n places count) up
    (led-push t.path.items t.replaced.items t.depth c r places t.region.items count t.count below is.replaced is.led back counted
    (record { within = omega (arith, few, below, even, same, within); few = omega (arith, counted, within, top); is = tight ∙ (λ i. tightened (take (sym counted i) (sym back i)) c) }))

-- the trail with room for one more change
pub trail-grown : (t : Trail) (a : BoundChange) (b : Replaced) (e : BoundChange) (new : Trail) → IsTrail t → new.path.items ≡ t.path.items ++ a ∷ [] → new.replaced.items ≡ t.replaced.items ++ b ∷ [] → new.region.items ≡ t.region.items ++ e ∷ [] →
    new.depth ≡ t.depth → new.count ≡ t.count → IsTrail new
trail-grown t a b e new is path replaced region depth count =
    let longer = ap length path ∙ length-append t.path.items (a ∷ []) in
    let longer_replaced = ap length replaced ∙ length-append t.replaced.items (b ∷ []) in
    let longer_region = ap length region ∙ length-append t.region.items (e ∷ []) in
    let even = is.region in
    let same = is.replaced in
    let within = is.within in
    record {
      region = omega (arith, longer, longer_region, even);
      replaced = omega (arith, longer, longer_replaced, same);
      within = omega (arith, longer, within, depth);
      led =
          subst (λ T. T) (λ i. IsLed (sym path i) (sym replaced i) (sym depth i) (sym region i) (sym count i))
          (led-grown t.path.items t.replaced.items a b e t.depth t.region.items t.count is.replaced is.region is.within is.led);
    }

-- the trail without its last change
module _ (t : Trail) (is : IsTrail t) (some : 0 < t.depth) where
  up : t.depth ≡ suc (t.depth - 1)
  up = omega arith

  below : t.depth - 1 < length t.path.items
  below = let within = is.within in omega (arith, within, some)

  pub trail-back : (last : Replaced) → last ≡ get_or t.replaced.items (t.depth - 1) last → IsLed t.path.items t.replaced.items (t.depth - 1) (undone t.region.items last) last.count
  trail-back last read =
      let even = is.replaced in
      let same : last ≡ get_or t.replaced.items (t.depth - 1) no_replaced = read ∙ get_or_default t.replaced.items (t.depth - 1) last no_replaced (omega (arith, even, below)) in
      subst (λ r. IsLed t.path.items t.replaced.items (t.depth - 1) (undone t.region.items r) r.count) (sym same)
      (subst (λ n. IsLed t.path.items t.replaced.items n t.region.items t.count) up is.led).1

  pub path-back : (change : BoundChange) → change ≡ get_or t.path.items (t.depth - 1) change → path_of_trail t ≡ take (t.depth - 1) t.path.items ++ change ∷ []
  path-back change read =
      ap (λ n. take n t.path.items) up
      ∙ one_more t.path.items t.replaced.items (t.depth - 1) below
      ∙ ap (λ d. take (t.depth - 1) t.path.items ++ d ∷ []) (sym (read ∙ get_or_default t.path.items (t.depth - 1) change no_change below))
