-- The sums of a side over a denominator, with one column more.
use Rattle.std.specs.Prelude.{◌≡◌, ◌^◌, ℕ, suc, ◌+◌, ◌<◌, ◌≤◌, Bool, true, false, if◌then◌else◌, ℤ, pos, ◌<ℤ◌, ◌+ℤ◌, ◌-ℤ◌, ◌*ℤ◌, unsigned_abs, IsSome, List, [], ◌∷◌, length, Option, Some}
use Rattle.std.specs.Int.{w128}
use Rattle.std.proofs.Common.{FitsSigned, refl, sym, ap, ap₂, subst, ◌∙◌, arith, below_more, to_z, of_z, w64}
use Rattle.std.proofs.lemmas.Int.{ints}
use Rattle.frac128.specs.Rational.{ℚ, int, ◌<ℚ◌}
use Rattle.frac128.specs.IntegerRing.{ring_ℤ, reads_ℤ}
use Rattle.frac128.specs.RationalOrder.{<ℚ_irrefl}
use Rattle.frac128.specs.LowestTerms.{quotient_of}
use Rattle.checked_sum.proofs.StepLaws.{skip_number, partial_none, partial_next, fits_next}
use Rattle.lp_model.specs.Program.{Program, lower, upper}
use Rattle.lp_model.specs.Sides.{needed_side, side_number}
use Rattle.lp_model.specs.declared.types.Side.{Side}
use Rattle.lp_model.proofs.SideLemmas.{needed-zero}
use Rattle.cover_cuts.specs.Covers.{side_coefficient}
use Rattle.whole_sums.specs.Wholes.{IsShort, HasMargin, IsDenominator, IsWholeTerm}
use Rattle.whole_sums.proofs.ReadLemmas.{short_read, room_read}
use Rattle.whole_sums.proofs.SumLemmas.{total_more, fits_more_over, zero_over}
use Rattle.cut_find.specs.declared.whole_side.Sums.{Sums}
use Rattle.cut_find.specs.Greedy.{is_plus, is_in}
use Rattle.cut_find.specs.RowEntries.{AreNone}
use Rattle.cut_find.specs.private.WholeSides.{contributions, IsSumWithin, AreSumsTo}
use Rattle.cut_find.proofs.RowLemmas.{across, side_none}
use Rattle.cut_find.proofs.CoverLemmas.{number_in, number_out}
use Rattle.cut_find.proofs.SumLemmas.{turned_term}

-- a total with the size of a short number, as 128 bits are read
size_has_room : (n : ℕ) → n < 2 ^ 62 → HasMargin (pos n)
size_has_room n h = omega (arith, ints, h)

larger_within : (t : ℤ) (n : ℕ) → HasMargin t → n < 2 ^ 62 → FitsSigned w128 (t +ℤ pos n)
larger_within t n h k = omega (arith, ints, h, k)

larger_is : (t : ℤ) (n : ℕ) → HasMargin t → n < 2 ^ 62 → to_z w128 (of_z w128 (t +ℤ pos n)) ≡ t +ℤ pos n
larger_is t n h k = omega (arith, ints, h, k)

module _ (t w s : ℤ) (room : HasMargin t) (h : IsShort w) (is : s ≡ pos (unsigned_abs (to_z w64 (of_z w64 w)))) where
  larger_parts : to_z w128 (of_z w128 t) +ℤ to_z w128 (of_z w128 s) ≡ t +ℤ pos (unsigned_abs w)
  larger_parts =
      ap₂ ◌+ℤ◌ (room_read t room)
      (ap (λ x. to_z w128 (of_z w128 x)) (is ∙ ap (λ x. pos (unsigned_abs x)) (short_read w h)) ∙ room_read (pos (unsigned_abs w)) (size_has_room (unsigned_abs w) h))

  pub larger_fits : FitsSigned w128 (to_z w128 (of_z w128 t) +ℤ to_z w128 (of_z w128 s))
  larger_fits = subst (FitsSigned w128) (sym larger_parts) (larger_within t (unsigned_abs w) room h)

  pub larger_read : to_z w128 (of_z w128 (to_z w128 (of_z w128 t) +ℤ to_z w128 (of_z w128 s))) ≡ t +ℤ pos (unsigned_abs w)
  larger_read = ap (λ x. to_z w128 (of_z w128 x)) larger_parts ∙ larger_is t (unsigned_abs w) room h

-- what is left above a limit has room
pub less_room : (left weight limit : ℤ) → HasMargin left → IsShort limit → limit <ℤ (left -ℤ pos (unsigned_abs weight)) → HasMargin (left -ℤ pos (unsigned_abs weight))
less_room left weight limit room short less = omega (arith, ints, room, short, less)

needed_none : (y : ℚ) (lo up : Option ℚ) → y ≡ int (pos 0) → IsSome (needed_side y lo up)
needed_none y lo up e = subst IsSome (needed-zero y lo up (λ h. <ℚ_irrefl (subst (λ q. int (pos 0) <ℚ q) e h)) (λ h. <ℚ_irrefl (subst (λ q. q <ℚ int (pos 0)) e h))) refl

module _ (M : Program) (i : ℕ) (s : Side) (d : ℤ) where
  abbrev sc : ℕ → ℚ
  sc k = side_coefficient M i s k

  abbrev start : ℚ
  start = int (pos 0)

  abbrev bound_at : ℕ → Option ℚ
  bound_at j = needed_side (sc j) (lower M j) (upper M j)

  -- no columns
  pub sums_begin : pos 0 <ℤ d → AreSumsTo M i s d 0 (record { base = pos 0; size = 0 })
  sums_begin positive = record {
    bounds = λ j below. absurd (omega (arith, below));
    base = zero_over d positive ∙ partial_none start (contributions M i s []) sc;
    base_within = omega arith;
    all = λ js. record { total = pos 0; within = omega arith; value = zero_over d positive ∙ partial_none start (contributions M i s js) sc; fits = λ k below. absurd (omega (arith, below)) };
    room = omega arith;
  }

  -- a column without a coefficient
  module _ (j : ℕ) (sums : Sums) (before : AreSumsTo M i s d j sums) (none : sc j ≡ int (pos 0)) where
    skipped : AreSumsTo M i s d (j + 1) sums
    skipped = record {
      bounds = below_more (λ k. IsSome (bound_at k)) j before.bounds (needed_none (sc j) (lower M j) (upper M j) none);
      base = partial_next start (contributions M i s []) sc j (quotient_of sums.base d) before.base (quotient_of sums.base d) (skip_number (quotient_of sums.base d) (contributions M i s [] j) (sc j) none).1;
      base_within = before.base_within;
      all = λ js. let b = before.all js in let q = quotient_of b.total d in let skip = skip_number q (contributions M i s js j) (sc j) none in
          record { total = b.total; within = b.within; value = partial_next start (contributions M i s js) sc j q b.value q skip.1; fits = fits_next start (contributions M i s js) sc j q b.value b.fits skip.0 };
      room = before.room;
    }

    pub sums_skip : AreSumsTo M i s d (suc j) sums
    sums_skip = let e : j + 1 ≡ suc j = omega arith in subst (λ n. AreSumsTo M i s d n sums) e skipped

  pub sums_across : (from to : ℕ) (sums : Sums) → from ≤ to → AreNone M i from to → AreSumsTo M i s d from sums → AreSumsTo M i s d to sums
  sums_across from to sums within none = across (λ n. AreSumsTo M i s d n sums) from to within (λ j low below h. sums_skip j sums h (side_none M i j s (none j low below)))

  -- a column with a coefficient
  module _ (is : IsDenominator d) (j : ℕ) (within : j < length M.cols) (sums next : Sums) (before : AreSumsTo M i s d j sums) (w f : ℤ) (w_short : IsShort w) (f_short : IsShort f) (w_is : sc j ≡ quotient_of w d) (bound : bound_at j ≡ Some (int f))
      (base_is : next.base ≡ sums.base +ℤ w *ℤ f) (size_is : next.size ≡ sums.size + unsigned_abs (w *ℤ f) + unsigned_abs w) (room : next.size ≤ 2 ^ 126) where
    one_more : (js : List ℕ) (g : ℤ) → IsShort g → contributions M i s js j ≡ int g → unsigned_abs (w *ℤ g) ≤ unsigned_abs (w *ℤ f) + unsigned_abs w → IsSumWithin M i s d js (j + 1) next.size
    one_more js g g_short g_is small =
        let b = before.all js in
        let in_size = b.within in
        let old_room = before.room in
        let term : IsWholeTerm d (contributions M i s js j) (sc j) w g = turned_term (contributions M i s js j) (sc j) w g d is.positive w_short g_short w_is g_is in
        let total_room : HasMargin b.total = omega (arith, in_size, old_room) in
        let grown : unsigned_abs (b.total +ℤ w *ℤ g) ≤ next.size = omega (arith, ints, in_size, small, size_is) in
        let next_room : HasMargin (b.total +ℤ w *ℤ g) = omega (arith, grown, room) in
        record {
          total = b.total +ℤ w *ℤ g;
          within = grown;
          value = total_more start (contributions M i s js) sc j d b.total is total_room w g term (b.total +ℤ w *ℤ g) refl next_room b.value;
          fits = fits_more_over start (contributions M i s js) sc j d b.total is total_room w g term (b.total +ℤ w *ℤ g) refl next_room b.value b.fits;
        }

    without : (js : List ℕ) → is_in js j ≡ false → contributions M i s js j ≡ int f
    without js out = number_out M i s js j out ∙ ap side_number bound

    by_one : (w : ℤ) → w *ℤ pos 1 ≡ w
    by_one w = ring_ℤ (w ∷ []) (search reads_ℤ) (search reads_ℤ) tt

    by_none : (w : ℤ) → w *ℤ pos 0 ≡ pos 0
    by_none w = ring_ℤ (w ∷ []) (search reads_ℤ) (search reads_ℤ) tt

    of_list : (js : List ℕ) → IsSumWithin M i s d js (j + 1) next.size
    of_list js = by (is_in js j) refl
      where
        literal : (b : Bool) → is_plus M i s j ≡ b → contributions M i s js j ≡ (if is_plus M i s j then int (pos 1) else int (pos 0)) → IsSumWithin M i s d js (j + 1) next.size
        literal true e h = let one = ap unsigned_abs (by_one w) in one_more js (pos 1) (omega arith) (h ∙ ap (λ b. if b then int (pos 1) else int (pos 0)) e) (omega (arith, one))
        literal false e h = let none = ap unsigned_abs (by_none w) in one_more js (pos 0) (omega arith) (h ∙ ap (λ b. if b then int (pos 1) else int (pos 0)) e) (omega (arith, none))

        by : (b : Bool) → is_in js j ≡ b → IsSumWithin M i s d js (j + 1) next.size
        by true here = literal (is_plus M i s j) refl (number_in M i s js j within here)
        by false out = one_more js f f_short (without js out) (omega arith)

    extended : AreSumsTo M i s d (j + 1) next
    extended =
        let base_within = before.base_within in
        let old_room = before.room in
        let term : IsWholeTerm d (contributions M i s [] j) (sc j) w f = turned_term (contributions M i s [] j) (sc j) w f d is.positive w_short f_short w_is (without [] refl) in
        let total_room : HasMargin sums.base = omega (arith, base_within, old_room) in
        let grown : unsigned_abs next.base ≤ next.size = omega (arith, ints, base_within, base_is, size_is) in
        record {
          bounds = below_more (λ k. IsSome (bound_at k)) j before.bounds (subst IsSome (sym bound) refl);
          base = total_more start (contributions M i s []) sc j d sums.base is total_room w f term next.base base_is (omega (arith, grown, room)) before.base;
          base_within = grown;
          all = of_list;
          room = room;
        }

    pub sums_more : AreSumsTo M i s d (suc j) next
    sums_more = let e : j + 1 ≡ suc j = omega arith in subst (λ n. AreSumsTo M i s d n next) e extended
