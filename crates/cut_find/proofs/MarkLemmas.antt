-- Marks and totals, with one column more or less.
use Rattle.std.specs.Prelude.{◌≡◌, ◌≢◌, ℕ, zero, suc, ◌<◌, ◌≤◌, ◌⊎◌, true, false, not, nat_eq, ℤ, pos, negsuc, ◌+ℤ◌, ◌-ℤ◌, ◌<ℤ◌, unsigned_abs, List, [], ◌∷◌, ◌++◌, length, set}
use Rattle.std.proofs.Common.{refl, sym, ap, subst, ◌∙◌, inl, inr, arith}
use Rattle.std.proofs.lemmas.Bool.{cases_order}
use Rattle.std.proofs.lemmas.Int.{ints}
use Rattle.std.proofs.lemmas.List.{get_or-set_same, get_or-set_other}
use Rattle.std.proofs.lemmas.List.Elements.{All-push, All-filter}
use Rattle.frac128.specs.Rational.{ℚ, int, ◌+ℚ◌, neg_ℚ, ◌<ℚ◌}
use Rattle.frac128.specs.RationalRing.{ring, reads_ℚ}
use Rattle.frac128.specs.LowestTerms.{quotient_of}
use Rattle.frac128.proofs.Terms.{quotient-neg_ℚ}
use Rattle.lp_model.specs.Program.{Program}
use Rattle.lp_model.specs.declared.types.Side.{Side}
use Rattle.cover_cuts.specs.Covers.{side_coefficient}
use Rattle.whole_sums.specs.Wholes.{IsShort, HasMargin}
use Rattle.whole_sums.proofs.SumLemmas.{nothing_over, positive_over, negative_over, sum_is}
use Rattle.cut_find.specs.declared.whole_side.Mark.{Mark}
use Rattle.cut_find.specs.declared.whole_side.WholeSide.{WholeSide}
use Rattle.cut_find.specs.Greedy.{is_in, places_without}
use Rattle.cut_find.specs.RowEntries.{AreNone, IsNextEntry}
use Rattle.cut_find.specs.WholeSides.{IsCandidateColumn, AreCandidateColumns, IsMarkOf, mark_at, AreMarksTo, AreMarksOf, cover_sum}
use Rattle.cut_find.specs.private.WholeSides.{IsWholeCover}
use Rattle.cut_find.proofs.CoverLemmas.{in_pushed, in_other, without_same, without_other, changed_up, changed_down}
use Rattle.cut_find.proofs.RowLemmas.{side_none}

-- ---- the total

module _ (M : Program) (i : ℕ) (s : Side) (d : ℤ) (positive : pos 0 <ℤ d) (j : ℕ) (cand : IsCandidateColumn M i s j) (w : ℤ) (w_is : side_coefficient M i s j ≡ quotient_of w d)
    (ks js : List ℕ) (out : is_in ks j ≡ false) (here : is_in js j ≡ true) (same : (k : ℕ) → k ≢ j → is_in ks k ≡ is_in js k) where
  abbrev size : ℤ
  size = pos (unsigned_abs w)

  changed_by : cover_sum M i s js ≡ cover_sum M i s ks +ℚ quotient_of size d
  changed_by = by w w_is
    where
      by : (v : ℤ) → side_coefficient M i s j ≡ quotient_of v d → cover_sum M i s js ≡ cover_sum M i s ks +ℚ quotient_of (pos (unsigned_abs v)) d
      by (pos zero) e = absurd (cand.candidate.coefficient (e ∙ nothing_over (pos zero) d positive refl))
      by (pos (suc n)) e =
          changed_up M i s j cand.within cand.candidate.binary ks js out here same (subst (λ q. int (pos 0) <ℚ q) (sym e) (positive_over (pos (suc n)) d positive (omega (arith, ints)))) ∙ ap (λ q. cover_sum M i s ks +ℚ q) e
      by (negsuc n) e =
          let turned : pos 0 -ℤ negsuc n ≡ pos (suc n) = omega (arith, ints) in
          changed_down M i s j cand.within cand.candidate.binary ks js out here same (subst (λ q. q <ℚ int (pos 0)) (sym e) (negative_over (negsuc n) d positive (omega (arith, ints))))
          ∙ ap (λ q. cover_sum M i s ks +ℚ q) (ap neg_ℚ e ∙ sym (quotient-neg_ℚ (negsuc n) d) ∙ ap (λ m. quotient_of m d) turned)

  module _ (total next : ℤ) where
    added : cover_sum M i s ks ≡ quotient_of total d → next ≡ total +ℤ size → cover_sum M i s js ≡ quotient_of next d
    added sum next_is = changed_by ∙ ap (λ q. q +ℚ quotient_of size d) sum ∙ sum_is total size d ∙ ap (λ m. quotient_of m d) (sym next_is)

    removed : cover_sum M i s js ≡ quotient_of total d → next ≡ total -ℤ size → cover_sum M i s ks ≡ quotient_of next d
    removed sum next_is =
        let turned : total +ℤ (pos 0 -ℤ size) ≡ next = omega (arith, ints, next_is) in
        back (cover_sum M i s ks) (quotient_of size d) ∙ (λ t. sym changed_by t +ℚ sym (quotient-neg_ℚ size d) t) ∙ ap (λ q. q +ℚ quotient_of (pos 0 -ℤ size) d) sum ∙ sum_is total (pos 0 -ℤ size) d
        ∙ ap (λ m. quotient_of m d) turned
      where
        back : (a b : ℚ) → a ≡ (a +ℚ b) +ℚ neg_ℚ b
        back a b = ring (a ∷ b ∷ []) (search reads_ℚ) tt

-- ---- the marks

module _ (M : Program) (i : ℕ) (s : Side) (d : ℤ) where
  -- one is written anew where the lists differ
  pub marked_at : (ks js : List ℕ) (j : ℕ) (old new : List Mark) (mark next : Mark) → j < length old → ((k : ℕ) → k ≢ j → is_in ks k ≡ is_in js k) → IsMarkOf M i s d ks j mark → next.weight ≡ mark.weight → next.taken ≡ is_in js j → new ≡ set old j next
      → AreMarksOf M i s d ks old → AreMarksOf M i s d js new
  marked_at ks js j old new mark next within same mark_is weight taken new_is before k below some = subst (λ ms. IsMarkOf M i s d js k (mark_at ms k)) (sym new_is) (by (cases_order k j))
    where
      d₀ : Mark
      d₀ = record { weight = pos 0; taken = false }

      by : (k ≡ j) ⊎ ((k < j) ⊎ (j < k)) → IsMarkOf M i s d js k (mark_at (set old j next) k)
      by (inl e) =
          subst (λ n. IsMarkOf M i s d js n (mark_at (set old j next) n)) (sym e)
          (subst (IsMarkOf M i s d js j) (sym (get_or-set_same old j next d₀ within))
          (record { short = subst IsShort (sym weight) mark_is.short; weight = mark_is.weight ∙ ap (λ m. quotient_of m d) (sym weight); taken = taken }))
      by (inr apart) =
          let other : k ≢ j = λ e. elim apart [ inl h ↦ omega (arith, h, e) | inr h ↦ omega (arith, h, e) ] in
          subst (IsMarkOf M i s d js k) (sym (get_or-set_other old j k next d₀ other))
          (let m = before k below some in record { short = m.short; weight = m.weight; taken = m.taken ∙ same k other })

-- ---- without a column

pub without_candidates : (M : Program) (i : ℕ) (s : Side) (js : List ℕ) (j : ℕ) → AreCandidateColumns M i s js → AreCandidateColumns M i s (places_without j js)
without_candidates M i s js j cand = All-filter (λ k. not (nat_eq k j)) (IsCandidateColumn M i s) js cand

module _ (M : Program) (i : ℕ) (s : Side) (side : WholeSide) (positive : pos 0 <ℤ side.denominator) (js : List ℕ) (j : ℕ) (total next_total : ℤ) (old : List Mark) (mark : Mark) (cand : IsCandidateColumn M i s j) (mark_is : mark ≡ mark_at old j) (cover : IsWholeCover M i s side js total old) where
  pub without_sum : mark.taken ≡ true → next_total ≡ total -ℤ pos (unsigned_abs mark.weight) → cover_sum M i s (places_without j js) ≡ quotient_of next_total side.denominator
  without_sum was is =
      let there : IsMarkOf M i s side.denominator js j mark = subst (IsMarkOf M i s side.denominator js j) (sym mark_is) (cover.marked j cand.within cand.candidate.coefficient) in
      removed M i s side.denominator positive j cand mark.weight there.weight (places_without j js) js (without_same j js) (sym there.taken ∙ was) (λ k apart. without_other j k js apart) total next_total cover.sum is

-- ---- both

module _ (M : Program) (i : ℕ) (s : Side) (side : WholeSide) (positive : pos 0 <ℤ side.denominator) (js : List ℕ) (j : ℕ) (total next_total : ℤ) (old new : List Mark) (mark next : Mark) (long : length old ≡ length M.cols)
    (cand : IsCandidateColumn M i s j) (mark_is : mark ≡ mark_at old j) (cover : IsWholeCover M i s side js total old) (weight : next.weight ≡ mark.weight) (new_is : new ≡ set old j next) (room : HasMargin next_total) where
  abbrev d : ℤ
  d = side.denominator

  here_mark : IsMarkOf M i s d js j mark
  here_mark = subst (IsMarkOf M i s d js j) (sym mark_is) (cover.marked j cand.within cand.candidate.coefficient)

  within : j < length old
  within = let w = cand.within in omega (arith, w, long)

  pub cover_pushed : mark.taken ≡ false → next.taken ≡ true → next_total ≡ total +ℤ pos (unsigned_abs mark.weight) → IsWholeCover M i s side (js ++ j ∷ []) next_total new
  cover_pushed was now is =
      let same : (k : ℕ) → k ≢ j → is_in js k ≡ is_in (js ++ j ∷ []) k = λ k apart. sym (in_other js j k apart) in
      let out : is_in js j ≡ false = sym here_mark.taken ∙ was in
      record {
        sum = added M i s d positive j cand mark.weight here_mark.weight js (js ++ j ∷ []) out (in_pushed js j) same total next_total cover.sum is;
        room = room;
        marked = marked_at M i s d js (js ++ j ∷ []) j old new mark next within same here_mark weight (now ∙ sym (in_pushed js j)) new_is cover.marked;
        candidates = All-push (IsCandidateColumn M i s) js j cover.candidates cand;
      }

  pub cover_without : mark.taken ≡ true → next.taken ≡ false → next_total ≡ total -ℤ pos (unsigned_abs mark.weight) → IsWholeCover M i s side (places_without j js) next_total new
  cover_without was now is =
      let rest = places_without j js in
      let same : (k : ℕ) → k ≢ j → is_in rest k ≡ is_in js k = λ k apart. without_other j k js apart in
      record {
        sum = without_sum M i s side positive js j total next_total old mark cand mark_is cover was is;
        room = room;
        marked = marked_at M i s d js rest j old new mark next within (λ k apart. sym (same k apart)) here_mark weight (now ∙ sym (without_same j js)) new_is cover.marked;
        candidates = without_candidates M i s js j cover.candidates;
      }

-- ---- marks written one after the other

module _ (M : Program) (i : ℕ) (s : Side) (d : ℤ) (from : ℕ) (marks : List Mark) (before : AreMarksTo M i s d [] from marks) where
  beyond : (to : ℕ) → AreNone M i from to → (k : ℕ) → k < to → side_coefficient M i s k ≢ int (pos 0) → k < from
  beyond to none k below some = elim (cases_order k from) [
    | inl e ↦ absurd (some (side_none M i k s (none k (omega (arith, e)) below)))
    | inr apart ↦ elim apart [ inl less ↦ less | inr more ↦ absurd (some (side_none M i k s (none k (omega (arith, more)) below))) ]
  ]

  pub marks_across : (to : ℕ) → AreNone M i from to → AreMarksTo M i s d [] to marks
  marks_across to none k below some = before k (beyond to none k below some) some

  pub marks_more : (to : ℕ) (e : ℕ × ℚ) (next : IsNextEntry M i from to e) (mark : Mark) (new : List Mark) → to ≤ length marks → IsShort mark.weight → side_coefficient M i s e.0 ≡ quotient_of mark.weight d → mark.taken ≡ false → new ≡ set marks e.0 mark
      → AreMarksTo M i s d [] (suc e.0) new
  marks_more to e next mark new long short weight taken new_is k below some = subst (λ ms. IsMarkOf M i s d [] k (mark_at ms k)) (sym new_is) (by (cases_order k e.0))
    where
      d₀ : Mark
      d₀ = record { weight = pos 0; taken = false }

      within : e.0 < length marks
      within = let w = next.within in omega (arith, w, long)

      by : (k ≡ e.0) ⊎ ((k < e.0) ⊎ (e.0 < k)) → IsMarkOf M i s d [] k (mark_at (set marks e.0 mark) k)
      by (inl q) =
          subst (λ n. IsMarkOf M i s d [] n (mark_at (set marks e.0 mark) n)) (sym q)
          (subst (IsMarkOf M i s d [] e.0) (sym (get_or-set_same marks e.0 mark d₀ within)) (record { short = short; weight = weight; taken = taken }))
      by (inr apart) = elim apart [
        | inl less ↦ subst (IsMarkOf M i s d [] k) (sym (get_or-set_other marks e.0 k mark d₀ (λ q. omega (arith, q, less)))) (before k (beyond e.0 next.none k less some) some)
        | inr more ↦ absurd (omega (arith, more, below))
      ]
