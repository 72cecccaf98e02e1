-- Taking and dropping by totals over the denominator.
use Rattle.std.specs.Prelude.{◌≡◌, ℕ, ◌+◌, ◌<◌, ◌≤◌, true, false, ℤ, pos, ◌+ℤ◌, ◌-ℤ◌, ◌<ℤ◌, unsigned_abs, List, [], length, get_or, set, take, drop, Option, Some, None, Ok}
use Rattle.std.proofs.Common.{refl, sym, subst, arith}
use Rattle.std.proofs.lemmas.List.{take_more}
use Rattle.std.proofs.lemmas.List.Elements.{All-nil, All-get_or}
use Rattle.frac128.specs.LowestTerms.{quotient_of}
use Rattle.lp_model.specs.Program.{Program}
use Rattle.lp_model.specs.declared.types.Side.{Side}
use Rattle.whole_sums.specs.Wholes.{HasMargin}
use Rattle.cut_find.specs.declared.whole_side.Mark.{Mark}
use Rattle.cut_find.specs.declared.whole_side.WholeSide.{WholeSide}
use Rattle.cut_find.specs.Greedy.{TakesGreedily, places_without, Drops}
use Rattle.cut_find.specs.WholeSides.{IsCandidateColumn, AreCandidateColumns, mark_at, AreMarksOf, cover_sum, IsWholeSide}
use Rattle.cut_find.specs.private.WholeSides.{IsWholeCover, IsTaken, IsDropped}
use Rattle.cut_find.proofs.GreedyLemmas.{takes-step, takes-end, drops-step, drops-end}
use Rattle.cut_find.proofs.JudgeLemmas.{judged_true, judged_false}
use Rattle.cut_find.proofs.MarkLemmas.{without_candidates, without_sum, cover_pushed, cover_without}

module _ (M : Program) (i : ℕ) (s : Side) (side : WholeSide) (whole : IsWholeSide M i s side) where
  module _ (order : List ℕ) (k : ℕ) (total : ℤ) (marks : List Mark) (cover : IsWholeCover M i s side (take k order) total marks) (back : (o : Option (List ℕ)) → TakesGreedily M i s (take k order) (drop k order) o → TakesGreedily M i s [] order o) where
    abbrev taken : List ℕ
    taken = take k order

    pub taken_here : k < length order → side.limit <ℤ total → IsTaken M i s side order marks k total
    taken_here below less = record {
      within = omega (arith, below);
      takes = back (Some taken) (takes-step M i s order k (Ok true) (Some taken) taken (judged_true M i s side whole taken cover.candidates total cover.sum less) below refl);
      cover = cover;
    }

    pub taken_end : k ≡ length order → side.limit <ℤ total → IsTaken M i s side order marks k total
    taken_end end less = record {
      within = omega (arith, end);
      takes = back (Some taken) (takes-end M i s order k (Ok true) (Some taken) taken (judged_true M i s side whole taken cover.candidates total cover.sum less) (omega (arith, end)) refl);
      cover = cover;
    }

    pub never_end : length order ≤ k → ¬ (side.limit <ℤ total) → TakesGreedily M i s [] order None
    never_end past met = back None (takes-end M i s order k (Ok false) None taken (judged_false M i s side whole taken cover.candidates total cover.sum met) past refl)

    pub back_more : k < length order → ¬ (side.limit <ℤ total) → (o : Option (List ℕ)) → TakesGreedily M i s (take (k + 1) order) (drop (k + 1) order) o → TakesGreedily M i s [] order o
    back_more below met o h =
        back o (takes-step M i s order k (Ok false) o taken (judged_false M i s side whole taken cover.candidates total cover.sum met) below
        (subst (λ t. TakesGreedily M i s t (drop (k + 1) order) o) (take_more order k 0 below) h))

  module _ (order : List ℕ) (kept : List ℕ) (k : ℕ) (below : k < length order) (total : ℤ) (sum : cover_sum M i s (places_without (get_or order k 0) kept) ≡ quotient_of total side.denominator) (cand : AreCandidateColumns M i s (places_without (get_or order k 0) kept))
      (back : (o : Option (List ℕ)) → Drops M i s kept (drop k order) o → Drops M i s order order o) where
    abbrev rest : List ℕ
    rest = places_without (get_or order k 0) kept

    pub dropped : side.limit <ℤ total → (o : Option (List ℕ)) → Drops M i s rest (drop (k + 1) order) o → Drops M i s order order o
    dropped less o h = back o (drops-step M i s order k (Ok true) o kept below (judged_true M i s side whole rest cand total sum less) h)

    pub stays : ¬ (side.limit <ℤ total) → (o : Option (List ℕ)) → Drops M i s kept (drop (k + 1) order) o → Drops M i s order order o
    stays met o h = back o (drops-step M i s order k (Ok false) o kept below (judged_false M i s side whole rest cand total sum met) h)

  module _ (order : List ℕ) (all : AreCandidateColumns M i s order) (kept : List ℕ) (k : ℕ) (below : k < length order) (left rest : ℤ) (old : List Mark) (cover : IsWholeCover M i s side kept left old) (was : (mark_at old (get_or order k 0)).taken ≡ true)
      (is : rest ≡ left -ℤ pos (unsigned_abs (mark_at old (get_or order k 0)).weight)) (back : (o : Option (List ℕ)) → Drops M i s kept (drop k order) o → Drops M i s order order o) where
    abbrev gone : ℕ
    gone = get_or order k 0

    abbrev others : List ℕ
    others = places_without gone kept

    gone_candidate : IsCandidateColumn M i s gone
    gone_candidate = All-get_or (IsCandidateColumn M i s) order k 0 below all

    others_sum : cover_sum M i s others ≡ quotient_of rest side.denominator
    others_sum = without_sum M i s side whole.denominator.positive kept gone left rest old (mark_at old gone) gone_candidate refl cover was is

    others_candidates : AreCandidateColumns M i s others
    others_candidates = without_candidates M i s kept gone cover.candidates

    pub cover_less : (new : List Mark) (next : Mark) → length old ≡ length M.cols → next.weight ≡ (mark_at old gone).weight → new ≡ set old gone next → next.taken ≡ false → HasMargin rest → IsWholeCover M i s side others rest new
    cover_less new next long weight new_is now room =
        cover_without M i s side whole.denominator.positive kept gone left rest old new (mark_at old gone) next long gone_candidate refl cover weight new_is room was now is

    pub back_dropped : side.limit <ℤ rest → (o : Option (List ℕ)) → Drops M i s others (drop (k + 1) order) o → Drops M i s order order o
    back_dropped less = dropped order kept k below rest others_sum others_candidates back less

    pub back_stays : ¬ (side.limit <ℤ rest) → (o : Option (List ℕ)) → Drops M i s kept (drop (k + 1) order) o → Drops M i s order order o
    back_stays met = stays order kept k below rest others_sum others_candidates back met

  pub dropped_end : (order kept : List ℕ) (k : ℕ) (total : ℤ) (marks : List Mark) → length order ≤ k → IsWholeCover M i s side kept total marks → ((o : Option (List ℕ)) → Drops M i s kept (drop k order) o → Drops M i s order order o) → IsDropped M i s side order marks
  dropped_end order kept k total marks past cover back = record { kept = kept; drops = back (Some kept) (drops-end M i s order kept k past); total = total; cover = cover }

  -- ---- the first columns of an order

  pub cover_begin : (marks : List Mark) → AreMarksOf M i s side.denominator [] marks → IsWholeCover M i s side [] side.base marks
  cover_begin marks marked = record { sum = whole.base; room = whole.room; marked = marked; candidates = All-nil (IsCandidateColumn M i s) }

  module _ (order : List ℕ) (all : AreCandidateColumns M i s order) (k : ℕ) (below : k < length order) (total next_total : ℤ) (old new : List Mark) (next : Mark) (long : length old ≡ length M.cols) (cover : IsWholeCover M i s side (take k order) total old) where
    abbrev at : ℕ
    at = get_or order k 0

    pub candidate_at : IsCandidateColumn M i s at
    candidate_at = All-get_or (IsCandidateColumn M i s) order k 0 below all

    pub cover_more : next.weight ≡ (mark_at old at).weight → new ≡ set old at next → HasMargin next_total → (mark_at old at).taken ≡ false → next.taken ≡ true → next_total ≡ total +ℤ pos (unsigned_abs (mark_at old at).weight) → IsWholeCover M i s side (take (k + 1) order) next_total new
    cover_more weight new_is room was now is =
        subst (λ js. IsWholeCover M i s side js next_total new) (sym (take_more order k 0 below))
        (cover_pushed M i s side whole.denominator.positive (take k order) at total next_total old new (mark_at old at) next long candidate_at refl cover weight new_is room was now is)
