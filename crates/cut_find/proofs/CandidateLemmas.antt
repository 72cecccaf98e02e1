-- Candidates by the entries of a row.
use Rattle.std.specs.Prelude.{◌≡◌, ℕ, zero, suc, ◌+◌, ◌<◌, ◌≤◌, List, [], ◌∷◌, ◌++◌, length, map, take, get_or, All}
use Rattle.std.proofs.Common.{refl, sym, ap, subst, ◌∙◌, inl, inr, arith}
use Rattle.std.proofs.lemmas.List.{take_more, map-append}
use Rattle.std.proofs.lemmas.List.Elements.{All-nil, All-push, All-map}
use Rattle.std.proofs.lemmas.List.Sorted.{All-permutation}
use Rattle.frac128.specs.Rational.{ℚ}
use Rattle.lp_model.specs.Program.{Program, Point}
use Rattle.lp_model.specs.declared.types.Side.{Side}
use Rattle.cover_cuts.specs.Covers.{IsBinary}
use Rattle.cut_find.specs.Greedy.{gap, GapFits, IsLiteralCandidate, HasWideGap, AreCandidates, IsOrder}
use Rattle.cut_find.specs.RowEntries.{AreNone, IsNextEntry}
use Rattle.cut_find.specs.WholeSides.{IsCandidateColumn, AreCandidateColumns}
use Rattle.cut_find.proofs.RowLemmas.{across, side_none, entry_some}

module _ (M : Program) (i : ℕ) (s : Side) (x : Point) where
  pub candidates_across : (from to : ℕ) (cs : List (ℚ × ℕ)) → from ≤ to → AreNone M i from to → AreCandidates M i s x from cs → AreCandidates M i s x to cs
  candidates_across from to cs within none = across (λ n. AreCandidates M i s x n cs) from to within (λ j low below h. inr (λ c. c.coefficient (side_none M i j s (none j low below)), h))

  -- at an entry
  module _ (from to : ℕ) (e : ℕ × ℚ) (next : IsNextEntry M i from to e) where
    candidate : IsBinary M e.0 → IsLiteralCandidate M i s e.0
    candidate binary = record { binary = binary; coefficient = entry_some M i from to e next s }

    module _ (cs : List (ℚ × ℕ)) (before : AreCandidates M i s x from cs) where
      there : AreCandidates M i s x e.0 cs
      there = candidates_across from e.0 cs next.after next.none before

      pub candidates_entry : IsBinary M e.0 → GapFits M i s x e.0 → AreCandidates M i s x (suc e.0) (cs ++ (gap M i s x e.0, e.0) ∷ [])
      candidates_entry binary fits = inl (candidate binary, fits, (cs, (there, refl)))

      pub candidates_other : ¬ IsBinary M e.0 → AreCandidates M i s x (suc e.0) cs
      candidates_other other = inr (λ c. other c.binary, there)

    pub candidates_wide : to ≤ length M.cols → IsBinary M e.0 → ¬ GapFits M i s x e.0 → HasWideGap M i s x
    candidates_wide within binary wide = let w = next.within in (e.0, (omega (arith, w, within), (candidate binary, wide)))

  -- ---- the order

  candidate_columns : (n : ℕ) → n ≤ length M.cols → (cs : List (ℚ × ℕ)) → AreCandidates M i s x n cs → All (λ r. IsCandidateColumn M i s r.1) cs
  candidate_columns zero within cs h = subst (All (λ r. IsCandidateColumn M i s r.1)) (sym h) (All-nil (λ r. IsCandidateColumn M i s r.1))
  candidate_columns (suc n) within cs h =
      elim h [
        | inl more ↦
            let here : IsCandidateColumn M i s n = record { within = omega arith; candidate = more.0 } in
            subst (All (λ r. IsCandidateColumn M i s r.1)) (sym more.2.1.1) (All-push (λ r. IsCandidateColumn M i s r.1) more.2.0 (gap M i s x n, n) (candidate_columns n (omega arith) more.2.0 more.2.1.0) here)
        | inr less ↦ candidate_columns n (omega arith) cs less.1
      ]

  pub order_candidates : (order : List ℕ) → IsOrder M i s x order → AreCandidateColumns M i s order
  order_candidates order o =
      subst (AreCandidateColumns M i s) (sym o.columns)
      (All-map (IsCandidateColumn M i s) (λ r. r.1) o.ranked (All-permutation (λ r. IsCandidateColumn M i s r.1) o.found o.ranked o.permuted (candidate_columns (length M.cols) (omega arith) o.found o.candidates)))

-- ---- the columns of candidates

pub columns_more : (xs : List (ℚ × ℕ)) (k : ℕ) (d : ℚ × ℕ) (ys after : List ℕ) → k < length xs → after ≡ ys ++ (get_or xs k d).1 ∷ [] → ys ≡ map (λ r. r.1) (take k xs) → after ≡ map (λ r. r.1) (take (k + 1) xs)
columns_more xs k d ys after below pushed same =
    pushed ∙ ap (λ zs. zs ++ (get_or xs k d).1 ∷ []) same ∙ sym (ap (map (λ (r : ℚ × ℕ). r.1)) (take_more xs k d below) ∙ map-append (λ (r : ℚ × ℕ). r.1) (take k xs) (get_or xs k d ∷ []))
