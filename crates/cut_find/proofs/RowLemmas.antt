-- The entries of a row, one after the other, and what holds across the columns between them.
use Rattle.std.specs.Prelude.{◌≡◌, ◌≢◌, ℕ, zero, suc, ◌+◌, ◌-◌, ◌<◌, ◌≤◌, List, [], ◌∷◌, ◌++◌, length, get_or, drop, pos}
use Rattle.std.proofs.Common.{sym, ap, subst, ◌∙◌, arith, below_more}
use Rattle.std.proofs.lemmas.List.{drop_more, drop_all}
use Rattle.frac128.specs.Rational.{ℚ, int, neg_ℚ}
use Rattle.frac128.specs.RationalRing.{ring, reads_ℚ}
use Rattle.lp_model.specs.Program.{Program, coefficient}
use Rattle.lp_model.specs.declared.types.Side.{Side}
use Rattle.lp_model.specs.declared.types.Side.TheVariants.{Lo, Hi}
use Rattle.cover_cuts.specs.Covers.{side_coefficient}
use Rattle.cut_find.specs.RowEntries.{AreNone, IsNextEntry, AreEntriesOf}

-- what goes on from each place to the next holds further on
pub across : (P : ℕ → Type 0) (from to : ℕ) → from ≤ to → ((j : ℕ) → from ≤ j → j < to → P j → P (suc j)) → P from → P to
across P from to within step start = let e : (to - from) + from ≡ to = omega arith in subst P e (by (to - from) (omega arith))
  where
    by : (n : ℕ) → n + from ≤ to → P (n + from)
    by zero h = let e : from ≡ 0 + from = omega arith in subst P e start
    by (suc n) h = let e : suc (n + from) ≡ suc n + from = omega arith in subst P e (step (n + from) (omega arith) (omega arith) (by n (omega arith)))

-- ---- the side of a coefficient

zero_is : neg_ℚ (int (pos 0)) ≡ int (pos 0)
zero_is = ring [] (search reads_ℚ) tt

twice : (x : ℚ) → x ≡ neg_ℚ (neg_ℚ x)
twice x = ring (x ∷ []) (search reads_ℚ) tt

module _ (M : Program) (i : ℕ) (j : ℕ) where
  pub side_none : (s : Side) → coefficient M i j ≡ int (pos 0) → side_coefficient M i s j ≡ int (pos 0)
  side_none Hi e = e
  side_none Lo e = ap neg_ℚ e ∙ zero_is

  pub side_some : (s : Side) → coefficient M i j ≢ int (pos 0) → side_coefficient M i s j ≢ int (pos 0)
  side_some Hi some e = some e
  side_some Lo some e = some (twice (coefficient M i j) ∙ ap neg_ℚ e ∙ zero_is)

-- ---- entries

pub entry_some : (M : Program) (i from to : ℕ) (e : ℕ × ℚ) → IsNextEntry M i from to e → (s : Side) → side_coefficient M i s e.0 ≢ int (pos 0)
entry_some M i from to e next s = side_some M i e.0 s (λ z. next.some (next.number ∙ z))

module _ (M : Program) (i : ℕ) where
  -- one more column without a coefficient
  pub none_more : (from to : ℕ) (es : List (ℕ × ℚ)) → coefficient M i to ≡ int (pos 0) → AreEntriesOf M i from to es → AreEntriesOf M i from (suc to) es
  none_more from to [] none h = (let w = h.0 in omega (arith, w), λ j low below. below_more (λ k. from ≤ k → coefficient M i k ≡ int (pos 0)) to (λ k k_below k_low. h.1 k k_low k_below) (λ _. none) j (omega (arith, below)) low)
  none_more from to (e ∷ es) none h =
      let within : e.0 < suc to = let w = h.0.within in omega (arith, w) in
      (record { after = h.0.after; within = within; none = h.0.none; number = h.0.number; some = h.0.some }, none_more (suc e.0) to es none h.1)

  -- one more entry
  pub entry_more : (from to : ℕ) (es : List (ℕ × ℚ)) (q : ℚ) → from ≤ to → q ≡ coefficient M i to → q ≢ int (pos 0) → AreEntriesOf M i from to es → AreEntriesOf M i from (suc to) (es ++ (to, q) ∷ [])
  entry_more from to [] q low is some h = (record { after = low; within = omega arith; none = h.1; number = is; some = some }, (omega arith, λ j a b. absurd (omega (arith, a, b))))
  entry_more from to (e ∷ es) q low is some h =
      let within : e.0 < suc to = let w = h.0.within in omega (arith, w) in
      let next : suc e.0 ≤ to = let w = h.0.within in omega (arith, w) in
      (record { after = h.0.after; within = within; none = h.0.none; number = h.0.number; some = h.0.some }, entry_more (suc e.0) to es q next is some h.1)

  module _ (from to : ℕ) (es : List (ℕ × ℚ)) (k : ℕ) where
    pub entries_end : length es ≤ k → AreEntriesOf M i from to (drop k es) → (from ≤ to) × AreNone M i from to
    entries_end past h = subst (AreEntriesOf M i from to) (drop_all k es past) h

    pub entry_at : (e : ℕ × ℚ) → k < length es → e ≡ get_or es k e → AreEntriesOf M i from to (drop k es) → IsNextEntry M i from to e × AreEntriesOf M i (suc e.0) to (drop (k + 1) es)
    entry_at e below is h = subst (λ (x : ℕ × ℚ). IsNextEntry M i from to x × AreEntriesOf M i (suc x.0) to (drop (k + 1) es)) (sym is) (subst (AreEntriesOf M i from to) (drop_more es k e below) h)
