-- A column's entries, by rising row.
use Rattle.std.specs.Prelude.{◌≡◌, ℕ, suc, ◌<◌, true, false, nat_eq, List, [], ◌∷◌, length, get_or, drop, ◌+◌, pos}
use Rattle.std.proofs.Common.{refl, sym, ap, subst, ◌∙◌, arith}
use Rattle.std.proofs.lemmas.Bool.{eq-eqb, ne_eqb}
use Rattle.std.proofs.lemmas.List.{drop_more}
use Rattle.frac128.specs.Rational.{ℚ, int}
use Rattle.lp_model.specs.Program.{entry_of}
use Rattle.lp_model.specs.Lawful.{AreEntries}
use Rattle.lp_model.specs.declared.types.RowId.{RowId}

-- entries of later rows say nothing of a row
pub entry_of-later : (from to : ℕ) (es : List (RowId × ℚ)) (i : ℕ) → AreEntries from to es → i < from → entry_of i es ≡ int (pos 0)
entry_of-later from to [] i h below = refl
entry_of-later from to (e ∷ es) i h below =
    let low = h.0 in
    let apart : nat_eq e.0.0 i ≡ false = ne_eqb e.0.0 i (λ same. absurd (omega arith)) in
    let after : i < suc e.0.0 = omega arith in
    rw apart (entry_of-later (suc e.0.0) to es i h.3 after)

-- nor do they where the first of those that are left is later
pub entry_of-passed : (from to : ℕ) (es : List (RowId × ℚ)) (k i : ℕ) (e : RowId × ℚ) → AreEntries from to (drop k es) → k < length es → e ≡ get_or es k e → i < e.0.0 → entry_of i (drop k es) ≡ int (pos 0)
entry_of-passed from to es k i e h within is below =
    let split : drop k es ≡ e ∷ drop (k + 1) es = drop_more es k e within ∙ ap (λ d. d ∷ drop (k + 1) es) (sym is) in
    let all : AreEntries from to (e ∷ drop (k + 1) es) = subst (AreEntries from to) split h in
    let apart : nat_eq e.0.0 i ≡ false = ne_eqb e.0.0 i (λ same. absurd (omega arith)) in
    let after : i < suc e.0.0 = omega arith in
    rw split (rw apart (entry_of-later (suc e.0.0) to (drop (k + 1) es) i all.3 after))

-- the first of those that are left is of an earlier row
pub entry_of-skipped : (from to : ℕ) (es : List (RowId × ℚ)) (k i : ℕ) (e : RowId × ℚ) → AreEntries from to (drop k es) → k < length es → e ≡ get_or es k e → e.0.0 < i
    → (entry_of i (drop k es) ≡ entry_of i (drop (k + 1) es)) × AreEntries (suc e.0.0) to (drop (k + 1) es)
entry_of-skipped from to es k i e h within is below =
    let split : drop k es ≡ e ∷ drop (k + 1) es = drop_more es k e within ∙ ap (λ d. d ∷ drop (k + 1) es) (sym is) in
    let all : AreEntries from to (e ∷ drop (k + 1) es) = subst (AreEntries from to) split h in
    let apart : nat_eq e.0.0 i ≡ false = ne_eqb e.0.0 i (λ same. absurd (omega arith)) in
    (rw split (rw apart refl), all.3)

-- or of this one
pub entry_of-here : (es : List (RowId × ℚ)) (k i : ℕ) (e : RowId × ℚ) → k < length es → e ≡ get_or es k e → e.0.0 ≡ i → entry_of i (drop k es) ≡ e.1
entry_of-here es k i e within is same =
    let split : drop k es ≡ e ∷ drop (k + 1) es = drop_more es k e within ∙ ap (λ d. d ∷ drop (k + 1) es) (sym is) in
    let here : nat_eq e.0.0 i ≡ true = eq-eqb e.0.0 i same in
    rw split (rw here refl)
