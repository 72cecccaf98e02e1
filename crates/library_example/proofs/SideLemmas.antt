-- What a bound at another side asks of one row: that it is there, with one side or two equal ones.
use Rattle.std.proofs.Common.{◌≡◌, ◌<◌, [], ◌∷◌, length, get_or, sym, subst, arith, None}
use Rattle.std.proofs.lemmas.List.Elements.{All-nil, All-cons}
use Rattle.frac128.specs.Rational.{ℚ}
use Rattle.lp_model.specs.Program.{Program, low_side, high_side}
use Rattle.lp_model.specs.declared.types.Row.{Row}
use Rattle.lp_model.specs.declared.types.RowId.{RowId}
use Rattle.lp_model.proofs.ElementLemmas.{of_element-get}
use Rattle.dual_bounds.specs.NewNumbers.{HasEqualSides, AreNewSides}

pub one-row : (M : Program) (place : RowId) (v : ℚ) (r : Row) → place.0 < length M.rows → r ≡ get_or M.rows place.0 r → HasEqualSides r.lo r.hi → AreNewSides M ((place, v) ∷ [])
one-row M place v r below is equal =
    let lo : low_side M place.0 ≡ r.lo = of_element-get None (λ (s : Row). s.lo) M.rows place.0 r below is in
    let hi : high_side M place.0 ≡ r.hi = of_element-get None (λ (s : Row). s.hi) M.rows place.0 r below is in
    record {
      named = record {
        there = All-cons (λ k. k < length M.rows) place.0 [] below (All-nil (λ k. k < length M.rows));
        once = λ i j d early late e. let one : j < 1 = late in absurd (omega arith);
      };
      equal = All-cons (λ (e : RowId × ℚ). HasEqualSides (low_side M e.0.0) (high_side M e.0.0)) (place, v) []
          (subst (λ l. HasEqualSides l (high_side M place.0)) (sym lo) (subst (λ h. HasEqualSides r.lo h) (sym hi) equal))
          (All-nil (λ (e : RowId × ℚ). HasEqualSides (low_side M e.0.0) (high_side M e.0.0)));
    }
