use Rattle.std.specs.Prelude.{◌≡◌, pos, [], ◌∷◌}
use Rattle.std.proofs.Common.{sym, ap, subst, ◌∙◌, arith}
use Rattle.std.proofs.lemmas.Result.{IfOk-weaker}
use Rattle.frac128.specs.Rational.{ℚ, int, ◌*ℚ◌}
use Rattle.frac128.specs.RationalRing.{ring, reads_ℚ}
use Rattle.frac128.specs.Range.{Fits}
use Rattle.frac128.proofs.Whole.{Fits-zero}
use Rattle.lp_model.specs.Program.{Program}
use Rattle.inner_models.specs.Inner.{gap_model}
use Rattle.gap_models.specs.Gaps.{IsGapOf, FitsGap}
use Rattle.command_files.proofs.inner.inner_model.Goals as goal

nothing : (x : ℚ) → Fits (int (pos 0) *ℚ x)
nothing x = let none : int (pos 0) *ℚ x ≡ int (pos 0) = ring (x ∷ []) (search reads_ℚ) tt in subst Fits (sym none) Fits-zero

none_wide : (N : Program) → FitsGap N (pos 0) (pos 0) (pos 0) (pos 0)
none_wide N = record {
  width = record { first = omega arith; second = omega arith; width = omega arith };
  columns = λ i c within. record { first = nothing _; second = nothing _ };
  sides = record { first = nothing (int (pos 0)); second = nothing (int (pos 0)) };
}

is_of : (z : ℚ) → z ≡ int (pos 0) → IsGapOf (pos 0) (pos 0) (pos 0) (pos 0) (record { a = z; b = z; width = z; side1 = z; side2 = z })
is_of z is = record { first_weight = is; second_weight = is; width = is; first_side = is; second_side = is }

pub gap_model-requires-clause-fits : goal.gap_model-requires-clause-fits
gap_model-requires-clause-fits c = (pos 0, pos 0, pos 0, pos 0, (is_of c.whole-zero.result c.whole-zero.ensures, none_wide c.in_ok-bare.bare))

pub returns : goal.returns
returns c =
    IfOk-weaker c.gap_model.result _ _
    (λ m h. h (pos 0) (pos 0) (pos 0) (pos 0) (is_of c.whole-zero.result c.whole-zero.ensures) ∙ ap (λ N. gap_model N (pos 0) (pos 0) (pos 0) (pos 0)) c.in_ok-bare.ensures)
    c.gap_model.ensures
