-- An outcome with its constants passes the judging in the model with the constants, with its point.
use Rattle.std.specs.Prelude.{◌≡◌, ℕ, ℤ, ◌+ℤ◌, true, List, [], ◌∷◌, map, Ok}
use Rattle.std.proofs.Common.{refl, sym, ap, subst, ◌∙◌, inl}
use Rattle.frac128.specs.Rational.{ℚ, int, ◌+ℚ◌}
use Rattle.frac128.specs.RationalRing.{int-+ℤ}
use Rattle.frac128.specs.Range.{IsNarrow, SumFits}
use Rattle.frac128.proofs.Whole.{SumFits-int}
use Rattle.lp_model.specs.Program.{Program, Point, in_least_form}
use Rattle.lp_model.specs.Lawful.{column_names}
use Rattle.lp_model.specs.Edits.{Named}
use Rattle.lp_model.specs.declared.types.Sense.{Sense}
use Rattle.lp_model.specs.declared.types.Sense.TheVariants.{Min}
use Rattle.lp_model.specs.declared.types.Col.{Col}
use Rattle.model_points.specs.Answers.{IsFeasibilityAnswer, IsValueAnswer}
use Rattle.cert_check.specs.Accepted.{AreNames, point_of}
use Rattle.cert_check.specs.declared.verdict.Judgement.TheVariants.{Passes}
use Rattle.frontier.specs.declared.outcomes.Outcome.{Outcome}
use Rattle.inner_models.specs.Inner.{bare_model, least_col}
use Rattle.front_sweeps.specs.Steps.{IsBase, with_constants}
use Rattle.front_sweeps.proofs.Constants.{same_points}
use Rattle.front_check.specs.Verdict.{least_constant_of, IsStatedValueJudged}
use Rattle.wcn_driver.specs.private.Founds.{IsSummedOutcome, IsShownBy}

least_itself : (cols : List Col) → map (least_col Min) cols ≡ cols
least_itself [] = refl
least_itself (c ∷ cols) = ap (λ (l : List Col). c ∷ l) (least_itself cols)

-- what the judging of a value asks, of the model without constants and the constant
abbrev ValuePasses : Program → ℚ → ℕ → Point → ℤ → Type 0
ValuePasses B k w x v = (f : ℚ) × (IsValueAnswer B w x (Ok f) × (SumFits f k × (f +ℚ k ≡ int v)))

module _ (N : Program) (base : IsBase N) (c d : ℤ) where
  abbrev M : Program
  M = with_constants c d N

  cols_are : map (least_col N.sense) N.cols ≡ N.cols
  cols_are = ap (λ (s : Sense). map (least_col s) N.cols) base.bare.least ∙ least_itself N.cols

  pub bare_is : bare_model (with_constants c d N) ≡ N
  bare_is i = record N { sense = sym base.bare.least i; consts = sym base.bare.constants i; cols = cols_are i; wide = sym base.bare.wide i }

  first_least : least_constant_of (with_constants c d N) 1 ≡ int c
  first_least = ap (λ (s : Sense). in_least_form s (int c)) base.bare.least

  second_least : least_constant_of (with_constants c d N) 2 ≡ int d
  second_least = ap (λ (s : Sense). in_least_form s (int d)) base.bare.least

  -- a value that is summed with room, and its sum with the constant has room
  value_passes : (w : ℕ) (k : ℤ) (x : Point) (z : ℤ) → least_constant_of (with_constants c d N) w ≡ int k → IsNarrow k → IsNarrow z → IsNarrow (z +ℤ k) → IsValueAnswer N w x (Ok (int z))
      → IsStatedValueJudged (with_constants c d N) w x (z +ℤ k) Passes
  value_passes w k x z is narrow_k narrow_z sum answer =
      subst (λ (T : Type 0). T) (λ t. ValuePasses (sym bare_is t) (sym is t) w x (z +ℤ k)) (int z, (answer, (SumFits-int z k narrow_z narrow_k sum, sym (int-+ℤ z k))))

  -- constants leave the judging of a point
  point_judged : (x : Point) → IsFeasibilityAnswer N x (Ok true) → IsFeasibilityAnswer (with_constants c d N) x (Ok true)
  point_judged x h = (same_points N c d base x h.0, (λ i within. record { fits = (h.1 i within).fits; holds = (h.1 i within).holds }))

  pub shown_by : IsNarrow c → IsNarrow d → (x : Point) (o : Outcome) (named : Named) → IsFeasibilityAnswer N x (Ok true) → IsSummedOutcome N c d x o → AreNames (column_names N) named → point_of N named ≡ x
      → IsShownBy N c d o (record { v1 = o.f1 +ℤ c; v2 = o.f2 +ℤ d; point = named })
  shown_by narrow_c narrow_d x o named feasible at names is =
      let y : Point = point_of N named in
      let judged : IsFeasibilityAnswer N y (Ok true) = subst (λ (p : Point). IsFeasibilityAnswer N p (Ok true)) (sym is) feasible in
      let first : IsValueAnswer N 1 y (Ok (int o.f1)) = subst (λ (p : Point). IsValueAnswer N 1 p (Ok (int o.f1))) (sym is) at.first in
      let second : IsValueAnswer N 2 y (Ok (int o.f2)) = subst (λ (p : Point). IsValueAnswer N 2 p (Ok (int o.f2))) (sym is) at.second in
      record {
        judged = inl (
          inl (names, point_judged y judged),
          inl (value_passes 1 c y o.f1 first_least narrow_c at.has.first at.has.first_sum first, value_passes 2 d y o.f2 second_least narrow_d at.has.second at.has.second_sum second),
        );
        is = refl;
      }
