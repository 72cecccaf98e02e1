-- A stated value: what it is without the constant, and what it is found to be.
use Rattle.std.specs.Prelude.{◌≡◌, ℕ, ℤ, ◌-ℤ◌, [], ◌∷◌, Ok, Err, nat_eq, FitsSigned}
use Rattle.std.specs.Int.{w128, cast_unsigned}
use Rattle.std.specs.Bool.{Decides}
use Rattle.std.proofs.Common.{refl, sym, ap, subst, ◌∙◌, inl, inr, arith}
use Rattle.std.proofs.lemmas.Bool.Decides.{Decides-eqb}
use Rattle.std.proofs.lemmas.Int.{ints}
use Rattle.frac128.specs.Rational.{ℚ, int, ◌+ℚ◌, ◌-ℚ◌, IsWhole}
use Rattle.frac128.specs.RationalRing.{ring, reads_ℚ}
use Rattle.frac128.specs.Range.{Fits}
use Rattle.frac128.proofs.Integers.{int-num, IsWhole-int}
use Rattle.frac128.proofs.Rounding.{int-floor}
use Rattle.lp_model.specs.Program.{Program, Point, constant, in_least_form, HasWholeObjective}
use Rattle.lp_model.specs.declared.types.WideStep.{WideStep}
use Rattle.model_points.specs.Answers.{IsValueAnswer}
use Rattle.cert_check.specs.declared.verdict.Judgement.TheVariants.{Passes, Breaks, NoRoom}
use Rattle.inner_models.specs.Inner.{bare_model}
use Rattle.inner_models.proofs.GapModels.{int-difference}
use Rattle.front_check.specs.declared.values.FoundValue.{FoundValue}
use Rattle.front_check.specs.declared.values.FoundValue.TheVariants as value
use Rattle.front_check.specs.Accepted.{whole_constant}
use Rattle.front_check.specs.Verdict.{least_constant_of}
use Rattle.front_check.specs.private.Found.{IsBareValue, IsTotalFound, IsValueFound}
use Rattle.front_check.proofs.ProvedGaps.{least-whole}

num-int : (z : ℤ) → (int z).num ≡ z
unfolding int
num-int z = refl

pub integer_from : (x : ℚ) (z : ℤ) → IsWhole x → x.num ≡ z → x ≡ int z
integer_from x z whole e = int-num x whole ∙ ap int e

pub integer_whole : (x : ℚ) (z : ℤ) → x ≡ int z → IsWhole x
integer_whole x z e = subst IsWhole (sym e) (IsWhole-int z)

pub integer_num : (x : ℚ) (z : ℤ) → x ≡ int z → x.num ≡ z
integer_num x z e = ap (λ (q : ℚ). q.num) e ∙ num-int z

-- two numbers of 128 bits are one if their bits are
pub bits_decide : (m n : ℤ) → FitsSigned w128 m → FitsSigned w128 n → Decides (nat_eq (cast_unsigned w128 m) (cast_unsigned w128 n)) (m ≡ n)
bits_decide m n f g =
    let bits = Decides-eqb (cast_unsigned w128 m) (cast_unsigned w128 n) in
    ((λ t. let e = bits.0 t in omega (arith, ints)), (λ e. bits.1 (ap (cast_unsigned w128) e)))

-- the value without the constant is whole, and its numerator is the stated value less the constant
pub bare_value : (M : Program) (w : ℕ) (f : ℚ) (v : ℤ) → HasWholeObjective M w → Fits f → f +ℚ least_constant_of M w ≡ int v → IsBareValue M w v f.num
bare_value M w f v whole fits e =
    let c = least_constant_of M w in
    let k = whole_constant M w in
    let c_is : int k ≡ c = int-floor (in_least_form M.sense (constant M w)) (least-whole M.sense (constant M w) whole.constant) in
    let back : f ≡ (f +ℚ c) -ℚ c = ring (f ∷ c ∷ []) (search reads_ℚ) tt in
    let f_is : f ≡ int (v -ℤ k) = back ∙ ap (λ t. t -ℚ c) e ∙ ap (λ t. int v -ℚ t) (sym c_is) ∙ sym (int-difference v k) in
    record { is = integer_num f (v -ℤ k) f_is; narrow = fits.numerator }

module _ (M : Program) (w : ℕ) (x : Point) (v : ℤ) where
  pub found_value : (f : ℚ) (found : FoundValue) → IsValueAnswer (bare_model M) w x (Ok f) → IsTotalFound M w f v found → IsValueFound M w x v found
  found_value f (value.Is less) answer total = ((f, (answer, total.0)), total.1)
  found_value f (value.Fails Passes) answer total = absurd total
  found_value f (value.Fails (Breaks why)) answer total = ((f, (answer, total)), (λ e. cc))
  found_value f (value.Fails (NoRoom step)) answer total = (inr (f, (answer, total)), (λ e. cc))

  pub wide_value : (step : WideStep) → IsValueAnswer (bare_model M) w x (Err step) → IsValueFound M w x v (value.Fails (NoRoom step))
  wide_value step answer = (inl answer, (λ e. cc))
