use Rattle.std.specs.Prelude.{◌≡◌}
use Rattle.std.specs.Int.{w128}
use Rattle.std.proofs.Common.{refl, sym, ap, subst, ◌∙◌, to_z, of_z}
use Rattle.std.proofs.lemmas.Bool.{iff_false}
use Rattle.frac128.specs.Rational.{int, ◌+ℚ◌}
use Rattle.frac128.specs.Range.{SumFits}
use Rattle.frac128.proofs.ReadLemmas.{narrow_read}
use Rattle.lp_model.specs.Program.{in_least_form}
use Rattle.front_check.specs.private.Found.{IsBareValue}
use Rattle.front_check.specs.Verdict.{least_constant_of}
use Rattle.front_check.proofs.ValueSteps.{bare_value}
use Rattle.front_check.proofs.values.judge_total.Goals as goal

pub returns-in-Err : goal.returns-in-Err
returns-in-Err c =
    let M = c.args.model.now in
    let is : c.least_form-constant.result ≡ least_constant_of M c.args.which = c.least_form-constant.ensures ∙ (λ i. in_least_form (c.sense.ensures i) (c.constant.ensures i)) in
    (subst (λ t. ¬ SumFits c.args.less.now t) is c.in-Err.ensures, refl)

pub returns-then-is_integer : goal.returns-then-is_integer
returns-then-is_integer c =
    let M = c.args.model.now in
    let less = c.args.less.now in
    let is : c.least_form-constant.result ≡ least_constant_of M c.args.which = c.least_form-constant.ensures ∙ (λ i. in_least_form (c.sense.ensures i) (c.constant.ensures i)) in
    let sum = subst (λ t. SumFits less t × (c.in-Ok.total ≡ less +ℚ t)) is c.in-Ok.ensures in
    let e : less +ℚ least_constant_of M c.args.which ≡ int c.args.stated.now = sym sum.1 ∙ c.is_integer.ensures.0 c.if-is_integer.true in
    let read : to_z w128 (of_z w128 c.numerator.result) ≡ less.num = ap (λ z. to_z w128 (of_z w128 z)) c.numerator.ensures ∙ narrow_read less.num c.has_room.ensures.numerator in
    ((sum.0, e), subst (IsBareValue M c.args.which c.args.stated.now) (sym read) (bare_value M c.args.which less c.args.stated.now c.requires.whole c.has_room.ensures e))

pub returns-else-is_integer : goal.returns-else-is_integer
returns-else-is_integer c =
    let M = c.args.model.now in
    let less = c.args.less.now in
    let is : c.least_form-constant.result ≡ least_constant_of M c.args.which = c.least_form-constant.ensures ∙ (λ i. in_least_form (c.sense.ensures i) (c.constant.ensures i)) in
    let sum = subst (λ t. SumFits less t × (c.in-Ok.total ≡ less +ℚ t)) is c.in-Ok.ensures in
    (sum.0, ((λ e. iff_false c.is_integer.ensures c.if-is_integer.false (sum.1 ∙ e)), refl))
