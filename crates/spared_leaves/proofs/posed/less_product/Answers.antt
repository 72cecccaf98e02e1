use Rattle.std.proofs.Common.{rules, ◌≡◌, ◌∙◌, sym, pos}
use Rattle.frac128.specs.Rational.{int, neg_ℚ}
use Rattle.checked_sum.proofs.StepLaws.{skip_factor, skip_number}
use Rattle.spared_leaves.proofs.posed.less_product.Goals as goal

pub returns-then-is_zero : goal.returns-then-is_zero
returns-then-is_zero c = skip_number c.args.total.now (neg_ℚ c.args.weight.now) c.args.number.now (search rules)

pub returns-then-is_zero-2 : goal.returns-then-is_zero-2
returns-then-is_zero-2 c = let zero : c.neg-factor.result ≡ int (pos 0) = search rules in skip_factor c.args.total.now (neg_ℚ c.args.weight.now) c.args.number.now (sym c.neg-factor.ensures ∙ zero)
