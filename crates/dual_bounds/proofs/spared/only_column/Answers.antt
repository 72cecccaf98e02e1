use Rattle.std.proofs.Common.{◌≡◌, ◌∙◌, [], ◌∷◌, List, length, get_or, sym, arith}
use Rattle.frac128.specs.Rational.{ℚ}
use Rattle.lp_model.specs.declared.types.ColId.{ColId}
use Rattle.dual_bounds.proofs.spared.only_column.Goals as goal

-- a list of one has its first element
one-only : (xs : List (ColId × ℚ)) (x : ColId × ℚ) → length xs ≡ 1 → x ≡ get_or xs 0 x → xs ≡ x ∷ []
one-only [] x one is = absurd (omega (arith, one))
one-only (y ∷ []) x one is = λ i. sym is i ∷ []
one-only (y ∷ z ∷ xs) x one is = absurd (omega (arith, one))

pub returns-then-costs-eq1 : goal.returns-then-costs-eq1
returns-then-costs-eq1 c =
    let one = c.index-costs-first.result in (
      one.1,
      one-only c.args.costs.now one c.if-costs-eq1.true c.index-costs-first.is ∙ (λ i. ((c.index-costs-first.is i).0, one.1) ∷ []),
    )
