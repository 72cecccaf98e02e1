use Rattle.std.specs.Int.{w128}
use Rattle.std.proofs.lemmas.Int.{to_z-of_z}
use Rattle.std.proofs.Common.{rules, FitsSigned, ◌↔◌, ◌≤ℤ◌, IsTrue, subst, sym}
use Rattle.frac128.proofs.Rounding.{≤ℚ-int}
use Rattle.search_parts.proofs.checks.is_from.Goals as goal

pub returns-in-Some-clause-from : goal.returns-in-Some-clause-from
returns-in-Some-clause-from c =
    let at = ≤ℚ-int c.in-Some.low c.args.v in
    let f : FitsSigned w128 c.args.v = search rules in
    let g : FitsSigned w128 c.ceil.result = search rules in
    let d : IsTrue c.is_at_most.result ↔ (c.ceil.result ≤ℤ c.args.v) = simp to_z-of_z at c.is_at_most.ensures in
    rw c.in-Some.is ((λ h. at.1 (subst (λ z. z ≤ℤ c.args.v) c.ceil.ensures.value (d.0 h))), (λ h. d.1 (subst (λ z. z ≤ℤ c.args.v) (sym c.ceil.ensures.value) (at.0 h))))
