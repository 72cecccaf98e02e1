use Rattle.std.specs.Int.{w128}
use Rattle.std.proofs.lemmas.Int.{to_z-of_z}
use Rattle.std.proofs.Common.{rules, FitsSigned, ◌↔◌, ◌<ℤ◌, IsTrue, subst, sym}
use Rattle.search_parts.proofs.CheckLemmas.{under-ceil}
use Rattle.search_parts.proofs.checks.is_under.Goals as goal

pub returns-in-Some-clause-under : goal.returns-in-Some-clause-under
returns-in-Some-clause-under c =
    let at = under-ceil c.in-Some.high c.args.v in
    let f : FitsSigned w128 c.args.v = search rules in
    let g : FitsSigned w128 c.ceil.result = search rules in
    let d : IsTrue c.is_below.result ↔ (c.args.v <ℤ c.ceil.result) = simp to_z-of_z at c.is_below.ensures in
    rw c.in-Some.is ((λ h. at.0 (subst (λ z. c.args.v <ℤ z) c.ceil.ensures.value (d.0 h))), (λ h. d.1 (subst (λ z. c.args.v <ℤ z) (sym c.ceil.ensures.value) (at.1 h))))
