use Rattle.std.specs.Prelude.{◌≡◌, ℤ, ◌+ℤ◌}
use Rattle.std.specs.Int.{w128}
use Rattle.std.proofs.Common.{◌∙◌, sym, subst, to_z, of_z}
use Rattle.frac128.specs.Range.{IsNarrow}
use Rattle.frac128.proofs.ReadLemmas.{narrow_read}
use Rattle.front_text.specs.declared.front.FrontOutcome.{FrontOutcome}
use Rattle.wcn_driver.specs.private.Founds.{IsShownBy}
use Rattle.wcn_driver.proofs.ShownOutcomes.{shown_by}
use Rattle.wcn_driver.proofs.found.found_at.Goals as goal

pub named_point-requires : goal.named_point-requires
named_point-requires c = c.requires.judged.0.shape

-- a sum with room, as it is read
sum_read : (a b : ℤ) → IsNarrow a → IsNarrow b → IsNarrow (a +ℤ b) → to_z w128 (of_z w128 (to_z w128 (of_z w128 a) +ℤ to_z w128 (of_z w128 b))) ≡ a +ℤ b
sum_read a b first second sum = (λ i. to_z w128 (of_z w128 (narrow_read a first i +ℤ narrow_read b second i))) ∙ narrow_read (a +ℤ b) sum

pub returns-clause-shown : goal.returns-clause-shown
returns-clause-shown c =
    let t = c.args.task.now in
    let o = c.args.outcome.now in
    let task = c.requires.task in
    let has = c.requires.outcome.has in
    let first = sum_read o.f1 t.constant1 has.first task.first has.first_sum in
    let second = sum_read o.f2 t.constant2 has.second task.second has.second_sum in
    subst (λ (shown : FrontOutcome). IsShownBy t.base t.constant1 t.constant2 o shown) (λ i. record { v1 = sym first i; v2 = sym second i; point = c.in-Ok.named })
    (shown_by t.base task.base t.constant1 t.constant2 task.first task.second c.args.point.now o c.in-Ok.named c.requires.judged c.requires.outcome c.in-Ok.ensures.names c.in-Ok.ensures.point)
