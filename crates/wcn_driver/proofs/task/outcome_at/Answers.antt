use Rattle.std.specs.Prelude.{◌≡◌, ◌↔◌, ℤ, ◌+ℤ◌, IsTrue}
use Rattle.std.specs.Int.{w128}
use Rattle.std.proofs.lemmas.Bool.{false≢true}
use Rattle.std.proofs.Common.{refl, inl, inr, ◌∙◌, ap, sym, subst, to_z, of_z}
use Rattle.frac128.specs.Rational.{ℚ}
use Rattle.frac128.specs.Range.{IsNarrow}
use Rattle.frac128.proofs.ReadLemmas.{narrow_read}
use Rattle.frontier.specs.declared.outcomes.Outcome.{Outcome}
use Rattle.wcn_driver.specs.private.Founds.{IsSummedOutcome}
use Rattle.wcn_driver.proofs.Outcomes.{narrow_again, first_whole, second_whole, outcome_found, first_wide, second_wide}
use Rattle.wcn_driver.proofs.task.outcome_at.Goals as goal

pub returns : goal.returns
returns c =
    let t = c.args.task.now in
    let task = c.requires.task in
    let x = c.args.point.now in
    let first : ℚ = c.in-Ok.first in
    let second : ℚ = c.in-Ok-value.second in
    let whole1 = first_whole t.base t.constant1 t.constant2 x task.base c.requires.feasible first second c.in-Ok.ensures c.in-Ok-value.ensures in
    let whole2 = second_whole t.base t.constant1 t.constant2 x task.base c.requires.feasible first second c.in-Ok.ensures c.in-Ok-value.ensures in
    let sum1 : IsNarrow (first.num +ℤ t.constant1) =
    subst (λ (k : ℤ). IsNarrow (first.num +ℤ k)) (narrow_read t.constant1 task.first) ((c.has_sum.ensures first.num whole1).0 c.if-not-has_sum.false) in
    let sum2 : IsNarrow (second.num +ℤ t.constant2) =
    subst (λ (k : ℤ). IsNarrow (second.num +ℤ k)) (narrow_read t.constant2 task.second) ((c.has_sum-2.ensures second.num whole2).0 c.if-not-has_sum-2.false) in
    let f1_is : to_z w128 (of_z w128 c.numerator.result) ≡ first.num = ap (λ (z : ℤ). to_z w128 (of_z w128 z)) c.numerator.ensures ∙ narrow_read first.num c.has_room.ensures.numerator in
    let f2_is : to_z w128 (of_z w128 c.numerator-2.result) ≡ second.num = ap (λ (z : ℤ). to_z w128 (of_z w128 z)) c.numerator-2.ensures ∙ narrow_read second.num c.has_room-2.ensures.numerator in
    subst (λ (o : Outcome). IsSummedOutcome t.base t.constant1 t.constant2 x o) (λ i. record { f1 = sym f1_is i; f2 = sym f2_is i })
    (outcome_found t.base t.constant1 t.constant2 x task.base c.requires.feasible first second c.in-Ok.ensures c.in-Ok-value.ensures c.has_room.ensures c.has_room-2.ensures sum1 sum2)

pub value-requires : goal.value-requires
value-requires c = inl refl

pub value-requires-2 : goal.value-requires-2
value-requires-2 c = inr refl

pub has_sum-requires : goal.has_sum-requires
has_sum-requires c = narrow_again c.args.task.now.constant1 c.requires.task.first

pub has_sum-requires-2 : goal.has_sum-requires-2
has_sum-requires-2 c = narrow_again c.args.task.now.constant2 c.requires.task.second

pub returns-in_default : goal.returns-in_default
returns-in_default c = inl (c.in_default.field-0, c.in_default.ensures)

pub returns-in_default-value : goal.returns-in_default-value
returns-in_default-value c = inr (inl (c.in_default-value.field-0, c.in_default-value.ensures))

pub returns-then-not-has_sum : goal.returns-then-not-has_sum
returns-then-not-has_sum c =
    let t = c.args.task.now in
    let task = c.requires.task in
    let x = c.args.point.now in
    let first : ℚ = c.in-Ok.first in
    let second : ℚ = c.in-Ok-value.second in
    let whole1 = first_whole t.base t.constant1 t.constant2 x task.base c.requires.feasible first second c.in-Ok.ensures c.in-Ok-value.ensures in
    let is : IsTrue c.has_sum.result ↔ IsNarrow (first.num +ℤ t.constant1) = subst (λ (k : ℤ). IsTrue c.has_sum.result ↔ IsNarrow (first.num +ℤ k)) (narrow_read t.constant1 task.first) (c.has_sum.ensures first.num whole1) in
    first_wide t.base t.constant1 t.constant2 x task.base c.requires.feasible first second c.in-Ok.ensures c.in-Ok-value.ensures (λ narrow. false≢true (sym c.if-not-has_sum.true ∙ is.1 narrow))

pub returns-then-not-has_sum-2 : goal.returns-then-not-has_sum-2
returns-then-not-has_sum-2 c =
    let t = c.args.task.now in
    let task = c.requires.task in
    let x = c.args.point.now in
    let first : ℚ = c.in-Ok.first in
    let second : ℚ = c.in-Ok-value.second in
    let whole2 = second_whole t.base t.constant1 t.constant2 x task.base c.requires.feasible first second c.in-Ok.ensures c.in-Ok-value.ensures in
    let is : IsTrue c.has_sum-2.result ↔ IsNarrow (second.num +ℤ t.constant2) = subst (λ (k : ℤ). IsTrue c.has_sum-2.result ↔ IsNarrow (second.num +ℤ k)) (narrow_read t.constant2 task.second) (c.has_sum-2.ensures second.num whole2) in
    second_wide t.base t.constant1 t.constant2 x task.base c.requires.feasible first second c.in-Ok.ensures c.in-Ok-value.ensures (λ narrow. false≢true (sym c.if-not-has_sum-2.true ∙ is.1 narrow))
