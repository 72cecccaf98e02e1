use Rattle.std.proofs.Common.{◌≤◌, ◌<◌, ◌∙◌, pos, refl, sym, subst, length, arith}
use Rattle.std.proofs.lemmas.Bool.{false≢true}
use Rattle.lp_model.specs.declared.types.Side.TheVariants.{Lo}
use Rattle.lp_model.specs.declared.types.BoundChange.{BoundChange}
use Rattle.lp_model.specs.private.EmptyRegions.{IsEmptyColumn}
use Rattle.lp_model.proofs.EmptyRegionLemmas.{named-here, named-next, named-end}
use Rattle.lp_model.proofs.model.Model.is_empty_where_named.Goals as goal

abbrev none : BoundChange
none = record { col = record { 0 = 0 }; side = Lo; v = pos 0 }

pub returns-then-is_empty_column : goal.returns-then-is_empty_column
returns-then-is_empty_column c =
    let region = c.args.region.now in
    let k = c.loop-change.change-index in
    let within : k < length region = omega (arith, c.loop-change-test.true) in
    ((λ t. (_, (named-here region k none within, c.is_empty_column.ensures.0 c.if-is_empty_column.true))), (λ e. refl))

pub loop-change-preserved : goal.loop-change-preserved
loop-change-preserved c =
    let region = c.args.region.now in
    let k = c.loop-change.change-index in
    let within : k < length region = omega (arith, c.loop-change-test.true) in
    λ j empty named. named-next region k none within j
    (λ here. false≢true (sym c.if-is_empty_column.false ∙ c.is_empty_column.ensures.1 (subst (IsEmptyColumn c.args.self.now region) (sym here) empty)))
    (c.loop-change.invariant j empty named)

pub returns : goal.returns
returns c =
    let region = c.args.region.now in
    let over : length region ≤ c.loop-change.change-index = omega (arith, c.loop-change-test.false) in
    ((λ t. absurd (false≢true t)), (λ (j, (named, empty)). absurd (named-end region c.loop-change.change-index over j (c.loop-change.invariant j empty named))))
