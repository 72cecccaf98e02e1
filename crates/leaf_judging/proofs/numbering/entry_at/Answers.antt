use Rattle.std.proofs.Common.{◌≤◌, ◌+◌, sym, subst, arith, Option}
use Rattle.lp_model.specs.Formulations.{Formulation, formulation}
use Rattle.leaf_judging.specs.Totals.{IsLeafEntry}
use Rattle.leaf_judging.proofs.SameEntry.{entry-same}
use Rattle.leaf_judging.specs.declared.former.Former.{Former}
use Rattle.leaf_judging.specs.declared.former.Way.TheVariants.{FromSide}
use Rattle.leaf_judging.specs.Former.{HoldsFormer, former_leaf_steps}
use Rattle.leaf_judging.specs.private.Walked.{IsWayAt}
use Rattle.leaf_judging.proofs.WayLemmas.{anew-steps, spared-way, no-way}
use Rattle.leaf_judging.proofs.numbering.entry_at.Goals as goal

pub returns-in-Ok-clause-entry : goal.returns-in-Ok-clause-entry
returns-in-Ok-clause-entry g c = λ path same held.
    let F : Formulation = formulation c.args.model.now c.args.pool.now in
    let kept = c.args.kept.now in
    let region = c.args.region.now in (
      entry-same F region path same kept.mult kept.farkas c.in-Ok.entry c.in-Ok.ensures.entry,
      subst (λ n. c.entry_by.new.steps ≤ c.args.steps.now + n) (sym (anew-steps F c.args.id region path same kept c.args.former.now c.in-Anew.ensures held)) c.in-Ok.ensures.steps,
    )

pub returns-in-Ok-copy-clause-entry : goal.returns-in-Ok-copy-clause-entry
returns-in-Ok-copy-clause-entry g c = λ path same held.
    let F : Formulation = formulation c.args.model.now c.args.pool.now in
    let kept = c.args.kept.now in (
      subst (IsLeafEntry F path kept) (sym c.in-Ok-copy.ensures) (spared-way F c.args.id c.args.region.now path same kept c.args.former.now c.in-Some.entry.now c.in-Spared.ensures held (sym c.in-Some.ensures)),
      omega arith,
    )

pub unreachable-requires : goal.unreachable-requires
unreachable-requires g c = no-way c.args.former.now (formulation c.args.model.now c.args.pool.now) c.args.region.now c.args.kept.now c.in-FromSide.row c.in-None-former.is c.in-FromSide.ensures

pub moved_entry-requires-clause-way : goal.moved_entry-requires-clause-way
moved_entry-requires-clause-way g c = subst (λ (o : Option Former). IsWayAt o (formulation c.args.model.now c.args.pool.now) c.args.region.now c.args.kept.now (FromSide c.in-FromSide.row)) c.in-Some-former.is c.in-FromSide.ensures

pub returns-in-Ok-moved_entry-clause-entry : goal.returns-in-Ok-moved_entry-clause-entry
returns-in-Ok-moved_entry-clause-entry g c = λ path same held.
    let F : Formulation = formulation c.args.model.now c.args.pool.now in
    let kept = c.args.kept.now in
    subst (λ (o : Option Former). HoldsFormer o F path (record { id = c.args.id; kept = kept }) → IsLeafEntry F path kept c.in-Ok-moved_entry.entry × (c.moved_entry.new.steps ≤ c.args.steps.now + former_leaf_steps o F kept))
    (sym c.in-Some-former.is) (c.in-Ok-moved_entry.ensures.entry path same) held
