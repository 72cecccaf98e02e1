use Rattle.std.specs.Prelude.{◌≤◌, ◌+◌, Option, Result, Ok, Err, OnOk, IfSome}
use Rattle.std.proofs.Common.{refl, subst, inl}
use Rattle.lp_model.specs.Regions.{Path}
use Rattle.lp_model.specs.Formulations.{Formulation, formulation}
use Rattle.tight_regions.specs.SameBounds.{SameBounds}
use Rattle.leaf_judging.specs.declared.entry.LeafEntry.{LeafEntry}
use Rattle.leaf_judging.specs.Totals.{IsLeafEntry}
use Rattle.leaf_judging.specs.Former.{HoldsFormer, former_leaf_steps}
use Rattle.leaf_judging.proofs.numbering.Numbering.number_leaf.Goals as goal

on_ok : {A E P Q : Type 0} (r : Result A E) → (P → Q) → OnOk r P → OnOk r Q
on_ok (Ok a) f h = f h
on_ok (Err e) f h = h

pub returns-in-Ok-Some : goal.returns-in-Ok-Some
returns-in-Ok-Some g c =
    let F : Formulation = formulation c.args.self.now.model.now c.args.self.now.pool.now in
    let former = c.args.self.now.former.now in
    let kept = c.args.kept.now in
    let IsOf : LeafEntry → Type 0 =
    λ e. (path : Path) → SameBounds c.args.region.now path → HoldsFormer former F path (record { id = c.args.id; kept = kept }) → IsLeafEntry F path kept e × (c.entry_at.new.steps ≤ c.args.self.now.steps.now + former_leaf_steps former F kept) in
    let is : IsOf c.in-Ok-Some.entry = subst (λ (o : Option LeafEntry). IfSome o IsOf) c.in-Ok-Some.field-0-is c.in-Ok-Some.ensures.entry in
    on_ok c.put.result (λ puts path same. record {
      same = refl;
      same_cuts = refl;
      same_former = refl;
      same_out = refl;
      same_steps = refl;
      rises = c.entry_at.ensures.rises;
      done = inl (record { entry = c.in-Ok-Some.entry; is_entry = λ held. (is path same held).0; puts = puts; due = refl; takes = λ held. (is path same held).1 });
    }) c.put.ensures.put
