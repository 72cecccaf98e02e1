use Rattle.std.proofs.Common.{subst, sym, map}
use Rattle.std.specs.Prelude.{Contains}
use Rattle.lp_model.specs.Edits.{IsPlaceOf}
use Rattle.model_edits.specs.declared.faults.EditFault.TheVariants.{NoSuch}
use Rattle.model_edits.proofs.EditLaws.{told_with}
use Rattle.model_edits.proofs.changing.row_at.Goals as goal

pub returns-in-None-clause-fault : goal.returns-in-None-clause-fault
returns-in-None-clause-fault c =
    told_with c.no_such.result (NoSuch c.args.name.now) c.no_such.ensures
    (λ h. c.in-None.ensures.found (subst (λ P. P) (λ i. Contains (map (λ d. d.name) (sym c.rows.ensures.items i)) (sym c.as_slice.ensures i)) h))

pub returns-in-Some-clause-found : goal.returns-in-Some-clause-found
returns-in-Some-clause-found c = subst (λ P. P) (λ i. IsPlaceOf (map (λ d. d.name) (c.rows.ensures.items i)) (c.as_slice.ensures i) c.in-Some.place) c.in-Some.ensures.first
