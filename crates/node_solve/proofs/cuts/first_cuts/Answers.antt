use Rattle.std.proofs.Common.{◌∙◌, sym, ap, subst, take}
use Rattle.node_solve.specs.private.Places.{IsFirstCount}
use Rattle.node_solve.proofs.cuts.first_cuts.Goals as goal

pub returns-in-Ok-clause-cuts : goal.returns-in-Ok-clause-cuts
returns-in-Ok-clause-cuts c = ap (take c.in-Some.count) c.rows-rows.ensures.rows ∙ sym (subst (λ p. IsFirstCount p c.in-Some.count) c.rows-rows.ensures.rows c.in-Some.ensures).cuts

pub returns-in-Ok-clause-places : goal.returns-in-Ok-clause-places
returns-in-Ok-clause-places c = c.in-Ok.ensures ∙ sym (subst (λ p. IsFirstCount p c.in-Some.count) c.rows-rows.ensures.rows c.in-Some.ensures).places

pub returns-in-Ok-new-clause-cuts : goal.returns-in-Ok-new-clause-cuts
returns-in-Ok-new-clause-cuts c = c.in-Ok-new.ensures.cuts

pub returns-in-Ok-new-clause-places : goal.returns-in-Ok-new-clause-places
returns-in-Ok-new-clause-places c = c.in-Ok-new.ensures.places
