use Rattle.lp_model.proofs.NameLemmas.{NoneBefore}
use Rattle.lp_model.proofs.names.place_of.Given as goal

abbrev pub invariant-loop-place : goal.invariant-loop-place
invariant-loop-place g l = NoneBefore g.T.HasName.name l.items l.name l.place
