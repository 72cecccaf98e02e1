use Rattle.lp_model.specs.Formulations.{formulation}
use Rattle.search_parts.specs.Lists.{IsThere}
use Rattle.search_parts.proofs.ListLemmas.{HoldsBefore}
use Rattle.search_parts.proofs.lists.are_there.Given as goal

abbrev pub invariant-loop-var : goal.invariant-loop-var
invariant-loop-var l = HoldsBefore (IsThere (formulation l.model l.pool)) l.vars l.var-index
