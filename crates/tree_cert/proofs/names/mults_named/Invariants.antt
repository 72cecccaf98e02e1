use Rattle.std.proofs.Common.{◌≡◌, suc, take}
use Rattle.lp_model.specs.Formulations.{formulation}
use Rattle.tree_cert.specs.Cuts.{mults_named}
use Rattle.tree_cert.proofs.names.mults_named.Given as goal

abbrev pub invariant-loop-var : goal.invariant-loop-var
invariant-loop-var l = l.mults ≡ mults_named (formulation l.model l.cuts) suc (take l.var-index l.mult)
