use Rattle.std.proofs.Common.{◌≡◌, drop}
use Rattle.lp_model.specs.CutTerms.{term_of}
use Rattle.spared_leaves.proofs.posed.term_of.Given as goal

abbrev pub invariant-loop-name : goal.invariant-loop-name
invariant-loop-name l = term_of l.col l.terms ≡ term_of l.col (drop l.name-index l.terms)
