use Rattle.std.proofs.Common.{subst}
use Rattle.leaf_judging.specs.Queued.{HasFiniteNumber}
use Rattle.sound_searches.specs.Sound.{PlainSearch, formulation_of}
use Rattle.tree_edit.proofs.SameNumbers.{kept-leaf_number}
use Rattle.tree_edit.proofs.search.Search.leaf_number_of.Goals as goal
use Rattle.lp_model.specs.Formulations.{formulation}

pub returns : goal.returns
returns c =
    let i = c.self.inside in
    subst (λ (S : PlainSearch). HasFiniteNumber (formulation_of S) S.tree.root (record { leaf_number = c.finite_number.result; id = c.args.id })) c.self.view_is
    (kept-leaf_number (formulation i.model i.pool) i.tree.root i.numbers c.args.id c.number_or_minus.result c.finite_number.result c.self.invariant.numbers_are c.number_or_minus.ensures.kept c.finite_number.ensures)
