use Rattle.std.proofs.Common.{subst}
use Rattle.leaf_judging.specs.Numbers.{AreNumbersOf}
use Rattle.sound_searches.specs.Sound.{PlainSearch, formulation_of}
use Rattle.tree_edit.proofs.search.Search.numbers.Goals as goal

pub returns : goal.returns
returns c =
    let i = c.self.inside in
    subst (λ (S : PlainSearch). AreNumbersOf (formulation_of S) S.tree.root i.numbers) c.self.view_is c.self.invariant.numbers_are
