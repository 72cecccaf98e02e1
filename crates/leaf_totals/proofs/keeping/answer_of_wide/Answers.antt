use Rattle.std.proofs.Common.{◌∙◌, sym}
use Rattle.std.proofs.lemmas.Bool.{false≢true}
use Rattle.leaf_totals.proofs.keeping.answer_of_wide.Goals as goal

pub returns : goal.returns
returns c = ((λ h. false≢true (sym c.if-lacks_side.false ∙ c.lacks_side.ensures.1 h)), c.requires.step)

pub returns-then-lacks_side : goal.returns-then-lacks_side
returns-then-lacks_side c = c.lacks_side.ensures.0 c.if-lacks_side.true
