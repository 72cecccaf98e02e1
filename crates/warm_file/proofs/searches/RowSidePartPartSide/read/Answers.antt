use Rattle.std.proofs.Common.{◌∙◌, sym, ap}
use Rattle.warm_file.proofs.Saying.{says-there, says-missing, says-fault, ok-there, ok-some, bad-none}
use Rattle.lp_model.specs.Sides.{side_of_word}
use Rattle.warm_file.specs.Searches.{row_side_of}
use Rattle.warm_file.proofs.searches.RowSidePartPartSide.read.Goals as goal

pub returns-in_default : goal.returns-in_default
unfolding row_side_of
returns-in_default c = says-missing 3 _ _ c.bad.result c.in_default.ensures c.bad.ensures

pub returns-in-Some-of_word : goal.returns-in-Some-of_word
unfolding row_side_of
returns-in-Some-of_word c =
    ok-there 3 _ _ c.in-Some.word.now c.in-Some-of_word.side c.in-Some.ensures
    (ok-some 3 _ _ (sym c.in-Some-of_word.is ∙ c.of_word.ensures ∙ ap side_of_word c.as_bytes.ensures.value))

pub returns-in-None : goal.returns-in-None
unfolding row_side_of
returns-in-None c =
    says-there 3 _ _ c.in-Some.word.now c.bad-in-None.result c.in-Some.ensures
    (says-fault 3 _ c.bad-in-None.result c.bad-in-None.ensures (bad-none 3 _ (sym c.in-None.is ∙ c.of_word.ensures ∙ ap side_of_word c.as_bytes.ensures.value)))
