use Rattle.std.proofs.Common.{◌∙◌, sym, ap}
use Rattle.warm_file.proofs.Saying.{says-there, says-missing, says-fault, ok-there, ok-some, bad-none}
use Rattle.warm_file.specs.Searches.{state_in, state_of}
use Rattle.warm_file.proofs.searches.StatePartPartLeafState.read.Goals as goal

pub returns-in_default : goal.returns-in_default
unfolding state_of
returns-in_default c = says-missing 3 _ _ c.bad.result c.in_default.ensures c.bad.ensures

pub returns-in-Some-state_in : goal.returns-in-Some-state_in
unfolding state_of
returns-in-Some-state_in c =
    ok-there 3 _ _ c.in-Some.word.now c.in-Some-state_in.state c.in-Some.ensures
    (ok-some 3 _ _ (sym c.in-Some-state_in.is ∙ c.state_in.ensures ∙ ap state_in c.as_bytes.ensures.value))

pub returns-in-None : goal.returns-in-None
unfolding state_of
returns-in-None c =
    says-there 3 _ _ c.in-Some.word.now c.bad-in-None.result c.in-Some.ensures
    (says-fault 3 _ c.bad-in-None.result c.bad-in-None.ensures (bad-none 3 _ (sym c.in-None.is ∙ c.state_in.ensures ∙ ap state_in c.as_bytes.ensures.value)))
