use Rattle.std.proofs.Common.{refl, inl, inr}
use Rattle.wcn_driver.proofs.ends.settled_found.Goals as goal

pub found_of-found-requires-clause-judged : goal.found_of-found-requires-clause-judged
found_of-found-requires-clause-judged c = c.requires.judged c.in-Ok.optimum c.in-Ok.ensures

pub returns-in-Err-clause-halt : goal.returns-in-Err-clause-halt
returns-in-Err-clause-halt c = inl c.in-Err.ensures

pub returns-in-Ok-found-clause-found : goal.returns-in-Ok-found-clause-found
returns-in-Ok-found-clause-found c = record { optimum = c.in-Ok.optimum; answered = c.in-Ok.ensures; found = c.in-Ok-found.ensures.found; results = refl }

pub returns-in-Err-found-clause-halt : goal.returns-in-Err-found-clause-halt
returns-in-Err-found-clause-halt c = inr (c.in-Ok.optimum, (c.in-Ok.ensures, c.in-Err-found.ensures.halt))
