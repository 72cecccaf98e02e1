use Rattle.serde_json.specs.View.{view}
use Rattle.warm_file.specs.Rising.{variable_of}
use Rattle.warm_file.proofs.Saying.{says-there, says-missing}
use Rattle.warm_file.proofs.rising.VariablesElementVar.read.Goals as goal

pub returns-in-Some : goal.returns-in-Some
unfolding variable_of
returns-in-Some c = says-there 3 _ _ (view c.in-Some.first.now, view c.in-Some.second.now) c.read_past.result c.in-Some.ensures c.read_past.ensures

pub returns-in-None : goal.returns-in-None
unfolding variable_of
returns-in-None c = says-missing 3 _ _ c.bad.result c.in-None.ensures c.bad.ensures
