use Rattle.warm_file.proofs.JoinLemmas.{both-first, both-second, both-ok}
use Rattle.warm_file.proofs.joining.both.Goals as goal

pub returns-in-Ok-second : goal.returns-in-Ok-second
returns-in-Ok-second g c = λ f s hf hs. both-ok f s c.args.first c.args.second c.in-Ok.first c.in-Ok-second.second c.in-Ok.is c.in-Ok-second.is hf hs

pub returns-in-Err-second : goal.returns-in-Err-second
returns-in-Err-second g c = λ f s hf hs. both-second f s c.args.first c.args.second c.in-Ok.first c.in-Err-second.fault c.in-Ok.is c.in-Err-second.is hf hs

pub returns-in-Err : goal.returns-in-Err
returns-in-Err g c = λ f s hf hs. both-first f s c.args.first c.in-Err.fault c.in-Err.is hf
