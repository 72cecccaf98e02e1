use Rattle.warm_file.specs.Rising.{literal_of}
use Rattle.warm_file.proofs.rising.LiteralsElementLiteral.read.Goals as goal

pub returns : goal.returns
unfolding literal_of
returns c = c.read_rising.ensures
