use Rattle.warm_file.specs.Rising.{col_entry_of}
use Rattle.warm_file.proofs.rising.EntriesElementTuple2ColIdFrac.read.Goals as goal

pub returns : goal.returns
unfolding col_entry_of
returns c = c.read_rising.ensures
