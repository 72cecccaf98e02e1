use Rattle.warm_file.specs.Rising.{row_entry_of}
use Rattle.warm_file.proofs.rising.EntriesElementTuple2RowIdFrac.read.Goals as goal

pub returns : goal.returns
unfolding row_entry_of
returns c = c.read_rising.ensures
