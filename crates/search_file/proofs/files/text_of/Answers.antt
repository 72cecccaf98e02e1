use Rattle.search_file.proofs.OwnText.{own-written, states-written}
use Rattle.search_file.proofs.files.text_of.Goals as goal

pub returns-clause-text : goal.returns-clause-text
returns-clause-text c = own-written c.args.search.now c.in_ok-stated.stated c.in_ok-stated.ensures c.write-written.result c.write-written.ensures.text

pub returns-clause-states : goal.returns-clause-states
returns-clause-states c = states-written c.args.search.now c.in_ok-stated.stated c.in_ok-stated.ensures c.write-written.result c.write-written.ensures.text c.write-written.ensures.reads_back
