use Rattle.search_file.proofs.RestorableLaws.{text-restorable}
use Rattle.search_file.proofs.files.search_in.Goals as goal

pub search_of-requires : goal.search_of-requires
search_of-requires c = text-restorable c.args.text.now c.in-Ok.stated c.in-Ok.ensures.answer

pub returns-in-Ok-search_of : goal.returns-in-Ok-search_of
returns-in-Ok-search_of c = record { stated = c.in-Ok.stated; states = c.in-Ok.ensures.answer; restores = c.in-Ok-search_of.ensures }
