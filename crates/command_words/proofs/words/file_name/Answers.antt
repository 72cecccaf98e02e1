use Rattle.command_words.proofs.NameLemmas.{file_name-utf8}
use Rattle.command_words.proofs.words.file_name.Goals as goal

pub unreachable-requires : goal.unreachable-requires
unreachable-requires c = c.in_default.ensures.cases.0 (file_name-utf8 c.args.word.now c.requires)
