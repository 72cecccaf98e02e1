use Rattle.std.proofs.Common.{◌≡◌, drop}
use Rattle.std.specs.List.{list_all}
use Rattle.command_words.specs.Names.{is_file_name_byte}
use Rattle.command_words.proofs.words.has_name_bytes.Given as goal

abbrev pub invariant-loop-index : goal.invariant-loop-index
invariant-loop-index l = list_all is_file_name_byte l.word ≡ list_all is_file_name_byte (drop l.index l.word)
