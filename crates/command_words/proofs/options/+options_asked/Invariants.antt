use Rattle.std.proofs.Common.{length}
use Rattle.command_words.proofs.options.+options_asked.Given as goal

abbrev pub decreases-options_asked : goal.decreases-options_asked
decreases-options_asked l = length l.words.now
