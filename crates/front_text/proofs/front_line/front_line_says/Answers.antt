use Rattle.std.proofs.Common.{rules}
use Rattle.front_text.proofs.LineLemmas.{says_words}
use Rattle.front_text.proofs.front_line.front_line_says.Goals as goal

pub returns-clause-says : goal.returns-clause-says
returns-clause-says c = says_words c.args.line.now _ c.in-Ok.ensures c.front_words_say.result (search rules)
