use Rattle.std.proofs.Common.{rules}
use Rattle.cert_text.proofs.LineLemmas.{says_blank, says_words}
use Rattle.cert_text.proofs.line.line_says.Goals as goal

pub returns-then-begins_blank-clause-says : goal.returns-then-begins_blank-clause-says
returns-then-begins_blank-clause-says c = says_blank c.args.line.now (rw (← c.begins_blank.ensures) c.if-begins_blank.true)

pub returns-clause-says : goal.returns-clause-says
returns-clause-says c = says_words c.args.line.now _ _ (rw (← c.begins_blank.ensures) c.if-begins_blank.false) c.ends_blank.ensures c.in-Ok.ensures c.words_say.result (search rules)
