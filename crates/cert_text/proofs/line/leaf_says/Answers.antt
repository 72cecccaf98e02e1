use Rattle.std.proofs.Common.{[], sym, ◌∙◌, Bor, List, ℕ}
use Rattle.cert_text.proofs.LineLemmas.{bound-ok, bound-faulty, farkas-ok, farkas-faulty}
use Rattle.cert_text.proofs.line.leaf_says.Goals as goal

abbrev some_word : Bor (List ℕ)
some_word = record { ref_ptr = (0, 0); now = [] }

pub returns-in-Ok-clause-says : goal.returns-in-Ok-clause-says
returns-in-Ok-clause-says c = bound-ok c.args.words.now some_word c.in-len1-up.len_at_least (sym c.is_word.ensures ∙ c.if-is_word.true) c.in-Ok.mults c.in-Ok.ensures

pub returns-in-Err-clause-says : goal.returns-in-Err-clause-says
returns-in-Err-clause-says c = bound-faulty c.args.words.now some_word c.in-len1-up.len_at_least (sym c.is_word.ensures ∙ c.if-is_word.true) c.in-Err.fault c.in-Err.ensures

pub returns-in-Ok-mults_in-clause-says : goal.returns-in-Ok-mults_in-clause-says
returns-in-Ok-mults_in-clause-says c =
    farkas-ok c.args.words.now some_word c.in-len1-up.len_at_least (sym c.is_word.ensures ∙ c.if-is_word.false) (sym c.is_word-2.ensures ∙ c.if-is_word-2.true) c.in-Ok-mults_in.mults c.in-Ok-mults_in.ensures

pub returns-in-Err-mults_in-clause-says : goal.returns-in-Err-mults_in-clause-says
returns-in-Err-mults_in-clause-says c =
    farkas-faulty c.args.words.now some_word c.in-len1-up.len_at_least (sym c.is_word.ensures ∙ c.if-is_word.false) (sym c.is_word-2.ensures ∙ c.if-is_word-2.true) c.in-Err-mults_in.fault c.in-Err-mults_in.ensures
