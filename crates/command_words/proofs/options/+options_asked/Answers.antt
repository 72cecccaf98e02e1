use Rattle.std.proofs.Common.{◌∙◌, sym}
use Rattle.command_words.specs.Asks.{begun_asks}
use Rattle.command_words.proofs.OptionLemmas.{options_asks-few, options_asks-none, options_asks-some}
use Rattle.command_words.proofs.options.+options_asked.Goals as goal

pub returns-in_default : goal.returns-in_default
returns-in_default t c = c.search_asked.ensures ∙ options_asks-few (begun_asks c.args.beginning) c.args.options c.args.words.now c.in_default.len_below

pub returns-in-Some : goal.returns-in-Some
returns-in-Some t c =
    c.options_asked.ensures
    ∙ options_asks-some (begun_asks c.args.beginning) c.args.options c.in-Some.given c.args.words.now c.in-len2-up.len_at_least (sym c.with_named_option.ensures ∙ c.in-Some.is)

pub returns-in-None : goal.returns-in-None
returns-in-None t c = options_asks-none (begun_asks c.args.beginning) c.args.options c.args.words.now c.in-len2-up.len_at_least (sym c.with_named_option.ensures ∙ c.in-None.is)
