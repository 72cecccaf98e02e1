use Rattle.std.proofs.Common.{rules, [], ◌∙◌, Some, None}
use Rattle.command_words.proofs.FormLemmas.{asks_of-first, asks_of-nothing, shown-askable}
use Rattle.command_words.proofs.words.read_words.Goals as goal

pub returns-in_default : goal.returns-in_default
returns-in_default c = let asked = asks_of-nothing c.args.words.now c.in_default.len_below in record { asked = asked; askable = shown-askable _ c.args.words.now asked }

pub returns-in-Some : goal.returns-in-Some
returns-in-Some c =
    let asked = c.command_asked.ensures ∙ asks_of-first c.args.words.now (record { ref_ptr = (0, 0); now = [] }) (Some c.in-Some.command) c.in-len1-up.len_at_least (search rules) in
    record { asked = asked; askable = shown-askable _ c.args.words.now asked }

pub returns-in-None : goal.returns-in-None
returns-in-None c = let asked = asks_of-first c.args.words.now (record { ref_ptr = (0, 0); now = [] }) None c.in-len1-up.len_at_least (search rules) in record { asked = asked; askable = shown-askable _ c.args.words.now asked }
