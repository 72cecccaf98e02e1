use Rattle.std.proofs.Common.{ap, sym, ◌∙◌}
use Rattle.std.specs.Prelude.{unwrap_or, option_map, []}
use Rattle.clap.specs.Words.{found_of}
use Rattle.program_words.proofs.FindLemmas.{first-same}
use Rattle.program_words.proofs.words.value_of.Goals as goal

pub returns-in-Some : goal.returns-in-Some
returns-in-Some c =
    ap (λ o. unwrap_or o []) (ap (option_map (λ s. s.now)) (sym c.in-Some.is) ∙ c.get_str.ensures ∙ sym (first-same (found_of c.args.matches.now) c.args.name.now))

pub returns-in-None : goal.returns-in-None
returns-in-None c =
    ap (λ o. unwrap_or o []) (ap (option_map (λ s. s.now)) (sym c.in-None.is) ∙ c.get_str.ensures ∙ sym (first-same (found_of c.args.matches.now) c.args.name.now))
