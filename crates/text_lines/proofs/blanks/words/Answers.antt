use Rattle.std.proofs.Common.{◌++◌, ℕ, List, map, ap, ◌∙◌, Bor}
use Rattle.text_lines.specs.Words.{words_of}
use Rattle.text_lines.proofs.blanks.words.Goals as goal

pub returns-in-Ok : goal.returns-in-Ok
returns-in-Ok c =
    c.in-Ok.ensures ∙ ap (λ (items : List (Bor (List ℕ))). map (λ (word : Bor (List ℕ)). word.now) items ++ words_of c.args.line.now) c.new-words.ensures.items
