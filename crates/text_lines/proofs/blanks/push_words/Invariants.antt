use Rattle.std.proofs.Common.{◌≡◌, ◌++◌, ℕ, List, length, map, Bor}
use Rattle.text_lines.specs.Words.{words_of}
use Rattle.text_lines.proofs.blanks.push_words.Given as goal

abbrev pub invariant-loop-piece : goal.invariant-loop-piece
invariant-loop-piece l =
    map (λ (word : Bor (List ℕ)). word.now) l.fn.words.items ++ words_of l.line ≡ map (λ (word : Bor (List ℕ)). word.now) l.words.items ++ words_of l.rest

abbrev pub decreases-loop-piece : goal.decreases-loop-piece
decreases-loop-piece l = length l.rest
