use Rattle.std.proofs.Common.{◌≡◌, ◌++◌, ℕ, List, map, sym, ap, ◌∙◌, append_assoc, Bor}
use Rattle.text_lines.specs.Words.{word_in, words_of}
use Rattle.text_lines.proofs.WordLemmas.{words_piece, words_last, pushed_last}
use Rattle.text_lines.proofs.blanks.push_words.Goals as goal

abbrev nows : List (Bor (List ℕ)) → List (List ℕ)
nows words = map (λ word. word.now) words

pub loop-piece-preserved : goal.loop-piece-preserved
loop-piece-preserved c =
    let front = nows c.loop-piece.words.items in
    let piece = c.in-Some.piece.now in
    let more = c.in-Some.more.now in
    let parts = c.in-Some.ensures.parts in
    let step : words_of c.loop-piece.rest.now ≡ word_in piece ++ words_of more = ap words_of parts.2 ∙ words_piece piece parts.0 more c.in-Some.ensures.clean parts.1 in
    c.loop-piece.invariant
    ∙ ap (λ (tail : List (List ℕ)). front ++ tail) step
    ∙ sym (append_assoc front (word_in piece) (words_of more))
    ∙ ap (λ (words : List (List ℕ)). words ++ words_of more) (sym c.in-Ok.ensures)

pub returns : goal.returns
returns c =
    let front = nows c.loop-piece.words.items in
    let rest = c.loop-piece.rest.now in
    pushed_last c.push_word-2.result front (word_in rest) (nows c.args.words.now.items ++ words_of c.args.line.now) (nows c.push_word-2.new.words.items)
    (c.loop-piece.invariant ∙ ap (λ (tail : List (List ℕ)). front ++ tail) (words_last rest c.in_default.ensures.none)) c.push_word-2.ensures
