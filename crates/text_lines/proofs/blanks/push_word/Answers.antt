use Rattle.std.proofs.Common.{◌≡◌, ◌<◌, ◌++◌, ℕ, List, length, map, sym, ap, ◌∙◌, arith, Bor}
use Rattle.std.proofs.lemmas.Grind.{common_steps}
use Rattle.std.proofs.lemmas.List.{append-nil, map_push}
use Rattle.text_lines.proofs.WordLemmas.{word_in-nothing, word_in-some}
use Rattle.text_lines.proofs.blanks.push_word.Goals as goal

abbrev nows : List (Bor (List ℕ)) → List (List ℕ)
nows words = map (λ word. word.now) words

pub returns-then-is_empty : goal.returns-then-is_empty
returns-then-is_empty c =
    let old = nows c.args.words.now.items in
    let none : length c.args.piece.now ≡ 0 = grind (arith, common_steps) in
    sym (ap (λ (tail : List (List ℕ)). old ++ tail) (word_in-nothing c.args.piece.now none) ∙ append-nil old)

pub returns-in-Ok : goal.returns-in-Ok
returns-in-Ok c =
    let old = nows c.args.words.now.items in
    let some : 0 < length c.args.piece.now = grind (arith, common_steps) in
    ap nows c.in-Ok.ensures.items
    ∙ map_push (λ (word : Bor (List ℕ)). word.now) c.args.words.now.items c.args.piece
    ∙ ap (λ (tail : List (List ℕ)). old ++ tail) (sym (word_in-some c.args.piece.now some))
