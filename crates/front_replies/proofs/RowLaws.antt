-- What is put of outcomes, row by row.
use Rattle.std.proofs.Common.{◌≡◌, ℕ, List, [], ◌∷◌, ◌++◌, map, sym, ap, ◌∙◌, append_assoc, if◌then◌else◌}
use Rattle.std.specs.Prelude.{codes, Result, Ok, Err, is_ok, IfOk}
use Rattle.frontier.specs.declared.outcomes.Outcome.{Outcome}
use Rattle.cert_writer.specs.CertText.{line_text, lines_text}
use Rattle.text_lines.specs.Words.{Words, spaced}
use Rattle.cert_writer.proofs.PutLaws.{lines_append, spaced_append}
use Rattle.front_replies.specs.FrontReplies.{row_words, head_words, complete_front_text}

pub row_step : (o : Outcome) (outcomes : List Outcome) → lines_text (map row_words (o ∷ outcomes)) ≡ (line_text (row_words o) ++ 10 ∷ []) ++ lines_text (map row_words outcomes)
row_step o outcomes = sym (append_assoc (line_text (row_words o)) (10 ∷ []) (lines_text (map row_words outcomes)))

-- the end behind the rows
pub end_last : {T E : Type 0} (last : Result T E) (outcomes : List Outcome) (old one new : List ℕ) → one ≡ old ++ lines_text (head_words (codes "complete") outcomes ∷ map row_words outcomes) →
    new ≡ (if is_ok last then one ++ codes "end\n" else one) → IfOk last (λ _. new ≡ old ++ complete_front_text outcomes)
end_last (Ok x) outcomes old one new begun ended =
    let lines = head_words (codes "complete") outcomes ∷ map row_words outcomes in
    ended ∙ ap (λ l. l ++ codes "end\n") begun ∙ append_assoc old (lines_text lines) (codes "end\n") ∙ ap (λ l. old ++ l) (sym (lines_append lines ((codes "end" ∷ []) ∷ [])))
end_last (Err x) outcomes old one new begun ended = tt

-- two runs of words behind a word
pub two_behind_last : {T E : Type 0} (last : Result T E) (old head : List ℕ) (a b : Words) (one two new : List ℕ) → one ≡ old ++ head → two ≡ one ++ spaced a → IfOk last (λ _. new ≡ two ++ spaced b)
    → IfOk last (λ _. new ≡ old ++ (head ++ spaced (a ++ b)))
two_behind_last (Ok x) old head a b one two new e f g =
    g
    ∙ ap (λ l. l ++ spaced b) (f ∙ ap (λ l. l ++ spaced a) e)
    ∙ append_assoc (old ++ head) (spaced a) (spaced b)
    ∙ append_assoc old head (spaced a ++ spaced b)
    ∙ ap (λ l. old ++ (head ++ l)) (sym (spaced_append a b))
two_behind_last (Err x) old head a b one two new e f g = tt
