-- Lines put behind a line, and behind lines.
use Rattle.std.proofs.Common.{◌≡◌, ℕ, List, [], ◌∷◌, ◌++◌, sym, ap, ◌∙◌, append_assoc}
use Rattle.std.specs.Prelude.{Result, Ok, Err, IfOk}
use Rattle.text_lines.specs.Words.{Words}
use Rattle.cert_writer.specs.CertText.{line_text, lines_text}
use Rattle.cert_writer.proofs.PutLaws.{lines_append, line_put}

lines_put : (old : List ℕ) (first : Words) (lines : List Words) (a b new : List ℕ) → a ≡ old ++ line_text first → b ≡ a ++ 10 ∷ [] → new ≡ b ++ lines_text lines → new ≡ old ++ lines_text (first ∷ lines)
lines_put old first lines a b new begun ended more =
    more
    ∙ ap (λ l. l ++ lines_text lines) (line_put old (line_text first) a b begun ended)
    ∙ append_assoc old (line_text first ++ 10 ∷ []) (lines_text lines)
    ∙ ap (λ l. old ++ l) (append_assoc (line_text first) (10 ∷ []) (lines_text lines))

-- where the last call may have had no memory
module _ {T E : Type 0} where
  pub lines_last : (last : Result T E) (old : List ℕ) (first : Words) (lines : List Words) (a b new : List ℕ) → a ≡ old ++ line_text first → b ≡ a ++ 10 ∷ [] → IfOk last (λ _. new ≡ b ++ lines_text lines) →
      IfOk last (λ _. new ≡ old ++ lines_text (first ∷ lines))
  lines_last (Ok x) old first lines a b new begun ended more = lines_put old first lines a b new begun ended more
  lines_last (Err x) old first lines a b new begun ended more = tt

  pub more_last : (last : Result T E) (one two : List Words) (old a new : List ℕ) → a ≡ old ++ lines_text one → IfOk last (λ _. new ≡ a ++ lines_text two) → IfOk last (λ _. new ≡ old ++ lines_text (one ++ two))
  more_last (Ok x) one two old a new begun more = more ∙ ap (λ l. l ++ lines_text two) begun ∙ append_assoc old (lines_text one) (lines_text two) ∙ ap (λ l. old ++ l) (sym (lines_append one two))
  more_last (Err x) one two old a new begun more = tt
