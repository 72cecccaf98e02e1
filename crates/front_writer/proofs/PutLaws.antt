-- What is put of a front's certificate, line by line.
use Rattle.std.proofs.Common.{◌≡◌, ℕ, List, [], ◌∷◌, ◌++◌, sym, ap, ◌∙◌, append_assoc, if◌then◌else◌}
use Rattle.std.specs.Prelude.{codes, Result, Ok, Err, is_ok, IfOk}
use Rattle.front_text.specs.declared.front.FrontTree.{FrontTree}
use Rattle.front_text.specs.declared.front.FrontOutcome.{FrontOutcome}
use Rattle.front_text.specs.declared.front.FrontCert.{FrontCert}
use Rattle.cert_writer.specs.CertText.{lines_text}
use Rattle.cert_writer.proofs.PutLaws.{lines_append}
use Rattle.front_writer.specs.FrontWords.{outcome_lines, tree_lines, lines_of_trees, printed_front}

pub outcome_step : (o : FrontOutcome) (outcomes : List FrontOutcome) → lines_text (outcome_lines (o ∷ outcomes)) ≡ lines_text (outcome_lines (o ∷ [])) ++ lines_text (outcome_lines outcomes)
outcome_step o outcomes = lines_append (outcome_lines (o ∷ [])) (outcome_lines outcomes)

pub tree_step : (tree : FrontTree) (trees : List FrontTree) → lines_text (lines_of_trees (tree ∷ trees)) ≡ lines_text (tree_lines tree) ++ lines_text (lines_of_trees trees)
tree_step tree trees = lines_append (tree_lines tree) (lines_of_trees trees)

-- the parts of a certificate's text one after the other
front_parts : (cert : FrontCert) (a b c new : List ℕ) → a ≡ codes "front 1\n" → b ≡ a ++ lines_text (outcome_lines cert.outcomes) → c ≡ b ++ lines_text (lines_of_trees cert.trees) → new ≡ c ++ codes "end\n" → new ≡ printed_front cert
unfolding printed_front
front_parts cert a b c new first second third last =
    let head = codes "front 1\n" in
    let outcomes = lines_text (outcome_lines cert.outcomes) in
    let trees = lines_text (lines_of_trees cert.trees) in
    let ended = codes "end\n" in
    last
    ∙ ap (λ l. l ++ ended) (third ∙ ap (λ l. l ++ trees) (second ∙ ap (λ l. l ++ outcomes) first) ∙ append_assoc head outcomes trees)
    ∙ append_assoc head (outcomes ++ trees) ended
    ∙ ap (λ l. head ++ l)
    (ap (λ l. l ++ ended) (sym (lines_append (outcome_lines cert.outcomes) (lines_of_trees cert.trees)))
    ∙ sym (lines_append (outcome_lines cert.outcomes ++ lines_of_trees cert.trees) ((codes "end" ∷ []) ∷ [])))

-- ---- the same where the last call may have had no memory

module _ {T E : Type 0} where
  pub front_last : (last : Result T E) (cert : FrontCert) (a b c new : List ℕ) → a ≡ codes "front 1\n" → b ≡ a ++ lines_text (outcome_lines cert.outcomes) → c ≡ b ++ lines_text (lines_of_trees cert.trees) →
      new ≡ (if is_ok last then c ++ codes "end\n" else c) → IfOk last (λ _. new ≡ printed_front cert)
  front_last (Ok x) cert a b c new first second third ended = front_parts cert a b c new first second third ended
  front_last (Err x) cert a b c new first second third ended = tt
