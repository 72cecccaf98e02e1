use Rattle.std.proofs.Common.{◌≡◌, ◌∷◌, [], ◌++◌, subst}
use Rattle.std.specs.Prelude.{codes, IfOk}
use Rattle.lp_model.specs.Edits.{Named}
use Rattle.cert_writer.specs.CertText.{named_words, lines_text}
use Rattle.cert_writer.specs.Room.{HasFractions}
use Rattle.front_writer.specs.FrontWords.{outcome_words}
use Rattle.cert_writer.proofs.LinesPut.{lines_last}
use Rattle.front_writer.proofs.printing.put_outcome.Goals as goal

pub returns-clause-text : goal.returns-clause-text
returns-clause-text c =
    let o = c.args.outcome.now in
    let last = c.put_named_line.result in
    let new = c.put_named_line.new.text.items in
    lines_last last c.args.text.now.items (outcome_words o.v1 o.v2) ((codes "point" ∷ named_words o.point) ∷ []) c.put_values.new.text.items c.push.new.self.items new c.in-Ok.ensures c.in-Ok-push.ensures.items
    (subst (λ (named : Named). IfOk last (λ _. new ≡ c.push.new.self.items ++ lines_text ((codes "point" ∷ named_words named) ∷ []))) c.as_slice.ensures c.put_named_line.ensures.text)

pub returns-clause-room : goal.returns-clause-room
returns-clause-room c = subst (λ (named : Named). IfOk c.put_named_line.result (λ _. HasFractions named)) c.as_slice.ensures c.put_named_line.ensures.room
