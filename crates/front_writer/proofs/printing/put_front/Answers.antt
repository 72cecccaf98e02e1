use Rattle.std.proofs.Common.{◌≡◌, ap, subst, ◌∙◌, ◌++◌}
use Rattle.std.specs.Prelude.{All, codes}
use Rattle.cert_writer.specs.CertText.{lines_text}
use Rattle.cert_writer.proofs.PutLaws.{if_ok}
use Rattle.front_writer.specs.FrontWords.{outcome_lines, lines_of_trees}
use Rattle.front_writer.specs.private.FrontRoom.{HasOutcomeRoom, HasTreeRoom}
use Rattle.front_writer.proofs.PutLaws.{front_last}
use Rattle.front_writer.proofs.printing.put_front.Goals as goal

pub returns-clause-text : goal.returns-clause-text
returns-clause-text c =
    let begun : c.extend_from_slice.new.self.items ≡ codes "front 1\n" = c.in-Ok.ensures.items ∙ ap (λ l. l ++ codes "front 1\n") c.requires in
    front_last c.extend_from_slice-2.result c.args.cert.now c.extend_from_slice.new.self.items c.put_outcomes.new.text.items c.put_trees.new.text.items c.extend_from_slice-2.new.self.items begun
    (c.in-Ok-put_outcomes.ensures.text ∙ ap (λ os. c.extend_from_slice.new.self.items ++ lines_text (outcome_lines os)) c.as_slice.ensures)
    (c.in-Ok-put_trees.ensures.text ∙ ap (λ ts. c.put_outcomes.new.text.items ++ lines_text (lines_of_trees ts)) c.as_slice-2.ensures)
    c.extend_from_slice-2.ensures.items

pub returns-clause-room : goal.returns-clause-room
returns-clause-room c =
    if_ok c.extend_from_slice-2.result
    (record { outcomes = subst (All HasOutcomeRoom) c.as_slice.ensures c.in-Ok-put_outcomes.ensures.room; trees = subst (All HasTreeRoom) c.as_slice-2.ensures c.in-Ok-put_trees.ensures.room })
