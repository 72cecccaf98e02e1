use Rattle.std.proofs.Common.{ap, subst, ◌≡◌, ◌∙◌, ◌++◌, ◌∷◌, []}
use Rattle.std.specs.Prelude.{codes, IfOk}
use Rattle.text_lines.specs.Words.{spaced}
use Rattle.cert_writer.specs.CertText.{side_word, literal_words}
use Rattle.cert_writer.proofs.PutLaws.{three_last}
use Rattle.cert_writer.proofs.printing.put_cut_line.Goals as goal

pub returns : goal.returns
returns c =
    let cut = c.args.cut.now in
    three_last c.put_literals.result c.args.text.now.items (codes "cut") cut.row (side_word cut.side) (literal_words cut.literals) c.extend_from_slice.new.self.items c.put_word.new.text.items c.put_word-2.new.text.items c.put_literals.new.text.items
    c.in-Ok.ensures.items
    (c.in-Ok-put_word.ensures ∙ ap (λ w. c.extend_from_slice.new.self.items ++ spaced (w ∷ [])) c.as_slice.ensures)
    (c.in-Ok-put_word-2.ensures ∙ ap (λ w. c.put_word.new.text.items ++ spaced (w ∷ [])) c.side_word.ensures)
    (subst (λ ls. IfOk c.put_literals.result (λ _. c.put_literals.new.text.items ≡ c.put_word-2.new.text.items ++ spaced (literal_words ls))) c.as_slice-2.ensures c.put_literals.ensures)
