use Rattle.std.proofs.Common.{ap, ◌∙◌, ◌++◌, ◌∷◌, []}
use Rattle.text_lines.specs.Words.{spaced}
use Rattle.std.specs.Prelude.{is_ok, if◌then◌else◌}
use Rattle.cert_writer.proofs.PutLaws.{signed_last}
use Rattle.cert_writer.specs.CertText.{sign_of}
use Rattle.cert_writer.proofs.printing.put_literal.Goals as goal

pub returns : goal.returns
returns c =
    let one = c.put_word.new.text.items in
    signed_last c.extend_from_slice.result c.args.text.now.items c.args.name.now one c.extend_from_slice.new.self.items (sign_of c.args.plus)
    (c.in-Ok.ensures ∙ ap (λ w. c.args.text.now.items ++ spaced (w ∷ [])) c.sign_word.ensures)
    (c.extend_from_slice.ensures.items ∙ ap (λ l. if is_ok c.extend_from_slice.result then one ++ l else one) c.as_slice.ensures)
