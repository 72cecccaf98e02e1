use Rattle.std.proofs.Common.{◌∷◌, [], ◌++◌, ap, ◌∙◌}
use Rattle.std.specs.Prelude.{codes}
use Rattle.std.specs.Fmt.{decimal}
use Rattle.frac128.specs.Printing.{printed}
use Rattle.text_lines.specs.Words.{spaced}
use Rattle.cert_writer.proofs.PutLaws.{words_put, words_last}
use Rattle.cert_writer.proofs.printing.put_cut.Goals as goal

pub returns-clause-text : goal.returns-clause-text
returns-clause-text c =
    let k = decimal c.args.cut in
    words_last c.put_number.result (codes "cut" ∷ k ∷ []) (printed c.args.number.now ∷ []) c.args.text.now.items c.put_word-2.new.text.items c.put_number.new.text.items
    (words_put (codes "cut" ∷ []) (k ∷ []) c.args.text.now.items c.put_word.new.text.items c.put_word-2.new.text.items c.in-Ok.ensures
    (c.in-Ok-put_word.ensures ∙ ap (λ w. c.put_word.new.text.items ++ spaced (w ∷ [])) (c.as_bytes.ensures.value ∙ c.format.ensures.text)))
    c.put_number.ensures.text
