use Rattle.std.proofs.Common.{◌∷◌, []}
use Rattle.frac128.specs.Printing.{printed}
use Rattle.cert_writer.proofs.PutLaws.{words_last, if_ok}
use Rattle.cert_writer.proofs.printing.put_pair.Goals as goal

pub returns-clause-text : goal.returns-clause-text
returns-clause-text c =
    words_last c.put_number.result (c.args.name.now ∷ []) (printed c.args.number.now ∷ []) c.args.text.now.items c.put_word.new.text.items c.put_number.new.text.items (rw c.as_slice.ensures at c.in-Ok.ensures) c.put_number.ensures.text

pub returns-clause-room : goal.returns-clause-room
returns-clause-room c = if_ok c.put_number.result c.put_number.ensures.room
