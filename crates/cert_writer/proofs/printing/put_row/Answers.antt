use Rattle.std.proofs.Common.{◌∷◌, []}
use Rattle.std.specs.Prelude.{codes}
use Rattle.frac128.specs.Printing.{printed}
use Rattle.cert_writer.proofs.PutLaws.{words_last}
use Rattle.cert_writer.proofs.printing.put_row.Goals as goal

pub returns-clause-text : goal.returns-clause-text
returns-clause-text c =
    words_last c.put_pair.result (codes "row" ∷ []) (c.args.name.now ∷ printed c.args.number.now ∷ []) c.args.text.now.items c.put_word.new.text.items c.put_pair.new.text.items c.in-Ok.ensures c.put_pair.ensures.text

pub returns-clause-room : goal.returns-clause-room
returns-clause-room c = c.put_pair.ensures.room
