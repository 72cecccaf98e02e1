use Rattle.std.proofs.Common.{◌∷◌, []}
use Rattle.std.specs.Prelude.{codes}
use Rattle.frac128.specs.Printing.{printed}
use Rattle.cert_writer.proofs.PutLaws.{words_last, behind_last, if_ok}
use Rattle.cert_writer.proofs.printing.put_within.Goals as goal

pub returns-clause-text : goal.returns-clause-text
returns-clause-text c =
    let g = c.args.gap.now in
    let v = c.args.value.now in
    let begun = c.extend_from_slice.new.self.items in
    behind_last c.put_number-2.result c.args.text.now.items (codes "claim within") (printed g ∷ printed v ∷ []) begun c.put_number-2.new.text.items c.in-Ok.ensures.items
    (words_last c.put_number-2.result (printed g ∷ []) (printed v ∷ []) begun c.put_number.new.text.items c.put_number-2.new.text.items c.in-Ok-put_number.ensures.text c.put_number-2.ensures.text)

pub returns-clause-room : goal.returns-clause-room
returns-clause-room c = if_ok c.put_number-2.result (c.put_number.ensures.room, c.put_number-2.ensures.room)
