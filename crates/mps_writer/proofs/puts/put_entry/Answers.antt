use Rattle.std.proofs.Common.{◌∷◌, []}
use Rattle.frac128.specs.Printing.{printed}
use Rattle.mps_writer.proofs.PutLaws.{words_put, data_put}
use Rattle.mps_writer.proofs.puts.put_entry.Goals as goal

pub returns : goal.returns
returns c =
    let a = c.args.first.now in
    let b = c.args.name.now in
    let x = printed c.args.number.now in
    let old = c.args.text.now.items in
    data_put (a ∷ b ∷ x ∷ []) old c.put_number.new.text.items c.push.new.self.items
    (words_put (a ∷ b ∷ []) (x ∷ []) old c.put_word-2.new.text.items c.put_number.new.text.items
    (words_put (a ∷ []) (b ∷ []) old c.put_word.new.text.items c.put_word-2.new.text.items c.in-Ok.ensures c.in-Ok-put_word.ensures) c.in-Ok-put_number.ensures) c.in-Ok-push.ensures.items
