use Rattle.std.proofs.Common.{◌∷◌, []}
use Rattle.frac128.specs.Printing.{printed}
use Rattle.mps_writer.proofs.PutLaws.{handed_on, first_put}
use Rattle.mps_writer.proofs.puts.put_bound.Goals as goal

pub returns : goal.returns
returns c =
    handed_on c.put_entry.result
    (λ last.
    first_put c.args.kind.now (c.args.set.now ∷ c.args.name.now ∷ printed c.args.number.now ∷ []) c.args.text.now.items c.put_word.new.text.items c.put_entry.new.text.items c.in-Ok.ensures last) c.put_entry.ensures
