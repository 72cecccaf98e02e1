use Rattle.std.proofs.Common.{◌∷◌, []}
use Rattle.mps_writer.proofs.PutLaws.{handed_on, first_put}
use Rattle.mps_writer.proofs.puts.put_three.Goals as goal

pub returns : goal.returns
returns c =
    handed_on c.put_two.result
    (λ last.
    first_put c.args.first.now (c.args.second.now ∷ c.args.third.now ∷ []) c.args.text.now.items c.put_word.new.text.items c.put_two.new.text.items c.in-Ok.ensures last) c.put_two.ensures
