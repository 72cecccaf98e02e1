use Rattle.std.proofs.Common.{◌∙◌}
use Rattle.std.proofs.lemmas.Bool.Decides.{same_from_decides}
use Rattle.frac128.proofs.Comparison.{is_le-decides, rational_le-decides}
use Rattle.mps_fields.proofs.numbers.is_at_most.Goals as goal

pub returns : goal.returns
returns c =
    let x = c.args.number.now in
    let y = c.args.other.now in
    c.le.ensures ∙ same_from_decides _ _ (is_le-decides x y) (rational_le-decides x y)
