use Rattle.std.proofs.Common.{◌≡◌, ◌<◌, false, arith, length, ap, IsTrue}
use Rattle.leaf_dual.proofs.leaf.Leaf.lacks_row_side.Goals as goal

pub returns : goal.returns
returns c =
    let items : length c.rows-row-end.result.now ≡ length c.args.self.now.model.now.rows = ap length c.rows-row-end.ensures.items in (
      (λ e. let t : IsTrue false = e in cc),
      (λ (i, (below, none)). let h : i < c.loop-row.row = omega arith in absurd (c.loop-row.invariant i h none)),
    )
