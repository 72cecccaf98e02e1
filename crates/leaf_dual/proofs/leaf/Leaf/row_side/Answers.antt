use Rattle.std.proofs.Common.{◌≡◌, ◌∙◌, None}
use Rattle.lp_model.specs.Program.{low_side, high_side}
use Rattle.lp_model.proofs.ElementLemmas.{of_element-read}
use Rattle.leaf_dual.specs.Dual.{needed_side}
use Rattle.leaf_dual.proofs.leaf.Leaf.row_side.Goals as goal

pub returns : goal.returns
returns c =
    let M = c.args.self.now.model.now in
    let i = c.args.row in
    let row = c.index-rows-row.result in
    let low : row.lo ≡ low_side M i = of_element-read None (λ r. r.lo) M.rows c.rows.result.now i row c.rows.ensures.items c.requires c.index-rows-row.is in
    let high : row.hi ≡ high_side M i = of_element-read None (λ r. r.hi) M.rows c.rows.result.now i row c.rows.ensures.items c.requires c.index-rows-row.is in
    c.needed_side.ensures ∙ (λ t. needed_side (c.multiplier.ensures t) (low t) (high t))
