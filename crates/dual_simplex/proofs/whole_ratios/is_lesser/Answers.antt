use Rattle.std.proofs.Common.{◌≡◌, ap, ap₂, ◌∙◌, ℤ, arith, ◌*ℤ◌, to_z, of_z, w64}
use Rattle.std.specs.Int.{w128}
use Rattle.table_entries.specs.WholeSteps.{IsShort}
use Rattle.whole_sums.specs.Wholes.{HasMargin}
use Rattle.whole_sums.proofs.RoomLemmas.{short_product}
use Rattle.table_entries.proofs.ReadLemmas.{short_read, short_again, product_read}
use Rattle.dual_simplex.proofs.WholeRatioLemmas.{crossed_decides}
use Rattle.dual_simplex.proofs.whole_ratios.is_lesser.Goals as goal

read : (p f n : ℤ) → IsShort f → IsShort n → p ≡ to_z w64 (of_z w64 f) *ℤ to_z w64 (of_z w64 n) → to_z w128 (of_z w128 p) ≡ f *ℤ n
read p f n f_short n_short is =
    let margin : HasMargin (f *ℤ n) = let size = short_product f n f_short n_short in omega (arith, size) in
    ap (λ t. to_z w128 (of_z w128 t)) (is ∙ ap₂ ◌*ℤ◌ (short_read f f_short) (short_read n n_short)) ∙ product_read (f *ℤ n) margin

pub product-requires-clause-first : goal.product-requires-clause-first
product-requires-clause-first c = short_again c.args.left.now.top c.requires.left.top_short

pub product-requires-clause-second : goal.product-requires-clause-second
product-requires-clause-second c = short_again c.args.right.now.bottom c.requires.right.bottom_short

pub product-requires-2-clause-first : goal.product-requires-2-clause-first
product-requires-2-clause-first c = short_again c.args.right.now.top c.requires.right.top_short

pub product-requires-2-clause-second : goal.product-requires-2-clause-second
product-requires-2-clause-second c = short_again c.args.left.now.bottom c.requires.left.bottom_short

pub returns : goal.returns
returns c =
    let left = c.requires.left in
    let right = c.requires.right in
    crossed_decides c.args.left.now.top c.args.left.now.bottom c.args.right.now.top c.args.right.now.bottom _ _ left.positive right.positive
    (read c.product.result c.args.left.now.top c.args.right.now.bottom left.top_short right.bottom_short c.product.ensures)
    (read c.product-2.result c.args.right.now.top c.args.left.now.bottom right.top_short left.bottom_short c.product-2.ensures)
