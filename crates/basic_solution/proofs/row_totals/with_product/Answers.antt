use Rattle.std.proofs.Common.{sym, ap₂, subst, ◌∙◌, ◌≡◌, ◌≤◌, ◌^◌, arith, ◌*ℤ◌, ℤ, unsigned_abs, to_z, of_z, w64}
use Rattle.std.proofs.lemmas.Int.{ints}
use Rattle.table_entries.specs.WholeSteps.{IsShort}
use Rattle.whole_sums.proofs.RoomLemmas.{short_product}
use Rattle.table_entries.proofs.ReadLemmas.{short_read, short_again}
use Rattle.basic_solution.proofs.row_totals.with_product.Goals as goal

product_is : (f n p : ℤ) → IsShort f → IsShort n → p ≡ to_z w64 (of_z w64 f) *ℤ to_z w64 (of_z w64 n) → p ≡ f *ℤ n
product_is f n p f_short n_short e = e ∙ ap₂ ◌*ℤ◌ (short_read f f_short) (short_read n n_short)

product_small : (f n p : ℤ) → IsShort f → IsShort n → p ≡ f *ℤ n → unsigned_abs p ≤ 2 ^ 124
product_small f n p f_short n_short e = subst (λ x. unsigned_abs x ≤ 2 ^ 124) (sym e) (short_product f n f_short n_short)

pub product-requires-clause-first : goal.product-requires-clause-first
product-requires-clause-first c = short_again c.args.factor c.requires.factor

pub product-requires-clause-second : goal.product-requires-clause-second
product-requires-clause-second c = short_again c.args.number c.requires.number

pub overflow_add-result : goal.overflow_add-result
overflow_add-result c =
    let a = c.args in
    let is = product_is a.factor a.number c.product.result c.requires.factor c.requires.number c.product.ensures in
    let small = product_small a.factor a.number c.product.result c.requires.factor c.requires.number is in
    let margin = c.requires.total in
    omega (arith, ints, small, margin)

pub returns : goal.returns
returns c =
    let a = c.args in
    let is = product_is a.factor a.number c.product.result c.requires.factor c.requires.number c.product.ensures in
    let small = product_small a.factor a.number c.product.result c.requires.factor c.requires.number is in
    let margin = c.requires.total in
    omega (arith, ints, is, small, margin)
