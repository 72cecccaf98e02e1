-- Small numbers, short ones and totals as 64 and 128 bits are read: what the code sees of them is the number.
use Rattle.std.specs.Prelude.{◌≡◌, ◌^◌, ◌<◌, ◌≤◌, ◌+◌, ◌*◌, ◌+ℤ◌, ◌*ℤ◌, ℕ, ℤ, pos, unsigned_abs}
use Rattle.std.specs.Int.{w128}
use Rattle.std.proofs.Common.{sym, ap, ap₂, subst, ◌∙◌, arith, to_z, of_z, w64}
use Rattle.std.proofs.lemmas.Int.{ints}
use Rattle.table_entries.specs.WholeSteps.{IsShort}
use Rattle.whole_sums.specs.Wholes.{HasMargin}
use Rattle.whole_sums.proofs.RoomLemmas.{short_product}
use Rattle.table_entries.proofs.ReadLemmas.{short_read, product_read}
use Rattle.basic_solution.specs.RowTotals.{IsSmallNumber}
use Rattle.basic_solution.proofs.RowTotalLemmas.{start_size}

pub small_short : (n : ℤ) → IsSmallNumber n → IsShort n
small_short n h = omega (arith, h)

pub small_read : (n : ℤ) → IsSmallNumber n → to_z w64 (of_z w64 n) ≡ n
small_read n h = short_read n (small_short n h)

pub small_again : (n : ℤ) → IsSmallNumber n → IsSmallNumber (to_z w64 (of_z w64 n))
small_again n h = subst IsSmallNumber (sym (small_read n h)) h

pub small_short_again : (n : ℤ) → IsSmallNumber n → IsShort (to_z w64 (of_z w64 n))
small_short_again n h = subst IsShort (sym (small_read n h)) (small_short n h)

-- a small number that was handed from 128 bits to 64
pub small_narrowed : (x n : ℤ) → x ≡ n → IsSmallNumber n → to_z w64 (of_z w64 (to_z w128 (of_z w128 x))) ≡ n
small_narrowed x n is small = omega (arith, ints, is, small)

-- a small number of which the code says that it is 0
pub small_none : (n : ℤ) → IsSmallNumber n → of_z w64 n ≡ 0 → n ≡ pos 0
small_none n h e = omega (arith, ints, e, h)

pub margin_again : (n : ℤ) → HasMargin n → HasMargin (to_z w128 (of_z w128 n))
margin_again n h = subst HasMargin (sym (product_read n h)) h

-- the product that the code makes of a small number and a short one
wide : (n : ℤ) → unsigned_abs n ≤ 2 ^ 93 → HasMargin n
wide n h = omega (arith, h)

pub start_read : (p n d : ℤ) → IsSmallNumber n → IsShort d → p ≡ to_z w64 (of_z w64 n) *ℤ to_z w64 (of_z w64 d) → to_z w128 (of_z w128 p) ≡ n *ℤ d
start_read p n d small short is =
    ap (λ t. to_z w128 (of_z w128 t)) (is ∙ ap₂ ◌*ℤ◌ (small_read n small) (short_read d short)) ∙ product_read (n *ℤ d) (wide (n *ℤ d) (start_size n d small short))

-- the total with one more product
pub total_read : (q total f n : ℤ) → IsShort f → IsShort n → HasMargin (total +ℤ f *ℤ n) → q ≡ total +ℤ to_z w64 (of_z w64 f) *ℤ to_z w64 (of_z w64 n) → to_z w128 (of_z w128 q) ≡ total +ℤ f *ℤ n
total_read q total f n f_short n_short margin is =
    ap (λ t. to_z w128 (of_z w128 t)) (is ∙ ap₂ (λ x y. total +ℤ x *ℤ y) (short_read f f_short) (short_read n n_short)) ∙ product_read (total +ℤ f *ℤ n) margin

-- ---- where a sum begins

pub none_small : unsigned_abs (pos 0) < 2 ^ 31
none_small = omega arith

pub none_within : unsigned_abs (pos 0) ≤ 0 * 2 ^ 93
none_within = omega arith

pub all_left : (n : ℕ) → unsigned_abs (pos 0) + n * 2 ^ 93 ≤ n * 2 ^ 93
all_left n = omega arith

pub none_below : (k : ℕ) → ¬ (k < 0)
none_below k below = omega (arith, below)

-- what is left of the room of so many terms
pub part_margin : (columns end : ℕ) (total : ℤ) → columns < 2 ^ 32 → unsigned_abs total + end * 2 ^ 93 ≤ columns * 2 ^ 93 → HasMargin total
part_margin columns end total few size = omega (arith, few, size)

-- the product that the code makes of two short numbers
pub shorts_read : (p f n : ℤ) → IsShort f → IsShort n → p ≡ to_z w64 (of_z w64 f) *ℤ to_z w64 (of_z w64 n) → to_z w128 (of_z w128 p) ≡ f *ℤ n
shorts_read p f n f_short n_short is =
    let margin : HasMargin (f *ℤ n) = let size = short_product f n f_short n_short in omega (arith, size) in
    ap (λ t. to_z w128 (of_z w128 t)) (is ∙ ap₂ ◌*ℤ◌ (short_read f f_short) (short_read n n_short)) ∙ product_read (f *ℤ n) margin
