-- Goals of the usual kinds, and what closes each.
use Rattle.std.specs.Prelude.{◌≡◌, [], ◌∷◌, pos, negsuc}
use Rattle.std.proofs.Common.{refl, arith}
use Rattle.frac128.specs.Gcd.{gcd}
use Rattle.frac128.specs.Rational.{ℚ, int, ◌+ℚ◌, ◌-ℚ◌, ◌*ℚ◌, ◌≤ℚ◌, ◌<ℚ◌, reduced, below_product, floor}
use Rattle.frac128.specs.RationalRing.{ring, reads_ℚ}
use Rattle.frac128.specs.RationalOrder.{mul-≤ℚ, linear, orders_ℚ}
use Rattle.frac128.proofs.Linear.{linarith, known}
use Rattle.frac128.proofs.Division.{ring_from}

-- an equation of the ring: list the atoms
an_equation : (x y z : ℚ) → (x +ℚ int (pos 2)) *ℚ z -ℚ x ≡ int (pos 2) *ℚ z +ℚ z *ℚ x +ℚ int (negsuc 0) *ℚ x
an_equation x y z = ring (x ∷ y ∷ z ∷ []) (search reads_ℚ depth 9) tt

-- an equation from another
from_an_equation : (x y z : ℚ) → x +ℚ y ≡ z → int (pos 2) *ℚ y -ℚ z ≡ y -ℚ x
from_an_equation x y z e = ring_from (x ∷ y ∷ z ∷ []) e (search reads_ℚ depth 9) tt

-- a chain, or sums and products of orders: no atoms to list
a_chain : (x y z w : ℚ) → x ≤ℚ y → y <ℚ z → z ≤ℚ w → x <ℚ w
a_chain x y z w h k l = search orders_ℚ

a_combination : (m x y z w : ℚ) → int (pos 0) ≤ℚ m → x ≤ℚ y → z ≤ℚ w → m *ℚ x +ℚ z ≤ℚ m *ℚ y +ℚ w
a_combination m x y z w h k l = grind (arith, orders_ℚ)

-- an order from one that you name: sums by `add-≤ℚ`, a factor by `mul-≤ℚ`
an_order : (c y a e x : ℚ) → int (pos 0) ≤ℚ x → y *ℚ a ≤ℚ c +ℚ e → (y *ℚ a) *ℚ x ≤ℚ x *ℚ c +ℚ e *ℚ x
an_order c y a e x n h = linear (c ∷ y ∷ a ∷ e ∷ x ∷ []) (mul-≤ℚ n h) (search reads_ℚ depth 9) tt

-- an order from several, each taken no, one or two times: no combination to name
from_several : (x y z w : ℚ) → x ≤ℚ y → w ≤ℚ z → y ≤ℚ z +ℚ int (pos 1) → z ≤ℚ w -ℚ int (pos 3) → x +ℚ z ≤ℚ w +ℚ w -ℚ int (pos 5)
from_several x y z w h u k l =
    linarith (x ∷ y ∷ z ∷ w ∷ []) (known h (search reads_ℚ) ∷ known u (search reads_ℚ) ∷ known k (search reads_ℚ) ∷ known l (search reads_ℚ) ∷ []) (search reads_ℚ depth 9) tt

-- numbers that are written out compute
halves_and_thirds : reduced (pos 1) 1 +ℚ reduced (pos 1) 2 ≡ reduced (pos 5) 5
unfolding ◌+ℚ◌ reduced gcd below_product
halves_and_thirds = refl

rounded_down : floor (reduced (negsuc 6) 1) ≡ negsuc 3
unfolding floor reduced gcd
rounded_down = refl
