-- Whole numbers that have room, as 64 or 128 bits are read: what the code sees of them is the number.
use Rattle.std.specs.Prelude.{◌≡◌, ◌^◌, ◌<◌, ◌≤◌, ◌<ℤ◌, ◌+ℤ◌, ◌-ℤ◌, ◌*ℤ◌, ℕ, ℤ, pos, unsigned_abs, [], ◌∷◌}
use Rattle.std.specs.Int.{w128}
use Rattle.std.proofs.Common.{FitsSigned, refl, sym, ap, ap₂, subst, ◌∙◌, arith, to_z, of_z, w64}
use Rattle.std.proofs.lemmas.Int.{ints}
use Rattle.frac128.specs.IntegerRing.{ring_ℤ, reads_ℤ}
use Rattle.whole_sums.specs.Wholes.{IsShort, HasMargin, IsDenominator}
use Rattle.whole_sums.proofs.RoomLemmas.{short_product}

pub short_read : (n : ℤ) → IsShort n → to_z w64 (of_z w64 n) ≡ n
short_read n h = omega (arith, ints, h)

pub short_again : (n : ℤ) → IsShort n → IsShort (to_z w64 (of_z w64 n))
short_again n h = subst IsShort (sym (short_read n h)) h

pub negative_short : (n : ℤ) → IsShort n → IsShort (pos 0 -ℤ n)
negative_short n h = omega (arith, ints, h)

pub positive_again : (n : ℤ) → IsShort n → pos 0 <ℤ n → pos 0 <ℤ to_z w64 (of_z w64 n)
positive_again n h positive = subst (λ x. pos 0 <ℤ x) (sym (short_read n h)) positive

pub denominator_again : (d : ℤ) → IsDenominator d → IsDenominator (to_z w64 (of_z w64 d))
denominator_again d is = subst IsDenominator (sym (short_read d is.short)) is

pub room_read : (n : ℤ) → HasMargin n → to_z w128 (of_z w128 n) ≡ n
room_read n h = omega (arith, ints, h)

pub room_again : (n : ℤ) → HasMargin n → HasMargin (to_z w128 (of_z w128 n))
room_again n h = subst HasMargin (sym (room_read n h)) h

-- a short number, and a product of two, in 128 bits
pub wide_read : (n : ℤ) → unsigned_abs n ≤ 2 ^ 124 → to_z w128 (of_z w128 n) ≡ n
wide_read n h = omega (arith, ints, h)

pub short_wide : (n : ℤ) → IsShort n → to_z w128 (of_z w128 n) ≡ n
short_wide n h = omega (arith, ints, h)

pub short_room : (n : ℤ) → IsShort n → HasMargin n
short_room n h = omega (arith, h)

-- a short number that was handed from 64 bits to 128
pub start_read : (f n : ℤ) → IsShort n → f ≡ to_z w64 (of_z w64 n) → to_z w128 (of_z w128 f) ≡ n
start_read f n h is = ap (λ t. to_z w128 (of_z w128 t)) (is ∙ short_read n h) ∙ short_wide n h

pub start_again : (f n : ℤ) → IsShort n → f ≡ to_z w64 (of_z w64 n) → HasMargin (to_z w128 (of_z w128 f))
start_again f n h is = subst HasMargin (sym (start_read f n h is)) (short_room n h)

-- the product that the code makes of two short numbers
pub product_made : (p f n : ℤ) → IsShort f → IsShort n → p ≡ to_z w64 (of_z w64 f) *ℤ to_z w64 (of_z w64 n) → p ≡ f *ℤ n
product_made p f n h k is = is ∙ ap₂ ◌*ℤ◌ (short_read f h) (short_read n k)

pub product_read : (p f n : ℤ) → IsShort f → IsShort n → p ≡ f *ℤ n → to_z w128 (of_z w128 p) ≡ f *ℤ n
product_read p f n h k is = wide_read p (subst (λ t. unsigned_abs t ≤ 2 ^ 124) (sym is) (short_product f n h k)) ∙ is

pub wide_made : (f n p q : ℤ) → IsShort f → IsShort n → p ≡ to_z w64 (of_z w64 f) → q ≡ to_z w64 (of_z w64 n) → to_z w128 (of_z w128 (to_z w128 (of_z w128 p) *ℤ to_z w128 (of_z w128 q))) ≡ f *ℤ n
wide_made f n p q h k p_is q_is = ap₂ (λ s t. to_z w128 (of_z w128 (s *ℤ t))) (start_read p f h p_is) (start_read q n k q_is) ∙ product_read (f *ℤ n) f n h k refl

-- a total and such a product
sum_within : (t q : ℤ) → HasMargin t → unsigned_abs q ≤ 2 ^ 124 → FitsSigned w128 (t +ℤ q)
sum_within t q h k = omega (arith, ints, h, k)

sum_is : (t q : ℤ) → HasMargin t → unsigned_abs q ≤ 2 ^ 124 → to_z w128 (of_z w128 (t +ℤ q)) ≡ t +ℤ q
sum_is t q h k = omega (arith, ints, h, k)

module _ (t f n p : ℤ) (room : HasMargin t) (h : IsShort f) (k : IsShort n) (is : p ≡ to_z w64 (of_z w64 f) *ℤ to_z w64 (of_z w64 n)) where
  parts : to_z w128 (of_z w128 t) +ℤ to_z w128 (of_z w128 p) ≡ t +ℤ f *ℤ n
  parts = ap₂ ◌+ℤ◌ (room_read t room) (product_read p f n h k (product_made p f n h k is))

  pub sum_fits : FitsSigned w128 (to_z w128 (of_z w128 t) +ℤ to_z w128 (of_z w128 p))
  sum_fits = subst (FitsSigned w128) (sym parts) (sum_within t (f *ℤ n) room (short_product f n h k))

  pub sum_read : to_z w128 (of_z w128 (to_z w128 (of_z w128 t) +ℤ to_z w128 (of_z w128 p))) ≡ t +ℤ f *ℤ n
  sum_read = ap (λ s. to_z w128 (of_z w128 s)) parts ∙ sum_is t (f *ℤ n) room (short_product f n h k)

-- a total and the size of a short number
size_read : (n : ℕ) → n < 2 ^ 62 → to_z w128 (of_z w128 (pos n)) ≡ pos n
size_read n h = omega (arith, ints, h)

rest_within : (t : ℤ) (n : ℕ) → HasMargin t → n < 2 ^ 62 → FitsSigned w128 (t -ℤ pos n)
rest_within t n h k = omega (arith, ints, h, k)

rest_is : (t : ℤ) (n : ℕ) → HasMargin t → n < 2 ^ 62 → to_z w128 (of_z w128 (t -ℤ pos n)) ≡ t -ℤ pos n
rest_is t n h k = omega (arith, ints, h, k)

module _ (t w s : ℤ) (room : HasMargin t) (h : IsShort w) (is : s ≡ pos (unsigned_abs (to_z w64 (of_z w64 w)))) where
  rest_parts : to_z w128 (of_z w128 t) -ℤ to_z w128 (of_z w128 s) ≡ t -ℤ pos (unsigned_abs w)
  rest_parts = ap₂ ◌-ℤ◌ (room_read t room) (ap (λ x. to_z w128 (of_z w128 x)) (is ∙ ap (λ x. pos (unsigned_abs x)) (short_read w h)) ∙ size_read (unsigned_abs w) h)

  pub rest_fits : FitsSigned w128 (to_z w128 (of_z w128 t) -ℤ to_z w128 (of_z w128 s))
  rest_fits = subst (FitsSigned w128) (sym rest_parts) (rest_within t (unsigned_abs w) room h)

  pub rest_read : to_z w128 (of_z w128 (to_z w128 (of_z w128 t) -ℤ to_z w128 (of_z w128 s))) ≡ t -ℤ pos (unsigned_abs w)
  rest_read = ap (λ x. to_z w128 (of_z w128 x)) rest_parts ∙ rest_is t (unsigned_abs w) room h

-- ---- how often a number is contained in a denominator

pub scale_once : (d own : ℤ) → IsShort d → IsShort own → of_z w64 own ≡ 1 → to_z w64 (of_z w64 d) *ℤ own ≡ d
scale_once d own h k e =
    let one : own ≡ pos 1 = omega (arith, ints, k, e) in
    let once : (n : ℤ) → n *ℤ pos 1 ≡ n = λ n. ring_ℤ (n ∷ []) (search reads_ℤ) (search reads_ℤ) tt in
    ap₂ ◌*ℤ◌ (short_read d h) one ∙ once d

pub scale_times : (s own d w f : ℤ) → IsShort s → IsShort own → IsShort d → w ≡ to_z w64 (of_z w64 s) *ℤ to_z w64 (of_z w64 own) → f ≡ to_z w64 (of_z w64 d) → of_z w128 w ≡ of_z w128 f → to_z w64 (of_z w64 s) *ℤ own ≡ d
scale_times s own d w f hs ho hd w_is f_is same =
    ap (λ t. t *ℤ own) (short_read s hs) ∙ sym (product_read w s own hs ho (product_made w s own hs ho w_is)) ∙ ap (to_z w128) same ∙ ap (λ t. to_z w128 (of_z w128 t)) (f_is ∙ short_read d hd) ∙ short_wide d hd
