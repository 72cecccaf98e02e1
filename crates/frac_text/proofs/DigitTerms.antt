-- The number of digits: it grows with each digit, and goes on behind that of the digits in front.
use Rattle.std.proofs.Common.{◌≡◌, ℕ, ◌+◌, ◌-◌, ◌*◌, ◌<◌, ◌≤◌, List, [], ◌∷◌, ◌++◌, refl, sym, ◌∙◌, ap, ap₂, subst, length, length-append, true≢false, arith}
use mathlib.Core.Path.{subst₂}
use Rattle.std.specs.Prelude.{if◌then◌else◌, ◌&&◌, ◌==◌, ◌≢◌, Bool, true, false}
use Rattle.std.specs.List.{list_all}
use Rattle.std.specs.Prelude.{nat_le, suc, ◌^◌}
use Rattle.std.proofs.Math.Nat.{mul-le-mul_right, pow-succ'}
use Rattle.std.proofs.lemmas.Bool.Decides.{nat_tests}
use Rattle.std.specs.Ordering.{nat_cmp, ordering_then}
use Rattle.std.specs.declared.cmp.Ordering.{Ordering}
use Rattle.frac_text.specs.private.Sides.{IsTrimmed, HasDigits}
use Rattle.frac_text.proofs.Cuts.{both, all_joined}
use Rattle.frac_text.specs.Spelling.{is_digit, value_behind, value_of, is_empty, without_zeros}

pub value_behind-least : (front : ℕ) (digits : List ℕ) → front ≤ value_behind front digits
value_behind-least front [] = omega arith
value_behind-least front (digit ∷ digits) =
    let more = value_behind-least (10 * front + (digit - 48)) digits in omega (arith, more)

pub value_behind-append : (front : ℕ) (xs ys : List ℕ) → value_behind front (xs ++ ys) ≡ value_behind (value_behind front xs) ys
value_behind-append front [] ys = refl
value_behind-append front (x ∷ xs) ys = value_behind-append (10 * front + (x - 48)) xs ys

pub too_large : (n value digit front : ℕ) (rest more digits : List ℕ) → value_behind value rest ≡ value_behind front digits → rest ≡ digit ∷ more → n < 10 * value + (digit - 48) → n < value_behind front digits
too_large n value digit front rest more digits e parts h =
    let same : value_behind front digits ≡ value_behind (10 * value + (digit - 48)) more = sym e ∙ ap (value_behind value) parts in
    let least = value_behind-least (10 * value + (digit - 48)) more in
    subst (λ (total : ℕ). n < total) (sym same) (omega (arith, least))

-- ---- zeros at the end

pub without_zeros-zero : (digits : List ℕ) → without_zeros (digits ++ 48 ∷ []) ≡ without_zeros digits
without_zeros-zero [] = refl
without_zeros-zero (digit ∷ digits) = ap (λ rest. if is_empty rest && digit == 48 then [] else digit ∷ rest) (without_zeros-zero digits)

pub without_zeros-last : (digits : List ℕ) (digit : ℕ) → digit ≢ 48 → without_zeros (digits ++ digit ∷ []) ≡ digits ++ digit ∷ []
without_zeros-last [] digit apart = grind (arith)
without_zeros-last (first ∷ digits) digit apart =
    ap (λ rest. if is_empty rest && first == 48 then [] else first ∷ rest) (without_zeros-last digits digit apart) ∙ kept digits
  where
    kept : (digits : List ℕ) → (if is_empty (digits ++ digit ∷ []) && first == 48 then [] else first ∷ (digits ++ digit ∷ [])) ≡ first ∷ (digits ++ digit ∷ [])
    kept [] = refl
    kept (x ∷ xs) = refl

-- the zeros at the end of two runs: those of the second, and those of the first where nothing of the second is left
pub without_zeros-none : (front back : List ℕ) → without_zeros back ≡ [] → without_zeros (front ++ back) ≡ without_zeros front
without_zeros-none [] back none = none
without_zeros-none (digit ∷ front) back none = ap (λ rest. if is_empty rest && digit == 48 then [] else digit ∷ rest) (without_zeros-none front back none)

pub without_zeros-some : (front back : List ℕ) → is_empty (without_zeros back) ≡ false → without_zeros (front ++ back) ≡ front ++ without_zeros back
without_zeros-some [] back some = refl
without_zeros-some (digit ∷ front) back some =
    ap (λ rest. if is_empty rest && digit == 48 then [] else digit ∷ rest) (without_zeros-some front back some) ∙ kept front (without_zeros back) some
  where
    kept : (front rest : List ℕ) → is_empty rest ≡ false → (if is_empty (front ++ rest) && digit == 48 then [] else digit ∷ (front ++ rest)) ≡ digit ∷ (front ++ rest)
    kept [] rest some = rw some refl
    kept (x ∷ xs) rest some = refl

pub length-without_zeros : (digits : List ℕ) → length (without_zeros digits) ≤ length digits
length-without_zeros [] = omega arith
length-without_zeros (digit ∷ digits) = at (is_empty (without_zeros digits) && digit == 48) (length-without_zeros digits)
  where
    at : (b : Bool) → length (without_zeros digits) ≤ length digits → length (if b then [] else digit ∷ without_zeros digits) ≤ length (digit ∷ digits)
    at true less = omega arith
    at false less = omega arith

pub digits-without_zeros : (digits : List ℕ) → list_all is_digit digits ≡ true → list_all is_digit (without_zeros digits) ≡ true
digits-without_zeros [] h = refl
digits-without_zeros (digit ∷ digits) h =
    let parts = both (is_digit digit) (list_all is_digit digits) h in
    at (is_empty (without_zeros digits) && digit == 48) (ap₂ (λ a b. a && b) parts.0 (digits-without_zeros digits parts.1))
  where
    at : (b : Bool) → (is_digit digit && list_all is_digit (without_zeros digits)) ≡ true → list_all is_digit (if b then [] else digit ∷ without_zeros digits) ≡ true
    at true kept = refl
    at false kept = kept

pub empty_is : (xs : List ℕ) → is_empty xs ≡ true → xs ≡ []
empty_is [] h = refl
empty_is (x ∷ xs) h = absurd (true≢false (sym h))

-- what the code keeps of two runs
pub kept_some : (front back kept : List ℕ) → kept ≡ without_zeros back → is_empty kept ≡ false → front ++ kept ≡ without_zeros (front ++ back)
kept_some front back kept e some = ap (λ t. front ++ t) e ∙ sym (without_zeros-some front back (ap is_empty (sym e) ∙ some))

pub kept_none : (front back kept trimmed : List ℕ) → kept ≡ without_zeros back → trimmed ≡ without_zeros front → is_empty kept ≡ true → trimmed ++ kept ≡ without_zeros (front ++ back)
kept_none front back kept trimmed e f none =
    let nothing : kept ≡ [] = empty_is kept none in
    ap₂ ◌++◌ f nothing ∙ nil_right (without_zeros front) ∙ sym (without_zeros-none front back (sym e ∙ nothing))
  where
    nil_right : (xs : List ℕ) → xs ++ [] ≡ xs
    nil_right [] = refl
    nil_right (x ∷ xs) = ap (λ t. x ∷ t) (nil_right xs)

-- ---- the size of a number of digits

pub digit_below : (digit : ℕ) → is_digit digit ≡ true → digit - 48 ≤ 9
digit_below digit h =
    let parts = both (nat_le 48 digit) (nat_le digit 57) h in
    let high : nat_le digit 57 ≡ true = parts.1 in grind (arith, nat_tests)

pub value_behind-between : (front : ℕ) (digits : List ℕ) → list_all is_digit digits ≡ true → (front * 10 ^ length digits ≤ value_behind front digits) × (value_behind front digits < (front + 1) * 10 ^ length digits)
value_behind-between front [] h = (omega arith, omega arith)
value_behind-between front (digit ∷ digits) h =
    let parts = both (is_digit digit) (list_all is_digit digits) h in
    let small = digit_below digit parts.0 in
    let next = value_behind-between (10 * front + (digit - 48)) digits parts.1 in
    let at_most : (10 * front + (digit - 48) + 1) * 10 ^ length digits ≤ (10 * front + 10) * 10 ^ length digits = mul-le-mul_right (10 ^ length digits) (omega arith) in
    let at_least : (10 * front) * 10 ^ length digits ≤ (10 * front + (digit - 48)) * 10 ^ length digits = mul-le-mul_right (10 ^ length digits) (omega arith) in
    let power : 10 ^ suc (length digits) ≡ 10 * 10 ^ length digits = pow-succ' 10 (length digits) in
    (rw power (omega (arith, next.0, at_least)), rw power (omega (arith, next.1, at_most)))

pub value_of-last : (digits : List ℕ) (digit : ℕ) → value_of (digits ++ digit ∷ []) ≡ 10 * value_of digits + (digit - 48)
value_of-last digits digit = value_behind-append 0 digits (digit ∷ [])

-- digits that do not begin with a zero are as many as their number has
pub counted : (digits : List ℕ) → list_all is_digit digits ≡ true → IsTrimmed digits → HasDigits (value_of digits) (length digits)
counted [] h trimmed = record { below = omega arith; above = λ some. absurd (some refl) }
counted (digit ∷ digits) h trimmed =
    let parts = both (is_digit digit) (list_all is_digit digits) h in
    let whole = value_behind-between 0 (digit ∷ digits) h in
    let rest = value_behind-between (10 * 0 + (digit - 48)) digits parts.1 in
    let lead : 1 * 10 ^ length digits ≤ (10 * 0 + (digit - 48)) * 10 ^ length digits = mul-le-mul_right (10 ^ length digits) (omega arith) in
    let one_less : length (digit ∷ digits) - 1 ≡ length digits = omega arith in
    record { below = omega (arith, whole.1); above = λ _. (omega arith, subst (λ n. 10 ^ n ≤ value_of (digit ∷ digits)) (sym one_less) (omega (arith, rest.0, lead))) }

-- the digits of two runs, where the first is trimmed
module _ (front back : List ℕ) (trimmed : List ℕ) (same : value_of trimmed ≡ value_of front) where
  trimmed_value : value_of (trimmed ++ back) ≡ value_of (front ++ back)
  trimmed_value = value_behind-append 0 trimmed back ∙ ap (λ n. value_behind n back) same ∙ sym (value_behind-append 0 front back)

  pub counted_none : (rest : List ℕ) → is_empty trimmed ≡ true → value_of rest ≡ value_of back → list_all is_digit rest ≡ true → IsTrimmed rest → HasDigits (value_of (front ++ back)) (length rest)
  counted_none rest none e h k = subst (λ n. HasDigits n (length rest)) (e ∙ ap (λ t. value_of (t ++ back)) (sym (empty_is trimmed none)) ∙ trimmed_value) (counted rest h k)

  pub counted_some : is_empty trimmed ≡ false → list_all is_digit trimmed ≡ true → list_all is_digit back ≡ true → IsTrimmed trimmed → HasDigits (value_of (front ++ back)) (length trimmed + length back)
  counted_some some h k first = subst₂ HasDigits trimmed_value (length-append trimmed back) (counted (trimmed ++ back) (all_joined is_digit trimmed back h k) (begins trimmed some first))
    where
      begins : (xs : List ℕ) → is_empty xs ≡ false → IsTrimmed xs → IsTrimmed (xs ++ back)
      begins [] e first = absurd (true≢false e)
      begins (x ∷ xs) e first = first

-- the last digits decide only where those in front of them agree
pub order-last : (a b x y : ℕ) (o : Ordering) → x < 10 → y < 10 → ordering_then (nat_cmp a b) (ordering_then (nat_cmp x y) o) ≡ ordering_then (nat_cmp (10 * a + x) (10 * b + y)) o
order-last a b x y o p q = grind (arith, nat_tests)
