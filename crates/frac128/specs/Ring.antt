-- Equations of a commutative ring, decided by computing: each side becomes a polynomial over the atoms, and the difference must come to zero.
--     IsRing R      the laws of the operations R
--     Term          an expression over the atoms, which `value` reads
--     equal_by_normal      two terms whose difference comes to the zero polynomial have one value
use Rattle.std.specs.Prelude.{◌≡◌, ℕ, zero, suc, Bool, true, false, cond, ◌&&◌, List, [], ◌∷◌, ℤ, pos, negsuc, ◌+ℤ◌, ◌*ℤ◌, eqb, leb, T}
use Rattle.std.proofs.Common.{refl, sym, ap, ap₂, ◌∙◌, subst, eqb→eq}

-- the operations, and how an integer is read
pub record Operations (A : Type 0) : Type 0 where
  pub of : ℤ → A
  pub add : A → A → A
  pub mul : A → A → A
  pub neg : A → A

pub record IsRing {A : Type 0} (R : Operations A) : Type 0 where
  pub add_comm : (x y : A) → R.add x y ≡ R.add y x
  pub add_assoc : (x y z : A) → R.add (R.add x y) z ≡ R.add x (R.add y z)
  pub zero-add : (x : A) → R.add (R.of (pos 0)) x ≡ x
  pub add-neg : (x : A) → R.add x (R.neg x) ≡ R.of (pos 0)
  pub mul_comm : (x y : A) → R.mul x y ≡ R.mul y x
  pub mul_assoc : (x y z : A) → R.mul (R.mul x y) z ≡ R.mul x (R.mul y z)
  pub one-mul : (x : A) → R.mul (R.of (pos 1)) x ≡ x
  pub mul-add : (x y z : A) → R.mul x (R.add y z) ≡ R.add (R.mul x y) (R.mul x z)
  pub of-add : (a b : ℤ) → R.of (a +ℤ b) ≡ R.add (R.of a) (R.of b)
  pub of-mul : (a b : ℤ) → R.of (a *ℤ b) ≡ R.mul (R.of a) (R.of b)

pub data Term : Type 0 where
  atom : ℕ → Term
  literal : ℤ → Term
  plus : Term → Term → Term
  minus : Term → Term → Term
  times : Term → Term → Term
  negate : Term → Term

-- a product of atoms, by their numbers in order; a coefficient with one; a sum of these
abbrev pub Monomial : Type 0
Monomial = List ℕ

pub record Summand : Type 0 where
  pub coefficient : ℤ
  pub monomial : Monomial

abbrev pub Polynomial : Type 0
Polynomial = List Summand

abbrev pub same_monomial : Monomial → Monomial → Bool
same_monomial [] [] = true
same_monomial [] (j ∷ n) = false
same_monomial (i ∷ m) [] = false
same_monomial (i ∷ m) (j ∷ n) = eqb i j && same_monomial m n

abbrev pub with_atom : ℕ → Monomial → Monomial
with_atom i [] = i ∷ []
with_atom i (j ∷ m) = cond (leb i j) (i ∷ j ∷ m) (j ∷ with_atom i m)

abbrev pub monomial_product : Monomial → Monomial → Monomial
monomial_product [] n = n
monomial_product (i ∷ m) n = with_atom i (monomial_product m n)

abbrev pub with_summand : Summand → Polynomial → Polynomial
with_summand s [] = s ∷ []
with_summand s (t ∷ p) =
    cond (same_monomial s.monomial t.monomial) (record { coefficient = s.coefficient +ℤ t.coefficient; monomial = t.monomial } ∷ p) (t ∷ with_summand s p)

abbrev pub polynomial_sum : Polynomial → Polynomial → Polynomial
polynomial_sum [] q = q
polynomial_sum (s ∷ p) q = with_summand s (polynomial_sum p q)

abbrev pub scaled_polynomial : Summand → Polynomial → Polynomial
scaled_polynomial s [] = []
scaled_polynomial s (t ∷ q) =
    record { coefficient = s.coefficient *ℤ t.coefficient; monomial = monomial_product s.monomial t.monomial } ∷ scaled_polynomial s q

abbrev pub polynomial_product : Polynomial → Polynomial → Polynomial
polynomial_product [] q = []
polynomial_product (s ∷ p) q = polynomial_sum (scaled_polynomial s q) (polynomial_product p q)

abbrev pub minus_one : Summand
minus_one = record { coefficient = negsuc 0; monomial = [] }

abbrev pub normal : Term → Polynomial
normal (atom i) = record { coefficient = pos 1; monomial = i ∷ [] } ∷ []
normal (literal c) = record { coefficient = c; monomial = [] } ∷ []
normal (plus s t) = polynomial_sum (normal s) (normal t)
normal (minus s t) = polynomial_sum (normal s) (scaled_polynomial minus_one (normal t))
normal (times s t) = polynomial_product (normal s) (normal t)
normal (negate t) = scaled_polynomial minus_one (normal t)

abbrev pub is_zero_ℤ : ℤ → Bool
is_zero_ℤ (pos zero) = true
is_zero_ℤ (pos (suc n)) = false
is_zero_ℤ (negsuc n) = false

abbrev pub is_zero_polynomial : Polynomial → Bool
is_zero_polynomial [] = true
is_zero_polynomial (s ∷ p) = is_zero_ℤ s.coefficient && is_zero_polynomial p

module _ {A : Type 0} (R : Operations A) where
  abbrev pub nth : List A → ℕ → A
  nth [] i = R.of (pos 0)
  nth (x ∷ xs) zero = x
  nth (x ∷ xs) (suc i) = nth xs i

  abbrev pub value : List A → Term → A
  value xs (atom i) = nth xs i
  value xs (literal c) = R.of c
  value xs (plus s t) = R.add (value xs s) (value xs t)
  value xs (minus s t) = R.add (value xs s) (R.neg (value xs t))
  value xs (times s t) = R.mul (value xs s) (value xs t)
  value xs (negate t) = R.neg (value xs t)

  abbrev pub monomial_value : List A → Monomial → A
  monomial_value xs [] = R.of (pos 1)
  monomial_value xs (i ∷ m) = R.mul (nth xs i) (monomial_value xs m)

  abbrev pub polynomial_value : List A → Polynomial → A
  polynomial_value xs [] = R.of (pos 0)
  polynomial_value xs (s ∷ p) = R.add (R.mul (R.of s.coefficient) (monomial_value xs s.monomial)) (polynomial_value xs p)

  module _ (L : IsRing R) (xs : List A) where
    open R use {of, add, mul, neg}

    pub add-zero : (x : A) → add x (of (pos 0)) ≡ x
    add-zero x = L.add_comm x (of (pos 0)) ∙ L.zero-add x

    add_left_comm : (x y z : A) → add x (add y z) ≡ add y (add x z)
    add_left_comm x y z = sym (L.add_assoc x y z) ∙ ap (λ t. add t z) (L.add_comm x y) ∙ L.add_assoc y x z

    mul_left_comm : (x y z : A) → mul x (mul y z) ≡ mul y (mul x z)
    mul_left_comm x y z = sym (L.mul_assoc x y z) ∙ ap (λ t. mul t z) (L.mul_comm x y) ∙ L.mul_assoc y x z

    add-mul : (x y z : A) → mul (add x y) z ≡ add (mul x z) (mul y z)
    add-mul x y z = L.mul_comm (add x y) z ∙ L.mul-add z x y ∙ ap₂ add (L.mul_comm z x) (L.mul_comm z y)

    add_left_cancel : (x y z : A) → add x y ≡ add x z → y ≡ z
    add_left_cancel x y z e = sym (undone y) ∙ ap (λ t. add (neg x) t) e ∙ undone z
      where
        undone : (t : A) → add (neg x) (add x t) ≡ t
        undone t = sym (L.add_assoc (neg x) x t) ∙ ap (λ s. add s t) (L.add_comm (neg x) x ∙ L.add-neg x) ∙ L.zero-add t

    pub mul-zero : (x : A) → mul x (of (pos 0)) ≡ of (pos 0)
    mul-zero x = add_left_cancel (mul x (of (pos 0))) (mul x (of (pos 0))) (of (pos 0))
        (sym (L.mul-add x (of (pos 0)) (of (pos 0))) ∙ ap (λ t. mul x t) (L.zero-add (of (pos 0))) ∙ sym (add-zero (mul x (of (pos 0)))))

    neg-is : (x : A) → neg x ≡ mul (of (negsuc 0)) x
    neg-is x = add_left_cancel x (neg x) (mul (of (negsuc 0)) x)
        (L.add-neg x ∙ sym (ap (λ t. add t (mul (of (negsuc 0)) x)) (sym (L.one-mul x)) ∙ sym (add-mul (of (pos 1)) (of (negsuc 0)) x) ∙ ap (λ t. mul t x) (sym (L.of-add (pos 1) (negsuc 0))) ∙ L.mul_comm (of (pos 0)) x ∙ mul-zero x))

    same_from_test : (m n : Monomial) → T (same_monomial m n) → m ≡ n
    same_from_test [] [] t = refl
    same_from_test [] (j ∷ n) t = absurd t
    same_from_test (i ∷ m) [] t = absurd t
    same_from_test (i ∷ m) (j ∷ n) t = both (eqb i j) refl t (same_from_test m n)
      where
        both : (a : Bool) → eqb i j ≡ a → T (a && same_monomial m n) → (T (same_monomial m n) → m ≡ n) → i ∷ m ≡ j ∷ n
        both true p t rest = ap₂ (λ k l. k ∷ l) (eqb→eq i j (subst T (sym p) tt)) (rest t)
        both false p t rest = absurd t

    with_atom-value : (i : ℕ) (m : Monomial) → monomial_value xs (with_atom i m) ≡ mul (nth xs i) (monomial_value xs m)
    with_atom-value i [] = refl
    with_atom-value i (j ∷ m) = by (with_atom-value i m) (leb i j)
      where
        by : monomial_value xs (with_atom i m) ≡ mul (nth xs i) (monomial_value xs m) → (b : Bool) → monomial_value xs (cond b (i ∷ j ∷ m) (j ∷ with_atom i m)) ≡ mul (nth xs i) (mul (nth xs j) (monomial_value xs m))
        by rest true = refl
        by rest false = ap (λ t. mul (nth xs j) t) rest ∙ mul_left_comm (nth xs j) (nth xs i) (monomial_value xs m)

    monomial_product-value : (m n : Monomial) → monomial_value xs (monomial_product m n) ≡ mul (monomial_value xs m) (monomial_value xs n)
    monomial_product-value [] n = sym (L.one-mul (monomial_value xs n))
    monomial_product-value (i ∷ m) n =
        with_atom-value i (monomial_product m n) ∙ ap (λ t. mul (nth xs i) t) (monomial_product-value m n) ∙ sym (L.mul_assoc (nth xs i) (monomial_value xs m) (monomial_value xs n))

    with_summand-value : (s : Summand) (p : Polynomial) → polynomial_value xs (with_summand s p) ≡ add (mul (of s.coefficient) (monomial_value xs s.monomial)) (polynomial_value xs p)
    with_summand-value s [] = refl
    with_summand-value s (t ∷ p) = by (with_summand-value s p) (same_monomial s.monomial t.monomial) refl
      where
        by : polynomial_value xs (with_summand s p) ≡ add (mul (of s.coefficient) (monomial_value xs s.monomial)) (polynomial_value xs p)
            → (b : Bool) → same_monomial s.monomial t.monomial ≡ b
            → polynomial_value xs (cond b (record { coefficient = s.coefficient +ℤ t.coefficient; monomial = t.monomial } ∷ p) (t ∷ with_summand s p))
            ≡ add (mul (of s.coefficient) (monomial_value xs s.monomial)) (add (mul (of t.coefficient) (monomial_value xs t.monomial)) (polynomial_value xs p))
        by rest true e =
            ap (λ k. add k (polynomial_value xs p))
            (ap (λ k. mul k (monomial_value xs t.monomial)) (L.of-add s.coefficient t.coefficient)
            ∙ add-mul (of s.coefficient) (of t.coefficient) (monomial_value xs t.monomial)
            ∙ ap (λ m. add (mul (of s.coefficient) (monomial_value xs m)) (mul (of t.coefficient) (monomial_value xs t.monomial))) (sym (same_from_test s.monomial t.monomial (subst T (sym e) tt))))
            ∙ L.add_assoc (mul (of s.coefficient) (monomial_value xs s.monomial)) (mul (of t.coefficient) (monomial_value xs t.monomial)) (polynomial_value xs p)
        by rest false e =
            ap (λ k. add (mul (of t.coefficient) (monomial_value xs t.monomial)) k) rest
            ∙ add_left_comm (mul (of t.coefficient) (monomial_value xs t.monomial)) (mul (of s.coefficient) (monomial_value xs s.monomial)) (polynomial_value xs p)

    pub polynomial_sum-value : (p q : Polynomial) → polynomial_value xs (polynomial_sum p q) ≡ add (polynomial_value xs p) (polynomial_value xs q)
    polynomial_sum-value [] q = sym (L.zero-add (polynomial_value xs q))
    polynomial_sum-value (s ∷ p) q =
        with_summand-value s (polynomial_sum p q) ∙ ap (λ t. add (mul (of s.coefficient) (monomial_value xs s.monomial)) t) (polynomial_sum-value p q)
        ∙ sym (L.add_assoc (mul (of s.coefficient) (monomial_value xs s.monomial)) (polynomial_value xs p) (polynomial_value xs q))

    mul-mul-mul_comm : (a b c d : A) → mul (mul a b) (mul c d) ≡ mul (mul a c) (mul b d)
    mul-mul-mul_comm a b c d = L.mul_assoc a b (mul c d) ∙ ap (λ t. mul a t) (mul_left_comm b c d) ∙ sym (L.mul_assoc a c (mul b d))

    scaled_polynomial-value : (s : Summand) (q : Polynomial) → polynomial_value xs (scaled_polynomial s q) ≡ mul (mul (of s.coefficient) (monomial_value xs s.monomial)) (polynomial_value xs q)
    scaled_polynomial-value s [] = sym (mul-zero (mul (of s.coefficient) (monomial_value xs s.monomial)))
    scaled_polynomial-value s (t ∷ q) =
        ap₂ add
        (ap₂ mul (L.of-mul s.coefficient t.coefficient) (monomial_product-value s.monomial t.monomial)
        ∙ mul-mul-mul_comm (of s.coefficient) (of t.coefficient) (monomial_value xs s.monomial) (monomial_value xs t.monomial))
        (scaled_polynomial-value s q)
        ∙ sym (L.mul-add (mul (of s.coefficient) (monomial_value xs s.monomial)) (mul (of t.coefficient) (monomial_value xs t.monomial)) (polynomial_value xs q))

    polynomial_product-value : (p q : Polynomial) → polynomial_value xs (polynomial_product p q) ≡ mul (polynomial_value xs p) (polynomial_value xs q)
    polynomial_product-value [] q = sym (L.mul_comm (of (pos 0)) (polynomial_value xs q) ∙ mul-zero (polynomial_value xs q))
    polynomial_product-value (s ∷ p) q =
        polynomial_sum-value (scaled_polynomial s q) (polynomial_product p q)
        ∙ ap₂ add (scaled_polynomial-value s q) (polynomial_product-value p q)
        ∙ sym (add-mul (mul (of s.coefficient) (monomial_value xs s.monomial)) (polynomial_value xs p) (polynomial_value xs q))

    pub negated-value : (q : Polynomial) → polynomial_value xs (scaled_polynomial minus_one q) ≡ neg (polynomial_value xs q)
    negated-value q =
        scaled_polynomial-value minus_one q
        ∙ ap (λ t. mul t (polynomial_value xs q)) (L.mul_comm (of (negsuc 0)) (of (pos 1)) ∙ L.one-mul (of (negsuc 0)))
        ∙ sym (neg-is (polynomial_value xs q))

    pub normal-value : (t : Term) → polynomial_value xs (normal t) ≡ value xs t
    normal-value (atom i) = add-zero (mul (of (pos 1)) (mul (nth xs i) (of (pos 1)))) ∙ L.one-mul (mul (nth xs i) (of (pos 1))) ∙ L.mul_comm (nth xs i) (of (pos 1)) ∙ L.one-mul (nth xs i)
    normal-value (literal c) = add-zero (mul (of c) (of (pos 1))) ∙ L.mul_comm (of c) (of (pos 1)) ∙ L.one-mul (of c)
    normal-value (plus s t) = polynomial_sum-value (normal s) (normal t) ∙ ap₂ add (normal-value s) (normal-value t)
    normal-value (minus s t) =
        polynomial_sum-value (normal s) (scaled_polynomial minus_one (normal t)) ∙ ap₂ add (normal-value s) (negated-value (normal t) ∙ ap neg (normal-value t))
    normal-value (times s t) = polynomial_product-value (normal s) (normal t) ∙ ap₂ mul (normal-value s) (normal-value t)
    normal-value (negate t) = negated-value (normal t) ∙ ap neg (normal-value t)

    is_zero_polynomial-value : (p : Polynomial) → T (is_zero_polynomial p) → polynomial_value xs p ≡ of (pos 0)
    is_zero_polynomial-value [] t = refl
    is_zero_polynomial-value (s ∷ p) t = by s.coefficient t (is_zero_polynomial-value p)
      where
        by : (c : ℤ) → T (is_zero_ℤ c && is_zero_polynomial p) → (T (is_zero_polynomial p) → polynomial_value xs p ≡ of (pos 0)) → add (mul (of c) (monomial_value xs s.monomial)) (polynomial_value xs p) ≡ of (pos 0)
        by (pos zero) t rest = ap (λ k. add k (polynomial_value xs p)) (L.mul_comm (of (pos 0)) (monomial_value xs s.monomial) ∙ mul-zero (monomial_value xs s.monomial)) ∙ L.zero-add (polynomial_value xs p) ∙ rest t
        by (pos (suc n)) t rest = absurd t
        by (negsuc n) t rest = absurd t

    pub equal_by_normal : (s t : Term) → T (is_zero_polynomial (normal (minus s t))) → value xs s ≡ value xs t
    equal_by_normal s t zero_difference =
        let none = sym (normal-value (minus s t)) ∙ is_zero_polynomial-value (normal (minus s t)) zero_difference in
        sym (L.zero-add (value xs s)) ∙ L.add_comm (of (pos 0)) (value xs s) ∙ ap (λ k. add (value xs s) k) (sym (L.add-neg (value xs t)) ∙ L.add_comm (value xs t) (neg (value xs t)))
        ∙ sym (L.add_assoc (value xs s) (neg (value xs t)) (value xs t)) ∙ ap (λ k. add k (value xs t)) none ∙ L.zero-add (value xs t)
