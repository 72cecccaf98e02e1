-- The rationals are a commutative ring. Their equations by computing: `ring_ℚ (x ∷ y ∷ []) (search reads_ℚ) tt`, over the list of the atoms.
use Rattle.std.specs.Prelude.{◌≡◌, ℕ, suc, ◌^◌, List, [], ◌∷◌, ℤ, pos, negsuc, ◌+ℤ◌, ◌*ℤ◌, neg_ℤ, T, leb}
use Rattle.std.proofs.Common.{refl, sym, ap, ap₂, ◌∙◌}
use mathlib.Core.Path.{subst₂, subst₃}
use Rattle.frac128.specs.Rational.{ℚ, reduced, int, ◌+ℚ◌, ◌*ℚ◌, neg_ℚ}
use Rattle.frac128.specs.Ring.{Operations, IsRing, Term, value, equal_by_normal, is_zero_polynomial, normal, nth}
use Rattle.frac128.specs.Ring.Term.{atom, literal, plus, minus, times, negate}
use Rattle.frac128.specs.IntegerRing.{ring_ℤ, reads_ℤ, computed}
use Rattle.frac128.specs.Lowest.{reduced_self, reduced-same, reduced-+ℚ, reduced-*ℚ, reduced-neg_ℚ}

pub int_is : (n : ℤ) → int n ≡ reduced n 0
unfolding int
int_is n = sym (reduced_self (int n))

-- the laws, first at fractions
module _ (a c e : ℤ) (b d f : ℕ) where
  abbrev atoms : List ℤ
  atoms = a ∷ c ∷ e ∷ pos (suc b) ∷ pos (suc d) ∷ pos (suc f) ∷ []

  add_assoc : (reduced a b +ℚ reduced c d) +ℚ reduced e f ≡ reduced a b +ℚ (reduced c d +ℚ reduced e f)
  add_assoc = simp reduced-+ℚ (reduced-same _ _ _ _ (ring_ℤ atoms (search reads_ℤ depth 9) (search reads_ℤ depth 9) tt))

  mul_assoc : (reduced a b *ℚ reduced c d) *ℚ reduced e f ≡ reduced a b *ℚ (reduced c d *ℚ reduced e f)
  mul_assoc = simp reduced-*ℚ (reduced-same _ _ _ _ (ring_ℤ atoms (search reads_ℤ depth 9) (search reads_ℤ depth 9) tt))

  mul-add : reduced a b *ℚ (reduced c d +ℚ reduced e f) ≡ reduced a b *ℚ reduced c d +ℚ reduced a b *ℚ reduced e f
  mul-add = simp (reduced-+ℚ, reduced-*ℚ) (reduced-same _ _ _ _ (ring_ℤ atoms (search reads_ℤ depth 9) (search reads_ℤ depth 9) tt))

  add_comm : reduced a b +ℚ reduced c d ≡ reduced c d +ℚ reduced a b
  add_comm = rw (reduced-+ℚ a c b d, reduced-+ℚ c a d b) (reduced-same _ _ _ _ (ring_ℤ atoms (search reads_ℤ depth 9) (search reads_ℤ depth 9) tt))

  mul_comm : reduced a b *ℚ reduced c d ≡ reduced c d *ℚ reduced a b
  mul_comm = rw (reduced-*ℚ a c b d, reduced-*ℚ c a d b) (reduced-same _ _ _ _ (ring_ℤ atoms (search reads_ℤ depth 9) (search reads_ℤ depth 9) tt))

  zero-add : reduced (pos 0) 0 +ℚ reduced a b ≡ reduced a b
  zero-add = simp reduced-+ℚ (reduced-same _ _ _ _ (ring_ℤ atoms (search reads_ℤ depth 9) (search reads_ℤ depth 9) tt))

  one-mul : reduced (pos 1) 0 *ℚ reduced a b ≡ reduced a b
  one-mul = simp reduced-*ℚ (reduced-same _ _ _ _ (ring_ℤ atoms (search reads_ℤ depth 9) (search reads_ℤ depth 9) tt))

  add-neg : reduced a b +ℚ neg_ℚ (reduced a b) ≡ reduced (pos 0) 0
  add-neg = simp (reduced-neg_ℚ, reduced-+ℚ) (reduced-same _ _ _ _ (ring_ℤ atoms (search reads_ℤ depth 9) (search reads_ℤ depth 9) tt))

pub +ℚ_assoc : (x y z : ℚ) → (x +ℚ y) +ℚ z ≡ x +ℚ (y +ℚ z)
+ℚ_assoc x y z = subst₃ (λ x y z. (x +ℚ y) +ℚ z ≡ x +ℚ (y +ℚ z)) (reduced_self x) (reduced_self y) (reduced_self z) (add_assoc x.num y.num z.num x.below y.below z.below)

pub *ℚ_assoc : (x y z : ℚ) → (x *ℚ y) *ℚ z ≡ x *ℚ (y *ℚ z)
*ℚ_assoc x y z = subst₃ (λ x y z. (x *ℚ y) *ℚ z ≡ x *ℚ (y *ℚ z)) (reduced_self x) (reduced_self y) (reduced_self z) (mul_assoc x.num y.num z.num x.below y.below z.below)

pub *ℚ-+ℚ : (x y z : ℚ) → x *ℚ (y +ℚ z) ≡ x *ℚ y +ℚ x *ℚ z
*ℚ-+ℚ x y z = subst₃ (λ x y z. x *ℚ (y +ℚ z) ≡ x *ℚ y +ℚ x *ℚ z) (reduced_self x) (reduced_self y) (reduced_self z) (mul-add x.num y.num z.num x.below y.below z.below)

pub +ℚ_comm : (x y : ℚ) → x +ℚ y ≡ y +ℚ x
+ℚ_comm x y = subst₂ (λ x y. x +ℚ y ≡ y +ℚ x) (reduced_self x) (reduced_self y) (add_comm x.num y.num (pos 0) x.below y.below 0)

pub *ℚ_comm : (x y : ℚ) → x *ℚ y ≡ y *ℚ x
*ℚ_comm x y = subst₂ (λ x y. x *ℚ y ≡ y *ℚ x) (reduced_self x) (reduced_self y) (mul_comm x.num y.num (pos 0) x.below y.below 0)

pub zero-+ℚ : (x : ℚ) → int (pos 0) +ℚ x ≡ x
zero-+ℚ x = subst₂ (λ z x. z +ℚ x ≡ x) (sym (int_is (pos 0))) (reduced_self x) (zero-add x.num (pos 0) (pos 0) x.below 0 0)

pub one-*ℚ : (x : ℚ) → int (pos 1) *ℚ x ≡ x
one-*ℚ x = subst₂ (λ z x. z *ℚ x ≡ x) (sym (int_is (pos 1))) (reduced_self x) (one-mul x.num (pos 0) (pos 0) x.below 0 0)

pub +ℚ-neg_ℚ : (x : ℚ) → x +ℚ neg_ℚ x ≡ int (pos 0)
+ℚ-neg_ℚ x = subst₂ (λ z x. x +ℚ neg_ℚ x ≡ z) (sym (int_is (pos 0))) (reduced_self x) (add-neg x.num (pos 0) (pos 0) x.below 0 0)

pub int-+ℤ : (a b : ℤ) → int (a +ℤ b) ≡ int a +ℚ int b
int-+ℤ a b = simp (int_is, reduced-+ℚ) (reduced-same _ _ _ _ (ring_ℤ (a ∷ b ∷ []) (search reads_ℤ depth 9) (search reads_ℤ depth 9) tt))

pub int-*ℤ : (a b : ℤ) → int (a *ℤ b) ≡ int a *ℚ int b
int-*ℤ a b = simp (int_is, reduced-*ℚ) (reduced-same _ _ _ _ (ring_ℤ (a ∷ b ∷ []) (search reads_ℤ depth 9) (search reads_ℤ depth 9) tt))

pub int-neg_ℤ : (a : ℤ) → int (neg_ℤ a) ≡ neg_ℚ (int a)
int-neg_ℤ a = int_is (neg_ℤ a) ∙ sym (reduced-neg_ℚ a 0) ∙ ap neg_ℚ (sym (int_is a))

abbrev pub rationals : Operations ℚ
rationals = record { of = int; add = ◌+ℚ◌; mul = ◌*ℚ◌; neg = neg_ℚ }

pub rationals_ring : IsRing rationals
rationals_ring = record {
  add_comm = +ℚ_comm;
  add_assoc = +ℚ_assoc;
  zero-add = zero-+ℚ;
  add-neg = +ℚ-neg_ℚ;
  mul_comm = *ℚ_comm;
  mul_assoc = *ℚ_assoc;
  one-mul = one-*ℚ;
  mul-add = *ℚ-+ℚ;
  of-add = int-+ℤ;
  of-mul = int-*ℤ;
}

-- ---- equations by computing

-- a rational as a term over the atoms
pub record Reads_ℚ (xs : List ℚ) (x : ℚ) : Type 0 where
  pub term : Term
  pub is : value rationals xs term ≡ x

module _ {xs : List ℚ} where
  abbrev pub reads-+ℚ : {x y : ℚ} → Reads_ℚ xs x → Reads_ℚ xs y → Reads_ℚ xs (x +ℚ y)
  reads-+ℚ r s = record { term = plus r.term s.term; is = ap₂ ◌+ℚ◌ r.is s.is }

  abbrev pub reads-*ℚ : {x y : ℚ} → Reads_ℚ xs x → Reads_ℚ xs y → Reads_ℚ xs (x *ℚ y)
  reads-*ℚ r s = record { term = times r.term s.term; is = ap₂ ◌*ℚ◌ r.is s.is }

  abbrev pub reads-neg_ℚ : {x : ℚ} → Reads_ℚ xs x → Reads_ℚ xs (neg_ℚ x)
  reads-neg_ℚ r = record { term = negate r.term; is = ap neg_ℚ r.is }

  -- an integer that is written out: the test computes at a numeral alone
  abbrev pub reads-int_pos : (n : ℕ) → T (leb n (2 ^ 256)) → Reads_ℚ xs (int (pos n))
  reads-int_pos n _ = record { term = literal (pos n); is = refl }

  abbrev pub reads-int_negsuc : (n : ℕ) → T (leb n (2 ^ 256)) → Reads_ℚ xs (int (negsuc n))
  reads-int_negsuc n _ = record { term = literal (negsuc n); is = refl }

  abbrev pub reads-int_add : (a b : ℤ) → Reads_ℚ xs (int a) → Reads_ℚ xs (int b) → Reads_ℚ xs (int (a +ℤ b))
  reads-int_add a b r s = record { term = plus r.term s.term; is = ap₂ ◌+ℚ◌ r.is s.is ∙ sym (int-+ℤ a b) }

  abbrev pub reads-int_mul : (a b : ℤ) → Reads_ℚ xs (int a) → Reads_ℚ xs (int b) → Reads_ℚ xs (int (a *ℤ b))
  reads-int_mul a b r s = record { term = times r.term s.term; is = ap₂ ◌*ℚ◌ r.is s.is ∙ sym (int-*ℤ a b) }

  abbrev pub reads-int_neg : (a : ℤ) → Reads_ℚ xs (int a) → Reads_ℚ xs (int (neg_ℤ a))
  reads-int_neg a r = record { term = negate r.term; is = ap neg_ℚ r.is ∙ sym (int-neg_ℤ a) }

abbrev pub at : (xs : List ℚ) (i : ℕ) → Reads_ℚ xs (nth rationals xs i)
at xs i = record { term = atom i; is = refl }

abbrev pub at_0 : {a : ℚ} {xs : List ℚ} → Reads_ℚ (a ∷ xs) a
at_0 {a} {xs} = at (a ∷ xs) 0

abbrev pub at_1 : {a b : ℚ} {xs : List ℚ} → Reads_ℚ (a ∷ b ∷ xs) b
at_1 {a} {b} {xs} = at (a ∷ b ∷ xs) 1

abbrev pub at_2 : {a b c : ℚ} {xs : List ℚ} → Reads_ℚ (a ∷ b ∷ c ∷ xs) c
at_2 {a} {b} {c} {xs} = at (a ∷ b ∷ c ∷ xs) 2

abbrev pub at_3 : {a b c d : ℚ} {xs : List ℚ} → Reads_ℚ (a ∷ b ∷ c ∷ d ∷ xs) d
at_3 {a} {b} {c} {d} {xs} = at (a ∷ b ∷ c ∷ d ∷ xs) 3

abbrev pub at_4 : {a b c d e : ℚ} {xs : List ℚ} → Reads_ℚ (a ∷ b ∷ c ∷ d ∷ e ∷ xs) e
at_4 {a} {b} {c} {d} {e} {xs} = at (a ∷ b ∷ c ∷ d ∷ e ∷ xs) 4

abbrev pub at_5 : {a b c d e f : ℚ} {xs : List ℚ} → Reads_ℚ (a ∷ b ∷ c ∷ d ∷ e ∷ f ∷ xs) f
at_5 {a} {b} {c} {d} {e} {f} {xs} = at (a ∷ b ∷ c ∷ d ∷ e ∷ f ∷ xs) 5

abbrev pub at_6 : {a b c d e f g : ℚ} {xs : List ℚ} → Reads_ℚ (a ∷ b ∷ c ∷ d ∷ e ∷ f ∷ g ∷ xs) g
at_6 {a} {b} {c} {d} {e} {f} {g} {xs} = at (a ∷ b ∷ c ∷ d ∷ e ∷ f ∷ g ∷ xs) 6

abbrev pub at_7 : {a b c d e f g h : ℚ} {xs : List ℚ} → Reads_ℚ (a ∷ b ∷ c ∷ d ∷ e ∷ f ∷ g ∷ h ∷ xs) h
at_7 {a} {b} {c} {d} {e} {f} {g} {h} {xs} = at (a ∷ b ∷ c ∷ d ∷ e ∷ f ∷ g ∷ h ∷ xs) 7

abbrev pub at_8 : {a b c d e f g h k : ℚ} {xs : List ℚ} → Reads_ℚ (a ∷ b ∷ c ∷ d ∷ e ∷ f ∷ g ∷ h ∷ k ∷ xs) k
at_8 {a} {b} {c} {d} {e} {f} {g} {h} {k} {xs} = at (a ∷ b ∷ c ∷ d ∷ e ∷ f ∷ g ∷ h ∷ k ∷ xs) 8

abbrev pub at_9 : {a b c d e f g h k l : ℚ} {xs : List ℚ} → Reads_ℚ (a ∷ b ∷ c ∷ d ∷ e ∷ f ∷ g ∷ h ∷ k ∷ l ∷ xs) l
at_9 {a} {b} {c} {d} {e} {f} {g} {h} {k} {l} {xs} = at (a ∷ b ∷ c ∷ d ∷ e ∷ f ∷ g ∷ h ∷ k ∷ l ∷ xs) 9

-- the ways in which `search` reads a rational
pub ruleset reads_ℚ = (at_0, at_1, at_2, at_3, at_4, at_5, at_6, at_7, at_8, at_9, reads-+ℚ, reads-*ℚ, reads-neg_ℚ, reads-int_pos, reads-int_negsuc, reads-int_add, reads-int_mul, reads-int_neg, computed)

-- both sides of an equation or an order
abbrev pub BothRead : List ℚ → ℚ → ℚ → Type 0
BothRead xs x y = Reads_ℚ xs x × Reads_ℚ xs y

pub ring_ℚ : (xs : List ℚ) {x y : ℚ} (r : Reads_ℚ xs x) (s : Reads_ℚ xs y) → T (is_zero_polynomial (normal (minus r.term s.term))) → x ≡ y
ring_ℚ xs r s t = sym r.is ∙ equal_by_normal rationals rationals_ring xs r.term s.term t ∙ s.is

pub ring : (xs : List ℚ) {x y : ℚ} (both : BothRead xs x y) → T (is_zero_polynomial (normal (minus both.0.term both.1.term))) → x ≡ y
ring xs both t = ring_ℚ xs both.0 both.1 t
