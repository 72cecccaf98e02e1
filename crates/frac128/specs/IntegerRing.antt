-- Equations of integers by computing: `ring_ℤ (x ∷ y ∷ []) (search reads_ℤ) (search reads_ℤ) tt`, over the list of the atoms.
use Rattle.std.specs.Prelude.{◌≡◌, ℕ, suc, ◌+◌, ◌*◌, List, ◌∷◌, ℤ, pos, negsuc, ◌+ℤ◌, ◌*ℤ◌, neg_ℤ, T, leb, ◌^◌}
use Rattle.std.proofs.Common.{refl, sym, ap, ap₂, ◌∙◌, arith}
use lib.IntN.{+ℤ_comm, +ℤ_assoc, +ℤ_idl, +ℤ_invr, *ℤ_comm}
use borrow.Author.Differences.{up, down, same_in, sum_is_lem, product_is}
use Rattle.frac128.specs.Rational.{below_product}
use Rattle.frac128.specs.Ring.{Operations, IsRing, Term, value, equal_by_normal, is_zero_polynomial, normal, nth}
use Rattle.frac128.specs.Ring.Term.{atom, literal, plus, minus, times, negate}

up-*ℤ : (a b : ℤ) → up (a *ℤ b) ≡ up a * up b + down a * down b
up-*ℤ a b = (product_is a b).0

down-*ℤ : (a b : ℤ) → down (a *ℤ b) ≡ up a * down b + down a * up b
down-*ℤ a b = (product_is a b).1

pub *ℤ_assoc : (a b c : ℤ) → (a *ℤ b) *ℤ c ≡ a *ℤ (b *ℤ c)
*ℤ_assoc a b c = same_in _ _ (simp (up-*ℤ, down-*ℤ) (omega arith))

pub *ℤ-+ℤ : (a b c : ℤ) → a *ℤ (b +ℤ c) ≡ a *ℤ b +ℤ a *ℤ c
*ℤ-+ℤ a b c =
    let sum = sum_is_lem b c in
    let up_times = ap (λ n. up a * n) sum in
    let down_times = ap (λ n. down a * n) sum in
    same_in _ _ (omega (arith, sum_is_lem (a *ℤ b) (a *ℤ c), product_is, up_times, down_times))

one-*ℤ : (a : ℤ) → pos 1 *ℤ a ≡ a
one-*ℤ a = same_in _ _ (omega (arith, product_is))

abbrev pub integers : Operations ℤ
integers = record { of = λ z. z; add = ◌+ℤ◌; mul = ◌*ℤ◌; neg = neg_ℤ }

pub integers_ring : IsRing integers
integers_ring = record {
  add_comm = +ℤ_comm;
  add_assoc = +ℤ_assoc;
  zero-add = +ℤ_idl;
  add-neg = +ℤ_invr;
  mul_comm = *ℤ_comm;
  mul_assoc = *ℤ_assoc;
  one-mul = one-*ℤ;
  mul-add = *ℤ-+ℤ;
  of-add = λ a b. refl;
  of-mul = λ a b. refl;
}

pub suc-below_product : (b d : ℕ) → suc (below_product b d) ≡ suc b * suc d
unfolding below_product
suc-below_product b d = omega arith

pub pos-below_product : (b d : ℕ) → pos (suc (below_product b d)) ≡ pos (suc b) *ℤ pos (suc d)
pos-below_product b d = ap pos (suc-below_product b d)

-- an integer as a term over the atoms
pub record Reads_ℤ (xs : List ℤ) (x : ℤ) : Type 0 where
  pub term : Term
  pub is : value integers xs term ≡ x

module _ {xs : List ℤ} where
  abbrev pub reads-+ℤ : {x y : ℤ} → Reads_ℤ xs x → Reads_ℤ xs y → Reads_ℤ xs (x +ℤ y)
  reads-+ℤ r s = record { term = plus r.term s.term; is = ap₂ ◌+ℤ◌ r.is s.is }

  abbrev pub reads-*ℤ : {x y : ℤ} → Reads_ℤ xs x → Reads_ℤ xs y → Reads_ℤ xs (x *ℤ y)
  reads-*ℤ r s = record { term = times r.term s.term; is = ap₂ ◌*ℤ◌ r.is s.is }

  abbrev pub reads-neg_ℤ : {x : ℤ} → Reads_ℤ xs x → Reads_ℤ xs (neg_ℤ x)
  reads-neg_ℤ r = record { term = negate r.term; is = ap neg_ℤ r.is }

  abbrev pub reads-pos_mul : {m n : ℕ} → Reads_ℤ xs (pos m) → Reads_ℤ xs (pos n) → Reads_ℤ xs (pos (m * n))
  reads-pos_mul r s = record { term = times r.term s.term; is = ap₂ ◌*ℤ◌ r.is s.is }

  abbrev pub reads-pos_add : {m n : ℕ} → Reads_ℤ xs (pos m) → Reads_ℤ xs (pos n) → Reads_ℤ xs (pos (m + n))
  reads-pos_add r s = record { term = plus r.term s.term; is = ap₂ ◌+ℤ◌ r.is s.is }

abbrev pub at : (xs : List ℤ) (i : ℕ) → Reads_ℤ xs (nth integers xs i)
at xs i = record { term = atom i; is = refl }

abbrev pub at_0 : {a : ℤ} {xs : List ℤ} → Reads_ℤ (a ∷ xs) a
at_0 {a} {xs} = at (a ∷ xs) 0

abbrev pub at_1 : {a b : ℤ} {xs : List ℤ} → Reads_ℤ (a ∷ b ∷ xs) b
at_1 {a} {b} {xs} = at (a ∷ b ∷ xs) 1

abbrev pub at_2 : {a b c : ℤ} {xs : List ℤ} → Reads_ℤ (a ∷ b ∷ c ∷ xs) c
at_2 {a} {b} {c} {xs} = at (a ∷ b ∷ c ∷ xs) 2

abbrev pub at_3 : {a b c d : ℤ} {xs : List ℤ} → Reads_ℤ (a ∷ b ∷ c ∷ d ∷ xs) d
at_3 {a} {b} {c} {d} {xs} = at (a ∷ b ∷ c ∷ d ∷ xs) 3

abbrev pub at_4 : {a b c d e : ℤ} {xs : List ℤ} → Reads_ℤ (a ∷ b ∷ c ∷ d ∷ e ∷ xs) e
at_4 {a} {b} {c} {d} {e} {xs} = at (a ∷ b ∷ c ∷ d ∷ e ∷ xs) 4

abbrev pub at_5 : {a b c d e f : ℤ} {xs : List ℤ} → Reads_ℤ (a ∷ b ∷ c ∷ d ∷ e ∷ f ∷ xs) f
at_5 {a} {b} {c} {d} {e} {f} {xs} = at (a ∷ b ∷ c ∷ d ∷ e ∷ f ∷ xs) 5

abbrev pub at_6 : {a b c d e f g : ℤ} {xs : List ℤ} → Reads_ℤ (a ∷ b ∷ c ∷ d ∷ e ∷ f ∷ g ∷ xs) g
at_6 {a} {b} {c} {d} {e} {f} {g} {xs} = at (a ∷ b ∷ c ∷ d ∷ e ∷ f ∷ g ∷ xs) 6

abbrev pub at_7 : {a b c d e f g h : ℤ} {xs : List ℤ} → Reads_ℤ (a ∷ b ∷ c ∷ d ∷ e ∷ f ∷ g ∷ h ∷ xs) h
at_7 {a} {b} {c} {d} {e} {f} {g} {h} {xs} = at (a ∷ b ∷ c ∷ d ∷ e ∷ f ∷ g ∷ h ∷ xs) 7

abbrev pub at_8 : {a b c d e f g h k : ℤ} {xs : List ℤ} → Reads_ℤ (a ∷ b ∷ c ∷ d ∷ e ∷ f ∷ g ∷ h ∷ k ∷ xs) k
at_8 {a} {b} {c} {d} {e} {f} {g} {h} {k} {xs} = at (a ∷ b ∷ c ∷ d ∷ e ∷ f ∷ g ∷ h ∷ k ∷ xs) 8

abbrev pub at_9 : {a b c d e f g h k l : ℤ} {xs : List ℤ} → Reads_ℤ (a ∷ b ∷ c ∷ d ∷ e ∷ f ∷ g ∷ h ∷ k ∷ l ∷ xs) l
at_9 {a} {b} {c} {d} {e} {f} {g} {h} {k} {l} {xs} = at (a ∷ b ∷ c ∷ d ∷ e ∷ f ∷ g ∷ h ∷ k ∷ l ∷ xs) 9

-- an integer that is written out: the test computes at a numeral alone
abbrev pub reads-literal : {xs : List ℤ} (n : ℕ) → T (leb n (2 ^ 256)) → Reads_ℤ xs (pos n)
reads-literal n _ = record { term = literal (pos n); is = refl }

-- -(n + 1)
abbrev pub reads-negsuc : {xs : List ℤ} {n : ℕ} → Reads_ℤ xs (pos (suc n)) → Reads_ℤ xs (negsuc n)
reads-negsuc r = record { term = negate r.term; is = ap neg_ℤ r.is }

-- (b + 1) * (d + 1)
abbrev pub reads-below_product : {xs : List ℤ} {b d : ℕ} → Reads_ℤ xs (pos (suc b)) → Reads_ℤ xs (pos (suc d)) → Reads_ℤ xs (pos (suc (below_product b d)))
reads-below_product {b = b} {d = d} r s = record { term = times r.term s.term; is = ap₂ ◌*ℤ◌ r.is s.is ∙ sym (pos-below_product b d) }

-- what a test that computes to true asks
pub computed : Unit {0}
computed = tt

pub ruleset reads_ℤ = (at_0, at_1, at_2, at_3, at_4, at_5, at_6, at_7, at_8, at_9, reads-+ℤ, reads-*ℤ, reads-neg_ℤ, reads-below_product, reads-pos_mul, reads-pos_add, reads-literal, reads-negsuc, computed)

pub ring_ℤ : (xs : List ℤ) {x y : ℤ} (r : Reads_ℤ xs x) (s : Reads_ℤ xs y) → T (is_zero_polynomial (normal (minus r.term s.term))) → x ≡ y
ring_ℤ xs r s t = sym r.is ∙ equal_by_normal integers integers_ring xs r.term s.term t ∙ s.is
