-- The order of variables is total.
use Rattle.std.specs.Prelude.{◌≡◌, ℕ, Bool, true, false, ◌&&◌, nat_lt, List, [], ◌∷◌}
use Rattle.std.proofs.Common.{refl, ap, ◌∙◌, arith}
use Rattle.std.proofs.lemmas.Bool.Decides.{nat_tests}
use Rattle.lp_model.specs.declared.types.Var.{Var}
use Rattle.lp_model.specs.declared.types.Var.TheVariants.{Col, Row, Cut}
use Rattle.node_differences.specs.Order.{stands_before, are_rising}

not-less : (j : ℕ) → nat_lt j j ≡ false
not-less j = grind (arith, nat_tests)

less-through : (i j k : ℕ) → nat_lt i j ≡ true → nat_lt j k ≡ true → nat_lt i k ≡ true
less-through i j k h g = grind (arith, nat_tests)

neither-less : (j k : ℕ) → nat_lt j k ≡ false → nat_lt k j ≡ false → j ≡ k
neither-less j k h g = grind (arith, nat_tests)

pub not_before : (u : Var) → stands_before u u ≡ false
not_before (Col j) = not-less j.0
not_before (Row i) = not-less i.0
not_before (Cut k) = not-less k.0

-- two variables of which none is before the other are one
pub same_variable : (u v : Var) → stands_before u v ≡ false → stands_before v u ≡ false → u ≡ v
same_variable (Col j) (Col k) h g = ap (λ n. Col (record { 0 = n })) (neither-less j.0 k.0 h g)
same_variable (Col j) (Row k) h g = absurd (cc)
same_variable (Col j) (Cut k) h g = absurd (cc)
same_variable (Row j) (Col k) h g = absurd (cc)
same_variable (Row j) (Row k) h g = ap (λ n. Row (record { 0 = n })) (neither-less j.0 k.0 h g)
same_variable (Row j) (Cut k) h g = absurd (cc)
same_variable (Cut j) (Col k) h g = absurd (cc)
same_variable (Cut j) (Row k) h g = absurd (cc)
same_variable (Cut j) (Cut k) h g = ap (λ n. Cut (record { 0 = n })) (neither-less j.0 k.0 h g)

pub before-through : (u v w : Var) → stands_before u v ≡ true → stands_before v w ≡ true → stands_before u w ≡ true
before-through (Col i) (Col j) (Col k) h g = less-through i.0 j.0 k.0 h g
before-through (Col i) (Col j) (Row k) h g = refl
before-through (Col i) (Col j) (Cut k) h g = refl
before-through (Col i) (Row j) (Col k) h g = absurd (cc)
before-through (Col i) (Row j) (Row k) h g = refl
before-through (Col i) (Row j) (Cut k) h g = refl
before-through (Col i) (Cut j) (Col k) h g = absurd (cc)
before-through (Col i) (Cut j) (Row k) h g = absurd (cc)
before-through (Col i) (Cut j) (Cut k) h g = refl
before-through (Row i) (Col j) (Col k) h g = absurd (cc)
before-through (Row i) (Col j) (Row k) h g = absurd (cc)
before-through (Row i) (Col j) (Cut k) h g = absurd (cc)
before-through (Row i) (Row j) (Col k) h g = absurd (cc)
before-through (Row i) (Row j) (Row k) h g = less-through i.0 j.0 k.0 h g
before-through (Row i) (Row j) (Cut k) h g = refl
before-through (Row i) (Cut j) (Col k) h g = absurd (cc)
before-through (Row i) (Cut j) (Row k) h g = absurd (cc)
before-through (Row i) (Cut j) (Cut k) h g = refl
before-through (Cut i) (Col j) (Col k) h g = absurd (cc)
before-through (Cut i) (Col j) (Row k) h g = absurd (cc)
before-through (Cut i) (Col j) (Cut k) h g = absurd (cc)
before-through (Cut i) (Row j) (Col k) h g = absurd (cc)
before-through (Cut i) (Row j) (Row k) h g = absurd (cc)
before-through (Cut i) (Row j) (Cut k) h g = absurd (cc)
before-through (Cut i) (Cut j) (Col k) h g = absurd (cc)
before-through (Cut i) (Cut j) (Row k) h g = absurd (cc)
before-through (Cut i) (Cut j) (Cut k) h g = less-through i.0 j.0 k.0 h g

-- ---- lists that rise

-- the first of these, if any, is behind u
abbrev pub HeadBehind : Var → List Var → Type 0
HeadBehind u [] = Unit {0}
HeadBehind u (v ∷ vs) = stands_before u v ≡ true

abbrev pub Rising : List Var → Type 0
Rising [] = Unit {0}
Rising (u ∷ us) = HeadBehind u us × Rising us

pub both_true : (b c : Bool) → (b && c) ≡ true → (b ≡ true) × (c ≡ true)
both_true true true e = (refl, refl)
both_true true false e = absurd (cc)
both_true false c e = absurd (cc)

pub rising : (vs : List Var) → are_rising vs ≡ true → Rising vs
rising [] e = tt
rising (u ∷ []) e = (tt, tt)
rising (u ∷ v ∷ vs) e = let parts = both_true (stands_before u v) (are_rising (v ∷ vs)) e in (parts.0, rising (v ∷ vs) parts.1)

pub are-rising : (vs : List Var) → Rising vs → are_rising vs ≡ true
are-rising [] h = refl
are-rising (u ∷ []) h = refl
are-rising (u ∷ v ∷ vs) h = ap (λ b. b && are_rising (v ∷ vs)) h.0 ∙ are-rising (v ∷ vs) h.1

-- what is before the first of these is before those behind it
pub further : (w u : Var) (us : List Var) → stands_before w u ≡ true → HeadBehind u us → HeadBehind w us
further w u [] h k = tt
further w u (v ∷ vs) h k = before-through w u v h k
