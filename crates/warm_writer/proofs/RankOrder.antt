-- The order of variables that are there is that of their ranks.
use Rattle.std.specs.Prelude.{◌≡◌, ℕ, zero, suc, ◌<◌, ◌≤◌, ◌^◌, true, nat_lt, List, [], ◌∷◌, map, length, get_or, All}
use Rattle.std.proofs.Common.{refl, arith}
use Rattle.std.proofs.lemmas.Bool.Decides.{nat_tests}
use Rattle.std.proofs.lemmas.List.Elements.{All-nil, All-cons, All-head, All-tail}
use Rattle.lp_model.specs.declared.types.Var.{Var}
use Rattle.lp_model.specs.declared.types.Var.TheVariants as var
use Rattle.node_differences.specs.Order.{stands_before, are_rising}
use Rattle.node_differences.proofs.OrderLemmas.{HeadBehind, Rising, rising, are-rising, further}
use Rattle.warm_file.specs.Rising.{variable_rank}
use Rattle.warm_file.specs.declared.rising.Counts.{Counts}
use Rattle.warm_writer.specs.Writable.{ArePlacesRising, IsVariableThere}

-- places have 32 bits
pub record AreFew (n : Counts) : Type 0 where
  pub columns : n.columns ≤ 2 ^ 32
  pub rows : n.rows ≤ 2 ^ 32
  pub cuts : n.cuts ≤ 2 ^ 32

less : (j k : ℕ) → nat_lt j k ≡ true → j < k
less j k h = grind (arith, nat_tests)

pub tested : (j k : ℕ) → j < k → nat_lt j k ≡ true
tested j k h = grind (arith, nat_tests)

pub rank-of : (n : Counts) (u v : Var) → AreFew n → IsVariableThere n u → IsVariableThere n v → stands_before u v ≡ true → variable_rank u < variable_rank v
rank-of n (var.Col j) (var.Col k) few h g e = less j.0 k.0 e
rank-of n (var.Col j) (var.Row k) few h g e = let c = few.columns in omega (arith, h, c)
rank-of n (var.Col j) (var.Cut k) few h g e = let c = few.columns in omega (arith, h, c)
rank-of n (var.Row i) (var.Col k) few h g e = absurd (cc)
rank-of n (var.Row i) (var.Row k) few h g e = let l = less i.0 k.0 e in omega (arith, l)
rank-of n (var.Row i) (var.Cut k) few h g e = let c = few.rows in omega (arith, h, c)
rank-of n (var.Cut i) (var.Col k) few h g e = absurd (cc)
rank-of n (var.Cut i) (var.Row k) few h g e = absurd (cc)
rank-of n (var.Cut i) (var.Cut k) few h g e = let l = less i.0 k.0 e in omega (arith, l)

pub before-by-rank : (n : Counts) (u v : Var) → AreFew n → IsVariableThere n u → IsVariableThere n v → variable_rank u < variable_rank v → stands_before u v ≡ true
before-by-rank n (var.Col j) (var.Col k) few h g e = tested j.0 k.0 e
before-by-rank n (var.Col j) (var.Row k) few h g e = refl
before-by-rank n (var.Col j) (var.Cut k) few h g e = refl
before-by-rank n (var.Row i) (var.Col k) few h g e = let c = few.columns in absurd (omega (arith, e, g, c))
before-by-rank n (var.Row i) (var.Row k) few h g e = tested i.0 k.0 (omega (arith, e))
before-by-rank n (var.Row i) (var.Cut k) few h g e = refl
before-by-rank n (var.Cut i) (var.Col k) few h g e = let c = few.columns in absurd (omega (arith, e, g, c))
before-by-rank n (var.Cut i) (var.Row k) few h g e = let c = few.rows in absurd (omega (arith, e, g, c))
before-by-rank n (var.Cut i) (var.Cut k) few h g e = tested i.0 k.0 (omega (arith, e))

-- ---- lists of what has a variable

module _ {A : Type 0} (variable : A → Var) (n : Counts) (few : AreFew n) where
  abbrev There : A → Type 0
  There a = IsVariableThere n (variable a)

  abbrev Behind : Var → A → Type 0
  Behind u a = stands_before u (variable a) ≡ true

  all-behind : (u : Var) (as_ : List A) → HeadBehind u (map variable as_) → Rising (map variable as_) → All (Behind u) as_
  all-behind u [] h r = All-nil (Behind u)
  all-behind u (a ∷ as_) h r = All-cons (Behind u) a as_ h (all-behind u as_ (further u (variable a) (map variable as_) h r.0) r.1)

  pairs : (as_ : List A) → All There as_ → Rising (map variable as_) → ArePlacesRising (λ a. variable_rank (variable a)) as_
  pairs [] h r i j d lt within = absurd (omega (arith, within))
  pairs (a ∷ as_) h r zero zero d lt within = absurd (omega (arith, lt))
  pairs (a ∷ as_) h r zero (suc j) d lt within =
      let below : j < length as_ = omega (arith, within) in
      rank-of n (variable a) (variable (get_or as_ j d)) few (All-head There a as_ h) (All-tail There a as_ h j d below) (all-behind (variable a) as_ r.0 r.1 j d below)
  pairs (a ∷ as_) h r (suc i) zero d lt within = absurd (omega (arith, lt))
  pairs (a ∷ as_) h r (suc i) (suc j) d lt within = pairs as_ (All-tail There a as_ h) r.1 i j d (omega (arith, lt)) (omega (arith, within))

  pub by-rank : (as_ : List A) → All There as_ → are_rising (map variable as_) ≡ true → ArePlacesRising (λ a. variable_rank (variable a)) as_
  by-rank as_ h r = pairs as_ h (rising (map variable as_) r)

  in-order : (as_ : List A) → All There as_ → ArePlacesRising (λ a. variable_rank (variable a)) as_ → Rising (map variable as_)
  in-order [] h r = tt
  in-order (a ∷ []) h r = (tt, tt)
  in-order (a ∷ b ∷ as_) h r = (
    before-by-rank n (variable a) (variable b) few (All-head There a (b ∷ as_) h) (All-head There b as_ (All-tail There a (b ∷ as_) h)) (r 0 1 a (omega arith) (omega arith)),
    in-order (b ∷ as_) (All-tail There a (b ∷ as_) h) (λ i j d lt within. r (suc i) (suc j) d (omega (arith, lt)) (omega (arith, within))),
  )

  pub told-order : (as_ : List A) → All There as_ → ArePlacesRising (λ a. variable_rank (variable a)) as_ → are_rising (map variable as_) ≡ true
  told-order as_ h r = are-rising (map variable as_) (in-order as_ h r)
