-- Lists of variables, and the order of the parts.
use Rattle.std.specs.Prelude.{◌≡◌, ◌⊎◌, ℕ, zero, suc, ◌+◌, ◌<◌, Bool, true, false, cond, pos, List, [], ◌∷◌, ◌++◌, filter, length}
use Rattle.std.specs.List.{range_with_len}
use Rattle.std.proofs.Common.{refl, sym, ap, subst, ◌∙◌, arith, ⊎_elim, inl, inr}
use Rattle.std.proofs.lemmas.List.{append_assoc, append-nil, length-append, get_or_append_left, get_or-append-add}
use Rattle.std.proofs.lemmas.List.FromFn.{length-range_with_len, get_or-range_with_len}
use Rattle.std.proofs.lemmas.List.Elements.{filter-append}
use Rattle.frac128.specs.Rational.{ℚ, int}
use Rattle.table_entries.specs.Relaxation.{Relaxation}
use Rattle.table_entries.specs.declared.stand.Stand.{Stand}
use Rattle.table_entries.specs.declared.stand.Stand.TheVariants.{Free}
use Rattle.table_entries.specs.States.{IsFree, Separates, sign}
use Rattle.table_entries.specs.Bases.{Found, listed, Lists}
use Rattle.table_entries.proofs.OneTable.{found_or_not}
use Rattle.table_entries.proofs.SumBelowLaws.{if_same, if_other}
use Rattle.row_tableau.specs.Tilts.{tilted_cost}
use Rattle.row_tableau.proofs.SignLemmas.{sign_some}

-- ---- lists

more_has : (x : ℕ) (xs : List ℕ) (v : ℕ) → Lists xs v → Lists (x ∷ xs) v
more_has x xs v (k, within, is) = (suc k, omega (arith, within), is)

cond_has : (b : Bool) (x : ℕ) (xs : List ℕ) (v : ℕ) → Lists xs v → Lists (cond b (x ∷ xs) xs) v
cond_has true x xs v h = more_has x xs v h
cond_has false x xs v h = h

-- what passes the test stays
pub filter_has : (p : ℕ → Bool) (xs : List ℕ) (v : ℕ) → p v ≡ true → Lists xs v → Lists (filter p xs) v
filter_has p [] v t (k, within, is) = absurd (omega (arith, within))
filter_has p (x ∷ xs) v t (zero, within, is) = subst (λ b. Lists (cond b (x ∷ filter p xs) (filter p xs)) v) (sym (ap p (sym is) ∙ t)) (0, omega arith, is)
filter_has p (x ∷ xs) v t (suc k, within, is) = cond_has (p x) x (filter p xs) v (filter_has p xs v t (k, omega (arith, within), is))

passed : (p : ℕ → Bool) (x : ℕ) (xs : List ℕ) (v : ℕ) → (Lists (filter p xs) v → Lists xs v × (p v ≡ true)) → (b : Bool) → p x ≡ b → Lists (cond b (x ∷ filter p xs) (filter p xs)) v → Lists (x ∷ xs) v × (p v ≡ true)
passed p x xs v rest true e (zero, within, is) = ((0, omega arith, is), ap p is ∙ e)
passed p x xs v rest true e (suc k, within, is) = let r = rest (k, omega (arith, within), is) in (more_has x xs v r.0, r.1)
passed p x xs v rest false e g = let r = rest g in (more_has x xs v r.0, r.1)

-- and it alone
pub filter_from : (p : ℕ → Bool) (xs : List ℕ) (v : ℕ) → Lists (filter p xs) v → Lists xs v × (p v ≡ true)
filter_from p [] v (k, within, is) = absurd (omega (arith, within))
filter_from p (x ∷ xs) v h = passed p x xs v (λ g. filter_from p xs v g) (p x) refl h

pub range_has : (n v : ℕ) → v < n → Lists (range_with_len 0 n) v
range_has n v within = (v, let e = length-range_with_len 0 n in omega (arith, e, within), let e = get_or-range_with_len 0 n v 0 within in omega (arith, e))

pub range_from : (n v : ℕ) → Lists (range_with_len 0 n) v → v < n
range_from n v (k, within, is) =
    let e = length-range_with_len 0 n in
    let less : k < n = omega (arith, e, within) in
    let at = get_or-range_with_len 0 n k 0 less in
    omega (arith, at, is, less)

pub left_has : (xs ys : List ℕ) (v : ℕ) → Lists xs v → Lists (xs ++ ys) v
left_has xs ys v (k, within, is) = (k, let e = length-append xs ys in omega (arith, e, within), is ∙ sym (get_or_append_left xs ys 0 k within))

pub right_has : (xs ys : List ℕ) (v : ℕ) → Lists ys v → Lists (xs ++ ys) v
right_has xs ys v (k, within, is) = (length xs + k, let e = length-append xs ys in omega (arith, e, within), is ∙ sym (get_or-append-add xs ys k 0))

pub append_from : (xs ys : List ℕ) (v : ℕ) → Lists (xs ++ ys) v → Lists xs v ⊎ Lists ys v
append_from [] ys v h = inr h
append_from (x ∷ xs) ys v (zero, within, is) = inl (0, omega arith, is)
append_from (x ∷ xs) ys v (suc k, within, is) = ⊎_elim (λ f. inl (more_has x xs v f)) (λ f. inr f) (append_from xs ys v (k, omega (arith, within), is))

range_more : (a n : ℕ) → range_with_len a (suc n) ≡ range_with_len a n ++ (a + n) ∷ []
range_more a zero = ap (λ m. m ∷ []) (omega arith)
range_more a (suc n) = ap (λ l. a ∷ l) (range_more (a + 1) n ∙ ap (λ m. range_with_len (a + 1) n ++ m ∷ []) (omega arith))

-- one more number
pub filter_more : (p : ℕ → Bool) (n : ℕ) → filter p (range_with_len 0 (n + 1)) ≡ filter p (range_with_len 0 n) ++ cond (p n) (n ∷ []) []
filter_more p n =
    let e : n + 1 ≡ suc n = omega arith in
    let f : 0 + n ≡ n = omega arith in
    ap (λ m. filter p (range_with_len 0 m)) e ∙ ap (filter p) (range_more 0 n ∙ ap (λ m. range_with_len 0 n ++ m ∷ []) f) ∙ filter-append p (range_with_len 0 n) (n ∷ [])

module _ (p : ℕ → Bool) (n : ℕ) (front xs : List ℕ) (is : xs ≡ front ++ filter p (range_with_len 0 n)) where
  pub filter_kept_behind : p n ≡ true → xs ++ n ∷ [] ≡ front ++ filter p (range_with_len 0 (n + 1))
  filter_kept_behind t =
      ap (λ l. l ++ n ∷ []) is ∙ append_assoc front (filter p (range_with_len 0 n)) (n ∷ [])
      ∙ ap (λ l. front ++ l) (ap (λ b. filter p (range_with_len 0 n) ++ cond b (n ∷ []) []) (sym t) ∙ sym (filter_more p n))

  pub filter_left_behind : p n ≡ false → xs ≡ front ++ filter p (range_with_len 0 (n + 1))
  filter_left_behind t = is ∙ ap (λ l. front ++ l) (sym (append-nil (filter p (range_with_len 0 n))) ∙ ap (λ b. filter p (range_with_len 0 n) ++ cond b (n ∷ []) []) (sym t) ∙ sym (filter_more p n))

pub filter_kept : (p : ℕ → Bool) (n : ℕ) (xs : List ℕ) → xs ≡ filter p (range_with_len 0 n) → p n ≡ true → xs ++ n ∷ [] ≡ filter p (range_with_len 0 (n + 1))
filter_kept p n xs is t = filter_kept_behind p n [] xs is t

pub filter_left : (p : ℕ → Bool) (n : ℕ) (xs : List ℕ) → xs ≡ filter p (range_with_len 0 n) → p n ≡ false → xs ≡ filter p (range_with_len 0 (n + 1))
filter_left p n xs is t = filter_left_behind p n [] xs is t

-- ---- a variable in the order has a part of its own

module _ (tilt : ℕ → Stand) where
  pub own_same : (v : ℕ) → tilted_cost tilt v v ≡ sign (tilt v)
  own_same v = if_same v (sign (tilt v)) (int (pos 0))

  pub own_other : (v u : ℕ) → ¬ (u ≡ v) → tilted_cost tilt v u ≡ int (pos 0)
  own_other v u other = if_other u v (sign (tilt v)) (int (pos 0)) other

module _ (p : Relaxation) (parts : ℕ → ℕ → ℚ) (order : List ℕ) (tilt : ℕ → Stand) (part_is : (q : ℕ) → q < length order → (v : ℕ) → parts (suc q) v ≡ tilted_cost tilt (listed order q) v) where
  abbrev Turn : ℕ → Type 0
  Turn v = Found (length order) (listed order) v ⊎ ((k : ℕ) → k < length order → ¬ (v ≡ listed order k))

  -- its part
  own_part : (v : ℕ) → Turn v → ℕ
  own_part v t = ⊎_elim (λ f. suc f.0) (λ none. 0) t

  part_cost : (v : ℕ) (turn : Turn v) → Lists order v → (u : ℕ) → parts (own_part v turn) u ≡ tilted_cost tilt v u
  unfolding own_part
  part_cost v (inl f) has u = part_is f.0 f.1 u ∙ ap (λ w. tilted_cost tilt w u) (sym f.2)
  part_cost v (inr none) has u = absurd (none has.0 has.1 has.2)

  pub separated : ((v : ℕ) → ¬ (IsFree p v) → Lists order v × (¬ (tilt v ≡ Free))) → Separates p parts
  separated tilted = record {
    own_part = λ v. own_part v (found_or_not (length order) (listed order) v);
    own_some = λ v some e. let t = tilted v some in sign_some (tilt v) t.1 (sym (own_same tilt v) ∙ sym (part_cost v (found_or_not (length order) (listed order) v) t.0 v) ∙ e);
    own_alone = λ v u some other. part_cost v (found_or_not (length order) (listed order) v) (tilted v some).0 u ∙ own_other tilt v u other;
  }
