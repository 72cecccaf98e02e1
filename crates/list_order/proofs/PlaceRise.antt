-- Places that stay keep their order, once others are taken out.
use Rattle.std.specs.Prelude.{◌≡◌, ℕ, zero, suc, ◌+◌, ◌-◌, ◌<◌, ◌≤◌, Bool, true, false, if◌then◌else◌, not, nat_eq, nat_lt, List, [], ◌∷◌, length, filter}
use Rattle.std.proofs.Common.{refl, sym, subst, ◌∙◌, arith, inl, inr}
use Rattle.std.proofs.lemmas.Bool.{cases_order, lt-ltb, le-ltb, ltb-false, eq-eqb, not-true}
use Rattle.lp_model.specs.Elements.{place_after}
use Rattle.lp_model.specs.Program.{Program}
use Rattle.lp_model.specs.declared.types.CutId.{CutId}
use Rattle.lp_model.specs.declared.types.CutRow.{CutRow}
use Rattle.lp_model.specs.declared.types.Edit.{Edit}
use Rattle.lp_model.specs.declared.types.Var.{Var}
use Rattle.lp_model.specs.declared.types.Var.TheVariants.{Col, Row, Cut}
use Rattle.lp_model.proofs.ChangedLaws.{place_after-below, place_after-above}
use Rattle.branch_tree.specs.Following.{same_var, var_after, is_gone, gone_before, is_left, var_left}
use Rattle.branch_tree.proofs.GoneLemmas.{more_before}
use Rattle.kept_cuts.specs.Kept.{goes_with, cut_at, gone_from, gone_with}
use Rattle.list_order.specs.Order.{IsBefore}

-- ---- a place that is taken out

pub place-rises : (g i j : ℕ) → ¬ (g ≡ i) → ¬ (g ≡ j) → i < j → place_after g i < place_after g j
place-rises g i j ni nj less = elim (cases_order g i) [
  | inl same ↦ absurd (ni same)
  | inr o ↦ elim o [
    | inl low ↦ omega (arith, place_after-above g i low, place_after-above g j (omega arith), low, less)
    | inr high ↦ elim (cases_order g j) [
      | inl same ↦ absurd (nj same)
      | inr q ↦ elim q [
        | inl past ↦ omega (arith, place_after-below g i (omega arith), place_after-above g j past, high, past)
        | inr below ↦ omega (arith, place_after-below g i (omega arith), place_after-below g j (omega arith), less)
      ]
    ]
  ]
]

pub other : (g i : ℕ) → not (nat_eq g i) ≡ true → ¬ (g ≡ i)
other g i h e = let t : nat_eq g i ≡ true = eq-eqb g i e in let f : nat_eq g i ≡ false = not-true (nat_eq g i) h in cc

-- a variable that is taken out
pub after-before : (g v w : Var) → not (same_var g v) ≡ true → not (same_var g w) ≡ true → IsBefore v w → IsBefore (var_after g v) (var_after g w)
after-before (Col g) (Col j) (Col k) p q h = place-rises g.0 j.0 k.0 (other g.0 j.0 p) (other g.0 k.0 q) h
after-before (Col g) (Col j) (Row k) p q h = tt
after-before (Col g) (Col j) (Cut k) p q h = tt
after-before (Col g) (Row i) (Col k) p q h = absurd h
after-before (Col g) (Row i) (Row k) p q h = h
after-before (Col g) (Row i) (Cut k) p q h = tt
after-before (Col g) (Cut i) (Col k) p q h = absurd h
after-before (Col g) (Cut i) (Row k) p q h = absurd h
after-before (Col g) (Cut i) (Cut k) p q h = h
after-before (Row g) (Col j) (Col k) p q h = h
after-before (Row g) (Col j) (Row k) p q h = tt
after-before (Row g) (Col j) (Cut k) p q h = tt
after-before (Row g) (Row i) (Col k) p q h = absurd h
after-before (Row g) (Row i) (Row k) p q h = place-rises g.0 i.0 k.0 (other g.0 i.0 p) (other g.0 k.0 q) h
after-before (Row g) (Row i) (Cut k) p q h = tt
after-before (Row g) (Cut i) (Col k) p q h = absurd h
after-before (Row g) (Cut i) (Row k) p q h = absurd h
after-before (Row g) (Cut i) (Cut k) p q h = h
after-before (Cut g) (Col j) (Col k) p q h = h
after-before (Cut g) (Col j) (Row k) p q h = tt
after-before (Cut g) (Col j) (Cut k) p q h = tt
after-before (Cut g) (Row i) (Col k) p q h = absurd h
after-before (Cut g) (Row i) (Row k) p q h = h
after-before (Cut g) (Row i) (Cut k) p q h = tt
after-before (Cut g) (Cut i) (Col k) p q h = absurd h
after-before (Cut g) (Cut i) (Row k) p q h = absurd h
after-before (Cut g) (Cut i) (Cut k) p q h = place-rises g.0 i.0 k.0 (other g.0 i.0 p) (other g.0 k.0 q) h

-- ---- cuts that go with an edit

abbrev earlier : List CutId → ℕ → List CutId
earlier gs p = filter (λ g. nat_lt g.0 p) gs

-- a place before another of the list counts, one from it on does not
first-before : (gs : List CutId) (k p : ℕ) → k < p → gone_before (cut_at k ∷ gs) p ≡ suc (gone_before gs p)
first-before gs k p below = λ i. length (if lt-ltb k p below i then cut_at k ∷ earlier gs p else earlier gs p)

first-past : (gs : List CutId) (k p : ℕ) → p ≤ k → gone_before (cut_at k ∷ gs) p ≡ gone_before gs p
first-past gs k p past = λ i. length (if le-ltb k p past i then cut_at k ∷ earlier gs p else earlier gs p)

module _ (M : Program) (e : Edit) where
  -- no place below the first one is gone
  none-before : (k i : ℕ) (cuts : List CutRow) → i ≤ k → gone_before (gone_from M e k cuts) i ≡ 0
  none-before k i [] below = refl
  none-before k i (c ∷ cuts) below = by (goes_with M e c.from) (none-before (suc k) i cuts (omega arith))
    where
      by : (b : Bool) → gone_before (gone_from M e (suc k) cuts) i ≡ 0 → gone_before (if b then cut_at k ∷ gone_from M e (suc k) cuts else gone_from M e (suc k) cuts) i ≡ 0
      by true h = omega (arith, first-past (gone_from M e (suc k) cuts) k i below, h)
      by false h = h

  -- no place is gone twice
  one-more : (k i : ℕ) (cuts : List CutRow) → gone_before (gone_from M e k cuts) (i + 1) ≤ gone_before (gone_from M e k cuts) i + 1
  one-more k i [] = omega arith
  one-more k i (c ∷ cuts) = by (goes_with M e c.from) (one-more (suc k) i cuts)
    where
      gs : List CutId
      gs = gone_from M e (suc k) cuts

      by : (b : Bool) → gone_before gs (i + 1) ≤ gone_before gs i + 1
          → gone_before (if b then cut_at k ∷ gs else gs) (i + 1) ≤ gone_before (if b then cut_at k ∷ gs else gs) i + 1
      by true h = elim (cases_order k i) [
        | inl same ↦ omega (arith, first-before gs k (i + 1) (omega arith), first-past gs k i (omega arith), none-before (suc k) (i + 1) cuts (omega arith))
        | inr o ↦ elim o [
          | inl low ↦ omega (arith, first-before gs k (i + 1) (omega arith), first-before gs k i low, h)
          | inr high ↦ omega (arith, first-past gs k (i + 1) (omega arith), first-past gs k i (omega arith), h)
        ]
      ]
      by false h = h

module _ (M : Program) (e : Edit) (cuts : List CutRow) where
  abbrev gone : List CutId
  gone = gone_with M e cuts

  few-gone : (i : ℕ) → gone_before gone i ≤ i
  few-gone zero = omega (arith, none-before M e 0 0 cuts (omega arith))
  few-gone (suc i) = let one : gone_before gone (i + 1) ≤ gone_before gone i + 1 = one-more M e 0 i cuts in let n : suc i ≡ i + 1 = omega arith in subst (λ p. gone_before gone p ≤ p) (sym n) (omega (arith, one, few-gone i))

  stays-next : (i : ℕ) → not (is_gone gone i) ≡ true → gone_before gone (i + 1) ≤ gone_before gone i
  stays-next i kept = let none : is_gone gone i ≡ false = not-true (is_gone gone i) kept in let m : nat_lt (gone_before gone i) (gone_before gone (i + 1)) ≡ false = more_before gone i ∙ none in ltb-false (gone_before gone i) (gone_before gone (i + 1)) m

  -- so many places further on no more than so many are gone
  falls : (i n : ℕ) → i - gone_before gone i ≤ (i + n) - gone_before gone (i + n)
  falls i zero = let same : i + 0 ≡ i = omega arith in subst (λ p. i - gone_before gone i ≤ p - gone_before gone p) (sym same) (omega arith)
  falls i (suc n) =
      let at : i + suc n ≡ (i + n) + 1 = omega arith in
      let one : gone_before gone ((i + n) + 1) ≤ gone_before gone (i + n) + 1 = one-more M e 0 (i + n) cuts in
      subst (λ p. i - gone_before gone i ≤ p - gone_before gone p) (sym at) (omega (arith, one, falls i n))

  left-rises : (i j : ℕ) → not (is_gone gone i) ≡ true → i < j → i - gone_before gone i < j - gone_before gone j
  left-rises i j kept less =
      let n : ℕ = j - (i + 1) in
      let at : (i + 1) + n ≡ j = omega arith in
      let rest = subst (λ p. (i + 1) - gone_before gone (i + 1) ≤ p - gone_before gone p) at (falls (i + 1) n) in
      omega (arith, rest, stays-next i kept, few-gone i)

  pub left-before : (v w : Var) → is_left gone v ≡ true → is_left gone w ≡ true → IsBefore v w → IsBefore (var_left gone v) (var_left gone w)
  left-before (Col j) (Col k) p q h = h
  left-before (Col j) (Row k) p q h = tt
  left-before (Col j) (Cut k) p q h = tt
  left-before (Row i) (Col k) p q h = absurd h
  left-before (Row i) (Row k) p q h = h
  left-before (Row i) (Cut k) p q h = tt
  left-before (Cut i) (Col k) p q h = absurd h
  left-before (Cut i) (Row k) p q h = absurd h
  left-before (Cut i) (Cut k) p q h = left-rises i.0 k.0 p h
