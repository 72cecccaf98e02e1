-- Cuts that go with an edit: where those stand that stay.
-- Idea: of the cuts before a place, those that stay are counted by `stay_before`; so a cut that stays goes to that count
-- (`place-is`), which rises from one that stays to each later place (`stays`), so none shares its place (`places-apart`).
use Rattle.std.specs.Prelude.{◌≡◌, ℕ, zero, suc, ◌+◌, ◌-◌, ◌<◌, ◌≤◌, Bool, true, false, if◌then◌else◌, not, nat_eq, nat_lt, List, [], ◌∷◌, length, map, filter}
use Rattle.std.proofs.Common.{refl, sym, ap, subst, ◌∙◌, arith, inl, inr}
use Rattle.std.proofs.lemmas.Bool.{cases_order, lt-ltb, le-ltb, eqb-false, not-true, or_parts}
use Rattle.std.proofs.lemmas.List.{length-map}
use Rattle.lp_model.specs.Program.{Program}
use Rattle.lp_model.specs.declared.types.CutId.{CutId}
use Rattle.lp_model.specs.declared.types.CutRow.{CutRow}
use Rattle.lp_model.specs.declared.types.Edit.{Edit}
use Rattle.branch_tree.specs.Following.{is_gone, gone_before}
use Rattle.kept_cuts.specs.Kept.{goes_with, derivation_after, derivations_of, derivations_after, cut_at, gone_from, gone_with}

-- how many of the first i cuts stay
abbrev pub stay_before : Program → Edit → ℕ → List CutRow → ℕ
stay_before M e zero cuts = 0
stay_before M e (suc i) [] = 0
stay_before M e (suc i) (c ∷ cuts) = if goes_with M e c.from then stay_before M e i cuts else suc (stay_before M e i cuts)

abbrev earlier : List CutId → ℕ → List CutId
earlier gs p = filter (λ g. nat_lt g.0 p) gs

-- a place before another of the list counts, one from it on does not
first-before : (gs : List CutId) (k p : ℕ) → k < p → gone_before (cut_at k ∷ gs) p ≡ suc (gone_before gs p)
first-before gs k p below = ap (λ b. length (if b then cut_at k ∷ earlier gs p else earlier gs p)) (lt-ltb k p below)

first-past : (gs : List CutId) (k p : ℕ) → p ≤ k → gone_before (cut_at k ∷ gs) p ≡ gone_before gs p
first-past gs k p past = ap (λ b. length (if b then cut_at k ∷ earlier gs p else earlier gs p)) (le-ltb k p past)

module _ (M : Program) (e : Edit) where
  -- no place below the first one is gone
  none-before : (k i : ℕ) (cuts : List CutRow) → i ≤ k → gone_before (gone_from M e k cuts) i ≡ 0
  none-before k i [] below = refl
  none-before k i (c ∷ cuts) below = by (goes_with M e c.from) (none-before (suc k) i cuts (omega arith))
    where
      by : (b : Bool) → gone_before (gone_from M e (suc k) cuts) i ≡ 0 → gone_before (if b then cut_at k ∷ gone_from M e (suc k) cuts else gone_from M e (suc k) cuts) i ≡ 0
      by true h = first-past (gone_from M e (suc k) cuts) k i below ∙ h
      by false h = h

  -- those that go before a place and those that stay are all before it
  counted : (k i : ℕ) (cuts : List CutRow) → i ≤ length cuts → gone_before (gone_from M e k cuts) (k + i) + stay_before M e i cuts ≡ i
  counted k zero cuts within = let low : k + 0 ≤ k = omega arith in omega (arith, none-before k (k + 0) cuts low)
  counted k (suc i) [] within = absurd (omega arith)
  counted k (suc i) (c ∷ cuts) within =
      let at : suc k + i ≡ k + suc i = omega arith in
      by (goes_with M e c.from) (subst (λ p. gone_before (gone_from M e (suc k) cuts) p + stay_before M e i cuts ≡ i) at (counted (suc k) i cuts (omega arith)))
    where
      by : (b : Bool) → gone_before (gone_from M e (suc k) cuts) (k + suc i) + stay_before M e i cuts ≡ i
          → gone_before (if b then cut_at k ∷ gone_from M e (suc k) cuts else gone_from M e (suc k) cuts) (k + suc i) + (if b then stay_before M e i cuts else suc (stay_before M e i cuts)) ≡ suc i
      by true h = omega (arith, h, first-before (gone_from M e (suc k) cuts) k (k + suc i) (omega arith))
      by false h = omega (arith, h)

  -- the cuts that stay are as many as their derivations
  stay-all : (cuts : List CutRow) → stay_before M e (length cuts) cuts ≡ length (derivations_after M e (derivations_of cuts))
  stay-all [] = refl
  stay-all (c ∷ cuts) = by (goes_with M e c.from) (stay-all cuts)
    where
      by : (b : Bool) → stay_before M e (length cuts) cuts ≡ length (derivations_after M e (derivations_of cuts))
          → (if b then stay_before M e (length cuts) cuts else suc (stay_before M e (length cuts) cuts))
          ≡ length (map (derivation_after M e) (if not b then c.from ∷ filter (λ d. not (goes_with M e d)) (derivations_of cuts) else filter (λ d. not (goes_with M e d)) (derivations_of cuts)))
      by true h = h
      by false h = ap suc h

  -- a cut that stays stands before each later place
  stays-before : (k i : ℕ) (cuts : List CutRow) → i < length cuts → is_gone (gone_from M e k cuts) (k + i) ≡ false → (j : ℕ) → i < j → j ≤ length cuts → stay_before M e i cuts < stay_before M e j cuts
  stays-before k i [] within kept j below le = absurd (omega arith)
  stays-before k i (c ∷ cuts) within kept zero below le = absurd (omega arith)
  stays-before k zero (c ∷ cuts) within kept (suc j) below le = by (goes_with M e c.from) kept
    where
      by : (b : Bool) → is_gone (if b then cut_at k ∷ gone_from M e (suc k) cuts else gone_from M e (suc k) cuts) (k + 0) ≡ false → 0 < (if b then stay_before M e j cuts else suc (stay_before M e j cuts))
      by true h = let own = (or_parts (nat_eq k (k + 0)) (is_gone (gone_from M e (suc k) cuts) (k + 0)) h).0 in absurd (eqb-false k (k + 0) own (omega arith))
      by false h = omega arith
  stays-before k (suc i) (c ∷ cuts) within kept (suc j) below le =
      by (goes_with M e c.from) kept (λ h. stays-before (suc k) i cuts (omega arith) h j (omega arith) (omega arith))
    where
      at : suc k + i ≡ k + suc i
      at = omega arith

      by : (b : Bool) → is_gone (if b then cut_at k ∷ gone_from M e (suc k) cuts else gone_from M e (suc k) cuts) (k + suc i) ≡ false
          → (is_gone (gone_from M e (suc k) cuts) (suc k + i) ≡ false → stay_before M e i cuts < stay_before M e j cuts)
          → (if b then stay_before M e i cuts else suc (stay_before M e i cuts)) < (if b then stay_before M e j cuts else suc (stay_before M e j cuts))
      by true h rest = rest (subst (λ p. is_gone (gone_from M e (suc k) cuts) p ≡ false) (sym at) (or_parts (nat_eq k (k + suc i)) (is_gone (gone_from M e (suc k) cuts) (k + suc i)) h).1)
      by false h rest = let s = rest (subst (λ p. is_gone (gone_from M e (suc k) cuts) p ≡ false) (sym at) h) in omega (arith, s)

-- ---- where the cuts stand that stay

module _ (M : Program) (e : Edit) (old : List CutRow) where
  abbrev gone : List CutId
  gone = gone_with M e old

  place-is : (k : ℕ) → k ≤ length old → k - gone_before gone k ≡ stay_before M e k old
  place-is k within =
      let none : 0 + k ≡ k = omega arith in
      let n = subst (λ (p : ℕ). gone_before gone p + stay_before M e k old ≡ k) none (counted M e 0 k old within) in
      omega (arith, n)

  stays : (k : ℕ) → k < length old → not (is_gone gone k) ≡ true → (j : ℕ) → k < j → j ≤ length old → stay_before M e k old < stay_before M e j old
  stays k within kept j below le =
      let none : k ≡ 0 + k = omega arith in
      stays-before M e 0 k old within (subst (λ p. is_gone gone p ≡ false) none (not-true (is_gone gone k) kept)) j below le

  -- two cuts that stay stand apart
  pub places-apart : (a b : ℕ) → a < length old → b < length old → not (is_gone gone a) ≡ true → not (is_gone gone b) ≡ true → a - gone_before gone a ≡ b - gone_before gone b → a ≡ b
  places-apart a b wa wb ka kb same = elim (cases_order a b) [
    | inl equal ↦ equal
    | inr o ↦ elim o [
      | inl low ↦ absurd (omega (arith, same, place-is a (omega arith), place-is b (omega arith), stays a wa ka b low (omega arith)))
      | inr high ↦ absurd (omega (arith, same, place-is a (omega arith), place-is b (omega arith), stays b wb kb a high (omega arith)))
    ]
  ]

  -- a cut that stays is there
  pub place-there : (new : List CutRow) → derivations_of new ≡ derivations_after M e (derivations_of old) → (k : ℕ) → k < length old → not (is_gone gone k) ≡ true → k - gone_before gone k < length new
  place-there new same k within kept =
      let count : length new ≡ stay_before M e (length old) old = sym (length-map new (λ (c : CutRow). c.from)) ∙ ap length same ∙ sym (stay-all M e old) in
      omega (arith, count, place-is k (omega arith), stays k within kept (length old) within (omega arith))
