-- The literals of a list of columns, by column, and the sum of least contributions with one literal more.
use Rattle.std.specs.Prelude.{◌≡◌, ◌≢◌, ℕ, zero, suc, ◌<◌, ◌≤◌, Bool, true, false, not, cond, if◌then◌else◌, nat_eq, List, [], ◌∷◌, ◌++◌, length, pos, All, Option, Some, None, IsSome, ◌+◌, take, drop, get_or}
use Rattle.std.proofs.lemmas.List.{append-nil, drop_more}
use Rattle.std.proofs.Common.{refl, sym, ap, subst, ◌∙◌, inl, inr, arith, eq-eqb, ne_eqb, eqb-true}
use Rattle.std.proofs.lemmas.Bool.{cases_order}
use Rattle.std.proofs.lemmas.List.Elements.{All-nil, All-head, All-tail, All-push, All-weaker, filter_more}
use Rattle.frac128.specs.Rational.{ℚ, int, ◌+ℚ◌, ◌-ℚ◌, ◌*ℚ◌, neg_ℚ, ◌<ℚ◌}
use Rattle.frac128.specs.RationalRing.{ring, reads_ℚ}
use Rattle.frac128.specs.RationalOrder.{<ℚ_irrefl, <ℚ_trans}
use Rattle.frac128.proofs.Comparison.{is_lt-decides}
use Rattle.lp_model.specs.Program.{Program, lower, upper, coefficient}
use Rattle.lp_model.specs.Sides.{needed_side, side_number}
use Rattle.lp_model.specs.declared.types.Side.{Side}
use Rattle.lp_model.specs.declared.types.Literal.{Literal}
use Rattle.lp_model.proofs.SideLemmas.{needed-positive, needed-negative}
use Rattle.cover_cuts.specs.Covers.{side_coefficient, IsBinary, AreLiterals, number_at_one, literal_number, number_else, least_number}
use Rattle.cut_find.specs.Greedy.{is_plus, literal_at, is_in, literals_below, cover_of, places_without}
use Rattle.cut_find.specs.RowEntries.{AreNone}
use Rattle.cut_find.specs.WholeSides.{IsCandidateColumn, AreCandidateColumns, cover_sum}
use Rattle.cut_find.specs.private.WholeSides.{contributions}
use Rattle.cut_find.proofs.RowLemmas.{across, side_none}
use Rattle.cut_find.proofs.SumLemmas.{sum_changed}

-- ---- lists of columns

-- the list from a place on, whose first column is another one, or is it
module _ (js : List ℕ) (k j : ℕ) (below : k < length js) where
  from_there : is_in (drop k js) j ≡ (if nat_eq (get_or js k 0) j then true else is_in (drop (k + 1) js) j)
  from_there = ap (λ t. is_in t j) (drop_more js k 0 below)

  pub in_later : get_or js k 0 ≢ j → is_in (drop k js) j ≡ is_in (drop (k + 1) js) j
  in_later apart = from_there ∙ ap (λ b. if b then true else is_in (drop (k + 1) js) j) (ne_eqb (get_or js k 0) j apart)

  pub in_here : get_or js k 0 ≡ j → is_in (drop k js) j ≡ true
  in_here same = from_there ∙ ap (λ b. if b then true else is_in (drop (k + 1) js) j) (eq-eqb (get_or js k 0) j same)

pub in_pushed : (js : List ℕ) (j : ℕ) → is_in (js ++ j ∷ []) j ≡ true
in_pushed [] j = ap (λ b. if b then true else false) (eq-eqb j j refl)
in_pushed (k ∷ ks) j = (λ t. if nat_eq k j then true else in_pushed ks j t) ∙ always (nat_eq k j)
  where
    always : (b : Bool) → (if b then true else true) ≡ true
    always true = refl
    always false = refl

pub in_other : (js : List ℕ) (j k : ℕ) → k ≢ j → is_in (js ++ j ∷ []) k ≡ is_in js k
in_other [] j k apart = ap (λ b. if b then true else false) (ne_eqb j k (λ e. apart (sym e)))
in_other (l ∷ ls) j k apart = λ t. if nat_eq l k then true else in_other ls j k apart t

pub without_same : (j : ℕ) (js : List ℕ) → is_in (places_without j js) j ≡ false
without_same j [] = refl
without_same j (k ∷ ks) = by (nat_eq k j) refl (without_same j ks)
  where
    by : (b : Bool) → nat_eq k j ≡ b → is_in (places_without j ks) j ≡ false → is_in (cond (not b) (k ∷ places_without j ks) (places_without j ks)) j ≡ false
    by true e rest = rest
    by false e rest = ap (λ c. if c then true else is_in (places_without j ks) j) e ∙ rest

pub without_other : (j k : ℕ) (js : List ℕ) → k ≢ j → is_in (places_without j js) k ≡ is_in js k
without_other j k [] apart = refl
without_other j k (l ∷ ls) apart = by (nat_eq l j) refl (without_other j k ls apart)
  where
    by : (b : Bool) → nat_eq l j ≡ b → is_in (places_without j ls) k ≡ is_in ls k → is_in (cond (not b) (l ∷ places_without j ls) (places_without j ls)) k ≡ (if nat_eq l k then true else is_in ls k)
    by true e rest = rest ∙ sym (ap (λ c. if c then true else is_in ls k) (ne_eqb l k (λ q. apart (sym q ∙ eqb-true l j e))))
    by false e rest = ap (λ b. if nat_eq l k then true else b) rest

-- the first columns of a list without one of them, with one column more
module _ (j : ℕ) (js : List ℕ) (k : ℕ) (below : k < length js) where
  abbrev front : List ℕ
  front = places_without j (take k js)

  pub without_kept : get_or js k 0 ≢ j → places_without j (take (k + 1) js) ≡ front ++ get_or js k 0 ∷ []
  without_kept other = filter_more (λ i. not (nat_eq i j)) js k 0 below ∙ ap (λ b. front ++ cond (not b) (get_or js k 0 ∷ []) []) (ne_eqb (get_or js k 0) j other)

  pub without_lost : get_or js k 0 ≡ j → places_without j (take (k + 1) js) ≡ front
  without_lost same = filter_more (λ i. not (nat_eq i j)) js k 0 below ∙ ap (λ b. front ++ cond (not b) (get_or js k 0 ∷ []) []) (eq-eqb (get_or js k 0) j same) ∙ append-nil front

-- what holds of all columns of a list
pub in_all : (P : ℕ → Type 0) (js : List ℕ) (j : ℕ) → All P js → is_in js j ≡ true → P j
in_all P [] j all e = let f : false ≡ true = e in cc
in_all P (k ∷ ks) j all e = by (nat_eq k j) refl (in_all P ks j (All-tail P k ks all)) e
  where
    by : (b : Bool) → nat_eq k j ≡ b → (is_in ks j ≡ true → P j) → (if b then true else is_in ks j) ≡ true → P j
    by true same rest h = subst P (eqb-true k j same) (All-head P k ks all)
    by false apart rest h = rest h

-- ---- literals by column

pushed_none : (ls : List Literal) (l : Literal) (j : ℕ) → literal_number ls j ≡ None → literal_number (ls ++ l ∷ []) j ≡ literal_number (l ∷ []) j
pushed_none [] l j none = refl
pushed_none (k ∷ ks) l j none = by (nat_eq k.col.0 j) (pushed_none ks l j) none
  where
    by : (b : Bool) → (literal_number ks j ≡ None → literal_number (ks ++ l ∷ []) j ≡ literal_number (l ∷ []) j) → (if b then Some (number_at_one k) else literal_number ks j) ≡ None
        → (if b then Some (number_at_one k) else literal_number (ks ++ l ∷ []) j) ≡ literal_number (l ∷ []) j
    by true rest e = let f : Some (number_at_one k) ≡ None = e in cc
    by false rest e = rest e

pushed_some : (ls : List Literal) (l : Literal) (j : ℕ) (v : ℚ) → literal_number ls j ≡ Some v → literal_number (ls ++ l ∷ []) j ≡ Some v
pushed_some [] l j v some = let f : None ≡ Some v = some in cc
pushed_some (k ∷ ks) l j v some = by (nat_eq k.col.0 j) (pushed_some ks l j v) some
  where
    by : (b : Bool) → (literal_number ks j ≡ Some v → literal_number (ks ++ l ∷ []) j ≡ Some v) → (if b then Some (number_at_one k) else literal_number ks j) ≡ Some v
        → (if b then Some (number_at_one k) else literal_number (ks ++ l ∷ []) j) ≡ Some v
    by true rest e = e
    by false rest e = rest e

pushed_lawful : (M : Program) (n : ℕ) (l : Literal) → l.col.0 ≡ n → IsBinary M n → (from : ℕ) (ls : List Literal) → from ≤ n → All (λ k. k.col.0 < n) ls → AreLiterals M from ls → AreLiterals M from (ls ++ l ∷ [])
pushed_lawful M n l is binary from [] low below h = ((let w : from ≤ l.col.0 = omega (arith, is, low) in w), subst (IsBinary M) (sym is) binary, tt)
pushed_lawful M n l is binary from (k ∷ ks) low below h =
    let within = All-head (λ k. k.col.0 < n) k ks below in
    let next : suc k.col.0 ≤ n = omega (arith, within) in
    (h.0, h.1, pushed_lawful M n l is binary (suc k.col.0) ks next (All-tail (λ k. k.col.0 < n) k ks below) h.2)

added_whole : (a b : ℚ) → a +ℚ (int (pos 1) *ℚ b -ℚ int (pos 0) *ℚ b) ≡ a +ℚ b
added_whole a b = ring (a ∷ b ∷ []) (search reads_ℚ depth 9) tt

taken_whole : (a b : ℚ) → a +ℚ (int (pos 0) *ℚ b -ℚ int (pos 1) *ℚ b) ≡ a +ℚ neg_ℚ b
taken_whole a b = ring (a ∷ b ∷ []) (search reads_ℚ depth 9) tt

number_some : (o b : Option ℚ) → IsSome b → IsSome (number_else o b)
number_some None b some = some
number_some (Some v) b some = refl

module _ (M : Program) (i : ℕ) (s : Side) where
  abbrev lit : ℕ → Literal
  lit n = literal_at M i s n

  -- without columns there are none
  pub nothing_below : (n : ℕ) → literals_below M i s n [] ≡ []
  nothing_below zero = refl
  nothing_below (suc n) = nothing_below n

  module _ (js : List ℕ) where
    abbrev lits : ℕ → List Literal
    lits n = literals_below M i s n js

    pub literal_more : (n : ℕ) → is_in js n ≡ true → literals_below M i s (n + 1) js ≡ lits n ++ lit n ∷ []
    literal_more n here = let next : n + 1 ≡ suc n = omega arith in ap lits next ∙ ap (λ b. if b then lits n ++ lit n ∷ [] else lits n) here

    pub literals_same : (n : ℕ) → is_in js n ≡ false → literals_below M i s (n + 1) js ≡ lits n
    literals_same n out = let next : n + 1 ≡ suc n = omega arith in ap lits next ∙ ap (λ b. if b then lits n ++ lit n ∷ [] else lits n) out

    other : (n j : ℕ) → literal_number (lits n) j ≡ None → n ≢ j → literal_number (lits n ++ lit n ∷ []) j ≡ None
    other n j none apart = pushed_none (lits n) (lit n) j none ∙ ap (λ b. if b then Some (number_at_one (lit n)) else None) (ne_eqb n j apart)

    literal_past : (n j : ℕ) → n ≤ j → literal_number (lits n) j ≡ None
    literal_past zero j past = refl
    literal_past (suc n) j past = by (is_in js n) (literal_past n j (omega (arith, past)))
      where
        by : (b : Bool) → literal_number (lits n) j ≡ None → literal_number (if b then lits n ++ lit n ∷ [] else lits n) j ≡ None
        by true rest = other n j rest (λ e. omega (arith, e, past))
        by false rest = rest

    literal_out : (n j : ℕ) → is_in js j ≡ false → literal_number (lits n) j ≡ None
    literal_out zero j out = refl
    literal_out (suc n) j out = by (is_in js n) refl (literal_out n j out)
      where
        by : (b : Bool) → is_in js n ≡ b → literal_number (lits n) j ≡ None → literal_number (if b then lits n ++ lit n ∷ [] else lits n) j ≡ None
        by true here rest = other n j rest (λ e. let f : true ≡ false = sym here ∙ ap (is_in js) e ∙ out in cc)
        by false here rest = rest

    literal_in : (n j : ℕ) → j < n → is_in js j ≡ true → literal_number (lits n) j ≡ Some (number_at_one (lit j))
    literal_in zero j below here = absurd (omega (arith, below))
    literal_in (suc n) j below here =
        elim (cases_order j n) [
          | inl e ↦
              subst (λ k. literal_number (lits (suc n)) k ≡ Some (number_at_one (lit k))) (sym e)
              (ap (λ b. literal_number (if b then lits n ++ lit n ∷ [] else lits n) n) (ap (is_in js) (sym e) ∙ here) ∙ pushed_none (lits n) (lit n) n (literal_past n n (omega arith))
              ∙ ap (λ b. if b then Some (number_at_one (lit n)) else None) (eq-eqb n n refl))
          | inr apart ↦ elim apart [
            | inl less ↦ by (is_in js n) (literal_in n j less here)
            | inr more ↦ absurd (omega (arith, more, below))
          ]
        ]
      where
        by : (b : Bool) → literal_number (lits n) j ≡ Some (number_at_one (lit j)) → literal_number (if b then lits n ++ lit n ∷ [] else lits n) j ≡ Some (number_at_one (lit j))
        by true rest = pushed_some (lits n) (lit n) j (number_at_one (lit j)) rest
        by false rest = rest

    -- ---- literals by the row's entries

    pub below_in : (n : ℕ) → is_in js n ≡ true → lits n ++ lit n ∷ [] ≡ lits (suc n)
    below_in n here = ap (λ b. if b then lits n ++ lit n ∷ [] else lits n) (sym here)

    pub below_out : (n : ℕ) → is_in js n ≡ false → lits n ≡ lits (suc n)
    below_out n out = ap (λ b. if b then lits n ++ lit n ∷ [] else lits n) (sym out)

    not_in : (j : ℕ) → AreCandidateColumns M i s js → coefficient M i j ≡ int (pos 0) → is_in js j ≡ false
    not_in j cand none = by (is_in js j) refl
      where
        by : (b : Bool) → is_in js j ≡ b → is_in js j ≡ false
        by true here = absurd ((in_all (IsCandidateColumn M i s) js j cand here).candidate.coefficient (side_none M i j s none))
        by false out = out

    pub below_across : (from to : ℕ) → from ≤ to → AreNone M i from to → AreCandidateColumns M i s js → lits from ≡ lits to
    below_across from to within none cand = across (λ n. lits from ≡ lits n) from to within (λ j low below e. e ∙ below_out j (not_in j cand (none j low below))) refl

    -- ---- least contributions

    abbrev bound_at : ℕ → Option ℚ
    bound_at j = needed_side (side_coefficient M i s j) (lower M j) (upper M j)

    pub number_in : (j : ℕ) → j < length M.cols → is_in js j ≡ true → contributions M i s js j ≡ number_at_one (lit j)
    number_in j within here = ap (λ o. side_number (number_else o (bound_at j))) (literal_in (length M.cols) j within here)

    pub number_out : (j : ℕ) → is_in js j ≡ false → contributions M i s js j ≡ side_number (bound_at j)
    number_out j out = ap (λ o. side_number (number_else o (bound_at j))) (literal_out (length M.cols) j out)

    pub least_some : (j : ℕ) → IsSome (bound_at j) → IsSome (least_number M (cover_of M i s js) j)
    least_some j some = number_some (literal_number (lits (length M.cols)) j) (bound_at j) some

    pub least_out : (j : ℕ) → is_in js j ≡ false → least_number M (cover_of M i s js) j ≡ bound_at j
    least_out j out = ap (λ o. number_else o (bound_at j)) (literal_out (length M.cols) j out)

    -- ---- lawful literals

    literals_are : (n : ℕ) → AreCandidateColumns M i s js → AreLiterals M 0 (lits n) × All (λ l. l.col.0 < n) (lits n)
    literals_are zero cand = (tt, All-nil (λ l. l.col.0 < zero))
    literals_are (suc n) cand = by (is_in js n) refl (literals_are n cand)
      where
        wider : All (λ l. l.col.0 < n) (lits n) → All (λ l. l.col.0 < suc n) (lits n)
        wider all = All-weaker (λ l. l.col.0 < n) (λ l. l.col.0 < suc n) (λ l h. omega (arith, h)) (lits n) all

        by : (b : Bool) → is_in js n ≡ b → AreLiterals M 0 (lits n) × All (λ l. l.col.0 < n) (lits n) → AreLiterals M 0 (if b then lits n ++ lit n ∷ [] else lits n) × All (λ l. l.col.0 < suc n) (if b then lits n ++ lit n ∷ [] else lits n)
        by true here rest = (
          pushed_lawful M n (lit n) refl (in_all (IsCandidateColumn M i s) js n cand here).candidate.binary 0 (lits n) (omega arith) rest.1 rest.0,
          All-push (λ l. l.col.0 < suc n) (lits n) (lit n) (wider rest.1) (omega arith),
        )
        by false here rest = (rest.0, wider rest.1)

    pub literals_lawful : AreCandidateColumns M i s js → AreLiterals M 0 (lits (length M.cols))
    literals_lawful cand = (literals_are (length M.cols) cand).0

  -- ---- one literal more

  module _ (j : ℕ) (within : j < length M.cols) (binary : IsBinary M j) (ks js : List ℕ) (out : is_in ks j ≡ false) (here : is_in js j ≡ true) (same : (k : ℕ) → k ≢ j → is_in ks k ≡ is_in js k) where
    abbrev sc : ℕ → ℚ
    sc k = side_coefficient M i s k

    same_number : (k : ℕ) → k < length M.cols → k ≢ j → contributions M i s ks k ≡ contributions M i s js k
    same_number k below apart = by (is_in js k) refl
      where
        by : (b : Bool) → is_in js k ≡ b → contributions M i s ks k ≡ contributions M i s js k
        by true e = number_in ks k below (same k apart ∙ e) ∙ sym (number_in js k below e)
        by false e = number_out ks k (same k apart ∙ e) ∙ sym (number_out js k e)

    abbrev term : List ℕ → ℕ → ℚ
    term ls k = contributions M i s ls k *ℚ sc k

    changed : cover_sum M i s js ≡ cover_sum M i s ks +ℚ (term js j -ℚ term ks j)
    changed = sum_changed (length M.cols) j (term ks) (term js) within (λ k below apart. ap (λ v. v *ℚ sc k) (same_number k below apart))

    plus_is : (b : Bool) → is_plus M i s j ≡ b → number_at_one (lit j) ≡ (if b then int (pos 1) else int (pos 0))
    plus_is b e = ap (λ c. if c then int (pos 1) else int (pos 0)) e

    pub changed_up : int (pos 0) <ℚ sc j → cover_sum M i s js ≡ cover_sum M i s ks +ℚ sc j
    changed_up more =
        let one : contributions M i s js j ≡ int (pos 1) = number_in js j within here ∙ plus_is true ((is_lt-decides (int (pos 0)) (sc j)).1 more) in
        let none : contributions M i s ks j ≡ int (pos 0) = number_out ks j out ∙ ap side_number (sym (needed-positive (sc j) (lower M j) (upper M j) more) ∙ binary.low) in
        changed ∙ (λ t. cover_sum M i s ks +ℚ (one t *ℚ sc j -ℚ none t *ℚ sc j)) ∙ added_whole (cover_sum M i s ks) (sc j)

    pub changed_down : sc j <ℚ int (pos 0) → cover_sum M i s js ≡ cover_sum M i s ks +ℚ neg_ℚ (sc j)
    changed_down less =
        let none : contributions M i s js j ≡ int (pos 0) = number_in js j within here ∙ plus_is false (not_plus (is_plus M i s j) refl) in
        let one : contributions M i s ks j ≡ int (pos 1) = number_out ks j out ∙ ap side_number (sym (needed-negative (sc j) (lower M j) (upper M j) less) ∙ binary.high) in
        changed ∙ (λ t. cover_sum M i s ks +ℚ (none t *ℚ sc j -ℚ one t *ℚ sc j)) ∙ taken_whole (cover_sum M i s ks) (sc j)
      where
        not_plus : (b : Bool) → is_plus M i s j ≡ b → is_plus M i s j ≡ false
        not_plus true e = <ℚ_irrefl (<ℚ_trans less ((is_lt-decides (int (pos 0)) (sc j)).0 e))
        not_plus false e = e
