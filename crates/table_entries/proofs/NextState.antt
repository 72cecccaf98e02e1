-- The next state is a function of the state, whatever the order of rows and places.
use Rattle.std.specs.Prelude.{◌≡◌, ◌⊎◌, ℕ, ◌<◌, ◌≤◌, Option, Some, None}
use Rattle.std.proofs.Common.{refl, sym, ap, subst, ◌∙◌, arith, ⊎_elim, inl, inr}
use Rattle.std.proofs.lemmas.Bool.{cases_eq}
use Rattle.frac128.specs.Rational.{ℚ, ◌*ℚ◌, ◌/ℚ◌, ◌<ℚ◌}
use Rattle.frac128.specs.RationalOrder.{<ℚ_trans, not_both_ℚ}
use Rattle.checked_sum.proofs.SumLaws.{sum_below-same}
use Rattle.table_entries.specs.declared.stand.Stand.{Stand}
use Rattle.table_entries.specs.declared.stand.Stand.TheVariants.{Low, High, Free}
use Rattle.table_entries.specs.Relaxation.{Relaxation, Table, HasNoCrossedSides, point, updated}
use Rattle.table_entries.specs.Bases.{Found, IsTableOf}
use Rattle.table_entries.specs.Directions.{stand_number}
use Rattle.table_entries.specs.States.{IsLess, IsSame, State, sign, IsGood, reduced_parts, basic_value, IsOutside, MayEnter, ratio, Enters, stepped, IsStep, SameState}
use Rattle.table_entries.proofs.SumBelowLaws.{if_same, if_other}
use Rattle.table_entries.proofs.OneTable.{same_nonbasic, one_table}
use Rattle.table_entries.proofs.OneReduced.{one_reduced}
use Rattle.table_entries.proofs.Signs.{asked_once, asked_same}
use Rattle.table_entries.proofs.Least.{less_from_same, less_to_same, enters_once}
use Rattle.table_entries.proofs.SameState.{x_d, x_e, at_d, at_e}

pub turned : (p : Relaxation) (st other : State) → SameState p st other → SameState p other st
turned p st other same = record { basics = same.basics_back; basics_back = same.basics; numbers = λ l k w q e. sym (same.numbers k l q w (sym e)) }

some_once : (o : Option ℚ) (a b : ℚ) → o ≡ Some a → o ≡ Some b → a ≡ b
some_once o a b e f = ap (λ x. stand_number Low x None) (sym e ∙ f)

-- a number is outside one side, where none is crossed
one_side : (p : Relaxation) → HasNoCrossedSides p → (st : State) (r : ℕ) (x y : Stand) (a b : ℚ) → IsOutside p st r x a → IsOutside p st r y b → (x ≡ y) × (a ≡ b)
one_side p ordered st r Low Low a b h k = (refl, some_once (p.low (st.table.basic r)) a b h.0 k.0)
one_side p ordered st r High High a b h k = (refl, some_once (p.high (st.table.basic r)) a b h.0 k.0)
one_side p ordered st r Low High a b h k = absurd (not_both_ℚ (ordered (st.table.basic r) a b h.0 k.0) (<ℚ_trans k.1 h.1))
one_side p ordered st r High Low a b h k = absurd (not_both_ℚ (ordered (st.table.basic r) b a k.0 h.0) (<ℚ_trans h.1 k.1))
one_side p ordered st r Free y a b h k = absurd h
one_side p ordered st r Low Free a b h k = absurd k
one_side p ordered st r High Free a b h k = absurd k

module _ (p : Relaxation) (parts : ℕ → ℕ → ℚ) (st other : State) (st_good : IsGood p parts st) (other_good : IsGood p parts other) (same : SameState p st other) where
  abbrev d : Table
  d = st.table

  abbrev e : Table
  e = other.table

  d_is : IsTableOf p d
  d_is = record { table = st_good.table; arranged = st_good.arranged }

  e_is : IsTableOf p e
  e_is = record { table = other_good.table; arranged = other_good.arranged }

  basics : (i : ℕ) → i < p.activities → Found p.activities e.basic (d.basic i)
  basics = same.basics

  pub value_same : (i j : ℕ) → i < p.activities → j < p.activities → d.basic i ≡ e.basic j → basic_value p st i ≡ basic_value p other j
  value_same i j q w row =
      sum_below-same p.columns _ _ (λ k v. ap (λ t. d.entry i k *ℚ t) (sym (at_d p parts st other st_good other_good same k v)))
      ∙ sym (x_d p parts st other st_good other_good same i q) ∙ ap (point p d st.at) row ∙ x_e p parts st other st_good other_good same j w
      ∙ sum_below-same p.columns _ _ (λ l v. ap (λ t. e.entry j l *ℚ t) (at_e p parts st other st_good other_good same l v))

  pub outside_same : (i j : ℕ) → i < p.activities → j < p.activities → d.basic i ≡ e.basic j → (side : Stand) (b : ℚ) → IsOutside p st i side b → IsOutside p other j side b
  outside_same i j q w row Low b h = (ap p.low (sym row) ∙ h.0, subst (λ t. t <ℚ b) (value_same i j q w row) h.1)
  outside_same i j q w row High b h = (ap p.high (sym row) ∙ h.0, subst (λ t. b <ℚ t) (value_same i j q w row) h.1)
  outside_same i j q w row Free b h = h

  -- one that is outside a side first is no later than another's first
  pub no_later : (row : ℕ) (side : Stand) (b : ℚ) → row < p.activities → IsOutside p st row side b → (first : ℕ) → ((i : ℕ) (s : Stand) (c : ℚ) → i < p.activities → IsOutside p other i s c → e.basic first ≤ e.basic i) → e.basic first ≤ d.basic row
  no_later row side b q out first is = let f = basics row q in subst (λ v. e.basic first ≤ v) (sym f.2) (is f.0 side b f.1 (outside_same row f.0 q f.1 f.2 side b out))

  pub stand_same : (k l : ℕ) → k < p.columns → l < p.columns → d.nonbasic k ≡ e.nonbasic l → st.stand k ≡ other.stand l
  stand_same k l q w place = asked_once (reduced_parts p parts d k) (st.stand k) (other.stand l) (st_good.lawful.lawful k q)
      (asked_same (reduced_parts p parts e l) (reduced_parts p parts d k) (other.stand l) (λ r. sym (one_reduced p d e d_is e_is basics (parts r) k l q w place)) (other_good.lawful.lawful l w))

  module _ (i j : ℕ) (i_within : i < p.activities) (j_within : j < p.activities) (row : d.basic i ≡ e.basic j) (side : Stand) where
    entry_same : (k l : ℕ) → k < p.columns → l < p.columns → d.nonbasic k ≡ e.nonbasic l → d.entry i k ≡ e.entry j l
    entry_same k l q w place = one_table p d e st_good.table other_good.table st_good.arranged other_good.arranged basics i j k l i_within j_within q w row place

    may_same : (k l : ℕ) → k < p.columns → l < p.columns → d.nonbasic k ≡ e.nonbasic l → MayEnter side (other.stand l) (e.entry j l) → MayEnter side (st.stand k) (d.entry i k)
    may_same k l q w place h = subst (λ X. X) (λ n. MayEnter side (sym (stand_same k l q w place) n) (sym (entry_same k l q w place) n)) h

    ratio_same : (k l : ℕ) → k < p.columns → l < p.columns → d.nonbasic k ≡ e.nonbasic l → IsSame (ratio p parts st i side k) (ratio p parts other j side l)
    ratio_same k l q w place r = λ n. sign side *ℚ (one_reduced p d e d_is e_is basics (parts r) k l q w place n /ℚ entry_same k l q w place n)

    -- what enters at one state enters at the other
    pub enters_same : (s u : ℕ) → s < p.columns → u < p.columns → d.nonbasic s ≡ e.nonbasic u → Enters p parts other j side u → Enters p parts st i side s
    enters_same s u s_within u_within place enters = record {
      within = s_within;
      may = may_same s u s_within u_within place enters.may;
      least = least;
    }
      where
        least : (k : ℕ) → k < p.columns → MayEnter side (st.stand k) (d.entry i k)
            → IsLess (ratio p parts st i side s) (ratio p parts st i side k) ⊎ (IsSame (ratio p parts st i side s) (ratio p parts st i side k) × (d.nonbasic s ≤ d.nonbasic k))
        least k q may =
            let f = same_nonbasic p e d other_good.arranged st_good.arranged same.basics_back k q in
            let there : MayEnter side (other.stand f.0) (e.entry j f.0) = subst (λ X. X) (λ n. MayEnter side (stand_same k f.0 q f.1 f.2 n) (entry_same k f.0 q f.1 f.2 n)) may in
            ⊎_elim
            (λ l. inl (less_to_same _ _ _ (ratio_same s u s_within u_within place) (less_from_same _ _ _ l (λ r. sym (ratio_same k f.0 q f.1 f.2 r)))))
            (λ t. inr ((λ r. ratio_same s u s_within u_within place r ∙ t.0 r ∙ sym (ratio_same k f.0 q f.1 f.2 r)), subst (λ X. X) (λ n. sym place n ≤ sym f.2 n) t.1))
            (enters.least f.0 f.1 there)

  -- the same exchange at both
  module _ (i j : ℕ) (i_within : i < p.activities) (j_within : j < p.activities) (row : d.basic i ≡ e.basic j) (s u : ℕ) (s_within : s < p.columns) (u_within : u < p.columns)
      (place : d.nonbasic s ≡ e.nonbasic u) (side : Stand) (b : ℚ) where
    abbrev after : State
    after = stepped st i s side b

    abbrev also : State
    also = stepped other j u side b

    pub basics_after : (h : ℕ) → h < p.activities → (g : ℕ) × (g < p.activities) × (after.table.basic h ≡ also.table.basic g)
    basics_after h q = ⊎_elim
        (λ here. (j, j_within, ap (λ v. updated d.basic i (d.nonbasic s) v) here ∙ if_same i (d.nonbasic s) (d.basic i) ∙ place ∙ sym (if_same j (e.nonbasic u) (e.basic j))))
        (λ there. let f = basics h q in (
          f.0,
          f.1,
          if_other h i (d.nonbasic s) (d.basic h) there ∙ f.2
              ∙ sym (if_other f.0 j (e.nonbasic u) (e.basic f.0) (λ w. there (st_good.arranged.basic_once h i q i_within (f.2 ∙ ap e.basic w ∙ sym row)))),
        ))
        (cases_eq h i)

    numbers_after : (k l : ℕ) → k < p.columns → l < p.columns → after.table.nonbasic k ≡ also.table.nonbasic l → after.at k ≡ also.at l
    numbers_after k l q w same_place = ⊎_elim (λ k_here. ⊎_elim (both k_here) (first k_here) (cases_eq l u)) (λ k_there. ⊎_elim (second k_there) (neither k_there) (cases_eq l u)) (cases_eq k s)
      where
        at_here : k ≡ s → after.at k ≡ b
        at_here h = ap after.at h ∙ if_same s b (st.at s)

        name_here : k ≡ s → after.table.nonbasic k ≡ d.basic i
        name_here h = ap after.table.nonbasic h ∙ if_same s (d.basic i) (d.nonbasic s)

        also_here : l ≡ u → also.table.nonbasic l ≡ e.basic j
        also_here h = ap also.table.nonbasic h ∙ if_same u (e.basic j) (e.nonbasic u)

        name_there : ¬ (k ≡ s) → after.table.nonbasic k ≡ d.nonbasic k
        name_there h = if_other k s (d.basic i) (d.nonbasic k) h

        also_there : ¬ (l ≡ u) → also.table.nonbasic l ≡ e.nonbasic l
        also_there h = if_other l u (e.basic j) (e.nonbasic l) h

        both : k ≡ s → l ≡ u → after.at k ≡ also.at l
        both h g = at_here h ∙ sym (ap also.at g ∙ if_same u b (other.at u))

        first : k ≡ s → ¬ (l ≡ u) → after.at k ≡ also.at l
        first h g = absurd (other_good.arranged.apart j l j_within w (sym row ∙ sym (name_here h) ∙ same_place ∙ also_there g))

        second : ¬ (k ≡ s) → l ≡ u → after.at k ≡ also.at l
        second h g = absurd (st_good.arranged.apart i k i_within q (row ∙ sym (also_here g) ∙ sym same_place ∙ name_there h))

        neither : ¬ (k ≡ s) → ¬ (l ≡ u) → after.at k ≡ also.at l
        neither h g = if_other k s b (st.at k) h ∙ same.numbers k l q w (sym (name_there h) ∙ same_place ∙ also_there g) ∙ sym (if_other l u b (other.at l) g)

pub next_same : (p : Relaxation) (parts : ℕ → ℕ → ℚ) → HasNoCrossedSides p → (st other after also : State) → IsGood p parts st → IsGood p parts other → SameState p st other → IsStep p parts st after → IsStep p parts other also
    → SameState p after also
next_same p parts ordered st other after also st_good other_good same a b =
    subst (λ t. SameState p t also) (sym a.is)
    (subst (λ t. SameState p (stepped st a.row a.place a.side a.bound) t) (sym b.is)
    (subst (λ X. X) (λ n. SameState p (stepped st a.row a.place a.side a.bound) (stepped other b.row b.place (sides.0 n) (sides.1 n)))
    (record {
      basics = basics_after p parts st other st_good other_good same a.row b.row a.row_within b.row_within row a.place b.place a.enters.within b.enters.within place a.side a.bound;
      basics_back = basics_after p parts other st other_good st_good back b.row a.row b.row_within a.row_within (sym row) b.place a.place b.enters.within a.enters.within (sym place) a.side a.bound;
      numbers = numbers_after p parts st other st_good other_good same a.row b.row a.row_within b.row_within row a.place b.place a.enters.within b.enters.within place a.side a.bound;
    })))
  where
    back : SameState p other st
    back = turned p st other same

    row : st.table.basic a.row ≡ other.table.basic b.row
    row =
        let lower = no_later p parts st other st_good other_good same a.row a.side a.bound a.row_within a.outside b.row b.first in
        let upper = no_later p parts other st other_good st_good back b.row b.side b.bound b.row_within b.outside a.row a.first in
        omega (arith, lower, upper)

    sides : (a.side ≡ b.side) × (a.bound ≡ b.bound)
    sides = one_side p ordered other b.row a.side b.side a.bound b.bound (outside_same p parts st other st_good other_good same a.row b.row a.row_within b.row_within row a.side a.bound a.outside) b.outside

    -- the place of the other's entering variable
    found : Found p.columns st.table.nonbasic (other.table.nonbasic b.place)
    found = same_nonbasic p st.table other.table st_good.arranged other_good.arranged same.basics b.place b.enters.within

    enters : Enters p parts st a.row a.side found.0
    enters = enters_same p parts st other st_good other_good same a.row b.row a.row_within b.row_within row a.side found.0 b.place found.1 b.enters.within (sym found.2) (subst (λ s. Enters p parts other b.row s b.place) (sym sides.0) b.enters)

    place : st.table.nonbasic a.place ≡ other.table.nonbasic b.place
    place = ap st.table.nonbasic (enters_once p parts st st_good.arranged a.row a.side a.place found.0 a.enters enters) ∙ sym found.2
