-- A first step without room has one name.
use Rattle.std.specs.Prelude.{◌≡◌, ℕ, zero, suc, ◌+◌, ◌*◌, ◌/◌, ◌%◌, ◌<◌, get_or, length, Option, Some, None}
use Rattle.std.specs.Option.{IsSomeAnd}
use Rattle.std.proofs.Common.{refl, sym, ap, subst, ◌∙◌, arith, inl, inr}
use Rattle.std.proofs.lemmas.Bool.{cases_order}
use Rattle.std.proofs.lemmas.Nat.{div-mul-add, mod-mul-add}
use Rattle.checked_sum.proofs.AnswerLaws.{first_wide_unique}
use Rattle.lp_model.specs.WideSteps.{TablePlace, Pivot, Point, Cost, RatioCost, Ratio, table_place}
use Rattle.lp_model.specs.declared.types.Var.{Var}
use Rattle.lp_model.specs.declared.types.WideStep.{WideStep}
use Rattle.lp_model.specs.declared.types.WideStep.TheVariants as step
use Rattle.table_entries.specs.Relaxation.{Table, IsArranged, pivoted}
use Rattle.table_entries.specs.Steps.{ExchangeFits, IsFirstWidePivotEntry}
use Rattle.table_entries.proofs.Arranged.{IsArranged-pivoted}
use Rattle.table_entries.proofs.BringIn.{basic_within, nonbasic_within}
use Rattle.row_tableau.specs.Variables.{variable_number}
use Rattle.row_tableau.specs.Answers.{IsPivotPlace, IsWidePivot}
use Rattle.basic_solution.specs.Held.{Held, IsSided, relaxation, table, variables}
use Rattle.basic_solution.specs.Numbers.{CostsFit, IsValuePlace, IsWideBasicValue, IsPlaceCost, IsWideCost, ReducedFits, IsWideReduced}
use Rattle.dual_simplex.specs.Answers.{PartFits, IsPartPlace, IsWidePart}
use Rattle.dual_simplex.proofs.VariableLemmas.{one_variable}

-- ---- steps and their places

abbrev step_of : TablePlace → WideStep
step_of (Pivot r s i k) = step.Pivot r s i k
step_of (Point b k) = step.Point b k
step_of (Cost k b) = step.Cost k b
step_of (RatioCost r k) = step.RatioCost r k
step_of (Ratio r k v) = step.Ratio r k v

some_is : (p q : TablePlace) → Some p ≡ Some q → p ≡ q
some_is p q e = cc

none_some : (o : Option TablePlace) (p : TablePlace) → o ≡ None → ¬ (o ≡ Some p)
none_some o p e f = cc

step_is : (e : WideStep) (p : TablePlace) → table_place e ≡ Some p → e ≡ step_of p
step_is (step.Pivot r s i k) p is = ap step_of (some_is (Pivot r s i k) p is)
step_is (step.Point b k) p is = ap step_of (some_is (Point b k) p is)
step_is (step.Cost k b) p is = ap step_of (some_is (Cost k b) p is)
step_is (step.RatioCost r k) p is = ap step_of (some_is (RatioCost r k) p is)
step_is (step.Ratio r k v) p is = ap step_of (some_is (Ratio r k v) p is)
step_is (step.Act row col) p is = absurd (none_some None p refl is)
step_is (step.Value col) p is = absurd (none_some None p refl is)
step_is (step.LagEntry col by) p is = absurd (none_some None p refl is)
step_is (step.LagTerm of) p is = absurd (none_some None p refl is)
step_is (step.Cover row col) p is = absurd (none_some None p refl is)

-- a step that has a place is its step
pub record HasPlace (P : TablePlace → Type 0) (e : WideStep) : Type 0 where
  pub place : TablePlace
  pub is : e ≡ step_of place
  pub holds : P place

has_place : (P : TablePlace → Type 0) (e : WideStep) → IsSomeAnd (table_place e) P → HasPlace P e
has_place P e h = go (table_place e) refl h
  where
    go : (o : Option TablePlace) → table_place e ≡ o → IsSomeAnd o P → HasPlace P e
    go None is h = absurd h
    go (Some p) is h = record { place = p; is = step_is e p is; holds = h }

-- where one place is so, one step is
one_step : (P : TablePlace → Type 0) → ((p q : TablePlace) → P p → P q → p ≡ q) → (e f : WideStep) → IsSomeAnd (table_place e) P → IsSomeAnd (table_place f) P → e ≡ f
one_step P one e f h g = let a = has_place P e h in let b = has_place P f g in a.is ∙ ap step_of (one a.place b.place a.holds b.holds) ∙ sym b.is

-- ---- the first entry without room, row by row

entry_once : (n m : ℕ) (d : Table) (r s i k j l : ℕ) → IsFirstWidePivotEntry n m d r s i k → IsFirstWidePivotEntry n m d r s j l → (i ≡ j) × (k ≡ l)
entry_once n m d r s i k j l h g =
    elim (cases_order (i * n + k) (j * n + l)) [
      | inl same ↦ (
        sym (div-mul-add i n k h.place_within) ∙ ap (λ at. at / n) same ∙ div-mul-add j n l g.place_within,
        sym (mod-mul-add i n k h.place_within) ∙ ap (λ at. at % n) same ∙ mod-mul-add j n l g.place_within,
      )
      | inr apart ↦ elim apart [
        | inl before ↦ absurd (h.wide (g.earlier i k h.row_within h.place_within before))
        | inr past ↦ absurd (g.wide (h.earlier j l g.row_within g.place_within past))
      ]
    ]

-- ---- at one state

module _ (s : Held) (sided : IsSided s) where
  abbrev number : Var → ℕ
  number v = variable_number s.tableau v

  arranged : IsArranged (relaxation s) (table s)
  arranged = sided.table.arranged

  named : (v w : Var) (n : ℕ) → n < variables s → number v ≡ n → number w ≡ n → v ≡ w
  named v w n below v_is w_is = one_variable s.tableau v w (subst (λ k. k < variables s) (sym v_is) below) (v_is ∙ sym w_is)

  basic_there : (i : ℕ) → i < s.tableau.activities → (table s).basic i < variables s
  basic_there i q = basic_within (relaxation s) (table s) arranged i q

  place_there : (k : ℕ) → k < s.tableau.columns → (table s).nonbasic k < variables s
  place_there k q = nonbasic_within (relaxation s) (table s) arranged k q

  value_places : (row : ℕ) (p q : TablePlace) → IsValuePlace s row p → IsValuePlace s row q → p ≡ q
  value_places row (Point b k) (Point c l) h g =
      let first : b ≡ c = named b c ((table s).basic row) (basic_there row h.within) h.basic g.basic in
      let second : k ≡ l = one_variable s.tableau k l h.first.within (first_wide_unique _ _ _ (variables s) (number k) (number l) h.first g.first) in
      λ i. Point (first i) (second i)
  value_places row (Point b k) (Pivot r v i l) h g = absurd g
  value_places row (Point b k) (Cost l c) h g = absurd g
  value_places row (Point b k) (RatioCost r l) h g = absurd g
  value_places row (Point b k) (Ratio r l v) h g = absurd g
  value_places row (Pivot r v i k) q h g = absurd h
  value_places row (Cost k b) q h g = absurd h
  value_places row (RatioCost r k) q h g = absurd h
  value_places row (Ratio r k v) q h g = absurd h

  pub one_value : (row : ℕ) (e f : WideStep) → IsWideBasicValue s row e → IsWideBasicValue s row f → e ≡ f
  one_value row e f h g = one_step (IsValuePlace s row) (value_places row) e f h g

  cost_places : (place : ℕ) (p q : TablePlace) → IsPlaceCost s place p → IsPlaceCost s place q → p ≡ q
  cost_places place (Cost k b) (Cost l c) h g =
      let first : k ≡ l = named k l ((table s).nonbasic place) (place_there place h.within) h.nonbasic g.nonbasic in
      let second : b ≡ c = one_variable s.tableau b c h.first.within (first_wide_unique _ _ _ (variables s) (number b) (number c) h.first g.first) in
      λ i. Cost (first i) (second i)
  cost_places place (Cost k b) (Pivot r v i l) h g = absurd g
  cost_places place (Cost k b) (Point c l) h g = absurd g
  cost_places place (Cost k b) (RatioCost r l) h g = absurd g
  cost_places place (Cost k b) (Ratio r l v) h g = absurd g
  cost_places place (Pivot r v i k) q h g = absurd h
  cost_places place (Point b k) q h g = absurd h
  cost_places place (RatioCost r k) q h g = absurd h
  cost_places place (Ratio r k v) q h g = absurd h

  pub one_cost : (place : ℕ) (e f : WideStep) → IsWideCost s place e → IsWideCost s place f → e ≡ f
  one_cost place e f h g = one_step (IsPlaceCost s place) (cost_places place) e f h g

  pivot_places : (row place : ℕ) (p q : TablePlace) → IsPivotPlace s.tableau row place p → IsPivotPlace s.tableau row place q → p ≡ q
  pivot_places row place (Pivot r v i k) (Pivot r' v' i' k') h g =
      let after : Table = pivoted (table s) row place in
      let after_is : IsArranged (relaxation s) after = IsArranged-pivoted (relaxation s) (table s) row place h.row_within h.place_within arranged in
      let at : (h.at_row ≡ g.at_row) × (h.at_place ≡ g.at_place) = entry_once s.tableau.columns s.tableau.activities (table s) row place h.at_row h.at_place g.at_row g.at_place h.first g.first in
      let leaving : r ≡ r' = named r r' ((table s).basic row) (basic_there row h.row_within) h.leaving g.leaving in
      let entering : v ≡ v' = named v v' ((table s).nonbasic place) (place_there place h.place_within) h.entering g.entering in
      let entry_row : i ≡ i' = named i i' (after.basic h.at_row) (basic_within (relaxation s) after after_is h.at_row h.first.row_within) h.entry_row (g.entry_row ∙ ap after.basic (sym at.0)) in
      let entry_place : k ≡ k' = named k k' (after.nonbasic h.at_place) (nonbasic_within (relaxation s) after after_is h.at_place h.first.place_within) h.entry_place (g.entry_place ∙ ap after.nonbasic (sym at.1)) in
      λ t. Pivot (leaving t) (entering t) (entry_row t) (entry_place t)
  pivot_places row place (Pivot r v i k) (Point c l) h g = absurd g
  pivot_places row place (Pivot r v i k) (Cost l c) h g = absurd g
  pivot_places row place (Pivot r v i k) (RatioCost u l) h g = absurd g
  pivot_places row place (Pivot r v i k) (Ratio u l w) h g = absurd g
  pivot_places row place (Point b k) q h g = absurd h
  pivot_places row place (Cost k b) q h g = absurd h
  pivot_places row place (RatioCost r k) q h g = absurd h
  pivot_places row place (Ratio r k v) q h g = absurd h

  pub one_pivot : (row place : ℕ) (e f : WideStep) → IsWidePivot s.tableau row place e → IsWidePivot s.tableau row place f → e ≡ f
  one_pivot row place e f h g = one_step (IsPivotPlace s.tableau row place) (pivot_places row place) e f h g

  module _ (row place q : ℕ) (row_within : row < s.tableau.activities) (place_within : place < s.tableau.columns) (within : q < length s.order + 1) where
    leaving_one : (r u : Var) → number r ≡ (table s).basic row → number u ≡ (table s).basic row → r ≡ u
    leaving_one r u h g = named r u ((table s).basic row) (basic_there row row_within) h g

    entering_one : (k l : Var) → number k ≡ (table s).nonbasic place → number l ≡ (table s).nonbasic place → k ≡ l
    entering_one k l h g = named k l ((table s).nonbasic place) (place_there place place_within) h g

    part_places : (x y : TablePlace) → IsPartPlace s row place q x → IsPartPlace s row place q y → x ≡ y
    part_places (RatioCost r k) (RatioCost u l) h g = λ i. RatioCost (leaving_one r u h.1.0 g.1.0 i) (entering_one k l h.1.1 g.1.1 i)
    part_places (RatioCost r k) (Ratio u l w) h g = absurd (let first = h.0 in let later = g.1.0 in omega (arith, first, later))
    part_places (Ratio r k v) (RatioCost u l) h g = absurd (let later = h.1.0 in let first = g.0 in omega (arith, first, later))
    part_places (Ratio r k v) (Ratio u l w) h g =
        let one : q ≡ h.0 + 1 = h.1.0 in
        let other : q ≡ g.0 + 1 = g.1.0 in
        let turn : g.0 ≡ h.0 = omega (arith, one, other) in
        let there : h.0 < length s.order = omega (arith, one, within) in
        let part : v ≡ w = named v w (get_or s.order h.0 0) (sided.shape.order_there h.0 there) h.1.1.1.1 (g.1.1.1.1 ∙ ap (λ p. get_or s.order p 0) turn) in
        λ i. Ratio (leaving_one r u h.1.1.0 g.1.1.0 i) (entering_one k l h.1.1.1.0 g.1.1.1.0 i) (part i)
    part_places (RatioCost r k) (Pivot u v i l) h g = absurd g
    part_places (RatioCost r k) (Point c l) h g = absurd g
    part_places (RatioCost r k) (Cost l c) h g = absurd g
    part_places (Ratio r k v) (Pivot u w i l) h g = absurd g
    part_places (Ratio r k v) (Point c l) h g = absurd g
    part_places (Ratio r k v) (Cost l c) h g = absurd g
    part_places (Pivot r v i k) y h g = absurd h
    part_places (Point b k) y h g = absurd h
    part_places (Cost k b) y h g = absurd h

  -- ---- and beside it nothing has room

  cost_stays : (place : ℕ) → (place < s.tableau.columns → CostsFit s place (variables s)) → (o : Option TablePlace) → ¬ IsSomeAnd o (IsPlaceCost s place)
  cost_stays place fits None h = h
  cost_stays place fits (Some (Pivot r v i k)) h = h
  cost_stays place fits (Some (Point b k)) h = h
  cost_stays place fits (Some (Cost k b)) h = h.first.here (fits h.within (number b) h.first.within)
  cost_stays place fits (Some (RatioCost r k)) h = h
  cost_stays place fits (Some (Ratio r k v)) h = h

  cost_there : (place : ℕ) (o : Option TablePlace) → IsSomeAnd o (IsPlaceCost s place) → place < s.tableau.columns
  cost_there place None h = absurd h
  cost_there place (Some (Pivot r v i k)) h = absurd h
  cost_there place (Some (Point b k)) h = absurd h
  cost_there place (Some (Cost k b)) h = h.within
  cost_there place (Some (RatioCost r k)) h = absurd h
  cost_there place (Some (Ratio r k v)) h = absurd h

  pub cost_within : (place : ℕ) (step : WideStep) → IsWideCost s place step → place < s.tableau.columns
  cost_within place step wide = cost_there place (table_place step) wide

  pub cost_not_wide : (place : ℕ) (step : WideStep) → (place < s.tableau.columns → CostsFit s place (variables s)) → ¬ IsWideCost s place step
  cost_not_wide place step fits wide = cost_stays place fits (table_place step) wide

  pivot_stays : (row place : ℕ) → ExchangeFits s.tableau.columns s.tableau.activities (table s) row place → (o : Option TablePlace) → ¬ IsSomeAnd o (IsPivotPlace s.tableau row place)
  pivot_stays row place fits None h = h
  pivot_stays row place fits (Some (Pivot r v i k)) h = h.first.wide (fits h.at_row h.at_place h.first.row_within h.first.place_within)
  pivot_stays row place fits (Some (Point b k)) h = h
  pivot_stays row place fits (Some (Cost k b)) h = h
  pivot_stays row place fits (Some (RatioCost r k)) h = h
  pivot_stays row place fits (Some (Ratio r k v)) h = h

  pub pivot_not_wide : (row place : ℕ) (step : WideStep) → ExchangeFits s.tableau.columns s.tableau.activities (table s) row place → ¬ IsWidePivot s.tableau row place step
  pivot_not_wide row place step fits wide = pivot_stays row place fits (table_place step) wide

  reduced_not_wide : (place q : ℕ) (step : WideStep) → ReducedFits s place q → ¬ IsWideReduced s place q step
  reduced_not_wide place zero step fits wide = cost_not_wide place step (λ within. fits) wide
  reduced_not_wide place (suc q) step fits wide = wide

  one_reduced : (place q : ℕ) (e f : WideStep) → IsWideReduced s place q e → IsWideReduced s place q f → e ≡ f
  one_reduced place zero e f h g = one_cost place e f h g
  one_reduced place (suc q) e f h g = absurd h

  pub part_not_wide : (row place q : ℕ) (step : WideStep) → PartFits s row place q → ¬ IsWidePart s row place q step
  part_not_wide row place q step fits (inl wide) = reduced_not_wide place q step fits.0 wide
  part_not_wide row place q step fits (inr wide) = wide.wide fits.1

  pub one_part : (row place q : ℕ) (e f : WideStep) → q < length s.order + 1 → IsWidePart s row place q e → IsWidePart s row place q f → e ≡ f
  one_part row place q e f within (inl h) (inl g) = one_reduced place q e f h g
  one_part row place q e f within (inl h) (inr g) = absurd (reduced_not_wide place q e g.reduced h)
  one_part row place q e f within (inr h) (inl g) = absurd (reduced_not_wide place q f h.reduced g)
  one_part row place q e f within (inr h) (inr g) = one_step (IsPartPlace s row place q) (part_places row place q h.row_within h.place_within within) e f h.named g.named
