-- What two states of one relaxation say of it is one; and where their tables agree and their variables stand alike they are one state.
use Rattle.std.specs.Prelude.{◌≡◌, ℕ, zero, suc, ◌+◌, ◌-◌, ◌*◌, ◌/◌, ◌%◌, ◌<◌, ltb, ◌==◌, if◌then◌else◌, List, [], ◌∷◌, get_or, length, pos, None}
use Rattle.std.proofs.Common.{refl, sym, ap, subst, ◌∙◌, arith, ⊎_elim, mul-zero}
use Rattle.std.proofs.lemmas.Bool.{cases_lt}
use Rattle.std.proofs.lemmas.Nat.{div-add-mod'}
use Rattle.std.proofs.Math.Nat.{div-lt_iff_lt-mul, mod-lt}
use Rattle.frac128.specs.Rational.{int}
use Rattle.row_tableau.specs.Activities.{activity_coefficient}
use Rattle.table_entries.specs.declared.stand.Stand.TheVariants.{Free}
use Rattle.table_entries.specs.Relaxation.{Agree}
use Rattle.table_entries.specs.States.{sign}
use Rattle.row_tableau.specs.declared.relax.Relax.{Relax}
use Rattle.row_tableau.specs.Relaxations.{relaxation_of}
use Rattle.row_tableau.specs.Dense.{Dense, table_of, HasFullLists}
use Rattle.basic_solution.specs.Held.{Held, HasShape, relaxation, parts, table, variables}
use Rattle.basic_solution.specs.Slack.{IsStateOfRelax}
use Rattle.dual_simplex.specs.Starts.{IsReached}

pub same_list : {A : Type 0} (d : A) (xs ys : List A) → length xs ≡ length ys → ((k : ℕ) → k < length xs → get_or xs k d ≡ get_or ys k d) → xs ≡ ys
same_list d [] [] e h = refl
same_list d [] (y ∷ ys) e h = absurd (omega (arith, e))
same_list d (x ∷ xs) [] e h = absurd (omega (arith, e))
same_list d (x ∷ xs) (y ∷ ys) e h =
    let first : x ≡ y = h 0 (omega arith) in
    let rest : xs ≡ ys = same_list d xs ys (omega (arith, e)) (λ k q. h (suc k) (omega (arith, q))) in
    λ i. first i ∷ rest i

-- ---- what is said of the relaxation

module _ (relax : Relax) (s t : Held) (s_is : IsStateOfRelax relax s) (t_is : IsStateOfRelax relax t) (s_shape : HasShape s) (t_shape : HasShape t) where
  columns_are : s.tableau.columns ≡ t.tableau.columns
  columns_are = s_is.tableau.columns ∙ sym t_is.tableau.columns

  activities_are : s.tableau.activities ≡ t.tableau.activities
  activities_are = s_is.tableau.activities ∙ sym t_is.tableau.activities

  count_is : variables s ≡ variables t
  count_is = λ i. columns_are i + activities_are i

  -- what is below the count is so in both
  also : (v n : ℕ) → n ≡ variables s → v < n → v < variables s
  also v n e q = subst (λ m. v < m) e q

  there : (v : ℕ) → v < variables s → v < variables t
  there v q = subst (λ m. v < m) count_is q

  pub lows_are : s.low ≡ t.low
  lows_are = same_list None s.low t.low (s_shape.low_length ∙ count_is ∙ sym t_shape.low_length) (λ v q. let w = also v (length s.low) s_shape.low_length q in s_is.low v w ∙ sym (t_is.low v (there v w)))

  pub highs_are : s.high ≡ t.high
  highs_are = same_list None s.high t.high (s_shape.high_length ∙ count_is ∙ sym t_shape.high_length) (λ v q. let w = also v (length s.high) s_shape.high_length q in s_is.high v w ∙ sym (t_is.high v (there v w)))

  costs_are : s.cost ≡ t.cost
  costs_are = same_list (int (pos 0)) s.cost t.cost (s_shape.cost_length ∙ count_is ∙ sym t_shape.cost_length)
      (λ v q. let w = also v (length s.cost) s_shape.cost_length q in s_is.cost v w ∙ sym (t_is.cost v (there v w)))

  tilts_are : s.tilt ≡ t.tilt
  tilts_are = same_list Free s.tilt t.tilt (s_shape.tilt_length ∙ count_is ∙ sym t_shape.tilt_length) (λ v q. let w = also v (length s.tilt) s_shape.tilt_length q in s_is.tilt v w ∙ sym (t_is.tilt v (there v w)))

  order_is : s.order ≡ t.order
  order_is = s_is.order ∙ sym t_is.order

  form_is : s.form ≡ t.form
  form_is = s_is.form ∙ sym t_is.form

  pub relaxation_is : relaxation s ≡ relaxation t
  relaxation_is = λ i. record {
    columns = columns_are i;
    activities = activities_are i;
    coefficient = activity_coefficient (form_is i);
    low = λ v. get_or (lows_are i) v None;
    high = λ v. get_or (highs_are i) v None;
    cost = λ v. get_or (costs_are i) v (int (pos 0));
  }

  pub part_is : (q v : ℕ) → parts s q v ≡ parts t q v
  part_is zero v = λ i. get_or (costs_are i) v (int (pos 0))
  part_is (suc q) v =
      λ i. if ltb q (length (order_is i)) then (if v == get_or (order_is i) q 0 then sign (get_or (tilts_are i) (get_or (order_is i) q 0) Free) else int (pos 0)) else int (pos 0)

  held_is : s.tableau ≡ t.tableau → ((k : ℕ) → k < s.tableau.columns → get_or s.stands k Free ≡ get_or t.stands k Free) → s ≡ t
  held_is tableau stands =
      let stands_are : s.stands ≡ t.stands = same_list Free s.stands t.stands (s_shape.stands_length ∙ columns_are ∙ sym t_shape.stands_length) (λ k q. stands k (subst (λ n. k < n) s_shape.stands_length q)) in
      λ i. record { form = form_is i; low = lows_are i; high = highs_are i; cost = costs_are i; tilt = tilts_are i; order = order_is i; tableau = tableau i; stands = stands_are i }

-- ---- tableaus

module _ (t u : Dense) (t_full : HasFullLists t) (u_full : HasFullLists u) (columns : t.columns ≡ u.columns) (rows : t.rows ≡ u.rows) (activities : t.activities ≡ u.activities)
    (agree : Agree t.columns t.activities (table_of t) (table_of u)) where
  variable_is : (s : ℕ) → s < t.activities + t.columns → get_or t.variables s 0 ≡ get_or u.variables s 0
  variable_is s q = ⊎_elim
      (λ row. agree.basic s row)
      (λ past.
      let back : t.activities + (s - t.activities) ≡ s = omega (arith, past) in
      let place : s - t.activities < t.columns = omega (arith, past, q) in
      ap (λ n. get_or t.variables n 0) (sym back) ∙ agree.nonbasic (s - t.activities) place ∙ ap (λ n. get_or u.variables (n + (s - t.activities)) 0) (sym activities) ∙ ap (λ n. get_or u.variables n 0) back)
      (cases_lt s t.activities)

  entry_is : (at : ℕ) → at < t.activities * t.columns → get_or t.entries at (int (pos 0)) ≡ get_or u.entries at (int (pos 0))
  entry_is at q =
      ap (λ k. get_or t.entries k (int (pos 0))) (sym (div-add-mod' at t.columns))
      ∙ agree.entry (at / t.columns) (at % t.columns) ((div-lt_iff_lt-mul some).1 q) (mod-lt at some)
      ∙ ap (λ n. get_or u.entries (at / t.columns * n + at % t.columns) (int (pos 0))) (sym columns)
      ∙ ap (λ k. get_or u.entries k (int (pos 0))) (div-add-mod' at t.columns)
    where
      some : 0 < t.columns
      some = ⊎_elim (λ h. h) (λ none. absurd (let e : t.activities * t.columns ≡ 0 = ap (λ k. t.activities * k) (let z : t.columns ≡ 0 = omega (arith, none) in z) ∙ mul-zero t.activities in omega (arith, e, q))) (cases_lt 0 t.columns)

  -- one table is one tableau
  pub dense_one : t ≡ u
  dense_one =
      let variables_are : t.variables ≡ u.variables = same_list 0 t.variables u.variables (t_full.variables ∙ (λ i. activities i + columns i) ∙ sym u_full.variables) (λ s q. variable_is s (subst (λ n. s < n) t_full.variables q)) in
      let entries_are : t.entries ≡ u.entries = same_list (int (pos 0)) t.entries u.entries (t_full.entries ∙ (λ i. activities i * columns i) ∙ sym u_full.entries) (λ at q. entry_is at (subst (λ n. at < n) t_full.entries q)) in
      λ i. record { columns = columns i; rows = rows i; activities = activities i; variables = variables_are i; entries = entries_are i }

-- ---- states

pub held_one : (relax : Relax) (s t : Held) → IsReached relax s → IsReached relax t → Agree (relaxation_of relax).columns (relaxation_of relax).activities (table s) (table t)
    → ((k : ℕ) → k < s.tableau.columns → get_or s.stands k Free ≡ get_or t.stands k Free) → s ≡ t
held_one relax s t a b agree stands =
    held_is relax s t a.is b.is a.sided.shape b.sided.shape
    (dense_one s.tableau t.tableau a.full b.full (a.is.tableau.columns ∙ sym b.is.tableau.columns) (a.is.rows ∙ sym b.is.rows) (a.is.tableau.activities ∙ sym b.is.tableau.activities)
    (subst (λ X. X) (λ i. Agree (sym a.is.tableau.columns i) (sym a.is.tableau.activities i) (table s) (table t)) agree))
    stands
