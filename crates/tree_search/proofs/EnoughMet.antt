-- A model without columns and rows has no variable, so that its relaxations have no move, and no step that could lack room.
use Rattle.std.specs.Prelude.{◌≡◌, ℕ, ◌+◌, ◌*◌, ◌-◌, ◌^◌, ◌<◌, ◌≤◌, max, List, [], ◌∷◌, length, map, Option, Some, None}
use Rattle.std.specs.Option.{IsSomeAnd}
use Rattle.std.proofs.Common.{refl, ap, subst, ◌∙◌, arith, inl, inr}
use Rattle.std.proofs.Math.Nat.{pow-le-pow_right}
use Rattle.frac128.specs.Rational.{ℚ}
use Rattle.lp_model.specs.Program.{Program, Point}
use Rattle.lp_model.specs.Formulations.{Formulation, without_cuts}
use Rattle.lp_model.specs.Regions.{Path}
use Rattle.lp_model.specs.WideSteps.{TablePlace, Pivot, Point as PointPlace, Cost, RatioCost, Ratio, table_place, LagPlace, Entry, Term, lag_place}
use Rattle.lp_model.specs.declared.types.CutRow.{CutRow}
use Rattle.lp_model.specs.declared.types.Var.TheVariants.{Col, Row, Cut}
use Rattle.lp_model.specs.declared.types.WideStep.{WideStep}
use Rattle.model_points.specs.Rays.{without_cost, without_costs}
use Rattle.row_tableau.specs.declared.relax.Relax.{Relax}
use Rattle.row_tableau.specs.Activities.{activity_count}
use Rattle.leaf_dual.specs.Answers.{IsFirstWidePlace}
use Rattle.basic_solution.specs.Held.{Held, IsLawfulHeld, variables}
use Rattle.basic_solution.specs.Slack.{IsStateOfRelax}
use Rattle.basic_solution.proofs.SlackLemmas.{columns_is, activities_is}
use Rattle.dual_simplex.specs.Walks.{Moves}
use Rattle.dual_simplex.specs.Solves.{IsWide}
use Rattle.dual_simplex.proofs.FewStates.{few_moves}
use Rattle.dual_simplex.proofs.SolveLemmas.{of_after}
use Rattle.ray_phase.specs.Answers.{IsStart, IsWideSum, IsWideAt}
use Rattle.search_counting.specs.Work.{whole_points_of, whole_points, cap_of}
use Rattle.node_solve.specs.Runs.{IsPlainOf}
use Rattle.tree_search.specs.Room.{AreAmong, IsSelection, IsTableStep, IsNumberStep, IsPointStep, IsStepAt}
use Rattle.tree_search.specs.Enough.{IsRayPhaseEnough, AreRelaxationsEnough, IsEnoughBeside}
use Rattle.tree_search.specs.EnoughLaws.{EnoughForNewLaw, EnoughForKeptLaw, MovesMetLaw}

none-among : (cuts : List CutRow) → AreAmong cuts [] → cuts ≡ []
none-among [] h = refl
none-among (c ∷ cuts) h = absurd h

-- nothing is below a number that is 0
none-below : (k n : ℕ) → n ≡ 0 → k < n → ⊥
none-below k n none w = absurd (omega (arith, none, w))

-- ---- steps of a state without variables

module _ (s : Held) (columns : s.tableau.columns ≡ 0) (activities : s.tableau.activities ≡ 0) where
  none-variables : variables s ≡ 0
  none-variables = omega (arith, columns, activities)

  one-move : IsLawfulHeld s → (n : ℕ) (after : Held) → Moves n s after → n < 1
  one-move kept n after moves = subst (λ v. n < 3 ^ v) none-variables (few_moves s kept n after moves)

  none-table : (o : Option TablePlace) → IsSomeAnd o (IsTableStep s) → ⊥
  none-table None h = h
  none-table (Some (Pivot r v i k)) h = none-below h.0 s.tableau.activities activities h.1.1.row_within
  none-table (Some (PointPlace b k)) h = none-below h.1.0 s.tableau.activities activities h.1.1.within
  none-table (Some (Cost k b)) h = none-below h.0 s.tableau.columns columns h.1.within
  none-table (Some (RatioCost r k)) h = none-below h.0 s.tableau.activities activities h.1.1.row_within
  none-table (Some (Ratio r k v)) h = none-below h.0 s.tableau.activities activities h.1.1.1.0.row_within

  none-wide : (n limit : ℕ) (step : WideStep) → IsWide n limit s step → ⊥
  none-wide n limit step (inl h) = none-below h.row s.tableau.activities activities h.within
  none-wide n limit step (inr (inl (less, h))) = none-below h.leaving.row s.tableau.activities activities h.leaving.out.within
  none-wide n limit step (inr (inr (last, h))) = none-below h.activity (variables s) none-variables h.within

-- ---- steps of a formulation without columns, rows and cuts

module _ (F : Formulation) (columns : length F.model.cols ≡ 0) (rows : length F.model.rows ≡ 0) (cuts : length F.cuts ≡ 0) (path : Path) where
  none-lag : (y z : ℕ → ℚ) (c₀ : ℚ) (c : ℕ → ℚ) (o : Option LagPlace) → IsSomeAnd o (IsFirstWidePlace F path y z c₀ c) → ⊥
  none-lag y z c₀ c None h = h
  none-lag y z c₀ c (Some (Entry col by)) h = none-below col (length F.model.cols) columns h.0.within
  none-lag y z c₀ c (Some (Term (Row row))) h = none-below row.0 (length F.model.rows) rows h.within
  none-lag y z c₀ c (Some (Term (Cut cut))) h = none-below cut.0 (length F.cuts) cuts h.1.within
  none-lag y z c₀ c (Some (Term (Col col))) h = none-below col.0 (length F.model.cols) columns h.0.within

  module _ (s : Held) (activities : s.tableau.activities ≡ 0) (step : WideStep) where
    none-number : IsNumberStep F path s step → ⊥
    none-number (inl (mult, (listed, answer))) = none-lag _ _ _ _ (lag_place step) answer.1
    none-number (inr (row, (side, (stuck, rest)))) = none-below row s.tableau.activities activities stuck.within

    none-point : IsPointStep F.model s step → ⊥
    none-point (x, (is, inl test)) = none-below test.0 (length F.model.rows) rows test.1.1.0.within
    none-point (x, (is, inr sum)) = none-below sum.0 (length F.model.cols) columns sum.1.0.within

-- ---- the model

module _ (M : Program) (no_cols : M.cols ≡ []) (no_rows : M.rows ≡ []) where
  columns-none : length M.cols ≡ 0
  columns-none = ap length no_cols

  rows-none : length M.rows ≡ 0
  rows-none = ap length no_rows

  count-none : (F : Formulation) → length F.model.rows ≡ 0 → length F.cuts ≡ 0 → activity_count F ≡ 0
  count-none F rows cuts = omega (arith, rows, cuts)

  module _ (F : Formulation) (is : IsSelection M [] F) where
    form-columns : length F.model.cols ≡ 0
    form-columns = ap (λ (N : Program). length N.cols) is.model ∙ columns-none

    form-rows : length F.model.rows ≡ 0
    form-rows = ap (λ (N : Program). length N.rows) is.model ∙ rows-none

    form-cuts : length F.cuts ≡ 0
    form-cuts = ap length (none-among F.cuts is.cuts)

    module _ (path : Path) (relax : Relax) (plain : IsPlainOf F path relax) (s : Held) (of : IsStateOfRelax relax s) where
      state-columns : s.tableau.columns ≡ 0
      state-columns = columns_is relax s of ∙ ap (λ (G : Formulation). length G.model.cols) plain.form ∙ form-columns

      state-activities : s.tableau.activities ≡ 0
      state-activities = activities_is relax s of ∙ ap activity_count plain.form ∙ count-none F form-rows form-cuts

      few : IsLawfulHeld s → (n : ℕ) (after : Held) → Moves n s after → n < 1
      few kept n after moves = one-move s state-columns state-activities kept n after moves

      none : (step : WideStep) → IsStepAt F path s step → ⊥
      none step (inl h) = none-table s state-columns state-activities (table_place step) h
      none step (inr (stand, inl h)) = none-number F form-columns form-rows form-cuts path s state-activities step h
      none step (inr (stand, inr h)) = none-point F form-columns form-rows form-cuts path s state-activities step h

  relaxations : AreRelaxationsEnough M [] 1
  relaxations = record {
    moves = λ F is path region relax plain s of kept n after moves. few F is path relax plain s of kept n after moves;
    steps = λ F is path region relax plain s of step h. none F is path relax plain s of step h;
  }

  none-sum : (d : Point) (step : WideStep) → IsWideSum M d step → ⊥
  none-sum d step (inl h) = none-below h.0 (length M.cols) columns-none h.1.0.within
  none-sum d step (inr (below, (size, inl (goes, h)))) = none-below h.row (length M.rows) rows-none h.within
  none-sum d step (inr (below, (size, inr (kept, h)))) = none-below h.0 (length M.cols) columns-none h.1.0.within

  module _ (s : Held) (start : IsStart M s) (n : ℕ) (after : Held) (moves : Moves n s after) where
    direction-columns : (t : Held) → IsStateOfRelax start.0 t → t.tableau.columns ≡ 0
    direction-columns t of = columns_is start.0 t of ∙ ap (λ (G : Formulation). length G.model.cols) start.1.0.form ∙ columns-none

    direction-activities : (t : Held) → IsStateOfRelax start.0 t → t.tableau.activities ≡ 0
    direction-activities t of = activities_is start.0 t of ∙ ap activity_count start.1.0.form ∙ count-none (without_cuts M) rows-none refl

    direction-few : n < 1
    direction-few = one-move s (direction-columns s start.1.1.0.is) (direction-activities s start.1.1.0.is) start.1.1.1.0 n after moves

    direction-none : (limit : ℕ) (step : WideStep) → IsWideAt M n limit after step → ⊥
    direction-none limit step (inl h) =
        let of = of_after start.0 n s after moves start.1.1.0.is in
        none-wide after (direction-columns after of) (direction-activities after of) n limit step h
    direction-none limit step (inr (d, (best, h))) = none-sum d step h

  ray_phase : IsRayPhaseEnough M 1
  ray_phase = record {
    moves = λ s start n after moves. direction-few s start n after moves;
    steps = λ s start n after moves step h. direction-none s start n after moves 1 step h;
  }

  one-point : whole_points M ≡ 1
  one-point = ap whole_points_of no_cols

  one-result : cap_of M ≤ 1
  one-result = by (whole_points M) one-point
    where
      by : (p : ℕ) → p ≡ 1 → max 1 (2 * p - 1) ≤ 1
      by p e = omega (arith, e)

  none-splits : 3 * (whole_points M - 1) ≡ 0
  none-splits = by (whole_points M) one-point
    where
      by : (p : ℕ) → p ≡ 1 → 3 * (p - 1) ≡ 0
      by p e = omega (arith, e)

-- beside a ray: the model without costs has no columns either
module _ (M : Program) (no_cols : M.cols ≡ []) (no_rows : M.rows ≡ []) where
  no_costless : (without_costs M).cols ≡ []
  no_costless = ap (map without_cost) no_cols

  beside : IsEnoughBeside M [] 1
  beside = record {
    ray_phase = ray_phase (without_costs M) no_costless no_rows;
    relaxations = relaxations (without_costs M) no_costless no_rows;
    values = λ F is path region relax plain s of stand x point step h. none-below h.0 (length M.cols) (columns-none M no_cols no_rows) h.1.0.within;
  }

pub enough-new : EnoughForNewLaw
enough-new M workers seed no_cols no_rows = record {
  results = one-result M no_cols no_rows;
  tree = one-result M no_cols no_rows;
  ids = let none = none-splits M no_cols no_rows in omega (arith, none);
  ray_phase = λ none. ray_phase M no_cols no_rows;
  own = λ none. relaxations M no_cols no_rows;
  beside = λ d ray. beside M no_cols no_rows;
}

pub enough-kept : EnoughForKeptLaw
enough-kept S workers seed no_cols no_rows ids = record {
  results = one-result S.model no_cols no_rows;
  nodes = let one = one-result S.model no_cols no_rows in omega (arith, one);
  ids = let none = none-splits S.model no_cols no_rows in omega (arith, none, ids);
  ray_phase = λ none. ray_phase S.model no_cols no_rows;
  own = λ none. relaxations S.model no_cols no_rows;
  beside = λ d ray. beside S.model no_cols no_rows;
}

-- ---- moves

among-few : (cuts pool : List CutRow) → AreAmong cuts pool → length cuts ≤ length pool
among-few [] pool h = omega arith
among-few (c ∷ cuts) [] h = absurd h
among-few (c ∷ cuts) (d ∷ pool) (inl h) = let few = among-few cuts pool h.1 in omega (arith, few)
among-few (c ∷ cuts) (d ∷ pool) (inr h) = let few = among-few (c ∷ cuts) pool h in omega (arith, few)

pub moves-met : MovesMetLaw
moves-met M pool F is path region relax plain s of kept n after moves =
    let less : n < 3 ^ variables s = few_moves s kept n after moves in
    let columns : s.tableau.columns ≡ length M.cols = columns_is relax s of ∙ ap (λ (G : Formulation). length G.model.cols) plain.form ∙ ap (λ (N : Program). length N.cols) is.model in
    let activities : s.tableau.activities ≡ activity_count F = activities_is relax s of ∙ ap activity_count plain.form in
    let rows : length F.model.rows ≡ length M.rows = ap (λ (N : Program). length N.rows) is.model in
    let few = among-few F.cuts pool is.cuts in
    let count : variables s ≤ length M.cols + (length M.rows + length pool) = omega (arith, columns, activities, rows, few) in
    let more : 3 ^ variables s ≤ 3 ^ (length M.cols + (length M.rows + length pool)) = pow-le-pow_right (omega arith) count in
    omega (arith, less, more)
