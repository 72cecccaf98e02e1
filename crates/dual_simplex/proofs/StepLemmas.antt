-- What a step of the method answers, from who leaves, who enters and the exchange; and what a walk and its end answer.
use Rattle.std.specs.Prelude.{◌⊎◌, ℕ, ◌<◌, Option, Some, None, Ok, Err}
use Rattle.std.specs.Option.{IsSomeAnd}
use Rattle.std.proofs.Common.{inl, inr, ⊎_elim}
use Rattle.lp_model.specs.WideSteps.{TablePlace, Pivot, Point, Cost, RatioCost, Ratio, table_place}
use Rattle.lp_model.specs.declared.types.WideStep.{WideStep}
use Rattle.table_entries.specs.Steps.{ExchangeFits}
use Rattle.row_tableau.specs.Dense.{HasFullLists}
use Rattle.row_tableau.specs.Answers.{IsWidePivot}
use Rattle.row_tableau.specs.Variables.{variable_number}
use Rattle.basic_solution.specs.Held.{Held, table, variables}
use Rattle.basic_solution.specs.Numbers.{ValueFits, IsValuePlace, IsWideBasicValue}
use Rattle.basic_solution.specs.Lists.{IsWideColumn}
use Rattle.basic_solution.specs.Exchanges.{IsMove}
use Rattle.dual_simplex.specs.Answers.{IsEntered, AreAllInside, HasLeaving, IsWideLeaving, IsWideMove}
use Rattle.dual_simplex.specs.private.Answers.{IsLeaving, IsEntering}
use Rattle.dual_simplex.specs.Moves.{IsMoved, IsBlocked}
use Rattle.dual_simplex.specs.Walks.{IsWalkEnd}
use Rattle.dual_simplex.specs.Solves.{IsWide}
use Rattle.dual_simplex.specs.declared.leaving.Leaving.{Leaving}

-- a value with room is not one with a step without
value_stays : (s : Held) (row : ℕ) → (row < s.tableau.activities → ValueFits s row (variables s)) → (o : Option TablePlace) → ¬ IsSomeAnd o (IsValuePlace s row)
value_stays s row fits None h = h
value_stays s row fits (Some (Pivot r v i k)) h = h
value_stays s row fits (Some (Point b k)) h = h.first.here (fits h.within (variable_number s.tableau k) h.first.within)
value_stays s row fits (Some (Cost k b)) h = h
value_stays s row fits (Some (RatioCost r k)) h = h
value_stays s row fits (Some (Ratio r k v)) h = h

pub value_not_wide : (s : Held) (row : ℕ) (step : WideStep) → (row < s.tableau.activities → ValueFits s row (variables s)) → ¬ IsWideBasicValue s row step
value_not_wide s row step fits wide = value_stays s row fits (table_place step) wide

-- where no basic variable is outside a side each number of the point has room
pub point_fits : (s : Held) (step : WideStep) → AreAllInside s → ¬ IsWideColumn s step
point_fits s step inside wide = value_not_wide s wide.wide.0 step (inside.values wide.wide.0) wide.wide.1.1

module _ (s : Held) (leaving : Leaving) (is : IsLeaving s (Ok (Some leaving))) where
  pub leaving_of : HasLeaving s
  leaving_of = record { row = leaving.row; side = leaving.side; out = is.0; values = is.1 }

  pub blocked_of : IsEntering s leaving.row leaving.side s.tableau.columns (Ok None) → IsBlocked s
  blocked_of none = record { row = leaving.row; side = leaving.side; out = is.0; none = none.0; values = is.1 }

  pub wide_entering : (step : WideStep) → IsEntering s leaving.row leaving.side s.tableau.columns (Err step) → IsWideMove s step
  unfolding leaving_of
  wide_entering step wide = record { leaving = leaving_of; wide = inl wide }

  module _ (place : ℕ) (entering : IsEntering s leaving.row leaving.side s.tableau.columns (Ok (Some place))) where
    pub entered_of : IsEntered s leaving.row leaving.side place
    entered_of = record { within = entering.0.0; may = entering.0.1.0; least = entering.0.1.1 }

    pub wide_exchange : (step : WideStep) → IsWidePivot s.tableau leaving.row place step → IsWideMove s step
    unfolding leaving_of
    wide_exchange step wide = record { leaving = leaving_of; wide = inr (place, (entered_of, (entering.1, wide))) }

    pub moved_of : (after : Held) → IsMove s after leaving.row leaving.side place → ExchangeFits s.tableau.columns s.tableau.activities (table s) leaving.row place → HasFullLists after.tableau → IsMoved s after
    moved_of after move fits full = record { row = leaving.row; side = leaving.side; place = place; out = is.0; enters = entered_of; move = move; values = is.1; compared = entering.1; fits = fits; full = full }

-- ---- walks

pub walk_wide : (n limit : ℕ) (s : Held) (step : WideStep) → n < limit → IsWideLeaving s step ⊎ IsWideMove s step → IsWalkEnd n limit (Err step) s
walk_wide n limit s step less wide = ⊎_elim inl (λ move. inr (less, move)) wide

pub end_wide : (n limit : ℕ) (s : Held) (step : WideStep) → IsWalkEnd n limit (Err step) s → IsWide n limit s step
end_wide n limit s step wide = ⊎_elim inl (λ move. inr (inl move)) wide
