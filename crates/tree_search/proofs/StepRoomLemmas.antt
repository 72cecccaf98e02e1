-- A step without room that a run makes is one at a basis of its relaxation.
use Rattle.std.specs.Prelude.{ℕ, zero, suc, ◌<◌, List, Option, Some, None}
use Rattle.std.specs.Option.{IsSomeAnd}
use Rattle.std.proofs.Common.{sym, subst, inl, inr}
use Rattle.lp_model.specs.Program.{Program}
use Rattle.lp_model.specs.Formulations.{Formulation}
use Rattle.lp_model.specs.declared.types.CutRow.{CutRow}
use Rattle.lp_model.specs.Regions.{Path}
use Rattle.lp_model.specs.WideSteps.{TablePlace, Pivot, Point as PointPlace, Cost, RatioCost, Ratio, table_place}
use Rattle.lp_model.specs.declared.types.Basis.{Basis}
use Rattle.lp_model.specs.declared.types.WideStep.{WideStep}
use Rattle.table_entries.specs.declared.stand.Stand.{Stand}
use Rattle.row_tableau.specs.declared.relax.Relax.{Relax}
use Rattle.row_tableau.specs.Answers.{IsPivotPlace}
use Rattle.basic_solution.specs.Held.{Held, IsLawfulHeld}
use Rattle.basic_solution.specs.Numbers.{IsValuePlace, IsPlaceCost, IsWideCost, IsWideReduced}
use Rattle.basic_solution.specs.ListedStates.{IsExchangePlace, IsListRefused}
use Rattle.dual_simplex.specs.Answers.{QuotientFits, IsPartPlace, IsWidePart, IsWideOrder, IsWideMove}
use Rattle.dual_simplex.specs.Solves.{IsWide}
use Rattle.dual_simplex.specs.Starts.{IsWideStart}
use Rattle.dual_simplex.specs.Walks.{Moves}
use Rattle.dual_simplex.proofs.MoveLemmas.{kept_after}
use Rattle.dual_simplex.proofs.SolveLemmas.{of_after}
use Rattle.node_solve.specs.Works.{IsWideAtEnd, IsRunWide}
use Rattle.tree_search.specs.Room.{IsSelection, IsWorkedRegion, AllStand, IsTableStep, IsStepAt, HasRoomAt}

some-weaker : {A : Type 0} (P Q : A → Type 0) → ((a : A) → P a → Q a) → (o : Option A) → IsSomeAnd o P → IsSomeAnd o Q
some-weaker P Q w None h = h
some-weaker P Q w (Some a) h = w a h

-- ---- lawful states

pub lawful-after : (n : ℕ) (s after : Held) → IsLawfulHeld s → Moves n s after → IsLawfulHeld after
lawful-after zero s after lawful moves = subst IsLawfulHeld (sym moves) lawful
lawful-after (suc n) s after lawful (mid, (moves, moved)) = kept_after mid after (lawful-after n s mid lawful moves) moved.row moved.side moved.place moved.out moved.enters moved.move

pub all-stand : (s : Held) → IsLawfulHeld s → AllStand s
all-stand s lawful = lawful.good.lawful.stands

-- ---- steps of a start

exchange-step : (list : Basis) (s : Held) (place : TablePlace) → IsExchangePlace list s place → IsTableStep s place
exchange-step list s (Pivot r v i k) (proper, (row, (column, (brings, named)))) = (row, (column, named))
exchange-step list s (PointPlace b k) h = absurd h
exchange-step list s (Cost k b) h = absurd h
exchange-step list s (RatioCost r k) h = absurd h
exchange-step list s (Ratio r k v) h = absurd h

cost-place : (s : Held) (column : ℕ) (place : TablePlace) → IsPlaceCost s column place → IsTableStep s place
cost-place s column (Pivot r v i k) h = absurd h
cost-place s column (PointPlace b k) h = absurd h
cost-place s column (Cost k b) h = (column, record { within = h.within; nonbasic = h.nonbasic; wide = h.first.here })
cost-place s column (RatioCost r k) h = absurd h
cost-place s column (Ratio r k v) h = absurd h

cost-step : (s : Held) (column : ℕ) (step : WideStep) → IsWideCost s column step → IsSomeAnd (table_place step) (IsTableStep s)
cost-step s column step h = some-weaker (IsPlaceCost s column) (IsTableStep s) (cost-place s column) (table_place step) h

refused-step : (list : Basis) (s : Held) (step : WideStep) → IsListRefused list s step → IsSomeAnd (table_place step) (IsTableStep s)
refused-step list s step (inl h) = some-weaker (IsExchangePlace list s) (IsTableStep s) (exchange-step list s) (table_place step) h.1
refused-step list s step (inr h) = cost-step s h.1.place step h.1.wide

start-step : (relax : Relax) (list first : Basis) (step : WideStep) (basis : Basis) → (wide : IsWideStart relax list first step basis) → IsSomeAnd (table_place step) (IsTableStep wide.state)
start-step relax list first step basis wide = elim wide.at [
  | inl h ↦ refused-step list wide.state step h.1
  | inr h ↦ refused-step first wide.state step h.1.1.1
]

-- ---- steps of a state

value-place : (s : Held) → AllStand s → (row : ℕ) (place : TablePlace) → IsValuePlace s row place → IsTableStep s place
value-place s stand row (Pivot r v i k) h = absurd h
value-place s stand row (PointPlace b k) h = (stand, (row, record { within = h.within; basic = h.basic; wide = h.first.here }))
value-place s stand row (Cost k b) h = absurd h
value-place s stand row (RatioCost r k) h = absurd h
value-place s stand row (Ratio r k v) h = absurd h

quotient-place : (s : Held) (row column q : ℕ) → row < s.tableau.activities → column < s.tableau.columns → ¬ (QuotientFits s row column q) → (place : TablePlace) → IsPartPlace s row column q place → IsTableStep s place
quotient-place s row column q within there wide (Pivot r v i k) h = absurd h
quotient-place s row column q within there wide (PointPlace b k) h = absurd h
quotient-place s row column q within there wide (Cost k b) h = absurd h
quotient-place s row column q within there wide (RatioCost r k) h =
    (row, (column, record { row_within = within; place_within = there; basic = h.1.0; nonbasic = h.1.1; wide = subst (λ p. ¬ (QuotientFits s row column p)) h.0 wide }))
quotient-place s row column q within there wide (Ratio r k v) (p, (is, (basic, (nonbasic, named)))) =
    (row, (column, (p, (record { row_within = within; place_within = there; basic = basic; nonbasic = nonbasic; wide = subst (λ u. ¬ (QuotientFits s row column u)) is wide }, named))))

reduced-step : (s : Held) (column q : ℕ) (step : WideStep) → IsWideReduced s column q step → IsSomeAnd (table_place step) (IsTableStep s)
reduced-step s column zero step h = cost-step s column step h
reduced-step s column (suc q) step h = absurd h

part-step : (s : Held) (row column q : ℕ) (step : WideStep) → IsWidePart s row column q step → IsSomeAnd (table_place step) (IsTableStep s)
part-step s row column q step (inl h) = reduced-step s column q step h
part-step s row column q step (inr h) = some-weaker (IsPartPlace s row column q) (IsTableStep s) (quotient-place s row column q h.row_within h.place_within h.wide) (table_place step) h.named

order-step : (s : Held) (row : ℕ) (side : Stand) (a b : ℕ) (step : WideStep) → IsWideOrder s row side a b step → IsSomeAnd (table_place step) (IsTableStep s)
order-step s row side a b step h = elim h.wide [
  | inl first ↦ part-step s row a h.part step first
  | inr second ↦ part-step s row b h.part step second.1
]

pivot-place : (s : Held) (row column : ℕ) (place : TablePlace) → IsPivotPlace s.tableau row column place → IsTableStep s place
pivot-place s row column (Pivot r v i k) h = (row, (column, h))
pivot-place s row column (PointPlace b k) h = absurd h
pivot-place s row column (Cost k b) h = absurd h
pivot-place s row column (RatioCost r k) h = absurd h
pivot-place s row column (Ratio r k v) h = absurd h

move-step : (s : Held) (step : WideStep) → IsWideMove s step → IsSomeAnd (table_place step) (IsTableStep s)
move-step s step h = elim h.wide [
  | inl entering ↦ order-step s h.leaving.row h.leaving.side entering.best entering.place step entering.wide
  | inr exchange ↦ some-weaker (IsPivotPlace s.tableau h.leaving.row exchange.0) (IsTableStep s) (pivot-place s h.leaving.row exchange.0) (table_place step) exchange.1.1.1
]

state-step : (n limit : ℕ) (s : Held) → AllStand s → (step : WideStep) → IsWide n limit s step → IsSomeAnd (table_place step) (IsTableStep s)
state-step n limit s stand step (inl leaving) = some-weaker (IsValuePlace s leaving.row) (IsTableStep s) (value-place s stand leaving.row) (table_place step) leaving.wide
state-step n limit s stand step (inr (inl move)) = move-step s step move.1
state-step n limit s stand step (inr (inr end)) = cost-step s end.1.wide.0 step end.1.wide.1.1

end-step : (F : Formulation) (path : Path) (s : Held) → AllStand s → (step : WideStep) → IsWideAtEnd F path s step → IsStepAt F path s step
end-step F path s stand step (inl (x, (mult, (optimum, inl lag)))) = inr (stand, inl (inl (mult, (optimum.mult, lag))))
end-step F path s stand step (inl (x, (mult, (optimum, inr (number, (whole, inl test)))))) = inr (stand, inr (x, (optimum.point, inl test)))
end-step F path s stand step (inl (x, (mult, (optimum, inr (number, (whole, inr value)))))) = inr (stand, inr (x, (optimum.point, inr value.1)))
end-step F path s stand step (inr (farkas, (mult, (infeasible, wide)))) =
    let blocked = infeasible.blocked in
    inr (stand, inl (inr (blocked.row, (blocked.side, (record { within = blocked.out.within; out = blocked.out.out; none = blocked.none }, (farkas, (infeasible.farkas, wide)))))))

-- ---- a run

pub run-room : (M : Program) (pool : List CutRow) → HasRoomAt M pool → (F : Formulation) → IsSelection M pool F → (path : Path) → IsWorkedRegion M path → (list first : Basis) (limit : ℕ) (Last : Held → Type 0) (basis : Basis) (step : WideStep) → ¬ IsRunWide F path list first limit Last basis step
run-room M pool room F selection path region list first limit Last basis step (inl (relax, (is, wide))) = room F selection path region relax is wide.state wide.reached.is step (inl (start-step relax list first step basis wide))
run-room M pool room F selection path region list first limit Last basis step (inr (n, (s, (run, (here, basis_is))))) =
    let lawful : IsLawfulHeld s = lawful-after n run.began s run.kept run.moves in
    room F selection path region run.relax run.relax_is s (of_after run.relax n run.began s run.moves run.started.reached.is) step
    (elim here [
      | inl walking ↦ inl (state-step n limit s (all-stand s lawful) step walking.1)
      | inr ending ↦ end-step F path s (all-stand s lawful) step ending.1.1
    ])
