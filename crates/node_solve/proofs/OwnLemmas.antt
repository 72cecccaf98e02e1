-- What the end of a round's run comes to.
use Rattle.std.specs.Prelude.{◌≡◌, ◌⊎◌, ℕ, true, false, [], Ok, Err}
use Rattle.std.proofs.Common.{refl, sym, subst, inl, inr}
use Rattle.frac128.specs.Rational.{ℚ, floor}
use Rattle.lp_model.specs.Program.{Point, coordinate, least_value}
use Rattle.lp_model.specs.declared.types.Basis.{Basis}
use Rattle.lp_model.specs.declared.types.WideStep.{WideStep}
use Rattle.model_points.specs.Answers.{IsFeasibilityAnswer, IsValueAnswer}
use Rattle.leaf_dual.specs.Dual.{Multipliers}
use Rattle.leaf_dual.specs.Answers.{IsLagAnswer, IsFarkasAnswer}
use Rattle.leaf_dual.specs.declared.dual.LagValue.{LagValue}
use Rattle.leaf_dual.specs.declared.dual.LagValue.TheVariants.{Num}
use Rattle.branch_tree.specs.declared.node.NodeResult.{NodeResult}
use Rattle.branch_tree.specs.declared.node.NodeResult.TheVariants.{Close, Split, PointAndClose}
use Rattle.basic_solution.specs.Held.{Held}
use Rattle.basic_solution.specs.Lists.{IsBasisOf}
use Rattle.node_solve.specs.Laws.{AreAllLive}
use Rattle.node_solve.specs.Works.{IsWholeAt, IsFirstFractional, ClosesAt, IsWideAtEnd}
use Rattle.node_solve.specs.Rounds.{Work, Round, RunsTo, form_in, IsDoneAfter, IsWorked}
use Rattle.node_solve.specs.private.Rounds.{EndsAt}
use Rattle.node_solve.specs.Places.{result_in_pool}
use Rattle.node_solve.specs.private.Ends.{IsOptimumAt, IsNoneAt, IsFoundIn, IsOwnEndAt, IsLastRound, IsOwnStop}
use Rattle.node_solve.specs.declared.working.Own.TheVariants as own
use Rattle.node_solve.specs.declared.working.Worked.{Worked}
use Rattle.node_solve.specs.declared.working.Worked.TheVariants.{Done, Pivots, Wide, Memory}
use Rattle.node_solve.proofs.EndLemmas.{state_of, never_broken, keepable_is, not_whole, number_at, found_at, refuted_at}

module _ (W : Work) (r : Round) where
  -- ---- a whole point

  module _ (x : Point) (mult : Multipliers) (basis : Basis) (whole : IsWholeAt W.model x) where
    pub point_not_broken : EndsAt W r (IsFoundIn W r x mult basis) → ¬ (IsFeasibilityAnswer W.model x (Ok false))
    point_not_broken e = never_broken (form_in W r) W.job.region e.state (state_of W r e.moves e.state e.run) x mult e.holds.1.optimum whole

    module _ (n : ℕ) (s : Held) (run : RunsTo W r n s) (found : IsFoundIn W r x mult basis n s) where
      pub point_wide : (step : WideStep) → IsFeasibilityAnswer W.model x (Err step) ⊎ (IsFeasibilityAnswer W.model x (Ok true) × IsValueAnswer W.model 1 x (Err step)) → IsOwnEndAt W r (own.Wide step basis) n s
      point_wide step wide = (found.0, (inl (x, (mult, (found.1.optimum, inr (found.1.number, (whole, wide))))), found.1.basis_is))

      pub point_done : IsFeasibilityAnswer W.model x (Ok true) → (v : ℚ) → IsValueAnswer W.model 1 x (Ok v) → IsOwnEndAt W r (own.Done (PointAndClose x mult basis)) n s
      point_done feasible v value = (found.0, (found.1, (whole, keepable_is (form_in W r) W.job.region s (state_of W r n s run) x mult found.1.optimum feasible v value)))

  -- ---- a fractional point

  module _ (x : Point) (mult : Multipliers) (basis : Basis) (col : ℕ) (first : IsFirstFractional W.model x col) (n : ℕ) (s : Held) (found : IsFoundIn W r x mult basis n s) where
    pub fraction_closes : ClosesAt W.model W.job.target x → IsOwnEndAt W r (own.Done (Close mult [] basis)) n s
    fraction_closes closes = (found.0, inr (x, (found.1, (refl, (not_whole W.model x col first, closes)))))

    pub fraction_splits : ¬ (ClosesAt W.model W.job.target x) → IsOwnEndAt W r (own.Done (Split (record { 0 = col }) (floor (coordinate x col)) mult basis)) n s
    fraction_splits open_still = (found.0, (x, (found.1, (first, (refl, open_still)))))

  -- ---- an optimum

  module _ (live : AreAllLive r.cuts) (x : Point) (mult : Multipliers) (basis : Basis) where
    pub optimum_wide : (n : ℕ) (s : Held) → IsOptimumAt W x mult basis n s → (step : WideStep) → IsLagAnswer (form_in W r) W.job.region mult (Err step) → IsOwnEndAt W r (own.Wide step basis) n s
    optimum_wide n s optimum step wide = (optimum.0, (inl (x, (mult, (optimum.1.0, inl wide))), optimum.1.1))

    pub found_so : (n : ℕ) (s : Held) → RunsTo W r n s → IsOptimumAt W x mult basis n s → (v : LagValue) → IsLagAnswer (form_in W r) W.job.region mult (Ok v) → IsFoundIn W r x mult basis n s
    found_so n s run optimum v answer = (optimum.0, found_at (form_in W r) W.job.region live s (state_of W r n s run) x mult optimum.1.0 basis optimum.1.1 v answer)

    module _ (e : EndsAt W r (IsOptimumAt W x mult basis)) where
      pub optimum_found : (v : LagValue) → IsLagAnswer (form_in W r) W.job.region mult (Ok v) → EndsAt W r (IsFoundIn W r x mult basis)
      optimum_found v answer = record { moves = e.moves; state = e.state; run = e.run; holds = found_so e.moves e.state e.run e.holds v answer }

      pub optimum_number : (v : LagValue) → IsLagAnswer (form_in W r) W.job.region mult (Ok v) → v ≡ Num (least_value W.model 1 x)
      optimum_number v answer = number_at (form_in W r) W.job.region live e.state (state_of W r e.moves e.state e.run) x mult e.holds.1.0 v answer

  -- ---- no solution

  module _ (live : AreAllLive r.cuts) (weights mult : Multipliers) (basis : Basis) (n : ℕ) (s : Held) (none : IsNoneAt W weights mult basis n s) where
    pub none_wide : (step : WideStep) → IsFarkasAnswer (form_in W r) W.job.region weights (Err step) → IsOwnEndAt W r (own.Wide step basis) n s
    none_wide step wide = (none.0, (inr (weights, (mult, (none.1.0, wide))), none.1.1))

    pub none_closes : RunsTo W r n s → (v : LagValue) → IsFarkasAnswer (form_in W r) W.job.region weights (Ok v) → IsOwnEndAt W r (own.Done (Close mult weights basis)) n s
    none_closes run v answer = (none.0, inl (refuted_at (form_in W r) W.job.region live s (state_of W r n s run) weights mult none.1.0 basis none.1.1 v answer))

-- ---- what the work answers

module _ (W : Work) (r : Round) where
  -- a result of the last round
  pub done_after : (own_result placed : NodeResult) → placed ≡ result_in_pool r.places own_result → (last : IsLastRound W r (own.Done own_result)) → IsDoneAfter W last.0 r placed r.added
  done_after own_result placed same (made, (makes, e)) = record {
    moves = e.moves;
    state = e.state;
    run = e.run;
    allowed = e.holds.1.0;
    last = e.holds.0;
    own_result = own_result;
    done = e.holds.1.1;
    result_is = same;
    found_are = refl;
  }

  -- a step without room of the last round
  pub wide_worked : (step : WideStep) (basis : Basis) → IsLastRound W r (own.Wide step basis) → (w : Worked) → IsOwnStop W r step basis w → IsWorked W w
  wide_worked step basis last (Done result found) stop = absurd stop
  wide_worked step basis last (Pivots other found) stop = absurd stop
  wide_worked step basis (made, (makes, e)) (Wide at found) (leaf, (step_is, (basis_is, found_is))) =
      (made, (r, (makes, (leaf, (inr (e.moves, (e.state, (e.run, (inr (e.holds.1.0, (e.holds.0, subst (IsWideAtEnd (form_in W r) W.job.region e.state) (sym step_is) e.holds.1.1.0)), subst (IsBasisOf e.state) (sym basis_is) e.holds.1.1.1)))), found_is)))))
  wide_worked step basis last Memory stop = tt
