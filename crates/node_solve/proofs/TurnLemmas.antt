-- From round to round, and where the rounds end.
use Rattle.std.specs.Prelude.{◌≡◌, ◌<◌, ℕ, suc, true, false, length}
use Rattle.std.proofs.Common.{refl, sym, subst, inl, inr}
use Rattle.lp_model.specs.Program.{Point}
use Rattle.lp_model.specs.declared.types.Basis.{Basis}
use Rattle.lp_model.specs.declared.types.WideStep.{WideStep}
use Rattle.leaf_dual.specs.Dual.{Multipliers}
use Rattle.basic_solution.specs.Held.{Held}
use Rattle.basic_solution.specs.Lists.{IsBasisOf}
use Rattle.dual_simplex.specs.Answers.{HasLeaving}
use Rattle.dual_simplex.specs.Solves.{IsLpOptimum, IsLpInfeasible}
use Rattle.node_solve.specs.Works.{IsRunWide}
use Rattle.node_solve.specs.Rounds.{Work, Round, form_in, first_in, RunsTo, EndsRounds, IsLastAt, MakesRounds, IsPivotsAfter, IsWorked}
use Rattle.node_solve.specs.private.Rounds.{EndsAt, IsNextAnswer, IsMethodWide}
use Rattle.node_solve.specs.private.Ends.{IsOptimumAt, IsNoneAt, IsOwnEndAt, IsLastRound, IsOwnStop}
use Rattle.node_solve.specs.declared.working.Own.{Own}
use Rattle.node_solve.specs.declared.working.Worked.{Worked}
use Rattle.node_solve.specs.declared.working.Worked.TheVariants.{Done, Pivots, Wide, Memory}
use Rattle.node_solve.proofs.EndLemmas.{state_of, shape_is}
use Rattle.dual_simplex.proofs.OneEndLemmas.{one_point}

module _ (W : Work) (r : Round) where
  pub optimum_shape : (x : Point) (mult : Multipliers) (basis : Basis) → EndsAt W r (IsOptimumAt W x mult basis) → length x ≡ length W.model.cols
  optimum_shape x mult basis e = shape_is (form_in W r) W.job.region e.state (state_of W r e.moves e.state e.run) x mult e.holds.1.0

  -- ---- a further round

  pub next_rounds : (made : ℕ) (next : Round) (x : Point) (mult : Multipliers) (basis : Basis) → MakesRounds W made r → EndsAt W r (IsOptimumAt W x mult basis) → IsNextAnswer W made r x basis true next
      → MakesRounds W (suc made) next × (made < W.rounds)
  next_rounds made next x mult basis makes e h = (
    (
      r,
      (
        makes,
        record {
          moves = e.moves;
          state = e.state;
          run = e.run;
          allowed = e.holds.0;
          point = x;
          mult = mult;
          optimum = e.holds.1.0;
          basis = basis;
          basis_is = e.holds.1.1;
          may = h.0;
          after = h.1.0;
          separates = h.1.1.0;
          more = h.1.1.1.0;
          next_is = h.1.1.1.1;
        },
      ),
    ),
    h.0.fewer,
  )

  -- ---- the last one

  pub optimum_last : (made : ℕ) (x : Point) (mult : Multipliers) → IsLastAt W made r x → (s : Held) → IsLpOptimum s x mult → EndsRounds W made r s
  optimum_last made x mult last s o = λ y m p. subst (IsLastAt W made r) (one_point s x y o.point p.point) last

  -- where there is no solution no point is an optimum
  pub none_last : (made : ℕ) (farkas mult : Multipliers) (s : Held) → IsLpInfeasible s farkas mult → EndsRounds W made r s
  none_last made farkas mult s none = λ y m o. absurd (o.inside.inside none.blocked.row none.blocked.out.within none.blocked.side none.blocked.out.out.0 none.blocked.out.out.1)

  -- ---- what the work answers where the method stops

  method_any : (P : Held → Type 0) (basis : Basis) (step : WideStep) → IsMethodWide W r basis step → IsRunWide (form_in W r) W.job.region r.list (first_in W r) W.pivots P basis step
  method_any P basis step (inl start) = inl start
  method_any P basis step (inr (n, (s, (run, (inl wide, is))))) = inr (n, (s, (run, (inl wide, is))))
  method_any P basis step (inr (n, (s, (run, (inr (allowed, (none, rest)), is))))) = absurd none

  pub method_worked : (made : ℕ) → MakesRounds W made r → (step : WideStep) (basis : Basis) → IsMethodWide W r basis step → (w : Worked) → IsOwnStop W r step basis w → IsWorked W w
  method_worked made makes step basis wide (Done result found) stop = absurd stop
  method_worked made makes step basis wide (Pivots other found) stop = absurd stop
  method_worked made makes step basis wide (Wide at found) (leaf, (step_is, (basis_is, found_is))) = (
    made,
    (
      r,
      (
        makes,
        (
          leaf,
          (
            subst (λ X. X) (λ i. IsRunWide (form_in W r) W.job.region r.list (first_in W r) W.pivots (EndsRounds W made r) (sym basis_is i) (sym step_is i)) (method_any (EndsRounds W made r) basis step wide),
            found_is,
          ),
        ),
      ),
    ),
  )
  method_worked made makes step basis wide Memory stop = tt

  pub pivots_after : (basis : Basis) → EndsAt W r (λ n s. (n ≡ W.pivots) × (HasLeaving s × IsBasisOf s basis)) → IsPivotsAfter W r basis r.added
  pivots_after basis e = record { state = e.state; run = subst (λ n. RunsTo W r n e.state) e.holds.0 e.run; leaving = e.holds.1.0; basis_is = e.holds.1.1; found_are = refl }

-- the result at the last round's optimum, and where it has no solution
pub last_of : (W : Work) (made : ℕ) (r after : Round) (x : Point) (mult : Multipliers) (basis : Basis) → MakesRounds W made r → EndsAt W r (IsOptimumAt W x mult basis) → IsNextAnswer W made r x basis false after → (came : Own)
    → ((n : ℕ) (s : Held) → RunsTo W after n s → IsOptimumAt W x mult basis n s → IsOwnEndAt W after came n s) → IsLastRound W after came
last_of W made r after x mult basis makes e (same, last) came comes =
    let here : EndsAt W after (IsOptimumAt W x mult basis) = subst (λ q. EndsAt W q (IsOptimumAt W x mult basis)) (sym same) e in
    let none : IsLastAt W made after x = subst (λ q. IsLastAt W made q x) (sym same) last in (
      made,
      (
        subst (λ q. MakesRounds W made q) (sym same) makes,
        record { moves = here.moves; state = here.state; run = here.run; holds = (optimum_last W after made x mult none here.state here.holds.1.0, comes here.moves here.state here.run here.holds) },
      ),
    )

pub none_of : (W : Work) (made : ℕ) (r : Round) (farkas mult : Multipliers) (basis : Basis) → MakesRounds W made r → EndsAt W r (IsNoneAt W farkas mult basis) → (came : Own)
    → ((n : ℕ) (s : Held) → RunsTo W r n s → IsNoneAt W farkas mult basis n s → IsOwnEndAt W r came n s) → IsLastRound W r came
none_of W made r farkas mult basis makes e came comes =
    (made, (makes, record { moves = e.moves; state = e.state; run = e.run; holds = (none_last W r made farkas mult e.state e.holds.1.0, comes e.moves e.state e.run e.holds) }))
