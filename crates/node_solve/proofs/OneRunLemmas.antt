-- A run leads to one state.
use Rattle.std.specs.Prelude.{◌≡◌, ℕ, ◌<◌}
use Rattle.std.proofs.Common.{sym, subst, ◌∙◌}
use Rattle.lp_model.specs.Formulations.{Formulation}
use Rattle.lp_model.specs.Regions.{Path}
use Rattle.lp_model.specs.declared.types.Basis.{Basis}
use Rattle.lp_model.specs.declared.types.WideStep.{WideStep}
use Rattle.table_entries.specs.Relaxation.{HasNoCrossedSides}
use Rattle.row_tableau.specs.declared.relax.Relax.{Relax}
use Rattle.row_tableau.specs.Relaxations.{plain, of_kind, relaxation_of}
use Rattle.basic_solution.specs.Held.{Held, IsLawfulHeld, relaxation}
use Rattle.dual_simplex.specs.Starts.{IsWideStart}
use Rattle.dual_simplex.specs.Moves.{IsMoved}
use Rattle.dual_simplex.specs.Walks.{Moves}
use Rattle.dual_simplex.proofs.SolveLemmas.{of_after}
use Rattle.dual_simplex.proofs.SameRelaxLemmas.{AreSame, started_other, wide_start_other as same_wide_start}
use Rattle.dual_simplex.proofs.OneWalkLemmas.{moved_kept, uncrossed_at, moves_one, goes_on}
use Rattle.dual_simplex.proofs.OneStartLemmas.{started_one}
use Rattle.node_solve.specs.Runs.{IsPlainOf, IsSimplexRun}

-- ---- relaxations that say the same

plain_same : (F : Formulation) (path : Path) (r t : Relax) → IsPlainOf F path r → IsPlainOf F path t → AreSame r t
plain_same F path r t r_is t_is = record { form = r_is.form ∙ sym t_is.form; region = r_is.region ∙ sym t_is.region; kind = r_is.kind ∙ sym t_is.kind }

pub wide_start_other : (F : Formulation) (path : Path) (r t : Relax) → IsPlainOf F path r → IsPlainOf F path t → (list first : Basis) (step : WideStep) (basis : Basis)
    → IsWideStart r list first step basis → IsWideStart t list first step basis
wide_start_other F path r t r_is t_is list first step basis a = same_wide_start r t (plain_same F path r t r_is t_is) list first step basis a

-- ---- runs

module _ (F : Formulation) (path : Path) (list first : Basis) (ordered : HasNoCrossedSides (plain F path)) where
  abbrev Run : ℕ → Held → Type 0
  Run n s = IsSimplexRun F path list first n s

  plain_ordered : (r : Relax) → IsPlainOf F path r → HasNoCrossedSides (relaxation_of r)
  plain_ordered r is = subst HasNoCrossedSides (λ i. of_kind (sym is.kind i) (plain (sym is.form i) (sym is.region i))) ordered

  pub run_kept : (n : ℕ) (s : Held) → Run n s → IsLawfulHeld s
  run_kept n s a = moved_kept n a.began s a.kept a.moves

  pub run_uncrossed : (n : ℕ) (s : Held) → Run n s → HasNoCrossedSides (relaxation s)
  run_uncrossed n s a = uncrossed_at a.relax (plain_ordered a.relax a.relax_is) s (of_after a.relax n a.began s a.moves a.started.reached.is) (run_kept n s a)

  began_one : (n m : ℕ) (s t : Held) → (a : Run n s) → (b : Run m t) → a.began ≡ b.began
  began_one n m s t a b = started_one a.relax list first a.began b.began a.started (started_other b.relax a.relax (plain_same F path b.relax a.relax b.relax_is a.relax_is) list first b.began b.started)

  moves_alike : (n : ℕ) (s t : Held) (a : Run n s) (began : Held) → a.began ≡ began → Moves n began t → s ≡ t
  moves_alike n s t a began same moves =
      moves_one a.relax (plain_ordered a.relax a.relax_is) a.began a.started.reached.is a.kept n s t a.moves (subst (λ u. Moves n u t) (sym same) moves)

  -- runs of one length lead to one state
  pub run_one : (n : ℕ) (s t : Held) → Run n s → Run n t → s ≡ t
  run_one n s t a b = moves_alike n s t a b.began (began_one n n s t a b) b.moves

  -- a longer run moves on from the state of a shorter one
  pub run_longer : (n m : ℕ) (s t : Held) → n < m → Run n s → Run m t → (next : Held) × IsMoved s next
  run_longer n m s t less a b =
      let on = goes_on n m b.began t less b.moves in
      (on.next, subst (λ u. IsMoved u on.next) (sym (moves_alike n s on.mid a b.began (began_one n m s t a b) on.moves)) on.move)
