-- Moves of one number lead from a state to one state.
use Rattle.std.specs.Prelude.{◌≡◌, ℕ, zero, suc, ◌<◌}
use Rattle.std.proofs.Common.{sym, subst, ◌∙◌, arith, ⊎_elim}
use Rattle.std.proofs.lemmas.Bool.{cases_eq}
use Rattle.table_entries.specs.Relaxation.{HasNoCrossedSides}
use Rattle.row_tableau.specs.declared.relax.Relax.{Relax}
use Rattle.row_tableau.specs.Relaxations.{relaxation_of}
use Rattle.basic_solution.specs.Held.{Held, IsLawfulHeld, relaxation}
use Rattle.basic_solution.specs.Slack.{IsStateOfRelax}
use Rattle.basic_solution.proofs.ExchangeLemmas.{sided_of}
use Rattle.dual_simplex.specs.Moves.{IsMoved}
use Rattle.dual_simplex.specs.Walks.{Moves}
use Rattle.dual_simplex.proofs.MoveLemmas.{kept_after}
use Rattle.dual_simplex.proofs.SolveLemmas.{of_after, ordered_of, free_of, uncrossed}
use Rattle.dual_simplex.proofs.OneMoveLemmas.{moved_one}

pub moved_kept : (n : ℕ) (s after : Held) → IsLawfulHeld s → Moves n s after → IsLawfulHeld after
moved_kept zero s after kept moves = subst IsLawfulHeld (sym moves) kept
moved_kept (suc n) s after kept (mid, (moves, moved)) = kept_after mid after (moved_kept n s mid kept moves) moved.row moved.side moved.place moved.out moved.enters moved.move

module _ (relax : Relax) (ordered : HasNoCrossedSides (relaxation_of relax)) where
  pub uncrossed_at : (s : Held) → IsStateOfRelax relax s → IsLawfulHeld s → HasNoCrossedSides (relaxation s)
  uncrossed_at s is kept = uncrossed s kept (ordered_of relax s is ordered) (free_of relax s is)

  module _ (s : Held) (is : IsStateOfRelax relax s) (kept : IsLawfulHeld s) where
    pub moves_one : (n : ℕ) (a b : Held) → Moves n s a → Moves n s b → a ≡ b
    moves_one zero a b here there = here ∙ sym there
    moves_one (suc n) a b (m, (moves, moved)) (l, (other, also)) =
        let same : m ≡ l = moves_one n m l moves other in
        let m_kept = moved_kept n s m kept moves in
        moved_one m (sided_of m m_kept) (uncrossed_at m (of_after relax n s m moves is) m_kept) a b moved (subst (λ k. IsMoved k b) (sym same) also)

-- a longer run passes the state after n moves
pub record GoesOnFrom (n : ℕ) (t : Held) : Type 0 where
  pub mid : Held
  pub next : Held
  pub moves : Moves n t mid
  pub move : IsMoved mid next

pub goes_on : (n m : ℕ) (t b : Held) → n < m → Moves m t b → GoesOnFrom n t
goes_on n zero t b less moves = absurd (omega (arith, less))
goes_on n (suc m) t b less (l, (moves, move)) = ⊎_elim
    (λ same. record { mid = l; next = b; moves = subst (λ k. Moves k t l) (sym same) moves; move = move })
    (λ other. goes_on n m t l (omega (arith, less, other)) moves)
    (cases_eq n m)
