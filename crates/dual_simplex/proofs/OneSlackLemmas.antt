-- A relaxation has one lawful slack state whose lists are full.
use Rattle.std.specs.Prelude.{◌≡◌, ℕ, ◌<◌, get_or}
use Rattle.std.proofs.Common.{subst}
use Rattle.frac128.specs.Rational.{ℚ}
use Rattle.table_entries.specs.declared.stand.Stand.TheVariants.{Free}
use Rattle.table_entries.specs.Relaxation.{Relaxation, Agree}
use Rattle.table_entries.specs.States.{reduced_parts}
use Rattle.table_entries.proofs.Signs.{asked_once, asked_same}
use Rattle.table_entries.proofs.OneReduced.{one_reduced}
use Rattle.row_tableau.specs.declared.relax.Relax.{Relax}
use Rattle.row_tableau.specs.Relaxations.{form_of, relaxation_of}
use Rattle.row_tableau.specs.Dense.{HasFullLists}
use Rattle.row_tableau.specs.Tilts.{parts_of}
use Rattle.basic_solution.specs.Held.{Held, IsLawfulHeld, state, table}
use Rattle.basic_solution.specs.Slack.{IsSlackState}
use Rattle.basic_solution.proofs.ExchangeLemmas.{sided_of}
use Rattle.dual_simplex.proofs.HeldLemmas.{held_one}
use Rattle.dual_simplex.proofs.OneStartLemmas.{slack_agree}
use Rattle.dual_simplex.proofs.OneStateLemmas.{good_of}

module _ (relax : Relax) (s t : Held) (s_is : IsSlackState relax s) (t_is : IsSlackState relax t) (s_kept : IsLawfulHeld s) (t_kept : IsLawfulHeld t) where
  abbrev p : Relaxation
  p = relaxation_of relax

  abbrev costs : ℕ → ℕ → ℚ
  costs = parts_of relax.kind (form_of relax) relax.region.now

  agree : Agree p.columns p.activities (table s) (table t)
  agree = slack_agree relax s t s_is t_is

  same_part : (k : ℕ) → k < p.columns → (q : ℕ) → reduced_parts p costs (table s) k q ≡ reduced_parts p costs (table t) k q
  same_part k w q = one_reduced p (table s) (table t) s_is.is.tableau.is t_is.is.tableau.is (λ i v. (i, v, agree.basic i v)) (costs q) k k w w (agree.nonbasic k w)

  -- a lawful state's variables stand where its reduced costs ask them to
  stands_alike : (k : ℕ) → k < p.columns → get_or s.stands k Free ≡ get_or t.stands k Free
  stands_alike k w =
      asked_once (reduced_parts p costs (table t) k) ((state s).stand k) ((state t).stand k)
      (asked_same (reduced_parts p costs (table s) k) (reduced_parts p costs (table t) k) ((state s).stand k) (same_part k w) ((good_of relax s s_is.is s_kept).lawful.lawful k w))
      ((good_of relax t t_is.is t_kept).lawful.lawful k w)

  pub slack_one : HasFullLists s.tableau → HasFullLists t.tableau → s ≡ t
  slack_one s_full t_full =
      held_one relax s t
      (record { is = s_is.is; sided = sided_of s s_kept; full = s_full })
      (record { is = t_is.is; sided = sided_of t t_kept; full = t_full })
      agree (λ k w. stands_alike k (subst (λ n. k < n) s_is.is.tableau.columns w))
