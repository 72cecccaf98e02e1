-- What is answered at a state is one: the point, the multipliers, and the lists of the basis.
use Rattle.std.specs.Prelude.{◌≡◌, ℕ, ◌<◌, List, pos}
use Rattle.std.proofs.Common.{refl, sym, subst, ◌∙◌}
use Rattle.frac128.specs.Rational.{ℚ, int}
use Rattle.lp_model.specs.Program.{Point}
use Rattle.lp_model.specs.declared.types.Basis.{Basis}
use Rattle.lp_model.specs.declared.types.Var.{Var}
use Rattle.table_entries.specs.Relaxation.{HasNoCrossedSides}
use Rattle.table_entries.specs.States.{farkas_weights}
use Rattle.row_tableau.specs.Variables.{numbers}
use Rattle.row_tableau.specs.Answers.{IsBasic}
use Rattle.basic_solution.specs.Held.{Held, IsSided, relaxation, state, variables}
use Rattle.basic_solution.specs.Lists.{AreRising, StandsHigh, IsBasisOf, IsPointOfHeld, HasMultiplier, AreListedMultipliers, names}
use Rattle.dual_simplex.specs.Solves.{IsLpInfeasible}
use Rattle.dual_simplex.proofs.HeldLemmas.{same_list}
use Rattle.dual_simplex.proofs.OneMoveLemmas.{out_one}
use Rattle.dual_simplex.proofs.RisingLemmas.{one_rising, one_variables, one_values}

module _ (s : Held) where
  pub one_point : (x y : Point) → IsPointOfHeld s x → IsPointOfHeld s y → x ≡ y
  one_point x y a b = same_list (int (pos 0)) x y (a.size ∙ sym b.size) (λ j q. let w : j < s.tableau.columns = subst (λ n. j < n) a.size q in a.numbers j w ∙ sym (b.numbers j w))

  pub one_names : (P : ℕ → Type 0) (xs ys : List Var) → AreRising P (variables s) (numbers s.tableau xs) → AreRising P (variables s) (numbers s.tableau ys) → xs ≡ ys
  one_names P xs ys x_are y_are =
      one_variables s.tableau xs ys x_are.within y_are.within (one_rising P P (variables s) (numbers s.tableau xs) (numbers s.tableau ys) (λ v w h. h) (λ v w h. h) x_are y_are)

  pub one_multipliers : (y : ℕ → ℚ) (ms ns : List (Var × ℚ)) → AreListedMultipliers s y ms → AreListedMultipliers s y ns → ms ≡ ns
  one_multipliers y ms ns a b = one_values s.tableau y y (λ v w. refl) ms ns a.named.within (one_names (HasMultiplier s y) (names ms) (names ns) a.named b.named) a.values b.values

  pub one_basis : (b c : Basis) → IsBasisOf s b → IsBasisOf s c → b ≡ c
  one_basis b c b_is c_is =
      let basic : b.basic ≡ c.basic = one_names (IsBasic s.tableau) b.basic c.basic b_is.basic c_is.basic in
      let high : b.high ≡ c.high = one_names (StandsHigh s) b.high c.high b_is.high c_is.high in
      λ i. record { basic = basic i; high = high i }

  module _ (sided : IsSided s) (uncrossed : HasNoCrossedSides (relaxation s)) where
    pub one_farkas : (weights other ms ns : List (Var × ℚ)) → IsLpInfeasible s weights ms → IsLpInfeasible s other ns → weights ≡ other
    one_farkas weights other ms ns a b =
        let one = out_one s sided uncrossed a.blocked.row b.blocked.row a.blocked.side b.blocked.side a.blocked.out b.blocked.out in
        one_multipliers (farkas_weights (relaxation s) (state s) b.blocked.row b.blocked.side) weights other
        (subst (λ X. X) (λ i. AreListedMultipliers s (farkas_weights (relaxation s) (state s) (one.row_is i) (one.side_is i)) weights) a.farkas) b.farkas
