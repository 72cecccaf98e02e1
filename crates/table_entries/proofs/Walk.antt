-- Steps one after the other: no state comes twice.
use Rattle.std.specs.Prelude.{◌≡◌, ◌≢◌, ℕ, zero, suc, ◌+◌, ◌-◌, ◌<◌, ◌≤◌, pos}
use Rattle.std.proofs.Common.{sym, ap, subst, ◌∙◌, arith}
use Rattle.frac128.specs.Rational.{ℚ, int}
use Rattle.table_entries.specs.Relaxation.{Relaxation}
use Rattle.table_entries.specs.States.{IsLess, IsFree, Separates, perturbed, State, IsGood, key, IsStep}
use Rattle.table_entries.proofs.SumBelowLaws.{if_same, if_other}
use Rattle.table_entries.proofs.Pivot.{IsTable-pivoted}
use Rattle.table_entries.proofs.Arranged.{IsArranged-pivoted}
use Rattle.table_entries.proofs.CostParts.{less_trans, not_less_self}
use Rattle.table_entries.proofs.Step.{pivot_some, lawful_step, key_step}

-- perturbed costs separate the variables with sides, where each of these has a tilt and each variable a rank of its own
pub Separates-perturbed : (p : Relaxation) (tilt : ℕ → ℚ) (rank : ℕ → ℕ) → ((v : ℕ) → ¬ (IsFree p v) → tilt v ≢ int (pos 0)) → ((u v : ℕ) → rank u ≡ rank v → u ≡ v) → Separates p (perturbed p tilt rank)
Separates-perturbed p tilt rank tilted once = record {
  own_part = λ v. suc (rank v);
  own_some = λ v sided e. tilted v sided (sym (if_same (rank v) (tilt v) (int (pos 0))) ∙ e);
  own_alone = λ v u sided other. if_other (rank u) (rank v) (tilt u) (int (pos 0)) (λ e. other (once u v e));
}

module _ (p : Relaxation) (parts : ℕ → ℕ → ℚ) (separates : Separates p parts) where
  pub good_step : (st after : State) → IsGood p parts st → IsStep p parts st after → IsGood p parts after
  good_step st after good step =
      let some = pivot_some p parts separates st good.arranged good.lawful step.row step.row_within step.side step.bound step.outside step.place step.enters in
      subst (IsGood p parts) (sym step.is) (record {
        table = IsTable-pivoted p st.table step.row step.place step.row_within step.enters.within some good.table;
        arranged = IsArranged-pivoted p st.table step.row step.place step.row_within step.enters.within good.arranged;
        lawful = lawful_step p parts separates st good.arranged good.lawful step.row step.row_within step.side step.bound step.outside step.place step.enters;
      })

  pub key_greater : (st after : State) → IsGood p parts st → IsStep p parts st after → IsLess (key p parts st) (key p parts after)
  key_greater st after good step =
      subst (λ a. IsLess (key p parts st) (key p parts a)) (sym step.is)
      (key_step p parts separates st good.arranged good.lawful step.row step.row_within step.side step.bound step.outside step.place step.enters)

  -- n steps from a good state
  module _ (n : ℕ) (states : ℕ → State) (good : IsGood p parts (states 0)) (steps : (t : ℕ) → t < n → IsStep p parts (states t) (states (suc t))) where
    pub good_all : (t : ℕ) → t ≤ n → IsGood p parts (states t)
    good_all zero within = good
    good_all (suc t) within = good_step (states t) (states (suc t)) (good_all t (omega arith)) (steps t (omega arith))

    pub key_rises : (t : ℕ) (more : ℕ) → more + t < n → IsLess (key p parts (states t)) (key p parts (states (suc (more + t))))
    key_rises t zero within =
        let here : 0 + t ≡ t = omega arith in
        subst (λ u. IsLess (key p parts (states t)) (key p parts (states (suc u)))) (sym here) (key_greater (states t) (states (suc t)) (good_all t (omega arith)) (steps t (omega arith)))
    key_rises t (suc more) within =
        let longer : suc (more + t) ≡ suc more + t = omega arith in
        less_trans _ _ _ (key_rises t more (omega arith))
        (subst (λ u. IsLess (key p parts (states (suc (more + t)))) (key p parts (states (suc u)))) longer
        (key_greater (states (suc (more + t))) (states (suc (suc (more + t)))) (good_all (suc (more + t)) (omega arith)) (steps (suc (more + t)) (omega arith))))

    -- no state comes twice, nor one with the key of an earlier one
    pub no_state_twice : (t u : ℕ) → t < u → u ≤ n → states t ≢ states u
    no_state_twice t u less within e =
        let way : suc ((u - suc t) + t) ≡ u = omega arith in
        let rise : IsLess (key p parts (states t)) (key p parts (states (suc ((u - suc t) + t)))) = key_rises t (u - suc t) (omega arith) in
        not_less_self (key p parts (states t)) (subst (λ s. IsLess (key p parts (states t)) (key p parts s)) (ap states way ∙ sym e) rise)
