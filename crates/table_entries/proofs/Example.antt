-- A lawful state and a step from it: one column, at least 0, and one activity equal to it, at least 1. The costs are 0, so the perturbation decides.
use Rattle.std.specs.Prelude.{◌≡◌, ℕ, ◌<◌, [], pos, Some, None}
use Rattle.std.proofs.Common.{refl, sym, ap, subst, arith, inr}
use Rattle.frac128.specs.Rational.{ℚ, int, ◌<ℚ◌}
use Rattle.frac128.specs.RationalRing.{ring, reads_ℚ}
use Rattle.frac128.specs.RationalOrder.{zero-<ℚ-one, <ℚ_irrefl, linear_strict}
use Rattle.table_entries.specs.Relaxation.{Relaxation, slack_table, reduced_cost}
use Rattle.table_entries.specs.States.{IsPositive, IsLess, Separates, perturbed, State, IsGood, reduced_parts, key, IsStep, stepped, ratio}
use Rattle.table_entries.specs.declared.stand.Stand.TheVariants.{Low}
use Rattle.table_entries.proofs.Pivot.{IsTable-slack}
use Rattle.table_entries.proofs.Arranged.{IsArranged-slack}
use Rattle.table_entries.proofs.Walk.{Separates-perturbed, key_greater}

abbrev p : Relaxation
p = record { columns = 1; activities = 1; coefficient = λ i j. int (pos 1); low = λ v. Some (int (pos v)); high = λ v. None; cost = λ v. int (pos 0) }

abbrev parts : ℕ → ℕ → ℚ
parts = perturbed p (λ v. int (pos 1)) (λ v. v)

separates : Separates p parts
separates = Separates-perturbed p (λ v. int (pos 1)) (λ v. v) (λ v sided e. <ℚ_irrefl (subst (λ t. int (pos 0) <ℚ t) e zero-<ℚ-one)) (λ u v e. e)

abbrev st : State
st = record { table = slack_table p; stand = λ k. Low; at = λ k. int (pos 0) }

alone : (k : ℕ) → k < 1 → k ≡ 0
alone k q = omega (arith, q)

reduced : IsPositive (reduced_parts p parts (slack_table p) 0)
reduced = record {
  first = 1;
  before = λ q w. subst (λ u. reduced_cost p (slack_table p) (parts u) 0 ≡ int (pos 0)) (sym (alone q w)) (ring [] (search reads_ℚ depth 9) tt);
  above = linear_strict [] zero-<ℚ-one (search reads_ℚ depth 9) tt;
}

good : IsGood p parts st
good = record {
  table = IsTable-slack p;
  arranged = IsArranged-slack p;
  lawful = record {
    stands = λ k q. ap (λ v. Some (int (pos v))) (alone k q);
    lawful = λ k q. subst (λ v. IsPositive (reduced_parts p parts (slack_table p) v)) (sym (alone k q)) reduced;
  };
}

step : IsStep p parts st (stepped st 0 0 Low (int (pos 1)))
step = record {
  row = 0;
  row_within = omega arith;
  side = Low;
  bound = int (pos 1);
  outside = (refl, linear_strict [] zero-<ℚ-one (search reads_ℚ depth 9) tt);
  first = λ i s b q out. omega arith;
  place = 0;
  enters = record {
    within = omega arith;
    may = linear_strict [] zero-<ℚ-one (search reads_ℚ depth 9) tt;
    least = λ k q may. inr ((λ r. ap (λ v. ratio p parts st 0 Low v r) (sym (alone k q))), omega arith);
  };
  is = refl;
}

key_is_greater : IsLess (key p parts st) (key p parts (stepped st 0 0 Low (int (pos 1))))
key_is_greater = key_greater p parts separates st (stepped st 0 0 Low (int (pos 1))) good step
