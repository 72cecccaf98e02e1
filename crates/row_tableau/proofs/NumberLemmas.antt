-- Coefficients that are written as numbers.
use Rattle.std.specs.Prelude.{◌≡◌, ℕ, ◌≤◌, List, get_or, set, replicate, ℤ, pos}
use Rattle.std.proofs.Common.{sym, ap, subst, ◌∙◌, arith, ⊎_elim}
use Rattle.std.proofs.lemmas.Bool.{cases_lt}
use Rattle.std.proofs.lemmas.Int.{ints}
use Rattle.std.proofs.lemmas.List.{map-set, get_or-replicate, get_or_past, length-replicate}
use Rattle.frac128.specs.Rational.{ℚ, int}
use Rattle.frac128.specs.LowestTerms.{quotient_of}
use Rattle.table_entries.specs.WholeSteps.{IsShort, AreShort, whole_number_at}
use Rattle.table_entries.specs.Listed.{over}
use Rattle.table_entries.proofs.ListedLemmas.{over_at, whole_over_one}

-- a fraction that is a number stands in the list
pub over_set : (ns : List ℤ) (at : ℕ) (w n : ℤ) (x : ℚ) → w ≡ n → x ≡ quotient_of n (pos 1) → over (pos 1) (set ns at w) ≡ set (over (pos 1) ns) at x
over_set ns at w n x w_is x_is = map-set (λ m. quotient_of m (pos 1)) ns at w ∙ ap (λ y. set (over (pos 1) ns) at y) (ap (λ m. quotient_of m (pos 1)) w_is ∙ sym x_is)

no_number : (n at : ℕ) → whole_number_at (replicate n (pos 0)) at ≡ pos 0
no_number n at = ⊎_elim (get_or-replicate n at (pos 0) (pos 0)) (λ past. get_or_past (replicate n (pos 0)) at (pos 0) (subst (λ k. k ≤ at) (sym (length-replicate n (pos 0))) past)) (cases_lt at n)

pub nothing_written : (n at : ℕ) → get_or (over (pos 1) (replicate n (pos 0))) at (int (pos 0)) ≡ int (pos 0)
nothing_written n at = over_at (pos 1) (replicate n (pos 0)) (omega (arith, ints)) at ∙ ap (λ m. quotient_of m (pos 1)) (no_number n at) ∙ sym (whole_over_one (pos 0))

pub none_short : (n : ℕ) → AreShort (replicate n (pos 0))
none_short n at within = subst IsShort (sym (no_number n at)) (omega arith)
