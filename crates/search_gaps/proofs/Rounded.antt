-- Why the open leaf that goes first decides: its number q does not reach the best value t, and reaches a target T that is no higher. A closed
-- leaf whose number p is below t reaches t rounded up, so that the ceiling of q is below p; and T is no more than that ceiling.
use Rattle.std.specs.Prelude.{◌≡◌, ℤ, Bool, true, false, IsTrue}
use Rattle.std.proofs.Common.{refl, inl, inr}
use Rattle.frac128.specs.Rational.{ℚ, int, ◌≤ℚ◌, ◌<ℚ◌, ceil, IsWhole}
use Rattle.frac128.specs.RationalOrder.{≤ℚ_trans, <ℚ-≤ℚ_trans, ≤ℚ_of_<ℚ, <ℚ_from_not, not_both_ℚ}
use Rattle.frac128.proofs.Rounding.{≤ℚ-int, ≤ℚ-ceil}
use Rattle.frac128.proofs.Integers.{int-≤ℚ-int}
use Rattle.lp_model.specs.Program.{Program, HasWholeObjective}
use Rattle.leaf_dual.specs.Dual.{Reaches, ReachesIn}
use Rattle.leaf_dual.specs.declared.dual.LagValue.TheVariants.{Num}

-- an integer below a ceiling is below the number
above-whole : (p : ℚ) (z : ℤ) → int z <ℚ int (ceil p) → int z <ℚ p
above-whole p z h = <ℚ_from_not (int z) p (λ (below : p ≤ℚ int z). not_both_ℚ ((int-≤ℚ-int (ceil p) z).1 ((≤ℚ-int p z).0 below)) h)

ceil-rises : (q p : ℚ) → q ≤ℚ p → int (ceil q) ≤ℚ int (ceil p)
ceil-rises q p h = (int-≤ℚ-int (ceil q) (ceil p)).1 ((≤ℚ-int q (ceil p)).0 (≤ℚ_trans h (≤ℚ-ceil p)))

reached-ceil : (q T : ℚ) (whole : Bool) → Reaches (Num q) T whole → T ≤ℚ int (ceil q)
reached-ceil q T whole (inl h) = ≤ℚ_trans h (≤ℚ-ceil q)
reached-ceil q T whole (inr h) = h.2

never : {P : Type 0} → IsTrue false → P
never h = absurd (let f : false ≡ true = h in cc)

module _ (M : Program) (t T q : ℚ) (lower : T ≤ℚ t) (reaches : ReachesIn M (Num q) T) (short : ¬ ReachesIn M (Num q) t) where
  ceil-below : HasWholeObjective M 1 → IsWhole t → int (ceil q) <ℚ t
  ceil-below whole is = <ℚ_from_not (int (ceil q)) t (λ (h : t ≤ℚ int (ceil q)). short (inr (whole, inr (refl, is, h))))

  target-ceil : T ≤ℚ int (ceil q)
  target-ceil = by reaches
    where
      by : ReachesIn M (Num q) T → T ≤ℚ int (ceil q)
      by (inl h) = reached-ceil q T false h
      by (inr h) = reached-ceil q T true h.1

  pub closed-reaches : (p : ℚ) → ReachesIn M (Num p) t → ReachesIn M (Num p) T
  closed-reaches p (inl (inl h)) = inl (inl (≤ℚ_trans lower h))
  closed-reaches p (inl (inr h)) = never h.0
  closed-reaches p (inr (whole, inl h)) = inl (inl (≤ℚ_trans lower h))
  closed-reaches p (inr (whole, inr h)) = inl (inl (≤ℚ_trans target-ceil (≤ℚ_of_<ℚ (above-whole p (ceil q) (<ℚ-≤ℚ_trans (ceil-below whole h.1) h.2)))))

  pub open-reaches : (p : ℚ) → q ≤ℚ p → ReachesIn M (Num p) T
  open-reaches p h = by reaches
    where
      by : ReachesIn M (Num q) T → ReachesIn M (Num p) T
      by (inl (inl r)) = inl (inl (≤ℚ_trans r h))
      by (inl (inr r)) = never r.0
      by (inr (whole, inl r)) = inl (inl (≤ℚ_trans r h))
      by (inr (whole, inr r)) = inr (whole, inr (refl, r.1, ≤ℚ_trans r.2 (ceil-rises q p h)))
