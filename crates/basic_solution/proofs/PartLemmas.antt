-- Parts of reduced costs.
use Rattle.std.specs.Prelude.{◌≡◌, ℕ, zero, suc, ◌+◌, ◌-◌, ◌<◌, ◌≤◌, [], ◌∷◌, pos, if◌then◌else◌, get_or, length, Result, Ok, Err}
use Rattle.std.proofs.Common.{refl, sym, ap, subst, ◌∙◌, arith}
use Rattle.std.proofs.lemmas.Bool.{lt-ltb, le-ltb}
use Rattle.std.proofs.lemmas.List.{get_or_default}
use Rattle.frac128.specs.Rational.{ℚ, int, ◌*ℚ◌}
use Rattle.frac128.specs.RationalRing.{ring, reads_ℚ}
use Rattle.table_entries.specs.declared.stand.Stand.{Stand}
use Rattle.table_entries.specs.declared.stand.Stand.TheVariants.{Free}
use Rattle.table_entries.specs.Relaxation.{reduced_cost}
use Rattle.table_entries.specs.States.{sign}
use Rattle.table_entries.proofs.SumBelowLaws.{if_same, if_other}
use Rattle.table_entries.proofs.ReducedCosts.{reduced_alone-basic, reduced_alone-nonbasic}
use Rattle.basic_solution.specs.Held.{Held, IsSided, relaxation, parts, table, variables, own_cost}
use Rattle.basic_solution.specs.Numbers.{IsPartAnswer}
use Rattle.basic_solution.specs.private.Numbers.{IsReducedCostAnswer}
use Rattle.lp_model.specs.declared.types.WideStep.{WideStep}

pub tilt_read : (s : Held) → IsSided s → (v : ℕ) → v < variables s → (x : Stand) → x ≡ get_or s.tilt v x → x ≡ get_or s.tilt v Free
tilt_read s sided v within x is = is ∙ get_or_default s.tilt v x Free (let e = sided.shape.tilt_length in subst (λ n. v < n) (sym e) within)

-- ---- a cost of one variable alone

module _ (s : Held) (sided : IsSided s) (place v : ℕ) (place_within : place < s.tableau.columns) where
  abbrev tilt_sign : ℚ
  tilt_sign = sign (get_or s.tilt v Free)

  own_is : own_cost s v v ≡ tilt_sign
  own_is = if_same v tilt_sign (int (pos 0))

  none_else : (u : ℕ) → ¬ (u ≡ v) → own_cost s v u ≡ int (pos 0)
  none_else u other = if_other u v tilt_sign (int (pos 0)) other

  pub own_basic : (row : ℕ) → row < s.tableau.activities → (table s).basic row ≡ v → tilt_sign *ℚ (table s).entry row place ≡ reduced_cost (relaxation s) (table s) (own_cost s v) place
  own_basic row within e =
      sym (reduced_alone-basic (relaxation s) (table s) sided.table.arranged (own_cost s v) row place within place_within (λ u other. none_else u (λ w. other (w ∙ sym e)))
      ∙ ap (λ t. t *ℚ (table s).entry row place) (ap (own_cost s v) e ∙ own_is))

  pub own_here : (k : ℕ) → k ≡ place → (table s).nonbasic k ≡ v → tilt_sign *ℚ int (pos 1) ≡ reduced_cost (relaxation s) (table s) (own_cost s v) place
  own_here k same e =
      let here : (table s).nonbasic place ≡ v = ap (table s).nonbasic (sym same) ∙ e in
      ring (tilt_sign ∷ []) (search reads_ℚ) tt
      ∙ sym (reduced_alone-nonbasic (relaxation s) (table s) sided.table.arranged (own_cost s v) place place place_within place_within (λ u other. none_else u (λ w. other (w ∙ sym here)))
      ∙ ap (own_cost s v) here ∙ own_is)

  pub own_elsewhere : (k : ℕ) → ¬ (k ≡ place) → k < s.tableau.columns → (table s).nonbasic k ≡ v → int (pos 0) ≡ reduced_cost (relaxation s) (table s) (own_cost s v) place
  own_elsewhere k other within e =
      sym (reduced_alone-nonbasic (relaxation s) (table s) sided.table.arranged (own_cost s v) k place within place_within (λ u apart. none_else u (λ w. apart (w ∙ sym e)))
      ∙ none_else ((table s).nonbasic place) (λ w. other (sided.table.arranged.nonbasic_once k place within place_within (e ∙ sym w))))

-- ---- parts

module _ (s : Held) where
  pub part_is : (q : ℕ) → q < length s.order → (v : ℕ) → own_cost s (get_or s.order q 0) v ≡ parts s (suc q) v
  part_is q within v = ap (λ b. if b then own_cost s (get_or s.order q 0) v else int (pos 0)) (sym (lt-ltb q (length s.order) within))

  -- a part after the costs, counted from 1
  pub later_part : (part own place : ℕ) → ¬ (part ≡ 0) → part < length s.order + 1 → own ≡ get_or s.order (part - 1) 0
      → reduced_cost (relaxation s) (table s) (own_cost s own) place ≡ reduced_cost (relaxation s) (table s) (parts s part) place
  later_part zero own place some within is = absurd (some refl)
  later_part (suc q) own place some within is =
      let less : q < length s.order = omega (arith, within) in
      let back : suc q - 1 ≡ q = omega arith in
      ap (λ c. reduced_cost (relaxation s) (table s) c place) (λ i v. (ap (λ u. own_cost s u v) (is ∙ ap (λ k. get_or s.order k 0) back) ∙ part_is q less v) i)

  -- what a part of a reduced cost answers: that of the costs, and a later one
  costs_part : (place : ℕ) (r : Result ℚ WideStep) → IsReducedCostAnswer s place r → IsPartAnswer s place 0 r
  costs_part place (Ok x) h = h
  costs_part place (Err e) h = h

  pub first_answer : (place part : ℕ) (r : Result ℚ WideStep) → part ≡ 0 → IsReducedCostAnswer s place r → IsPartAnswer s place part r
  first_answer place part r none h = subst (λ q. IsPartAnswer s place q r) (sym none) (costs_part place r h)

  pub later_answer : (place part own : ℕ) (x : ℚ) → ¬ (part ≡ 0) → part < length s.order + 1 → own ≡ get_or s.order (part - 1) 0 → x ≡ reduced_cost (relaxation s) (table s) (own_cost s own) place
      → IsPartAnswer s place part (Ok x)
  later_answer place zero own x some within is e = absurd (some refl)
  later_answer place (suc q) own x some within is e = (tt, e ∙ later_part (suc q) own place some within is)

  pub turn_part : (turn own place : ℕ) → turn < length s.order → own ≡ get_or s.order turn 0 → reduced_cost (relaxation s) (table s) (own_cost s own) place ≡ reduced_cost (relaxation s) (table s) (parts s (suc turn)) place
  turn_part turn own place within is = ap (λ c. reduced_cost (relaxation s) (table s) c place) (λ i v. (ap (λ u. own_cost s u v) is ∙ part_is turn within v) i)

  pub parts_end : (q v : ℕ) → length s.order + 1 ≤ q → parts s q v ≡ int (pos 0)
  parts_end zero v past = absurd (omega (arith, past))
  parts_end (suc q) v past = ap (λ b. if b then own_cost s (get_or s.order q 0) v else int (pos 0)) (le-ltb q (length s.order) (omega (arith, past)))
