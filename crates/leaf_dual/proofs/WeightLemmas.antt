-- Multipliers as numbers over a denominator, written one by one from the last to the first.
use Rattle.std.specs.Prelude.{◌≡◌, ℕ, ◌+◌, ◌<◌, Bool, true, false, if◌then◌else◌, nat_eq, List, [], ◌∷◌, length, get_or, set, drop, ℤ, pos, ◌<ℤ◌}
use Rattle.std.proofs.Common.{refl, sym, ap, subst, ◌∙◌, arith, eq-eqb}
use Rattle.std.proofs.lemmas.Bool.{eqb-true}
use Rattle.std.proofs.lemmas.List.{get_or-set_same, get_or-set_other, drop_more}
use Rattle.frac128.specs.Rational.{ℚ, int}
use Rattle.frac128.specs.LowestTerms.{quotient_of}
use Rattle.lp_model.specs.Cuts.{is_live}
use Rattle.lp_model.specs.declared.types.CutRow.{CutRow}
use Rattle.lp_model.specs.declared.types.Var.{Var}
use Rattle.leaf_dual.specs.Dual.{Multipliers, is_row_variable, multiplier, is_cut, cut_multiplier, cut_weight}
use Rattle.whole_sums.specs.Wholes.{IsShort, whole_number_at}
use Rattle.leaf_dual.specs.Wholes.{AreNumbersOver}
use Rattle.leaf_dual.specs.private.Wholes.{IsWrittenWhere, IsRowWritten, IsCutWritten}
use Rattle.whole_sums.proofs.SumLemmas.{nothing_over}

-- ---- one number

pub written_at : (d : ℤ) (x : ℚ) (numbers : List ℤ) (at k : ℕ) (n : ℤ) → at < length numbers → IsShort n → x ≡ quotient_of n d → IsWrittenWhere (nat_eq at k) d x (whole_number_at numbers k) (whole_number_at (set numbers at n) k)
written_at d x numbers at k n within n_short e = by (nat_eq at k) refl
  where
    by : (b : Bool) → nat_eq at k ≡ b → IsWrittenWhere b d x (whole_number_at numbers k) (whole_number_at (set numbers at n) k)
    by true same =
        let here : whole_number_at (set numbers at n) k ≡ n = subst (λ j. whole_number_at (set numbers at n) j ≡ n) (eqb-true at k same) (get_or-set_same numbers at n (pos 0) within) in
        (subst IsShort (sym here) n_short, ap (λ m. quotient_of m d) here ∙ sym e)
    by false apart = get_or-set_other numbers at k n (pos 0) (λ same. let t : nat_eq at k ≡ true = eq-eqb at k (sym same) in let f : true ≡ false = sym t ∙ apart in cc)

chosen : (b : Bool) (d : ℤ) (x y : ℚ) (old new : ℤ) → IsWrittenWhere b d x old new → IsShort old × (quotient_of old d ≡ y) → IsShort new × (quotient_of new d ≡ (if b then x else y))
chosen true d x y old new written before = written
chosen false d x y old new written before = (subst IsShort (sym written) before.0, ap (λ n. quotient_of n d) written ∙ before.1)

-- ---- the rows

module _ (d : ℤ) (mult : Multipliers) where
  pub rows_none : (numbers : List ℤ) → pos 0 <ℤ d → ((k : ℕ) → k < length numbers → whole_number_at numbers k ≡ pos 0) → AreNumbersOver d (multiplier []) numbers
  rows_none numbers positive zeros k below = (subst IsShort (sym (zeros k below)) (omega arith), nothing_over (whole_number_at numbers k) d positive (zeros k below))

  pub rows_more : (at : ℕ) (m : Var × ℚ) (old new : List ℤ) → at < length mult → m ≡ get_or mult at m → length new ≡ length old → ((k : ℕ) → k < length old → IsRowWritten d m.0 m.1 old new k)
      → AreNumbersOver d (multiplier (drop (at + 1) mult)) old → AreNumbersOver d (multiplier (drop at mult)) new
  rows_more at m old new within is size written before k below =
      let there : k < length old = omega (arith, below, size) in
      let next : drop at mult ≡ m ∷ drop (at + 1) mult = drop_more mult at m within ∙ ap (λ (n : Var × ℚ). n ∷ drop (at + 1) mult) (sym is) in
      subst (λ (ms : Multipliers). IsShort (whole_number_at new k) × (quotient_of (whole_number_at new k) d ≡ multiplier ms k)) (sym next)
      (chosen (is_row_variable m.0 k) d m.1 (multiplier (drop (at + 1) mult) k) (whole_number_at old k) (whole_number_at new k) (written k there) (before k there))

-- ---- the cuts

no_weight : (live : Bool) → int (pos 0) ≡ (if live then int (pos 0) else int (pos 0))
no_weight true = refl
no_weight false = refl

weight_step : (live named : Bool) (x y : ℚ) → (if (if live then named else false) then x else (if live then y else int (pos 0))) ≡ (if live then (if named then x else y) else int (pos 0))
weight_step true named x y = refl
weight_step false named x y = refl

module _ (d : ℤ) (cuts : List CutRow) (mult : Multipliers) where
  pub cuts_none : (numbers : List ℤ) → pos 0 <ℤ d → ((k : ℕ) → k < length numbers → whole_number_at numbers k ≡ pos 0) → AreNumbersOver d (cut_weight cuts []) numbers
  cuts_none numbers positive zeros k below = (subst IsShort (sym (zeros k below)) (omega arith), nothing_over (whole_number_at numbers k) d positive (zeros k below) ∙ no_weight (is_live cuts k))

  pub cuts_more : (at : ℕ) (m : Var × ℚ) (old new : List ℤ) → at < length mult → m ≡ get_or mult at m → length new ≡ length old → ((k : ℕ) → k < length old → IsCutWritten d cuts m.0 m.1 old new k)
      → AreNumbersOver d (cut_weight cuts (drop (at + 1) mult)) old → AreNumbersOver d (cut_weight cuts (drop at mult)) new
  cuts_more at m old new within is size written before k below =
      let there : k < length old = omega (arith, below, size) in
      let next : drop at mult ≡ m ∷ drop (at + 1) mult = drop_more mult at m within ∙ ap (λ (n : Var × ℚ). n ∷ drop (at + 1) mult) (sym is) in
      let here = chosen (if is_live cuts k then is_cut m.0 k else false) d m.1 (cut_weight cuts (drop (at + 1) mult) k) (whole_number_at old k) (whole_number_at new k) (written k there) (before k there) in
      subst (λ (ms : Multipliers). IsShort (whole_number_at new k) × (quotient_of (whole_number_at new k) d ≡ cut_weight cuts ms k)) (sym next)
      (here.0, here.1 ∙ weight_step (is_live cuts k) (is_cut m.0 k) m.1 (cut_multiplier (drop (at + 1) mult) k))

module _ (cuts : List CutRow) (cut k : ℕ) where
  -- of a cut that counts
  pub live_place : is_live cuts cut ≡ true → nat_eq cut k ≡ (if is_live cuts k then nat_eq cut k else false)
  live_place live = by (nat_eq cut k) refl
    where
      same_both : (b : Bool) → false ≡ (if b then false else false)
      same_both true = refl
      same_both false = refl

      by : (b : Bool) → nat_eq cut k ≡ b → b ≡ (if is_live cuts k then b else false)
      by true same = let here : is_live cuts k ≡ true = ap (is_live cuts) (sym (eqb-true cut k same)) ∙ live in rw here refl
      by false apart = same_both (is_live cuts k)

  -- of one that does not
  pub dead_place : is_live cuts cut ≡ false → false ≡ (if is_live cuts k then nat_eq cut k else false)
  dead_place dead = by (nat_eq cut k) refl
    where
      same_both : (b : Bool) → false ≡ (if b then false else false)
      same_both true = refl
      same_both false = refl

      by : (b : Bool) → nat_eq cut k ≡ b → false ≡ (if is_live cuts k then b else false)
      by true same = let here : is_live cuts k ≡ false = ap (is_live cuts) (sym (eqb-true cut k same)) ∙ dead in rw here refl
      by false apart = same_both (is_live cuts k)
