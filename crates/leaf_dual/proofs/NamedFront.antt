-- An answer with the cuts up to the last one that a multiplier is of is one with all cuts.
-- Idea: the others come one by one, and each is a further cut that no multiplier is of.
use Rattle.std.specs.Prelude.{◌≡◌, ℕ, zero, suc, ◌+◌, ◌-◌, ◌<◌, ◌≤◌, IsTrue, List, [], ◌∷◌, ◌++◌, length, take, get_or, Result}
use Rattle.std.specs.declared.cmp.Ordering.{Ordering}
use Rattle.std.specs.declared.cmp.Ordering.TheVariants.{Less, Equal, Greater}
use Rattle.std.specs.Ordering.{MatchOrdering, nat_cmp, is_lt, ord_max}
use Rattle.std.proofs.Common.{refl, sym, ap, subst, ◌∙◌, cond, arith}
use Rattle.std.proofs.lemmas.Cmp.{ranked}
use Rattle.std.proofs.lemmas.List.{length-take-le, take_all, take_more}
use Rattle.std.proofs.lemmas.List.Elements.{All-push}
use Rattle.frac128.specs.Rational.{ℚ}
use Rattle.lp_model.specs.Program.{Program}
use Rattle.lp_model.specs.Regions.{Path}
use Rattle.lp_model.specs.Formulations.{formulation}
use Rattle.lp_model.specs.declared.types.CutRow.{CutRow}
use Rattle.lp_model.specs.declared.types.Var.{Var}
use Rattle.lp_model.specs.declared.types.WideStep.{WideStep}
use Rattle.lp_model.proofs.ElementLemmas.{element}
use Rattle.leaf_dual.specs.declared.dual.LagValue.{LagValue}
use Rattle.leaf_dual.specs.Dual.{Multipliers, is_cut}
use Rattle.leaf_dual.specs.Answers.{IsLagAnswer, IsFarkasAnswer}
use Rattle.leaf_dual.specs.Laws.{NamesNoCut}
use Rattle.leaf_dual.proofs.FurtherCut.{further_cut}

-- ---- the last cut that is named

pub max-above : (a b : ℕ) → (a ≤ ord_max nat_cmp a b) × (b ≤ ord_max nat_cmp a b)
max-above a b = by (nat_cmp b a) (ranked b a (nat_cmp b a) refl)
  where
    by : (o : Ordering) → MatchOrdering o (b < a) (b ≡ a) (a < b) → (a ≤ cond (is_lt o) a b) × (b ≤ cond (is_lt o) a b)
    by Less h = (omega arith, omega arith)
    by Equal h = (omega arith, omega arith)
    by Greater h = (omega arith, omega arith)

-- one multiplier more, past the cut of which the end is
pub named-more : (mult : Multipliers) (i end more : ℕ) (m : Var × ℚ) → i < length mult → m ≡ get_or mult i m → ((k : ℕ) → end ≤ k → NamesNoCut (take i mult) k) → end ≤ more → ((k : ℕ) → more ≤ k → ¬ IsTrue (is_cut m.0 k))
    → (k : ℕ) → more ≤ k → NamesNoCut (take (i + 1) mult) k
named-more mult i end more m below is before grows own k past =
    let next : take (i + 1) mult ≡ take i mult ++ m ∷ [] = take_more mult i m below ∙ ap (λ (n : Var × ℚ). take i mult ++ n ∷ []) (sym is) in
    subst (λ (ms : Multipliers). NamesNoCut ms k) (sym next)
    (All-push (λ (n : Var × ℚ). ¬ IsTrue (is_cut n.0 k)) (take i mult) m (before k (omega arith)) (own k past))

-- ---- the cuts behind it

module _ (mult : Multipliers) (P : List CutRow → Type 0) (step : (some : List CutRow) (c : CutRow) → NamesNoCut mult (length some) → P some → P (some ++ c ∷ [])) (cuts : List CutRow) where
  -- from the first cuts to all of them, where no multiplier is of one of the d others
  all-more : (d n : ℕ) → n + d ≡ length cuts → ((k : ℕ) → n ≤ k → k < length cuts → NamesNoCut mult k) → P (take n cuts) → P cuts
  all-more zero n whole none h = subst P (take_all n cuts (omega (arith, whole))) h
  all-more (suc d) n whole none h =
      let below : n < length cuts = omega (arith, whole) in
      let el = element cuts n below in
      let long : length (take n cuts) ≡ n = length-take-le n cuts (omega arith) in
      let next : take (n + 1) cuts ≡ take n cuts ++ el.0 ∷ [] = take_more cuts n el.0 below ∙ ap (λ (c : CutRow). take n cuts ++ c ∷ []) (sym el.1) in
      all-more d (n + 1) (omega (arith, whole)) (λ k past within. none k (omega arith) within)
      (subst P (sym next) (step (take n cuts) el.0 (subst (NamesNoCut mult) (sym long) (none n (omega arith) below)) h))

module _ (M : Program) (path : Path) (mult : Multipliers) (r : Result LagValue WideStep) (cuts front : List CutRow) (is : front ≡ take (length front) cuts) (few : length front ≤ length cuts) (behind : (k : ℕ) → length front ≤ k → k < length cuts → NamesNoCut mult k) where
  pub lag-front : IsLagAnswer (formulation M front) path mult r → IsLagAnswer (formulation M cuts) path mult r
  lag-front h =
      all-more mult (λ some. IsLagAnswer (formulation M some) path mult r) (λ some c none k. (further_cut (formulation M some) c path mult none r).0.0 k) cuts
      (length cuts - length front) (length front) (omega (arith, few)) behind (subst (λ some. IsLagAnswer (formulation M some) path mult r) is h)

  pub farkas-front : IsFarkasAnswer (formulation M front) path mult r → IsFarkasAnswer (formulation M cuts) path mult r
  farkas-front h =
      all-more mult (λ some. IsFarkasAnswer (formulation M some) path mult r) (λ some c none k. (further_cut (formulation M some) c path mult none r).1.0 k) cuts
      (length cuts - length front) (length front) (omega (arith, few)) behind (subst (λ some. IsFarkasAnswer (formulation M some) path mult r) is h)
