-- What stands in order in a relaxation still does by the names of the pool.
use Rattle.std.specs.Prelude.{◌≡◌, ◌≢◌, ℕ, ◌<◌, List, [], ◌∷◌, length, map, get_or, pos, All}
use Rattle.std.proofs.Common.{refl, sym, ap, subst, arith}
use Rattle.std.proofs.lemmas.List.{get_or-map, length-map}
use Rattle.frac128.specs.Rational.{ℚ, int}
use Rattle.lp_model.specs.Formulations.{Formulation, formulation}
use Rattle.lp_model.specs.Program.{Program}
use Rattle.lp_model.specs.declared.types.Basis.{Basis}
use Rattle.lp_model.specs.declared.types.CutRow.{CutRow}
use Rattle.lp_model.specs.declared.types.Var.{Var}
use Rattle.lp_model.specs.declared.types.Var.TheVariants.{Col, Row, Cut}
use Rattle.leaf_dual.specs.Dual.{Multipliers}
use Rattle.branch_tree.specs.declared.node.NodeResult.{NodeResult}
use Rattle.branch_tree.specs.declared.node.NodeResult.TheVariants.{Close, Split, PointAndClose, Keep}
use Rattle.search_parts.specs.Lists.{IsThere, IsActivityThere, AreMultipliers, IsBasis}
use Rattle.node_solve.specs.Laws.{AreAt, HasResultLists}
use Rattle.node_solve.specs.Places.{var_in_pool, basis_in_pool, mult_in_pool, result_in_pool}
use Rattle.list_order.specs.Order.{IsBefore, Rise, AreInOrder, IsBasisInOrder, IsResultInOrder}

-- an activity that is there is a variable that is
is-there : (F : Formulation) (v : Var) → IsActivityThere F v → IsThere F v
is-there F (Col col) h = absurd h
is-there F (Row row) h = h
is-there F (Cut cut) h = h

module _ (M : Program) (pool cuts : List CutRow) (places : List ℕ) (at : AreAt pool cuts places) where
  abbrev F : Formulation
  F = formulation M cuts

  abbrev f : Var → Var
  f = var_in_pool places

  before-in-pool : (v w : Var) → IsThere F w → IsBefore v w → IsBefore (f v) (f w)
  before-in-pool (Col j) (Col k) there h = h
  before-in-pool (Col j) (Row k) there h = tt
  before-in-pool (Col j) (Cut k) there h = tt
  before-in-pool (Row i) (Col k) there h = absurd h
  before-in-pool (Row i) (Row k) there h = h
  before-in-pool (Row i) (Cut k) there h = tt
  before-in-pool (Cut i) (Col k) there h = absurd h
  before-in-pool (Cut i) (Row k) there h = absurd h
  before-in-pool (Cut i) (Cut k) there h = let e : length places ≡ length cuts = at.each in at.rising i.0 k.0 0 h (omega (arith, e, there))

  rise-in-pool : (vs : List Var) → All (IsThere F) vs → Rise vs → Rise (map f vs)
  rise-in-pool vs there h = λ i j d less below.
      let size : length (map f vs) ≡ length vs = length-map vs f in
      let late : j < length vs = omega (arith, size, below) in
      let early : i < length vs = omega (arith, less, late) in
      subst (λ v. IsBefore v (get_or (map f vs) j d)) (sym (get_or-map f vs i d d early))
      (subst (IsBefore (f (get_or vs i d))) (sym (get_or-map f vs j d d late)) (before-in-pool (get_or vs i d) (get_or vs j d) (there j d late) (h i j d less late)))

  names-in-pool : (mult : Multipliers) → map (λ (m : Var × ℚ). m.0) (mult_in_pool places mult) ≡ map f (map (λ (m : Var × ℚ). m.0) mult)
  names-in-pool [] = refl
  names-in-pool (m ∷ mult) = ap (λ vs. f m.0 ∷ vs) (names-in-pool mult)

  mult-in-pool : (mult : Multipliers) → AreMultipliers F mult → AreInOrder mult → AreInOrder (mult_in_pool places mult)
  mult-in-pool mult there h = record {
    rise = subst Rise (sym (names-in-pool mult)) (rise-in-pool (map (λ (m : Var × ℚ). m.0) mult) (λ k d below. is-there F _ (there.each k d below)) h.rise);
    nonzero = λ k d below.
        let size : length (mult_in_pool places mult) ≡ length mult = length-map mult (λ (m : Var × ℚ). (f m.0, m.1)) in
        let within : k < length mult = omega (arith, size, below) in
        subst (λ (m : Var × ℚ). m.1 ≢ int (pos 0)) (sym (get_or-map (λ (m : Var × ℚ). (f m.0, m.1)) mult k d d within)) (h.nonzero k d within);
  }

  pub basis-in-pool : (b : Basis) → IsBasis F b → IsBasisInOrder b → IsBasisInOrder (basis_in_pool places b)
  basis-in-pool b there h = record { basic = rise-in-pool b.basic there.basic.each h.basic; high = rise-in-pool b.high there.high.each h.high }

  pub in-pool : (result : NodeResult) → HasResultLists F result → IsResultInOrder result → IsResultInOrder (result_in_pool places result)
  in-pool (Close mult farkas basis) there (rise, low, stand) = (mult-in-pool mult there.mult rise, mult-in-pool farkas there.farkas low, basis-in-pool basis there.basis stand)
  in-pool (Split col v mult basis) there (rise, stand) = (mult-in-pool mult there.mult rise, basis-in-pool basis there.basis stand)
  in-pool (PointAndClose x mult basis) there (rise, stand) = (mult-in-pool mult there.mult rise, basis-in-pool basis there.basis stand)
  in-pool (Keep point basis) there h = absurd there
