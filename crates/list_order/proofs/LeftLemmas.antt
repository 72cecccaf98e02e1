-- What is left of lists in order stands in order, where the variables that are left keep it.
use Rattle.std.specs.Prelude.{◌≡◌, ◌≢◌, ◌<◌, Bool, true, false, List, [], ◌∷◌, length, map, filter, get_or, pos, All}
use Rattle.std.proofs.Common.{refl, sym, ap, subst, arith}
use Rattle.std.proofs.lemmas.List.{get_or-map, length-map}
use Rattle.std.proofs.lemmas.List.Elements.{All-map, All-filter, filter_passes}
use Rattle.std.proofs.lemmas.List.Kept.{AllPairs-filter}
use Rattle.frac128.specs.Rational.{ℚ, int}
use Rattle.lp_model.specs.declared.types.Basis.{Basis}
use Rattle.lp_model.specs.declared.types.Var.{Var}
use Rattle.leaf_dual.specs.Dual.{Multipliers}
use Rattle.list_order.specs.Order.{IsBefore, Rise, AreInOrder, IsBasisInOrder}

pub none-rise : Rise []
none-rise i j d less below = absurd (omega (arith, below))

pub none-order : AreInOrder []
none-order = record { rise = none-rise; nonzero = λ k d below. absurd (omega (arith, below)) }

module _ (p : Var → Bool) (f : Var → Var) (keeps : (v w : Var) → p v ≡ true → p w ≡ true → IsBefore v w → IsBefore (f v) (f w)) where
  rise-map : (vs : List Var) → All (λ v. p v ≡ true) vs → Rise vs → Rise (map f vs)
  rise-map vs all h = λ i j d less below.
      let size : length (map f vs) ≡ length vs = length-map vs f in
      let late : j < length vs = omega (arith, size, below) in
      let early : i < length vs = omega (arith, less, late) in
      subst (λ v. IsBefore v (get_or (map f vs) j d)) (sym (get_or-map f vs i d d early))
      (subst (IsBefore (f (get_or vs i d))) (sym (get_or-map f vs j d d late)) (keeps (get_or vs i d) (get_or vs j d) (all i d early) (all j d late) (h i j d less late)))

  pub rise-left : (vs : List Var) → Rise vs → Rise (map f (filter p vs))
  rise-left vs h = rise-map (filter p vs) (filter_passes p vs) (AllPairs-filter IsBefore p vs h)

  names-left : (mult : Multipliers) → map (λ (m : Var × ℚ). m.0) (map (λ (m : Var × ℚ). (f m.0, m.1)) (filter (λ (m : Var × ℚ). p m.0) mult)) ≡ map f (filter p (map (λ (m : Var × ℚ). m.0) mult))
  names-left [] = refl
  names-left (m ∷ mult) = by (p m.0) refl (names-left mult)
    where
      by : (b : Bool) → p m.0 ≡ b → map (λ (d : Var × ℚ). d.0) (map (λ (d : Var × ℚ). (f d.0, d.1)) (filter (λ (d : Var × ℚ). p d.0) mult)) ≡ map f (filter p (map (λ (d : Var × ℚ). d.0) mult))
          → map (λ (d : Var × ℚ). d.0) (map (λ (d : Var × ℚ). (f d.0, d.1)) (filter (λ (d : Var × ℚ). p d.0) (m ∷ mult))) ≡ map f (filter p (m.0 ∷ map (λ (d : Var × ℚ). d.0) mult))
      by true e h = rw e (ap (λ l. f m.0 ∷ l) h)
      by false e h = rw e h

  pub mult-left : (mult : Multipliers) → AreInOrder mult → AreInOrder (map (λ (m : Var × ℚ). (f m.0, m.1)) (filter (λ (m : Var × ℚ). p m.0) mult))
  mult-left mult h = record {
    rise = subst Rise (sym (names-left mult)) (rise-left (map (λ (m : Var × ℚ). m.0) mult) h.rise);
    nonzero =
        All-map (λ (m : Var × ℚ). m.1 ≢ int (pos 0)) (λ (m : Var × ℚ). (f m.0, m.1)) (filter (λ (m : Var × ℚ). p m.0) mult)
        (All-filter (λ (m : Var × ℚ). p m.0) (λ (m : Var × ℚ). m.1 ≢ int (pos 0)) mult h.nonzero);
  }

  pub basis-left : (b : Basis) → IsBasisInOrder b → IsBasisInOrder (record { basic = map f (filter p b.basic); high = map f (filter p b.high) })
  basis-left b h = record { basic = rise-left b.basic h.basic; high = rise-left b.high h.high }
