-- The lists that a state gives stand in the order of the variables.
use Rattle.std.specs.Prelude.{◌≡◌, ℕ, ◌+◌, ◌<◌, if◌then◌else◌, List, [], length, get_or, Option}
use Rattle.std.proofs.Common.{sym, ap, subst, ◌∙◌, inl, inr, ⊎_elim, arith}
use Rattle.std.proofs.lemmas.Bool.{cases_lt, lt-ltb, le-ltb}
use Rattle.std.proofs.lemmas.List.{get_or-map, length-map}
use Rattle.frac128.specs.Rational.{ℚ}
use Rattle.lp_model.specs.Formulations.{Formulation}
use Rattle.lp_model.specs.Program.{Point}
use Rattle.lp_model.specs.Regions.{Path}
use Rattle.lp_model.specs.declared.types.Basis.{Basis}
use Rattle.lp_model.specs.declared.types.Var.{Var}
use Rattle.lp_model.specs.declared.types.Var.TheVariants.{Col, Row, Cut}
use Rattle.leaf_dual.specs.Dual.{Multipliers}
use Rattle.branch_tree.specs.declared.node.NodeResult.{NodeResult}
use Rattle.branch_tree.specs.declared.node.NodeResult.TheVariants.{Close, Split, PointAndClose, Keep}
use Rattle.row_tableau.specs.Dense.{Dense}
use Rattle.row_tableau.specs.Variables.{variable_number, numbers}
use Rattle.basic_solution.specs.Held.{Held}
use Rattle.basic_solution.specs.Lists.{AreRising, IsBasisOf, names, HasMultiplier, AreListedMultipliers}
use Rattle.node_solve.specs.Works.{IsDone, IsFound}
use Rattle.list_order.specs.Order.{IsBefore, Rise, AreInOrder, IsBasisInOrder, IsResultInOrder}

-- ---- variables by their numbers

-- the number of a variable that is there
abbrev HasNumber : Dense → Var → ℕ → Type 0
HasNumber t (Col col) n = (col.0 < t.columns) × (n ≡ col.0)
HasNumber t (Row row) n = (row.0 < t.rows) × (n ≡ t.columns + row.0)
HasNumber t (Cut cut) n = n ≡ t.columns + (t.rows + cut.0)

-- one that is not there has a number past the last
module _ (t : Dense) where
  abbrev last : ℕ
  last = t.columns + t.activities

  number : (v : Var) → variable_number t v < last → HasNumber t v (variable_number t v)
  number (Col c) below = ⊎_elim
      (λ w. (w, ap (λ b. if b then c.0 else last) (lt-ltb c.0 t.columns w)))
      (λ past. let e : variable_number t (Col c) ≡ last = ap (λ b. if b then c.0 else last) (le-ltb c.0 t.columns past) in absurd (omega (arith, below, e)))
      (cases_lt c.0 t.columns)
  number (Row r) below = ⊎_elim
      (λ w. (w, ap (λ b. if b then t.columns + r.0 else last) (lt-ltb r.0 t.rows w)))
      (λ past. let e : variable_number t (Row r) ≡ last = ap (λ b. if b then t.columns + r.0 else last) (le-ltb r.0 t.rows past) in absurd (omega (arith, below, e)))
      (cases_lt r.0 t.rows)
  number (Cut k) below = ⊎_elim
      (λ w. ap (λ b. if b then t.columns + (t.rows + k.0) else last) (lt-ltb (t.rows + k.0) t.activities w))
      (λ past. let e : variable_number t (Cut k) ≡ last = ap (λ b. if b then t.columns + (t.rows + k.0) else last) (le-ltb (t.rows + k.0) t.activities past) in absurd (omega (arith, below, e)))
      (cases_lt (t.rows + k.0) t.activities)

-- of two that are there the one with the lesser number is before the other
before : (t : Dense) (v w : Var) (m n : ℕ) → HasNumber t v m → HasNumber t w n → m < n → IsBefore v w
before t (Col j) (Col k) m n (inside, is) (within, same) less = omega (arith, is, same, less)
before t (Col j) (Row k) m n here there less = tt
before t (Col j) (Cut k) m n here there less = tt
before t (Row i) (Col k) m n (inside, is) (within, same) less = absurd (omega (arith, is, within, same, less))
before t (Row i) (Row k) m n (inside, is) (within, same) less = omega (arith, is, same, less)
before t (Row i) (Cut k) m n here there less = tt
before t (Cut i) (Col k) m n is (within, same) less = absurd (omega (arith, is, within, same, less))
before t (Cut i) (Row k) m n is (within, same) less = absurd (omega (arith, is, within, same, less))
before t (Cut i) (Cut k) m n is same less = omega (arith, is, same, less)

-- a list whose numbers rise
rise-by : (P : ℕ → Type 0) (t : Dense) (vs : List Var) → AreRising P (t.columns + t.activities) (numbers t vs) → Rise vs
rise-by P t vs h = λ i j d less below.
    let size : length (numbers t vs) ≡ length vs = length-map vs (variable_number t) in
    let high : i < length vs = omega (arith, less, below) in
    let first : get_or (numbers t vs) i 0 ≡ variable_number t (get_or vs i d) = get_or-map (variable_number t) vs i d 0 high in
    let second : get_or (numbers t vs) j 0 ≡ variable_number t (get_or vs j d) = get_or-map (variable_number t) vs j d 0 below in
    let early = h.rises i j less (omega (arith, size, below)) in
    let one = h.within i (omega (arith, size, high)) in
    let other = h.within j (omega (arith, size, below)) in
    before t (get_or vs i d) (get_or vs j d) (variable_number t (get_or vs i d)) (variable_number t (get_or vs j d))
    (number t (get_or vs i d) (omega (arith, first, one))) (number t (get_or vs j d) (omega (arith, second, other))) (omega (arith, first, second, early))

-- ---- what a state gives

pub basis-order : (s : Held) (basis : Basis) → IsBasisOf s basis → IsBasisInOrder basis
basis-order s basis h = record { basic = rise-by _ s.tableau basis.basic h.basic; high = rise-by _ s.tableau basis.high h.high }

-- the multipliers that are listed are those that are not 0
mult-order : (s : Held) (y : ℕ → ℚ) (list : Multipliers) → AreListedMultipliers s y list → AreInOrder list
mult-order s y list h = record {
  rise = rise-by (HasMultiplier s y) s.tableau (names list) h.named;
  nonzero = λ k d below.
      let size : length (names list) ≡ length list = length-map list (λ (m : Var × ℚ). m.0) in
      let more : length (numbers s.tableau (names list)) ≡ length (names list) = length-map (names list) (variable_number s.tableau) in
      let there : k < length (names list) = omega (arith, size, below) in
      let is : get_or (numbers s.tableau (names list)) k 0 ≡ variable_number s.tableau (get_or list k d).0 =
      get_or-map (variable_number s.tableau) (names list) k d.0 0 there ∙ ap (variable_number s.tableau) (get_or-map (λ (m : Var × ℚ). m.0) list k d d.0 below) in
      let some = (h.named.holds k (omega (arith, more, there))).1 in
      λ none. some (ap y is ∙ sym (h.values k d below) ∙ none);
}

none-order : AreInOrder []
none-order = record { rise = λ i j d less below. absurd (omega (arith, below)); nonzero = λ k d below. absurd (omega (arith, below)) }

found-order : (F : Formulation) (path : Path) (s : Held) (x : Point) (mult : Multipliers) (basis : Basis) → IsFound F path s x mult basis → AreInOrder mult × IsBasisInOrder basis
found-order F path s x mult basis h = (mult-order s _ mult h.optimum.mult, basis-order s basis h.basis_is)

pub done-order : (F : Formulation) (path : Path) (target : Option ℚ) (s : Held) (result : NodeResult) → IsDone F path target s result → IsResultInOrder result
done-order F path target s (PointAndClose x mult basis) (found, rest) = found-order F path s x mult basis found
done-order F path target s (Split col v mult basis) (x, (found, rest)) = found-order F path s x mult basis found
done-order F path target s (Close mult farkas basis) (inl h) = (mult-order s _ mult h.infeasible.mult, mult-order s _ farkas h.infeasible.farkas, basis-order s basis h.basis_is)
done-order F path target s (Close mult farkas basis) (inr (x, (found, (none, rest)))) =
    let both = found-order F path s x mult basis found in
    (both.0, subst AreInOrder (sym none) none-order, both.1)
done-order F path target s (Keep point basis) h = absurd h
