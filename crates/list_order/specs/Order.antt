-- The order of variables in the lists of a search: columns before rows before cuts, each by its place.
--     Rise vs              each variable is before those behind it
--     AreInOrder mult      so are those of multipliers, of which none is 0
--     IsResultInOrder r    so are those of each list of the result
use Rattle.std.specs.Prelude.{◌≢◌, ◌<◌, List, map, pos, All, AllPairs}
use Rattle.frac128.specs.Rational.{ℚ, int}
use Rattle.lp_model.specs.declared.types.Basis.{Basis}
use Rattle.lp_model.specs.declared.types.Var.{Var}
use Rattle.lp_model.specs.declared.types.Var.TheVariants.{Col, Row, Cut}
use Rattle.leaf_dual.specs.Dual.{Multipliers}
use Rattle.branch_tree.specs.declared.node.NodeResult.{NodeResult}
use Rattle.branch_tree.specs.declared.node.NodeResult.TheVariants.{Close, Split, PointAndClose, Keep}

abbrev pub IsBefore : Var → Var → Type 0
IsBefore (Col j) (Col k) = j.0 < k.0
IsBefore (Col j) (Row k) = Unit {0}
IsBefore (Col j) (Cut k) = Unit {0}
IsBefore (Row i) (Col k) = ⊥
IsBefore (Row i) (Row k) = i.0 < k.0
IsBefore (Row i) (Cut k) = Unit {0}
IsBefore (Cut i) (Col k) = ⊥
IsBefore (Cut i) (Row k) = ⊥
IsBefore (Cut i) (Cut k) = i.0 < k.0

abbrev pub Rise : List Var → Type 0
Rise vs = AllPairs IsBefore vs

pub record AreInOrder (mult : Multipliers) : Type 0 where
  pub rise : Rise (map (λ (m : Var × ℚ). m.0) mult)
  pub nonzero : All (λ (m : Var × ℚ). m.1 ≢ int (pos 0)) mult

pub record IsBasisInOrder (basis : Basis) : Type 0 where
  pub basic : Rise basis.basic
  pub high : Rise basis.high

abbrev pub IsResultInOrder : NodeResult → Type 0
IsResultInOrder (Close mult farkas basis) = AreInOrder mult × AreInOrder farkas × IsBasisInOrder basis
IsResultInOrder (Split col v mult basis) = AreInOrder mult × IsBasisInOrder basis
IsResultInOrder (PointAndClose point mult basis) = AreInOrder mult × IsBasisInOrder basis
IsResultInOrder (Keep point basis) = IsBasisInOrder basis
