-- Lists of variables that are there, each once.
use Rattle.std.specs.Prelude.{◌≢◌, ◌<◌, List, length, map, All, AllPairs}
use Rattle.frac128.specs.Rational.{ℚ}
use Rattle.lp_model.specs.Formulations.{Formulation}
use Rattle.lp_model.specs.declared.types.Var.{Var}
use Rattle.lp_model.specs.declared.types.Var.TheVariants.{Col, Row, Cut}
use Rattle.lp_model.specs.declared.types.Basis.{Basis}
use Rattle.leaf_dual.specs.Dual.{Multipliers}
use Rattle.branch_tree.specs.Tree.{Leaf, Split}
use Rattle.branch_tree.specs.Plain.{SplitKept, Plain}
use Rattle.branch_tree.specs.declared.node.LeafData.{LeafData}

abbrev pub IsThere : Formulation → Var → Type 0
IsThere F (Col col) = col.0 < length F.model.cols
IsThere F (Row row) = row.0 < length F.model.rows
IsThere F (Cut cut) = cut.0 < length F.cuts

-- the activity of a row or of a cut
abbrev pub IsActivityThere : Formulation → Var → Type 0
IsActivityThere F (Col col) = ⊥
IsActivityThere F (Row row) = row.0 < length F.model.rows
IsActivityThere F (Cut cut) = cut.0 < length F.cuts

-- P holds of each variable, and each is named once
pub record NamesOnce (P : Var → Type 0) (vars : List Var) : Type 0 where
  pub each : All P vars
  pub once : AllPairs (λ a b. a ≢ b) vars

-- multipliers of rows and cuts that are there
abbrev pub AreMultipliers : Formulation → Multipliers → Type 0
AreMultipliers F mult = NamesOnce (IsActivityThere F) (map (λ (m : Var × ℚ). m.0) mult)

pub record IsBasis (F : Formulation) (basis : Basis) : Type 0 where
  pub basic : NamesOnce (IsThere F) basis.basic
  pub high : NamesOnce (IsThere F) basis.high

pub record HasLists (F : Formulation) (kept : LeafData) : Type 0 where
  pub mult : AreMultipliers F kept.mult
  pub farkas : AreMultipliers F kept.farkas
  pub basis : IsBasis F kept.basis

pub record HasSplitLists (F : Formulation) (kept : SplitKept) : Type 0 where
  pub mult : AreMultipliers F kept.mult
  pub basis : IsBasis F kept.basis

-- of each node
abbrev pub HasNodeLists : Formulation → Plain → Type 0
HasNodeLists F (Leaf l) = HasLists F l.kept
HasNodeLists F (Split kept j v left right) = HasSplitLists F kept × (HasNodeLists F left × HasNodeLists F right)
