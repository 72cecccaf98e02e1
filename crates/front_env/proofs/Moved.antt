-- The data of a search can be made one of another model with as many rows and columns.
use Rattle.std.specs.Prelude.{◌<◌, List, length, map}
use Rattle.std.proofs.Common.{arith}
use Rattle.std.proofs.lemmas.List.Elements.{All-weaker}
use Rattle.frac128.specs.Rational.{ℚ}
use Rattle.lp_model.specs.Program.{Program}
use Rattle.lp_model.specs.Formulations.{formulation}
use Rattle.lp_model.specs.declared.types.Basis.{Basis}
use Rattle.lp_model.specs.declared.types.CutRow.{CutRow}
use Rattle.lp_model.specs.declared.types.Var.{Var}
use Rattle.lp_model.specs.declared.types.Var.TheVariants.{Col, Row, Cut}
use Rattle.leaf_dual.specs.Dual.{Multipliers}
use Rattle.branch_tree.specs.declared.node.NodeData.{NodeData}
use Rattle.branch_tree.specs.declared.node.NodeData.TheVariants.{Split, Leaf}
use Rattle.search_parts.specs.Lists.{IsThere, IsActivityThere, NamesOnce, AreMultipliers, IsBasis}
use Rattle.search_data.specs.declared.data.SearchData.{SearchData}
use Rattle.search_file.specs.Saved.{uncounted, IsRestorableNode, IsRestorable}
use Rattle.front_env.specs.private.Going.{AreAlike}

module _ (M N : Program) (alike : AreAlike M N) (cuts : List CutRow) where
  there : (v : Var) → IsThere (formulation M cuts) v → IsThere (formulation N cuts) v
  there (Col col) h = let w : col.0 < length M.cols = h in omega (arith, w, alike.cols)
  there (Row row) h = let w : row.0 < length M.rows = h in omega (arith, w, alike.rows)
  there (Cut cut) h = h

  activity : (v : Var) → IsActivityThere (formulation M cuts) v → IsActivityThere (formulation N cuts) v
  activity (Col col) h = h
  activity (Row row) h = let w : row.0 < length M.rows = h in omega (arith, w, alike.rows)
  activity (Cut cut) h = h

  names : (P Q : Var → Type 0) → ((v : Var) → P v → Q v) → (vs : List Var) → NamesOnce P vs → NamesOnce Q vs
  names P Q w vs h = record { each = All-weaker P Q w vs h.each; once = h.once }

  multipliers : (mult : Multipliers) → AreMultipliers (formulation M cuts) mult → AreMultipliers (formulation N cuts) mult
  multipliers mult h = names (IsActivityThere (formulation M cuts)) (IsActivityThere (formulation N cuts)) activity (map (λ (m : Var × ℚ). m.0) mult) h

  basis : (b : Basis) → IsBasis (formulation M cuts) b → IsBasis (formulation N cuts) b
  basis b h = record {
    basic = names (IsThere (formulation M cuts)) (IsThere (formulation N cuts)) there b.basic h.basic;
    high = names (IsThere (formulation M cuts)) (IsThere (formulation N cuts)) there b.high h.high;
  }

  pub node : (n : NodeData) → IsRestorableNode (formulation M cuts) n → IsRestorableNode (formulation N cuts) n
  node (Split col v mult b) h = record { narrow = h.narrow; below = h.below; mult_is = multipliers mult h.mult_is; basis_is = basis b h.basis_is }
  node (Leaf kept) h = record { mult = multipliers kept.mult h.mult; farkas = multipliers kept.farkas h.farkas; basis = basis kept.basis h.basis }

pub moved_restorable : (s : SearchData) (M : Program) → AreAlike s.model M → IsRestorable s → IsRestorable (record { model = M; cuts = s.cuts; points = s.points; nodes = s.nodes })
moved_restorable s M alike h = record {
  few_cuts = h.few_cuts;
  few_points = h.few_points;
  tree = h.tree;
  nodes = All-weaker (IsRestorableNode (formulation s.model (map uncounted s.cuts))) (IsRestorableNode (formulation M (map uncounted s.cuts))) (node s.model M alike (map uncounted s.cuts)) s.nodes h.nodes;
}
