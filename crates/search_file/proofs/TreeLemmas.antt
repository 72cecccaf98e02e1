-- The tree that is made of restorable nodes fits the model.
use Rattle.std.specs.Prelude.{◌≡◌, ℕ, ◌+◌, ◌<◌, List, [], ◌++◌, length, map, All, ℤ, pos, ◌+ℤ◌, ◌<ℤ◌}
use Rattle.std.proofs.Common.{sym, ap, ◌∙◌, arith}
use Rattle.std.proofs.lemmas.Int.{ints}
use Rattle.std.proofs.lemmas.List.{length-map}
use Rattle.std.proofs.lemmas.List.Elements.{All-head, All-tail, All-nil, All-weaker}
use Rattle.frac128.specs.Rational.{ℚ}
use Rattle.frac128.specs.Range.{IsNarrow, largest}
use Rattle.lp_model.specs.Program.{Program}
use Rattle.lp_model.specs.Formulations.{Formulation, formulation}
use Rattle.lp_model.specs.declared.types.Basis.{Basis}
use Rattle.lp_model.specs.declared.types.CutRow.{CutRow}
use Rattle.lp_model.specs.declared.types.Derivation.{Derivation}
use Rattle.lp_model.specs.declared.types.Var.{Var}
use Rattle.lp_model.specs.declared.types.Var.TheVariants.{Col, Row, Cut}
use Rattle.leaf_dual.specs.Dual.{Multipliers}
use Rattle.branch_tree.specs.Tree.{Leaf, Split, HasNarrowSplits, node_count}
use Rattle.branch_tree.specs.Plain.{open_data}
use Rattle.branch_tree.specs.Preorder.{DataTree, data_nodes, numbered_from, HasNodeBound}
use Rattle.branch_tree.specs.declared.node.NodeData.{NodeData}
use Rattle.branch_tree.specs.declared.node.NodeData.TheVariants.{Split as SplitNode, Leaf as LeafNode}
use Rattle.branch_tree.proofs.PreorderLemmas.{apart, each_split-numbered}
use Rattle.search_parts.specs.Lists.{IsThere, IsActivityThere, NamesOnce, AreMultipliers, IsBasis, HasNodeLists}
use Rattle.sound_searches.specs.Sound.{IsSoundTree}
use Rattle.search_file.specs.Lawful.{lawful_tree}
use Rattle.search_file.specs.Saved.{uncounted, IsRestorableNode}
use Rattle.search_file.specs.private.Saved.{IsPoolFrom}
use Rattle.search_file.proofs.LawfulLemmas.{all-lawful, lawful-splits}

-- ---- lists name as much where there are as many cuts

module _ (M : Program) (cs ds : List CutRow) (same : length cs ≡ length ds) where
  activity : (v : Var) → IsActivityThere (formulation M cs) v → IsActivityThere (formulation M ds) v
  activity (Col col) h = h
  activity (Row row) h = h
  activity (Cut cut) h = let w : cut.0 < length cs = h in omega (arith, w, same)

  there : (v : Var) → IsThere (formulation M cs) v → IsThere (formulation M ds) v
  there (Col col) h = h
  there (Row row) h = h
  there (Cut cut) h = let w : cut.0 < length cs = h in omega (arith, w, same)

  names : (P Q : Var → Type 0) → ((v : Var) → P v → Q v) → (vs : List Var) → NamesOnce P vs → NamesOnce Q vs
  names P Q w vs h = record { each = All-weaker P Q w vs h.each; once = h.once }

  multipliers : (mult : Multipliers) → AreMultipliers (formulation M cs) mult → AreMultipliers (formulation M ds) mult
  multipliers mult h = names (IsActivityThere (formulation M cs)) (IsActivityThere (formulation M ds)) activity (map (λ (m : Var × ℚ). m.0) mult) h

  basis : (b : Basis) → IsBasis (formulation M cs) b → IsBasis (formulation M ds) b
  basis b h = record {
    basic = names (IsThere (formulation M cs)) (IsThere (formulation M ds)) there b.basic h.basic;
    high = names (IsThere (formulation M cs)) (IsThere (formulation M ds)) there b.high h.high;
  }

  pub restorable-same : (n : NodeData) → IsRestorableNode (formulation M cs) n → IsRestorableNode (formulation M ds) n
  restorable-same (SplitNode col v mult b) h = record { narrow = h.narrow; below = h.below; mult_is = multipliers mult h.mult_is; basis_is = basis b h.basis_is }
  restorable-same (LeafNode kept) h = record { mult = multipliers kept.mult h.mult; farkas = multipliers kept.farkas h.farkas; basis = basis kept.basis h.basis }

-- as many cuts are stated as there are in their pool
pub stated-many : (M : Program) (cuts : List Derivation) (pool : List CutRow) → IsPoolFrom M cuts pool → length (map uncounted cuts) ≡ length pool
stated-many M cuts pool h = length-map cuts uncounted ∙ sym (ap length h.derivations) ∙ length-map pool (λ (c : CutRow). c.from)

-- ---- what holds of restorable nodes

module _ (F : Formulation) where
  no-multipliers : AreMultipliers F []
  no-multipliers = record { each = All-nil (IsActivityThere F); once = λ i m d below within. absurd (omega arith) }

  -- the open leaf of a restorable split is restorable
  pub merged-restorable : (j : ℕ) (v : ℤ) (mult : Multipliers) (b : Basis) → IsRestorableNode F (SplitNode (record { 0 = j }) v mult b) → IsRestorableNode F (LeafNode (open_data mult b))
  merged-restorable j v mult b h = record { mult = h.mult_is; farkas = no-multipliers; basis = h.basis_is }

  pub node-bound : (n : NodeData) → IsRestorableNode F n → HasNodeBound n
  node-bound (SplitNode col v mult b) h = h.below
  node-bound (LeafNode kept) h = tt

  next-narrow : (v : ℤ) → IsNarrow v → v <ℤ pos largest → IsNarrow (v +ℤ pos 1)
  next-narrow v narrow below = omega (arith, ints)

  narrow-splits : (t : DataTree) → All (IsRestorableNode F) (data_nodes t) → HasNarrowSplits t
  narrow-splits (Leaf kept) h = tt
  narrow-splits (Split kept j v left right) h =
      let n : NodeData = SplitNode (record { 0 = j }) v kept.mult kept.basis in
      let here : IsRestorableNode F n = All-head (IsRestorableNode F) n (data_nodes left ++ data_nodes right) h in
      let below = apart (IsRestorableNode F) (data_nodes left) (data_nodes right) (All-tail (IsRestorableNode F) n (data_nodes left ++ data_nodes right) h) in
      ((here.narrow, next-narrow v here.narrow here.below), (narrow-splits left below.0, narrow-splits right below.1))

  node-lists : (k : ℕ) (t : DataTree) → All (IsRestorableNode F) (data_nodes t) → HasNodeLists F (numbered_from k t)
  node-lists k (Leaf kept) h = All-head (IsRestorableNode F) (LeafNode kept) [] h
  node-lists k (Split kept j v left right) h =
      let n : NodeData = SplitNode (record { 0 = j }) v kept.mult kept.basis in
      let here : IsRestorableNode F n = All-head (IsRestorableNode F) n (data_nodes left ++ data_nodes right) h in
      let below = apart (IsRestorableNode F) (data_nodes left) (data_nodes right) (All-tail (IsRestorableNode F) n (data_nodes left ++ data_nodes right) h) in
      (record { mult = here.mult_is; basis = here.basis_is }, (node-lists (k + 1) left below.0, node-lists (k + 1 + node_count left) right below.1))

  pub restored-sound : (t : DataTree) → All (IsRestorableNode F) (data_nodes t) → IsSoundTree F (numbered_from 1 (lawful_tree F.model t))
  restored-sound t h =
      let all = all-lawful F.model (IsRestorableNode F) merged-restorable t h in
      record {
        lawful = each_split-numbered _ 1 (lawful_tree F.model t) (lawful-splits F.model t);
        narrow = each_split-numbered _ 1 (lawful_tree F.model t) (narrow-splits (lawful_tree F.model t) all);
        lists = node-lists 1 (lawful_tree F.model t) all;
      }
