-- Where what is written of a tree is read without fault, it is that tree.
use Rattle.std.specs.Prelude.{◌≡◌, List, [], ◌∷◌, pos, All, Result, Ok}
use Rattle.std.proofs.Common.{ap, ◌∙◌, arith}
use Rattle.std.proofs.lemmas.List.Elements.{All-nil}
use Rattle.frac128.specs.Rational.{ℚ, int}
use Rattle.frac128.specs.Range.{Fits}
use Rattle.lp_model.specs.Limits.{node_limit}
use Rattle.lp_model.specs.Program.{Program}
use Rattle.lp_model.specs.declared.types.Derivation.{Derivation}
use Rattle.lp_model.specs.declared.types.Var.{Var}
use Rattle.branch_tree.specs.Preorder.{SplitData}
use Rattle.branch_tree.specs.declared.node.NodeData.{NodeData}
use Rattle.branch_tree.specs.declared.node.NodeData.TheVariants.{Split, Leaf}
use Rattle.search_data.specs.Trees.{is_one_tree}
use Rattle.serde_json.specs.Data.{Data, null}
use Rattle.node_differences.specs.Told.{node_lists, told_node, told_nodes, rebuilt}
use Rattle.node_differences.proofs.KeptLaws.{each-difference}
use Rattle.node_differences.proofs.TreeLaws.{nodes-again}
use Rattle.warm_file.specs.Faults.{Fault, or_fault, behind, at_key}
use Rattle.warm_file.specs.Values.{list_of, at_most_items}
use Rattle.warm_file.specs.declared.rising.Counts.{Counts}
use Rattle.warm_file.specs.Searches.{is_told, node_of, stated_nodes, nodes_told, with_nodes, whole_search}
use Rattle.warm_file.proofs.Inversions.{at_most-ok}
use Rattle.warm_writer.specs.Written.{node_json, tree_json}
use Rattle.warm_writer.specs.Writable.{HasNarrowSplit, NodeFits}
use Rattle.warm_writer.proofs.Alone.{IsAlone, alone-is, alone-few, alone-then}
use Rattle.warm_writer.proofs.NodesAlone.{node-alone}
use Rattle.warm_writer.proofs.TreeTold.{CanBeTold, all-read}

abbrev HasRoom : Var × ℚ → Type 0
HasRoom e = Fits e.1

abbrev FitLists : SplitData → Type 0
FitLists l = All HasRoom l.mult

abbrev IsPlain : NodeData → Type 0
IsPlain d = HasNarrowSplit d × NodeFits d

zero-fits : Fits (int (pos 0))
unfolding int
zero-fits = record { numerator = omega arith; denominator = omega arith }

own-fit : (d : NodeData) → IsPlain d → FitLists (node_lists d)
own-fit (Split col v mult basis) p = p.1
own-fit (Leaf kept) p = p.1.0

told-plain : (above : SplitData) (d : NodeData) → IsPlain d → IsPlain (told_node above d)
told-plain above (Split col v mult basis) p = (p.0, each-difference HasRoom above.mult mult (λ k e lt. zero-fits) p.1)
told-plain above (Leaf kept) p = (p.0, (each-difference HasRoom above.mult kept.mult (λ k e lt. zero-fits) p.1.0, p.1.1))

module _ (n : Counts) where
  abbrev states : List NodeData → Data → Result NodeData Fault
  states = at_most_items node_limit (λ before. node_of (is_told 2 before) n)

  refuses : (before : List NodeData) (a : NodeData) → ¬ (states before null ≡ Ok a)
  unfolding node_of
  refuses before a e = let m = (at_most-ok node_limit (λ b. node_of (is_told 2 b) n) before null a e).1 in absurd (cc)

  alone : (before : List NodeData) (above : SplitData) (d : NodeData) → FitLists above → IsPlain d → IsAlone (states before (node_json (told_node above d))) (told_node above d)
  alone before above d h p =
      let t = told-plain above d p in
      alone-few node_limit (λ b. node_of (is_told 2 b) n) before (node_json (told_node above d)) (told_node above d) (node-alone (is_told 2 before) n (told_node above d) t.0 t.1)

  pub tree-read : (ds read : List NodeData) → All IsPlain ds → list_of states (tree_json ds) ≡ Ok read → All CanBeTold ds × (read ≡ told_nodes [] ds)
  unfolding list_of behind or_fault
  tree-read ds read h e =
      let r = all-read FitLists IsPlain (All-nil HasRoom) own-fit states refuses alone [] ds [] read tt h e in
      (r.told, r.is)

-- the nodes that were read are those that were written
pub whole-alone : (M : Program) (cuts : List Derivation) (points : List (List ℚ)) (ds read : List NodeData) → All CanBeTold ds → read ≡ told_nodes [] ds
    → IsAlone (whole_search 2 M cuts points read) (record { model = M; cuts = cuts; points = points; nodes = ds })
unfolding nodes_told behind at_key
whole-alone M cuts points ds read told is =
    let again : stated_nodes (rebuilt 0 [] read) ≡ Ok ds = ap (λ ns. stated_nodes (rebuilt 0 [] ns)) is ∙ ap stated_nodes (nodes-again ds told) in
    alone-then (is_one_tree read) _ _ _ (alone-is _ _ (ap (λ said. behind said (with_nodes M cuts points)) again))
