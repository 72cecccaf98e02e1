-- The points and the nodes are read first, and make a search with the model and the cuts.
use Rattle.std.specs.Prelude.{◌≡◌, ℕ, Bool, true, false, if◌then◌else◌, List, codes, Result, Ok, Err}
use Rattle.std.proofs.Common.{refl, sym, subst, length}
use Rattle.frac128.specs.Rational.{ℚ}
use Rattle.lp_model.specs.Program.{Program}
use Rattle.lp_model.specs.declared.types.Derivation.{Derivation}
use Rattle.branch_tree.specs.declared.node.NodeData.{NodeData}
use Rattle.search_data.specs.Trees.{is_one_tree}
use Rattle.search_data.specs.declared.data.SearchData.{SearchData}
use Rattle.serde_json.specs.Data.{Data}
use Rattle.warm_file.specs.Faults.{Fault, fault, behind, at_key}
use Rattle.warm_file.specs.private.Faults.{SaysFault}
use Rattle.warm_file.specs.Values.{member}
use Rattle.warm_file.specs.declared.fault.WarmFault.{WarmFault}
use Rattle.warm_file.specs.declared.rising.Counts.{Counts}
use Rattle.warm_file.proofs.Saying.{says-first, says-next}
use Rattle.warm_file.specs.Searches.{points_of, nodes_of, nodes_told, with_nodes, counts, whole_search, tree_of}
use Rattle.warm_file.specs.private.Searches.{one_tree_of}
use Rattle.warm_file.specs.private.Joined.{both_of}

abbrev Parts : Type 0
Parts = List (List ℚ) × List NodeData

abbrev one_tree : ℕ → List (List ℚ) → List NodeData → Result Parts Fault
one_tree version points nodes = if is_one_tree nodes then both_of (Ok points) (nodes_told version nodes) else at_key (codes "nodes") (fault 12)

module _ (version : ℕ) (M : Program) (cuts : List Derivation) where
  abbrev with_parts : Parts → Result SearchData Fault
  with_parts p = Ok (record { model = M; cuts = cuts; points = p.0; nodes = p.1 })

  by_told : (points : List (List ℚ)) (told : Result (List NodeData) Fault) → behind told (with_nodes M cuts points) ≡ behind {A = Parts} {B = SearchData} (both_of (Ok points) told) with_parts
  unfolding behind
  by_told points (Ok nodes) = refl
  by_told points (Err f) = refl

  by_test : (points : List (List ℚ)) (told : Result (List NodeData) Fault) (b : Bool)
      → (if b then behind told (with_nodes M cuts points) else at_key (codes "nodes") (fault 12))
      ≡ behind {A = Parts} {B = SearchData} (if b then both_of (Ok points) told else at_key (codes "nodes") (fault 12)) with_parts
  unfolding behind at_key
  by_test points told true = by_told points told
  by_test points told false = refl

  by_parts : (p : Result (List (List ℚ)) Fault) (n : Result (List NodeData) Fault)
      → behind p (λ points. behind n (λ nodes. whole_search version M cuts points nodes)) ≡ behind (behind p (λ points. behind n (λ nodes. one_tree version points nodes))) with_parts
  unfolding behind
  by_parts (Err f) n = refl
  by_parts (Ok points) (Err f) = refl
  by_parts (Ok points) (Ok nodes) = by_test points (nodes_told version nodes) (is_one_tree nodes)

  tree_is : (d : Data) → tree_of version M cuts d ≡ behind (one_tree_of version (counts M cuts) d) with_parts
  unfolding tree_of one_tree_of
  tree_is d = by_parts (member (codes "points") (points_of (length M.cols)) d) (member (codes "nodes") (nodes_of version (counts M cuts)) d)

  pub tree-told : (d : Data) (n : Counts) (p : Parts) → n ≡ counts M cuts → one_tree_of version n d ≡ Ok p → SaysFault (tree_of version M cuts d) (Ok (record { model = M; cuts = cuts; points = p.0; nodes = p.1 }))
  tree-told d n p n_is said =
      let r : Result SearchData WarmFault = Ok (record { model = M; cuts = cuts; points = p.0; nodes = p.1 }) in
      subst (λ (s : Result SearchData Fault). SaysFault s r) (sym (tree_is d))
      (says-next (one_tree_of version (counts M cuts) d) with_parts p r (subst (λ k. one_tree_of version k d ≡ Ok p) n_is said) refl)

  pub tree-fault : (d : Data) (n : Counts) (e : WarmFault) → n ≡ counts M cuts → SaysFault (one_tree_of version n d) (Err e) → SaysFault (tree_of version M cuts d) (Err e)
  tree-fault d n e n_is said =
      subst (λ (s : Result SearchData Fault). SaysFault s (Err e)) (sym (tree_is d))
      (says-first (one_tree_of version (counts M cuts) d) with_parts e (subst (λ k. SaysFault (one_tree_of version k d) (Err e)) n_is said))
