-- Texts of the first version by themselves: each list of each node stands whole, and no number in one is 0.
--     StatesFirst text s            such a text states the search
--     IsFirstFault text place code  its first fault
--     IsFirstAnswer text answer     the search that it states, its first fault, or want of memory
--     IsOfFirstVersion text         its `warm` is 1
use Rattle.std.specs.Prelude.{◌≡◌, ℕ, ◌==◌, if◌then◌else◌, List, length, codes, is_some, Result, Ok, Err}
use Rattle.frac128.specs.Rational.{ℚ}
use Rattle.lp_model.specs.Limits.{node_limit}
use Rattle.lp_model.specs.Program.{Program}
use Rattle.lp_model.specs.declared.types.Derivation.{Derivation}
use Rattle.branch_tree.specs.declared.node.NodeData.{NodeData}
use Rattle.branch_tree.specs.declared.node.NodeData.TheVariants.{Split, Leaf}
use Rattle.search_data.specs.Trees.{is_one_tree}
use Rattle.search_data.specs.declared.data.SearchData.{SearchData}
use Rattle.serde_json.specs.Data.{Data}
use Rattle.serde_json.specs.Find.{get}
use Rattle.warm_file.specs.Faults.{Fault, fault, behind, at_key}
use Rattle.warm_file.specs.Values.{count_of, if_object, member, list_of, at_most_items}
use Rattle.warm_file.specs.Models.{model_of}
use Rattle.warm_file.specs.Searches.{branching_of, multipliers_of, basis_of, state_of, counts, cuts_of, points_of, IsJson, from_top}
use Rattle.warm_file.specs.declared.rising.Counts.{Counts}
use Rattle.warm_file.specs.declared.fault.WarmFault.{WarmFault}
use Rattle.warm_file.specs.declared.fault.WarmFault.TheVariants.{Bad, Memory}

abbrev pub whole_split_of : Counts → Data → Result NodeData Fault
whole_split_of n d =
    behind (member (codes "split") (branching_of n.columns) d) (λ b. behind (member (codes "mult") (multipliers_of n) d) (λ mult.
    behind (basis_of n d) (λ basis. Ok (Split b.0 b.1.num mult basis))))

abbrev pub whole_leaf_of : Counts → Data → Result NodeData Fault
whole_leaf_of n d =
    behind (member (codes "leaf") state_of d) (λ state. behind (member (codes "mult") (multipliers_of n) d) (λ mult.
    behind (member (codes "farkas") (multipliers_of n) d) (λ farkas. behind (basis_of n d) (λ basis.
    Ok (Leaf (record { state = state; mult = mult; farkas = farkas; basis = basis }))))))

abbrev pub whole_node_of : Counts → Data → Result NodeData Fault
whole_node_of n d = if_object d (if is_some (get (codes "split") d) then whole_split_of n d else whole_leaf_of n d)

abbrev pub whole_nodes_of : Counts → Data → Result (List NodeData) Fault
whole_nodes_of n d = list_of (at_most_items node_limit (λ before. whole_node_of n)) d

abbrev pub search_of_nodes : Program → List Derivation → List (List ℚ) → List NodeData → Result SearchData Fault
search_of_nodes M cuts points nodes =
    if is_one_tree nodes then Ok (record { model = M; cuts = cuts; points = points; nodes = nodes }) else at_key (codes "nodes") (fault 12)

abbrev pub first_version_of : Data → Result ℕ Fault
first_version_of d = behind (count_of d) (λ version. if version == 1 then Ok version else fault 4)

abbrev pub search_in_first : Data → Result SearchData Fault
search_in_first d =
    behind (member (codes "warm") first_version_of d) (λ version. behind (member (codes "model") model_of d) (λ M.
    behind (member (codes "cuts") (cuts_of (length M.rows) (length M.cols)) d) (λ cuts.
    behind (member (codes "points") (points_of (length M.cols)) d) (λ points. behind (member (codes "nodes") (whole_nodes_of (counts M cuts)) d) (λ nodes.
    search_of_nodes M cuts points nodes)))))

-- the search that a JSON value of the first version states, or its first fault
unfoldable pub first_search_of : Data → Result SearchData Fault
first_search_of d = if_object d (search_in_first d)

-- ---- texts

pub record StatesFirst (text : List ℕ) (s : SearchData) : Type 0 where
  pub value : Data
  pub json : IsJson text value
  pub stated : first_search_of value ≡ Ok s

pub record IsFirstFault (text : List ℕ) (place : List ℕ) (code : ℕ) : Type 0 where
  pub value : Data
  pub json : IsJson text value
  pub found : Fault
  pub told : first_search_of value ≡ Err found
  pub place_is : place ≡ from_top found.place
  pub code_is : code ≡ found.code

abbrev pub IsFirstAnswer : List ℕ → Result SearchData WarmFault → Type 0
IsFirstAnswer text (Ok s) = StatesFirst text s
IsFirstAnswer text (Err (Bad place code)) = IsFirstFault text place code
IsFirstAnswer text (Err Memory) = Unit {0}

pub record IsOfFirstVersion (text : List ℕ) : Type 0 where
  pub value : Data
  pub json : IsJson text value
  pub version : member (codes "warm") count_of value ≡ Ok 1
