-- What a text states is in order, and what is sound and in order can be written where its model can.
-- Idea: variables in the order of a search have ranks that rise, since places are below 2 ^ 32; and ranks that rise are in that order.
use Rattle.std.specs.Prelude.{◌≡◌, ◌≢◌, ℕ, ◌+◌, ◌<◌, ◌≤◌, ◌^◌, Bool, true, false, if◌then◌else◌, List, [], ◌∷◌, ◌++◌, length, get_or, map, ℤ, pos, ◌+ℤ◌, codes, is_some, All, Ok}
use Rattle.std.proofs.Common.{refl, sym, ap, subst, arith}
use Rattle.std.proofs.lemmas.Int.{ints}
use Rattle.std.proofs.lemmas.List.{get_or-map, length-map, length_push}
use Rattle.std.proofs.lemmas.List.Elements.{All-head, All-tail, All-nil, All-cons, All-push, All-append, All-weaker}
use Rattle.frac128.specs.Rational.{ℚ, int}
use Rattle.frac128.specs.Range.{IsNarrow, largest}
use Rattle.lp_model.specs.Program.{Program, Point, is_integer}
use Rattle.lp_model.specs.Lawful.{IsLawful}
use Rattle.lp_model.specs.Formulations.{Formulation, formulation}
use Rattle.lp_model.specs.declared.types.Basis.{Basis}
use Rattle.lp_model.specs.declared.types.CutRow.{CutRow}
use Rattle.lp_model.specs.declared.types.Derivation.{Derivation}
use Rattle.lp_model.specs.declared.types.Literal.{Literal}
use Rattle.lp_model.specs.declared.types.Var.{Var}
use Rattle.lp_model.specs.declared.types.Var.TheVariants.{Col, Row, Cut}
use Rattle.leaf_dual.specs.Dual.{Multipliers}
use Rattle.lp_model.specs.Limits.{row_limit, col_limit, node_limit, pool_limit}
use Rattle.branch_tree.specs.Tree.{Leaf, Split, node_count}
use Rattle.branch_tree.specs.Plain.{Plain, open_data}
use Rattle.branch_tree.specs.Numbered.{NumberedTree}
use Rattle.branch_tree.specs.Preorder.{DataTree, data_nodes, without_ids, numbered_from, numbered_tree}
use Rattle.branch_tree.specs.declared.node.NodeData.{NodeData}
use Rattle.branch_tree.specs.declared.node.NodeData.TheVariants.{Split as SplitNode, Leaf as LeafNode}
use Rattle.branch_tree.proofs.PreorderLemmas.{apart, length-data_nodes, nodes-numbered}
use Rattle.kept_cuts.specs.Kept.{derivations_of}
use Rattle.search_data.specs.declared.data.SearchData.{SearchData}
use Rattle.search_data.specs.Trees.{is_one_tree}
use Rattle.serde_json.specs.Data.{Data}
use Rattle.serde_json.specs.Find.{as_object}
use Rattle.search_parts.specs.Points.{IsKeepable, target}
use Rattle.search_parts.specs.Lists.{IsThere, IsActivityThere, NamesOnce, AreMultipliers, IsBasis}
use Rattle.sound_searches.specs.Sound.{IsSoundTree, formulation_of}
use Rattle.list_order.specs.Order.{IsBefore, Rise, AreInOrder, IsBasisInOrder}
use Rattle.list_order.specs.Ordered.{IsLeafInOrder, HasListsInOrder, IsCutInOrder, AreCutsInOrder}
use Rattle.list_order.proofs.LeftLemmas.{none-order}
use Rattle.list_order.proofs.TreeOrder.{judged-order, judged-count, judged-limit}
use Rattle.warm_file.specs.Faults.{fault, behind, at_key, at_item}
use Rattle.warm_file.specs.Values.{truth_of, place_below, member, list_of, at_most_items}
use Rattle.warm_file.specs.Rising.{is_past, stated_literal, literal_of, variable_rank}
use Rattle.warm_file.specs.declared.rising.Counts.{Counts}
use Rattle.warm_file.specs.Models.{model_of}
use Rattle.warm_file.specs.Searches.{row_side_of, derivation_in, cut_of, cuts_of, points_of, is_told, nodes_of, nodes_told, with_nodes, node_of, counts, whole_search, tree_of, search_in, search_of}
use Rattle.warm_file.proofs.Inversions.{next-ok, key-ok, test-ok, member-ok, list-keeps, at_most-ok}
use Rattle.warm_writer.specs.Writable.{ArePlacesRising, IsVariableThere, IsActivity, AreWritableVariables, AreWritableMultipliers, IsWritableBasis, IsWritableNode, IsWritableCut}
use Rattle.search_file.specs.Lawful.{lawful_tree}
use Rattle.search_file.specs.Laws.{StatedOrderLaw, WritableLaw}
use Rattle.search_file.proofs.LawfulLemmas.{all-lawful}
use Rattle.search_file.proofs.RestorableLaws.{text-restorable}
use Rattle.search_file.proofs.StatedLists.{placed, rising-push}
use Rattle.search_file.proofs.StatedNodes.{AreStatedNodes, nodes-stated}
use Rattle.warm_file.proofs.StatedModels.{model-few}
use Rattle.warm_file.proofs.SearchLaws.{few-cuts}
use Rattle.warm_writer.proofs.RankOrder.{AreFew}

-- ---- cuts that are stated

abbrev AreLiterals : ℕ → List Literal → Type 0
AreLiterals columns ls = All (λ (l : Literal). l.col.0 < columns) ls × ArePlacesRising (λ (l : Literal). l.col.0) ls

literal-next : (columns : ℕ) (before : List Literal) (d : Data) (l : Literal) → AreLiterals columns before → literal_of columns before d ≡ Ok l → AreLiterals columns (before ++ l ∷ [])
unfolding literal_of
literal-next columns before d l p said =
    let two = next-ok _ _ l said in
    let place = next-ok (at_item 0 (place_below columns two.0.0)) _ l two.1.1 in
    let past = test-ok (is_past (λ (m : Literal). m.col.0) before place.0) (stated_literal place.0 two.0.1) 8 l place.1.1 in
    let truth = next-ok (at_item 1 (truth_of two.0.1)) _ l past.1 in
    let made : Literal = record { col = record { 0 = place.0 }; plus = truth.0 } in
    let same : made ≡ l = let h = truth.1.1 in cc in
    let below = placed columns two.0.0 place.0 (key-ok _ (place_below columns two.0.0) place.0 place.1.0) in
    subst (λ m. AreLiterals columns (before ++ m ∷ [])) same (All-push (λ (m : Literal). m.col.0 < columns) before made p.0 below, rising-push (λ (m : Literal). m.col.0) before made p.1 past.0)

literals-stated : (columns : ℕ) (d : Data) (ls : List Literal) → list_of (literal_of columns) d ≡ Ok ls → AreLiterals columns ls
literals-stated columns d ls e =
    list-keeps (literal_of columns) (AreLiterals columns) (λ before w l p said. literal-next columns before w l p said) d ls
    (All-nil (λ (m : Literal). m.col.0 < columns), λ i j x less within. absurd (omega (arith, within))) e

cut-stated : (rows columns : ℕ) (d : Data) (c : Derivation) → cut_of rows columns d ≡ Ok c → IsCutInOrder rows columns c
unfolding cut_of
cut-stated rows columns d c e =
    let o = test-ok (is_some (as_object d)) (derivation_in rows columns d) 3 c e in
    let row = next-ok (member (codes "row") (place_below rows) d) _ c o.1 in
    let side = next-ok (member (codes "side") row_side_of d) _ c row.1.1 in
    let literals = next-ok (member (codes "lits") (list_of (literal_of columns)) d) _ c side.1.1 in
    let made : Derivation = record { row = record { 0 = row.0 }; side = side.0; literals = literals.0 } in
    let same : made ≡ c = let h = literals.1.1 in cc in
    let v = member-ok (codes "row") (place_below rows) d row.0 row.1.0 in
    let w = member-ok (codes "lits") (list_of (literal_of columns)) d literals.0 literals.1.0 in
    let are = literals-stated columns w.0 literals.0 w.1 in
    subst (IsCutInOrder rows columns) same (record { row = placed rows v.0 row.0 v.1; there = are.0; rising = are.1 })

cuts-stated : (rows columns : ℕ) (d : Data) (cuts : List Derivation) → cuts_of rows columns d ≡ Ok cuts → All (IsCutInOrder rows columns) cuts
unfolding cuts_of
cuts-stated rows columns d cuts e =
    list-keeps (at_most_items pool_limit (λ before. cut_of rows columns)) (All (IsCutInOrder rows columns))
    (λ before w c p said. All-push (IsCutInOrder rows columns) before c p (cut-stated rows columns w c (at_most-ok pool_limit (λ b. cut_of rows columns) before w c said).1))
    d cuts (All-nil (IsCutInOrder rows columns)) e

few-nodes : (version : ℕ) (n : Counts) (d : Data) (nodes : List NodeData) → nodes_of version n d ≡ Ok nodes → length nodes ≤ node_limit
unfolding nodes_of
few-nodes version n d nodes e =
    list-keeps (at_most_items node_limit (λ before. node_of (is_told version before) n)) (λ l. length l ≤ node_limit)
    (λ before w x p said. let m = (at_most-ok node_limit (λ b. node_of (is_told version b) n) before w x said).0 in omega (arith, m, length_push before x))
    d nodes (omega arith) e

-- ---- the whole

pub record IsStatedInOrder (s : SearchData) : Type 0 where
  pub cuts : AreCutsInOrder s.model s.cuts
  pub nodes : All (IsWritableNode (counts s.model s.cuts)) s.nodes
  pub few : length s.nodes ≤ node_limit

whole-order : (version : ℕ) (M : Program) (cuts : List Derivation) (points : List (List ℚ)) (nodes : List NodeData) (s : SearchData) → AreCutsInOrder M cuts
    → ((out : List NodeData) → nodes_told version nodes ≡ Ok out → AreStatedNodes (counts M cuts) nodes out) → length nodes ≤ node_limit → whole_search version M cuts points nodes ≡ Ok s → IsStatedInOrder s
whole-order version M cuts points nodes s c n few e = by (is_one_tree nodes) e
  where
    by : (b : Bool) → (if b then behind (nodes_told version nodes) (with_nodes M cuts points) else at_key (codes "nodes") (fault 12)) ≡ Ok s → IsStatedInOrder s
    by true h =
        let told = next-ok (nodes_told version nodes) (with_nodes M cuts points) s h in
        let stated = n told.0 told.1.0 in
        let made : SearchData = record { model = M; cuts = cuts; points = points; nodes = told.0 } in
        let same : made ≡ s = let g = told.1.1 in cc in
        subst IsStatedInOrder same (record { cuts = c; nodes = stated.writable; few = (let many = stated.many in omega (arith, many, few)) })
    by false h = let none = key-ok (codes "nodes") (fault {A = SearchData} 12) s h in absurd (cc)

data-order : (d : Data) (s : SearchData) → search_of d ≡ Ok s → IsStatedInOrder s
unfolding search_of tree_of
data-order d s e =
    let o = test-ok (is_some (as_object d)) (search_in d) 3 s e in
    let version = next-ok _ _ s o.1 in
    let model = next-ok (member (codes "model") model_of d) _ s version.1.1 in
    let M = model.0 in
    let cuts = next-ok (member (codes "cuts") (cuts_of (length M.rows) (length M.cols)) d) _ s model.1.1 in
    let points = next-ok (member (codes "points") (points_of (length M.cols)) d) _ s cuts.1.1 in
    let nodes = next-ok (member (codes "nodes") (nodes_of version.0 (counts M cuts.0)) d) _ s points.1.1 in
    let c = member-ok (codes "cuts") (cuts_of (length M.rows) (length M.cols)) d cuts.0 cuts.1.0 in
    let v = member-ok (codes "nodes") (nodes_of version.0 (counts M cuts.0)) d nodes.0 nodes.1.0 in
    let m = member-ok (codes "model") model_of d M model.1.0 in
    let few = model-few m.0 M m.1 in
    let few_cuts = few-cuts (length M.rows) (length M.cols) d cuts.0 cuts.1.0 in
    let small : AreFew (counts M cuts.0) = record { columns = (let c = few.1 in omega (arith, c)); rows = (let r = few.0 in omega (arith, r)); cuts = omega (arith, few_cuts) } in
    whole-order version.0 M cuts.0 points.0 nodes.0 s (cuts-stated (length M.rows) (length M.cols) c.0 cuts.0 c.1)
    (λ out told. nodes-stated version.0 (counts M cuts.0) v.0 nodes.0 out small v.1 told) (few-nodes version.0 (counts M cuts.0) v.0 nodes.0 v.1) nodes.1.1

-- ---- ranks

few-columns : (M : Program) → IsLawful M → length M.cols ≤ 2 ^ 32
few-columns M h = by M.wide h.limits.few_columns
  where
    by : (b : Bool) → length M.cols ≤ col_limit b → length M.cols ≤ 2 ^ 32
    by true few = omega (arith, few)
    by false few = omega (arith, few)

few-rows : (M : Program) → IsLawful M → length M.rows ≤ 2 ^ 32
few-rows M h = by M.wide h.limits.few_rows
  where
    by : (b : Bool) → length M.rows ≤ row_limit b → length M.rows ≤ 2 ^ 32
    by true few = omega (arith, few)
    by false few = omega (arith, few)

module _ (n : Counts) (columns : n.columns ≤ 2 ^ 32) (rows : n.rows ≤ 2 ^ 32) where
  by-rank : (v w : Var) → IsVariableThere n v → IsVariableThere n w → variable_rank v < variable_rank w → IsBefore v w
  by-rank (Col j) (Col k) here there h = h
  by-rank (Col j) (Row k) here there h = tt
  by-rank (Col j) (Cut k) here there h = tt
  by-rank (Row i) (Col k) here there h = let b : k.0 < n.columns = there in absurd (omega (arith, h, b, columns))
  by-rank (Row i) (Row k) here there h = omega (arith, h)
  by-rank (Row i) (Cut k) here there h = tt
  by-rank (Cut i) (Col k) here there h = let b : k.0 < n.columns = there in absurd (omega (arith, h, b, columns))
  by-rank (Cut i) (Row k) here there h = let b : k.0 < n.rows = there in absurd (omega (arith, h, b, rows))
  by-rank (Cut i) (Cut k) here there h = omega (arith, h)

  rank-of : (v w : Var) → IsVariableThere n v → IsBefore v w → variable_rank v < variable_rank w
  rank-of (Col j) (Col k) here h = h
  rank-of (Col j) (Row k) here h = let b : j.0 < n.columns = here in omega (arith, b, columns)
  rank-of (Col j) (Cut k) here h = let b : j.0 < n.columns = here in omega (arith, b, columns)
  rank-of (Row i) (Col k) here h = absurd h
  rank-of (Row i) (Row k) here h = let b : i.0 < k.0 = h in omega (arith, b)
  rank-of (Row i) (Cut k) here h = let b : i.0 < n.rows = here in omega (arith, b, rows)
  rank-of (Cut i) (Col k) here h = absurd h
  rank-of (Cut i) (Row k) here h = absurd h
  rank-of (Cut i) (Cut k) here h = let b : i.0 < k.0 = h in omega (arith, b)

  -- ---- lists that are stated

  rise-of : (vs : List Var) → AreWritableVariables n vs → Rise vs
  rise-of vs h = λ i j d less below. by-rank (get_or vs i d) (get_or vs j d) (h.there i d (omega (arith, less, below))) (h.there j d below) (h.rising i j d less below)

  mult-of : (es : Multipliers) → AreWritableMultipliers n es → AreInOrder es
  mult-of es h = record {
    rise = λ i j d less below.
        let e : Var × ℚ = (d, int (pos 0)) in
        let size : length (map (λ (m : Var × ℚ). m.0) es) ≡ length es = length-map es (λ (m : Var × ℚ). m.0) in
        let late : j < length es = omega (arith, size, below) in
        let early : i < length es = omega (arith, less, late) in
        subst (λ v. IsBefore v (get_or (map (λ (m : Var × ℚ). m.0) es) j d)) (sym (get_or-map (λ (m : Var × ℚ). m.0) es i e d early))
        (subst (λ v. IsBefore (get_or es i e).0 v) (sym (get_or-map (λ (m : Var × ℚ). m.0) es j e d late))
        (by-rank (get_or es i e).0 (get_or es j e).0 (h.each i e early).there (h.each j e late).there (h.rising i j e less late)));
    nonzero = λ k d below. (h.each k d below).nonzero;
  }

  basis-of : (b : Basis) → IsWritableBasis n b → IsBasisInOrder b
  basis-of b h = record { basic = rise-of b.basic h.basic; high = rise-of b.high h.high }

abbrev IsNodeInOrder : NodeData → Type 0
IsNodeInOrder (SplitNode col v mult basis) = AreInOrder mult × IsBasisInOrder basis
IsNodeInOrder (LeafNode kept) = IsLeafInOrder kept

node-order : (n : Counts) → n.columns ≤ 2 ^ 32 → n.rows ≤ 2 ^ 32 → (x : NodeData) → IsWritableNode n x → IsNodeInOrder x
node-order n columns rows (SplitNode col v mult basis) h = (mult-of n columns rows mult h.3, basis-of n columns rows basis h.4)
node-order n columns rows (LeafNode kept) h = record { mult = mult-of n columns rows kept.mult h.0; farkas = mult-of n columns rows kept.farkas h.1; basis = basis-of n columns rows kept.basis h.2 }

merged-order : (j : ℕ) (v : ℤ) (mult : Multipliers) (b : Basis) → IsNodeInOrder (SplitNode (record { 0 = j }) v mult b) → IsNodeInOrder (LeafNode (open_data mult b))
merged-order j v mult b h = record { mult = h.0; farkas = none-order; basis = h.1 }

tree-order : (k : ℕ) (t : DataTree) → All IsNodeInOrder (data_nodes t) → HasListsInOrder (numbered_from k t)
tree-order k (Leaf kept) h = All-head IsNodeInOrder (LeafNode kept) [] h
tree-order k (Split kept j v left right) h =
    let x : NodeData = SplitNode (record { 0 = j }) v kept.mult kept.basis in
    let here : IsNodeInOrder x = All-head IsNodeInOrder x (data_nodes left ++ data_nodes right) h in
    let below = apart IsNodeInOrder (data_nodes left) (data_nodes right) (All-tail IsNodeInOrder x (data_nodes left ++ data_nodes right) h) in
    (record { mult = here.0; basis = here.1 }, (tree-order (k + 1) left below.0, tree-order (k + 1 + node_count left) right below.1))

count-lawful : (M : Program) (t : DataTree) → node_count (lawful_tree M t) ≤ node_count t
count-lawful M (Leaf kept) = omega arith
count-lawful M (Split kept j v left right) =
    let l = count-lawful M left in
    let r = count-lawful M right in
    elim (is_integer M j) as (λ b. node_count (if b then Split kept j v (lawful_tree M left) (lawful_tree M right) else Leaf (open_data kept.mult kept.basis)) ≤ node_count left + node_count right + 1)
    [ true ↦ omega (arith, l, r) | false ↦ omega arith ]

pub stated-order : StatedOrderLaw
stated-order text S h lawful =
    let s : SearchData = h.stated in
    let M : Program = s.model in
    let law : IsLawful M = subst IsLawful h.restores.model lawful in
    let o : IsStatedInOrder s = data-order h.states.value s h.states.stated in
    let one = (text-restorable text s h.states).tree in
    let t : DataTree = one.0 in
    let T : NumberedTree = numbered_tree node_limit (lawful_tree M t) in
    let F : Formulation = formulation_of S in
    let judges = h.restores.tree t one.1 in
    let all : All IsNodeInOrder s.nodes = All-weaker (IsWritableNode (counts M s.cuts)) IsNodeInOrder (node-order (counts M s.cuts) (few-columns M law) (few-rows M law)) s.nodes o.nodes in
    let own : All IsNodeInOrder (data_nodes t) = subst (All IsNodeInOrder) (sym one.1) all in
    let size : length (data_nodes t) ≡ length s.nodes = ap length one.1 in
    record {
      lists = judged-order F (target S.model S.points) T S.tree judges (tree-order 1 (lawful_tree M t) (all-lawful M IsNodeInOrder merged-order t own));
      cuts = subst (λ X. X) (λ i. AreCutsInOrder (sym h.restores.model i) (sym h.restores.cuts i)) o.cuts;
      nodes = omega (arith, judged-count F (target S.model S.points) T S.tree judges, nodes-numbered 1 (lawful_tree M t), count-lawful M t, length-data_nodes t, size, o.few);
      limit = omega (arith, judged-limit F (target S.model S.points) T S.tree judges);
    }

-- ---- lists that are written

module _ (M : Program) (cuts : List CutRow) (lawful : IsLawful M) where
  abbrev F : Formulation
  F = formulation M cuts

  abbrev n : Counts
  n = counts M (derivations_of cuts)

  there-of : (v : Var) → IsThere F v → IsVariableThere n v
  there-of (Col j) h = h
  there-of (Row i) h = h
  there-of (Cut k) h = let b : k.0 < length cuts = h in omega (arith, b, length-map cuts (λ (c : CutRow). c.from))

  activity-of : (v : Var) → IsActivityThere F v → IsVariableThere n v × IsActivity v
  activity-of (Col j) h = absurd h
  activity-of (Row i) h = (h, tt)
  activity-of (Cut k) h = let b : k.0 < length cuts = h in (omega (arith, b, length-map cuts (λ (c : CutRow). c.from)), tt)

  variables-writable : (vs : List Var) → NamesOnce (IsThere F) vs → Rise vs → AreWritableVariables n vs
  variables-writable vs h rise = record {
    there = All-weaker (IsThere F) (IsVariableThere n) there-of vs h.each;
    rising = λ i j d less below. rank-of n (few-columns M lawful) (few-rows M lawful) (get_or vs i d) (get_or vs j d) (there-of (get_or vs i d) (h.each i d (omega (arith, less, below)))) (rise i j d less below);
  }

  module _ (es : Multipliers) (h : AreMultipliers F es) (o : AreInOrder es) where
    abbrev names : List Var
    names = map (λ (m : Var × ℚ). m.0) es

    at : (k : ℕ) (d : Var × ℚ) → k < length es → get_or names k d.0 ≡ (get_or es k d).0
    at k d below = get_or-map (λ (m : Var × ℚ). m.0) es k d d.0 below

    size : length names ≡ length es
    size = length-map es (λ (m : Var × ℚ). m.0)

    one : (k : ℕ) (d : Var × ℚ) → k < length es → IsVariableThere n (get_or es k d).0 × IsActivity (get_or es k d).0
    one k d below = activity-of (get_or es k d).0 (subst (IsActivityThere F) (at k d below) (h.each k d.0 (omega (arith, size, below))))

    multipliers-writable : AreWritableMultipliers n es
    multipliers-writable = record {
      each = λ k d below. let w = one k d below in record { there = w.0; dual = w.1; nonzero = o.nonzero k d below };
      rising = λ i j d less below.
          let early : i < length es = omega (arith, less, below) in
          rank-of n (few-columns M lawful) (few-rows M lawful) (get_or es i d).0 (get_or es j d).0 (one i d early).0
          (subst (λ v. IsBefore v (get_or es j d).0) (at i d early) (subst (IsBefore (get_or names i d.0)) (at j d below) (o.rise i j d.0 less (omega (arith, size, below)))));
    }

  basis-writable : (b : Basis) → IsBasis F b → IsBasisInOrder b → IsWritableBasis n b
  basis-writable b h o = record { basic = variables-writable b.basic h.basic o.basic; high = variables-writable b.high h.high o.high }

  not-largest : (v : ℤ) → IsNarrow (v +ℤ pos 1) → v ≢ pos largest
  not-largest v narrow e = absurd (omega (arith, ints))

  nodes-writable : (t : Plain) → IsSoundTree F t → HasListsInOrder t → All (IsWritableNode n) (data_nodes (without_ids t))
  nodes-writable (Leaf l) h o =
      All-cons (IsWritableNode n) (LeafNode l.kept) [] (
        multipliers-writable l.kept.mult h.lists.mult o.mult,
        multipliers-writable l.kept.farkas h.lists.farkas o.farkas,
        basis-writable l.kept.basis h.lists.basis o.basis,
      ) (All-nil (IsWritableNode n))
  nodes-writable (Split kept j v left right) h o =
      All-cons (IsWritableNode n) (SplitNode (record { 0 = j }) v kept.mult kept.basis) (data_nodes (without_ids left) ++ data_nodes (without_ids right)) (
        h.lawful.0.0,
        h.narrow.0.0,
        not-largest v h.narrow.0.1,
        multipliers-writable kept.mult h.lists.0.mult o.0.mult,
        basis-writable kept.basis h.lists.0.basis o.0.basis,
      )
      (All-append (IsWritableNode n) (data_nodes (without_ids left)) (data_nodes (without_ids right))
      (nodes-writable left (record { lawful = h.lawful.1.0; narrow = h.narrow.1.0; lists = h.lists.1.0 }) o.1.0)
      (nodes-writable right (record { lawful = h.lawful.1.1; narrow = h.narrow.1.1; lists = h.lists.1.1 }) o.1.1))

count-without : (t : Plain) → node_count (without_ids t) ≡ node_count t
count-without (Leaf l) = refl
count-without (Split kept j v left right) = omega (arith, count-without left, count-without right)

pub writable : WritableLaw
writable S sound order model =
    let ds : List Derivation = derivations_of S.cuts in
    let count : length ds ≡ length S.cuts = length-map S.cuts (λ (c : CutRow). c.from) in
    record {
      model = model;
      cuts =
          All-weaker (IsCutInOrder (length S.model.rows) (length S.model.cols)) (IsWritableCut (length S.model.rows) (length S.model.cols))
          (λ d h. record { row = h.row; literals = h.there; rising = h.rising }) ds order.cuts;
      few_cuts = omega (arith, count, sound.few_cuts);
      points = All-weaker (IsKeepable S.model) (λ (x : Point). length x ≡ length S.model.cols) (λ x h. h.shape) S.points sound.points;
      few_points = sound.few;
      nodes = nodes-writable S.model S.cuts model.lawful S.tree.root sound.tree order.lists;
      few_nodes = omega (arith, length-data_nodes (without_ids S.tree.root), count-without S.tree.root, order.nodes);
      tree = (without_ids S.tree.root, refl);
    }
