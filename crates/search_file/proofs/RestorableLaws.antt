-- A search can be made of whatever a text states, and one that is found in its own text is as it was.
use Rattle.std.specs.Prelude.{◌≡◌, ◌≢◌, ℕ, ◌<◌, ◌≤◌, Bool, true, false, if◌then◌else◌, List, length, get_or, map, ℤ, pos, ◌<ℤ◌, codes, is_some, Ok}
use Rattle.std.proofs.Common.{refl, sym, ap, subst, ◌∙◌, arith}
use Rattle.std.proofs.lemmas.Int.{ints, by_lt_z}
use Rattle.std.proofs.lemmas.List.{length-map, get_or_default}
use Rattle.std.proofs.lemmas.List.Elements.{All-map, All-weaker}
use Rattle.frac128.specs.Rational.{ℚ}
use Rattle.frac128.specs.Range.{IsNarrow, largest}
use Rattle.lp_model.specs.Program.{Program}
use Rattle.lp_model.specs.Formulations.{Formulation, formulation}
use Rattle.lp_model.specs.declared.types.Basis.{Basis}
use Rattle.lp_model.specs.declared.types.Derivation.{Derivation}
use Rattle.lp_model.specs.declared.types.Var.{Var}
use Rattle.lp_model.specs.declared.types.Var.TheVariants.{Col, Row, Cut}
use Rattle.lp_model.proofs.ElementLemmas.{element}
use Rattle.lp_model.proofs.NameLemmas.{get_or-map}
use Rattle.branch_tree.specs.declared.node.NodeData.{NodeData}
use Rattle.branch_tree.specs.declared.node.NodeData.TheVariants.{Split, Leaf}
use Rattle.search_data.specs.declared.data.SearchData.{SearchData}
use Rattle.search_data.specs.Trees.{is_one_tree}
use Rattle.search_data.proofs.TreeLaws.{one_tree-decides}
use Rattle.serde_json.specs.Data.{Data}
use Rattle.serde_json.specs.Find.{as_object}
use Rattle.search_parts.specs.Lists.{IsThere, IsActivityThere, NamesOnce, AreMultipliers, IsBasis}
use Rattle.sound_searches.specs.Sound.{PlainSearch}
use Rattle.search_file.specs.Saved.{saved_data, uncounted, IsRestorableNode, IsRestorable, Restores}
use Rattle.search_file.proofs.SavedLaws.{saved}
use Rattle.warm_file.specs.Faults.{fault, behind, at_key}
use Rattle.warm_file.specs.Values.{member}
use Rattle.warm_file.specs.Rising.{variable_rank}
use Rattle.warm_file.proofs.Inversions.{next-ok, key-ok, test-ok, member-ok}
use Rattle.warm_file.specs.Models.{model_of}
use Rattle.warm_file.specs.Searches.{counts, cuts_of, points_of, nodes_of, nodes_told, with_nodes, whole_search, tree_of, search_in, search_of, States}
use Rattle.warm_file.proofs.SearchLaws.{few-cuts, one_search-law}
use Rattle.warm_writer.specs.Writable.{IsVariableThere, IsActivity, AreWritableVariables, AreWritableMultipliers, IsWritableBasis, IsWritableNode}
use Rattle.search_file.specs.Files.{IsTextOf, IsStatedBy}
use Rattle.search_file.specs.Laws.{FileLaw}
use Rattle.search_file.proofs.StatedNodes.{AreStatedNodes, nodes-stated, few-points}
use Rattle.warm_file.proofs.StatedModels.{model-few}
use Rattle.warm_writer.proofs.RankOrder.{AreFew}

-- ---- lists in order name each once

module _ (M : Program) (cuts : List Derivation) where
  abbrev stated : Formulation
  stated = formulation M (map uncounted cuts)

  variable-there : (v : Var) → IsVariableThere (counts M cuts) v → IsThere stated v
  variable-there (Col col) h = h
  variable-there (Row row) h = h
  variable-there (Cut cut) h = let w : cut.0 < length cuts = h in omega (arith, w, length-map cuts uncounted)

  activity-there : (v : Var) → IsVariableThere (counts M cuts) v → IsActivity v → IsActivityThere stated v
  activity-there (Col col) h a = absurd a
  activity-there (Row row) h a = h
  activity-there (Cut cut) h a = let w : cut.0 < length cuts = h in omega (arith, w, length-map cuts uncounted)

  variables-once : (vs : List Var) → AreWritableVariables (counts M cuts) vs → NamesOnce (IsThere stated) vs
  variables-once vs h = record {
    each = All-weaker (IsVariableThere (counts M cuts)) (IsThere stated) variable-there vs h.there;
    once = λ i j d lt within e. let rise = h.rising i j d lt within in let same = ap variable_rank e in absurd (omega (arith, rise, same));
  }

  multipliers-once : (es : List (Var × ℚ)) → AreWritableMultipliers (counts M cuts) es → AreMultipliers stated es
  multipliers-once es h = record {
    each = All-map (IsActivityThere stated) (λ (m : Var × ℚ). m.0) es (λ k d below. let one = h.each k d below in activity-there (get_or es k d).0 one.there one.dual);
    once = λ i j d lt within e.
        let long = length-map es (λ (m : Var × ℚ). m.0) in
        let in_j : j < length es = omega (arith, long, within) in
        let in_i : i < length es = omega (arith, lt, in_j) in
        let (a, a_is) = element es i in_i in
        let (b, b_is) = element es j in_j in
        let first : a.0 ≡ b.0 = sym (get_or-map (λ (m : Var × ℚ). m.0) es i a d in_i a_is) ∙ e ∙ get_or-map (λ (m : Var × ℚ). m.0) es j b d in_j b_is in
        let rise : variable_rank (get_or es i a).0 < variable_rank (get_or es j a).0 = h.rising i j a lt in_j in
        let left : variable_rank (get_or es i a).0 ≡ variable_rank a.0 = ap (λ (m : Var × ℚ). variable_rank m.0) (sym a_is) in
        let right : variable_rank (get_or es j a).0 ≡ variable_rank b.0 = ap (λ (m : Var × ℚ). variable_rank m.0) (get_or_default es j a b in_j ∙ sym b_is) in
        let same : variable_rank a.0 ≡ variable_rank b.0 = ap variable_rank first in
        absurd (omega (arith, rise, left, right, same));
  }

  basis-once : (b : Basis) → IsWritableBasis (counts M cuts) b → IsBasis stated b
  basis-once b h = record { basic = variables-once b.basic h.basic; high = variables-once b.high h.high }

  not_largest : (v : ℤ) → IsNarrow v → v ≢ pos largest → v <ℤ pos largest
  not_largest v narrow other = by_lt_z v (pos largest) (λ below. below) (λ past. let same : v ≡ pos largest = omega (arith, ints) in absurd (other same))

  writable-restorable : (n : NodeData) → IsWritableNode (counts M cuts) n → IsRestorableNode stated n
  writable-restorable (Split col v mult basis) h = record { narrow = h.1; below = not_largest v h.1 h.2; mult_is = multipliers-once mult h.3; basis_is = basis-once basis h.4 }
  writable-restorable (Leaf kept) h = record { mult = multipliers-once kept.mult h.0; farkas = multipliers-once kept.farkas h.1; basis = basis-once kept.basis h.2 }

-- ---- what is stated

made-restorable : (version : ℕ) (M : Program) (cuts : List Derivation) (points : List (List ℚ)) (nodes : List NodeData) (s : SearchData) → length cuts ≤ 10000 → length points ≤ 100
    → ((out : List NodeData) → nodes_told version nodes ≡ Ok out → AreStatedNodes (counts M cuts) nodes out) → whole_search version M cuts points nodes ≡ Ok s → IsRestorable s
made-restorable version M cuts points nodes s few_cuts few_points all e = by (is_one_tree nodes) refl e
  where
    by : (b : Bool) → is_one_tree nodes ≡ b → (if b then behind (nodes_told version nodes) (with_nodes M cuts points) else at_key (codes "nodes") (fault 12)) ≡ Ok s → IsRestorable s
    by true whole h =
        let told = next-ok (nodes_told version nodes) (with_nodes M cuts points) s h in
        let stated = all told.0 told.1.0 in
        let made : SearchData = record { model = M; cuts = cuts; points = points; nodes = told.0 } in
        let same : made ≡ s = let g = told.1.1 in cc in
        subst IsRestorable same (record {
          few_cuts = few_cuts;
          few_points = few_points;
          tree = (one_tree-decides told.0).0 (stated.whole ∙ whole);
          nodes = All-weaker (IsWritableNode (counts M cuts)) (IsRestorableNode (formulation M (map uncounted cuts))) (writable-restorable M cuts) told.0 stated.writable;
        })
    by false whole h = let none = key-ok (codes "nodes") (fault {A = SearchData} 12) s h in absurd (cc)

stated-restorable : (d : Data) (s : SearchData) → search_of d ≡ Ok s → IsRestorable s
unfolding search_of tree_of
stated-restorable d s e =
    let o = test-ok (is_some (as_object d)) (search_in d) 3 s e in
    let version = next-ok _ _ s o.1 in
    let model = next-ok (member (codes "model") model_of d) _ s version.1.1 in
    let M = model.0 in
    let cuts = next-ok (member (codes "cuts") (cuts_of (length M.rows) (length M.cols)) d) _ s model.1.1 in
    let points = next-ok (member (codes "points") (points_of (length M.cols)) d) _ s cuts.1.1 in
    let nodes = next-ok (member (codes "nodes") (nodes_of version.0 (counts M cuts.0)) d) _ s points.1.1 in
    let v = member-ok (codes "nodes") (nodes_of version.0 (counts M cuts.0)) d nodes.0 nodes.1.0 in
    let m = member-ok (codes "model") model_of d M model.1.0 in
    let few = model-few m.0 M m.1 in
    let few_cuts = few-cuts (length M.rows) (length M.cols) d cuts.0 cuts.1.0 in
    let small : AreFew (counts M cuts.0) = record { columns = (let c = few.1 in omega (arith, c)); rows = (let r = few.0 in omega (arith, r)); cuts = omega (arith, few_cuts) } in
    made-restorable version.0 M cuts.0 points.0 nodes.0 s
    few_cuts (few-points (length M.cols) d points.0 points.1.0)
    (λ out told. nodes-stated version.0 (counts M cuts.0) v.0 nodes.0 out small v.1 told) nodes.1.1

pub text-restorable : (text : List ℕ) (s : SearchData) → States text s → IsRestorable s
text-restorable text s h = stated-restorable h.value s h.stated

-- ---- a search in its own text

own-data : (S new : PlainSearch) (text : List ℕ) → IsTextOf S text → IsStatedBy text new → Restores (saved_data S) new
own-data S new text is found =
    subst (λ s. Restores s new) (one_search-law text found.stated (saved_data S) found.states is.states) found.restores

pub in-own-text : FileLaw
in-own-text = record {
  restorable = text-restorable;
  again = λ S new text sound made is found. saved.again S new sound made (own-data S new text is found);
  closed = λ S new text sound made is found. saved.closed S new sound made (own-data S new text is found);
}
