-- Nodes and points that are stated without fault.
use Rattle.std.specs.Prelude.{◌≡◌, ◌≢◌, ℕ, ◌+◌, ◌-◌, ◌<◌, ◌≤◌, ◌^◌, ◌==◌, Bool, true, false, ◌&&◌, nat_lt, if◌then◌else◌, List, [], ◌∷◌, ◌++◌, length, pos, codes, is_some, All, Result, Ok, Err}
use Rattle.std.specs.Ordering.{int_eq}
use Rattle.std.proofs.Common.{refl, sym, ap, subst, arith}
use Rattle.std.proofs.lemmas.Bool.Decides.{nat_tests}
use Rattle.std.proofs.lemmas.Bool.Decides.{Decides-int_eq}
use Rattle.std.proofs.lemmas.List.{length_push}
use Rattle.std.proofs.lemmas.List.Elements.{All-nil, All-push}
use Rattle.frac128.specs.Rational.{ℚ, den}
use Rattle.frac128.specs.Range.{IsNarrow, Fits, largest}
use Rattle.frac_text.specs.Spelling.{reading_of}
use Rattle.frac_text.specs.Parsing.{parsed}
use Rattle.frac_text.specs.declared.parsing.NumFault.{NumFault}
use Rattle.lp_model.specs.declared.types.ColId.{ColId}
use Rattle.lp_model.specs.declared.types.Basis.{Basis}
use Rattle.lp_model.specs.Limits.{node_limit, point_limit}
use Rattle.branch_tree.specs.declared.node.NodeData.{NodeData}
use Rattle.branch_tree.specs.declared.node.NodeData.TheVariants.{Split, Leaf}
use Rattle.serde_json.specs.Data.{Data}
use Rattle.serde_json.specs.Find.{get, as_object}
use Rattle.warm_file.specs.Faults.{fault, at_key, at_item}
use Rattle.warm_file.specs.Values.{text_in, place_below, member, at_most_items}
use Rattle.warm_file.specs.Numbers.{numbered, number_of, whole_at, whole_of}
use Rattle.warm_file.specs.Rising.{col_id}
use Rattle.warm_file.specs.declared.rising.Counts.{Counts}
use Rattle.warm_file.proofs.Inversions.{next-ok, key-ok, test-ok, member-ok, list-keeps, at_most-ok}
use Rattle.warm_file.specs.Searches.{point_of, points_of, variables_of, multipliers_of, basis_of, branching_of, node_multipliers_of, split_of, leaf_of, node_of, is_told, nodes_of, stated_nodes, nodes_told}
use Rattle.warm_writer.specs.Writable.{AreWritableMultipliers, IsWritableBasis, IsWritableNode}
use Rattle.search_file.proofs.NumberFits.{spelled-fits}
use Rattle.search_file.proofs.StatedLists.{placed, variables-stated, multipliers-stated, mult-stated}
use Rattle.search_data.specs.Trees.{is_one_tree}
use Rattle.branch_tree.specs.Preorder.{SplitData}
use Rattle.lp_model.specs.declared.types.Var.{Var}
use Rattle.node_differences.specs.Differences.{changed}
use Rattle.node_differences.specs.Told.{no_lists, node_lists, with_lists, differing_basis, lists_with, rebuilt_lists, rebuilt}
use Rattle.node_differences.proofs.RebuiltLaws.{whole-had, length-had, each-had}
use Rattle.warm_writer.proofs.NodesBack.{AreWritableChanges, changes-of, IsRawNode}
use Rattle.warm_writer.proofs.RankOrder.{AreFew}
use Rattle.warm_writer.proofs.TreeBack.{none-writable, changed-writable, basis-told}

-- ---- the number of a split

number-fits : (d : Data) (x : ℚ) → number_of d ≡ Ok x → Fits x
unfolding number_of
number-fits d x e =
    let n = next-ok (text_in d) (λ text. numbered (parsed (reading_of text))) x e in
    by n.0 (parsed (reading_of n.0)) refl n.1.1
  where
    by : (text : List ℕ) (r : Result ℚ NumFault) → parsed (reading_of text) ≡ r → numbered r ≡ Ok x → Fits x
    by text (Ok y) is h = let same : y ≡ x = cc in subst Fits same (spelled-fits text y is)
    by text (Err f) is h = absurd (cc)

whole-stated : (d : Data) (x : ℚ) → whole_of d ≡ Ok x → IsNarrow x.num × (x.num ≢ pos largest)
unfolding whole_of
whole-stated d x e =
    let n = next-ok (number_of d) whole_at x e in
    by n.0 (number-fits d n.0 n.1.0) (den n.0 == 1) (int_eq n.0.num (pos (2 ^ 127 - 1))) refl n.1.1
  where
    by : (y : ℚ) → Fits y → (whole most : Bool) → int_eq y.num (pos (2 ^ 127 - 1)) ≡ most → (if whole then if most then fault {A = ℚ} 6 else Ok y else fault 5) ≡ Ok x → IsNarrow x.num × (x.num ≢ pos largest)
    by y f true true is h = absurd (cc)
    by y f true false is h =
        let same : y ≡ x = cc in
        subst (λ (z : ℚ). IsNarrow z.num × (z.num ≢ pos largest)) same (f.numerator, (λ s. let t : int_eq y.num (pos largest) ≡ true = (Decides-int_eq y.num (pos largest)).1 s in cc))
    by y f false most is h = absurd (cc)

branching-stated : (columns : ℕ) (d : Data) (b : ColId × ℚ) → branching_of columns d ≡ Ok b → (b.0.0 < columns) × IsNarrow b.1.num × (b.1.num ≢ pos largest)
unfolding branching_of
branching-stated columns d b e =
    let two = next-ok _ _ b e in
    let place = next-ok (at_item 0 (place_below columns two.0.0)) _ b two.1.1 in
    let number = next-ok (at_item 1 (whole_of two.0.1)) _ b place.1.1 in
    let same : (col_id place.0, number.0) ≡ b = let h = number.1.1 in cc in
    let whole = whole-stated two.0.1 number.0 (key-ok _ (whole_of two.0.1) number.0 number.1.0) in
    subst (λ (c : ColId × ℚ). (c.0.0 < columns) × IsNarrow c.1.num × (c.1.num ≢ pos largest)) same
    (placed columns two.0.0 place.0 (key-ok _ (place_below columns two.0.0) place.0 place.1.0), whole.0, whole.1)

-- ---- nodes

basis-stated : (n : Counts) (d : Data) (b : Basis) → basis_of n d ≡ Ok b → IsWritableBasis n b
unfolding basis_of
basis-stated n d b e =
    let basic = next-ok (member (codes "basis") (variables_of n) d) _ b e in
    let high = next-ok (member (codes "high") (variables_of n) d) _ b basic.1.1 in
    let made : Basis = record { basic = basic.0; high = high.0 } in
    let same : made ≡ b = let h = high.1.1 in cc in
    let v = member-ok (codes "basis") (variables_of n) d basic.0 basic.1.0 in
    let w = member-ok (codes "high") (variables_of n) d high.0 high.1.0 in
    subst (IsWritableBasis n) same (record { basic = variables-stated n v.0 basic.0 v.1; high = variables-stated n w.0 high.0 w.1 })

split-stated : (told : Bool) (n : Counts) (d : Data) (x : NodeData) → split_of told n d ≡ Ok x → IsRawNode told n x
unfolding split_of
split-stated told n d x e =
    let b = next-ok (member (codes "split") (branching_of n.columns) d) _ x e in
    let mult = next-ok (member (codes "mult") (node_multipliers_of told n) d) _ x b.1.1 in
    let basis = next-ok (basis_of n d) _ x mult.1.1 in
    let same : Split b.0.0 b.0.1.num mult.0 basis.0 ≡ x = let h = basis.1.1 in cc in
    let u = member-ok (codes "split") (branching_of n.columns) d b.0 b.1.0 in
    let v = member-ok (codes "mult") (node_multipliers_of told n) d mult.0 mult.1.0 in
    let at = branching-stated n.columns u.0 b.0 u.1 in
    subst (IsRawNode told n) same (at.0, at.1, at.2, mult-stated told n v.0 mult.0 v.1, basis-stated n d basis.0 basis.1.0)

leaf-stated : (told : Bool) (n : Counts) (d : Data) (x : NodeData) → leaf_of told n d ≡ Ok x → IsRawNode told n x
unfolding leaf_of
leaf-stated told n d x e =
    let state = next-ok _ _ x e in
    let mult = next-ok (member (codes "mult") (node_multipliers_of told n) d) _ x state.1.1 in
    let farkas = next-ok (member (codes "farkas") (multipliers_of n) d) _ x mult.1.1 in
    let basis = next-ok (basis_of n d) _ x farkas.1.1 in
    let same : Leaf (record { state = state.0; mult = mult.0; farkas = farkas.0; basis = basis.0 }) ≡ x = let h = basis.1.1 in cc in
    let v = member-ok (codes "mult") (node_multipliers_of told n) d mult.0 mult.1.0 in
    let w = member-ok (codes "farkas") (multipliers_of n) d farkas.0 farkas.1.0 in
    subst (IsRawNode told n) same (mult-stated told n v.0 mult.0 v.1, multipliers-stated n w.0 farkas.0 w.1, basis-stated n d basis.0 basis.1.0)

node-stated : (told : Bool) (n : Counts) (d : Data) (x : NodeData) → node_of told n d ≡ Ok x → IsRawNode told n x
unfolding node_of
node-stated told n d x e = by (is_some (get (codes "split") d)) (test-ok (is_some (as_object d)) _ 3 x e).1
  where
    by : (c : Bool) → (if c then split_of told n d else leaf_of told n d) ≡ Ok x → IsRawNode told n x
    by true h = split-stated told n d x h
    by false h = leaf-stated told n d x h

-- a node that may be told, where that is asked
raw-told : (told : Bool) (n : Counts) (x : NodeData) → IsRawNode told n x → IsRawNode true n x
raw-told true n x h = h
raw-told false n (Split col v mult basis) h = (h.0, h.1, h.2, changes-of n mult h.3, h.4)
raw-told false n (Leaf kept) h = (changes-of n kept.mult h.0, h.1, h.2)

-- the nodes of each version are those that tell the nodes of a tree; in the first they are those nodes
nodes-raw : (version : ℕ) (n : Counts) (d : Data) (nodes : List NodeData) → nodes_of version n d ≡ Ok nodes → All (IsRawNode true n) nodes
unfolding nodes_of
nodes-raw version n d nodes e =
    list-keeps (at_most_items node_limit (λ before. node_of (is_told version before) n)) (All (IsRawNode true n))
    (λ before w x p said.
    All-push (IsRawNode true n) before x p
    (raw-told (is_told version before) n x (node-stated (is_told version before) n w x (at_most-ok node_limit (λ b. node_of (is_told version b) n) before w x said).1)))
    d nodes (All-nil (IsRawNode true n)) e

pub first-stated : (version : ℕ) (n : Counts) (d : Data) (nodes : List NodeData) → (version == 2) ≡ false → nodes_of version n d ≡ Ok nodes → All (IsWritableNode n) nodes
unfolding nodes_of
first-stated version n d nodes first e =
    list-keeps (at_most_items node_limit (λ before. node_of (is_told version before) n)) (All (IsWritableNode n))
    (λ before w x p said.
    let whole : is_told version before ≡ false = ap (λ b. b && nat_lt 0 (length before)) first in
    let said_whole : node_of false n w ≡ Ok x = subst (λ told. node_of told n w ≡ Ok x) whole (at_most-ok node_limit (λ b. node_of (is_told version b) n) before w x said).1 in
    All-push (IsWritableNode n) before x p (whole-writable n x (node-stated false n w x said_whole)))
    d nodes (All-nil (IsWritableNode n)) e
  where
    whole-writable : (m : Counts) (x : NodeData) → IsRawNode false m x → IsWritableNode m x
    whole-writable m (Split col v mult basis) h = h
    whole-writable m (Leaf kept) h = h

-- ---- nodes that are had again

-- what the lists of a node have that stand above others
abbrev IsAbove : Counts → SplitData → Type 0
IsAbove n l = AreWritableMultipliers n l.mult × IsWritableBasis n l.basis

lists-kept : (n : Counts) (few : AreFew n) (a l m : SplitData) → IsAbove n a → AreWritableChanges n l.mult → IsWritableBasis n l.basis → rebuilt_lists a l ≡ Ok m → IsAbove n m
lists-kept n few a l m p changes basis e = by (changed a.mult 0 l.mult) refl e
  where
    by : (r : Result (List (Var × ℚ)) ℕ) → changed a.mult 0 l.mult ≡ r → lists_with (differing_basis a.basis l.basis) r ≡ Ok m → IsAbove n m
    by (Ok mult) is h =
        let same : record { mult = mult; basis = differing_basis a.basis l.basis } ≡ m = cc in
        subst (IsAbove n) same (changed-writable n few a.mult l.mult mult 0 p.0 changes is, basis-told n few a.basis l.basis p.1 basis)
    by (Err i) is h = absurd (cc)

node-kept : (n : Counts) (few : AreFew n) (a : SplitData) (x : NodeData) (l : SplitData) → IsAbove n a → IsRawNode true n x → rebuilt_lists a (node_lists x) ≡ Ok l → IsAbove n l × IsWritableNode n (with_lists l x)
node-kept n few a (Split col v mult basis) l p raw e =
    let kept = lists-kept n few a (record { mult = mult; basis = basis }) l p raw.3 raw.4 e in (kept, (raw.0, raw.1, raw.2, kept.0, kept.1))
node-kept n few a (Leaf kept) l p raw e =
    let had = lists-kept n few a (record { mult = kept.mult; basis = kept.basis }) l p raw.0 raw.2 e in (had, (had.0, raw.1, had.1))

none-above : (n : Counts) → IsAbove n no_lists
none-above n = let none = none-writable n in (none.mult, none.basis)

second-stated : (n : Counts) (few : AreFew n) (d : Data) (nodes out : List NodeData) → nodes_of 2 n d ≡ Ok nodes → rebuilt 0 [] nodes ≡ Ok out → All (IsWritableNode n) out
second-stated n few d nodes out e had = each-had (IsAbove n) (IsRawNode true n) (IsWritableNode n) (none-above n) (node-kept n few) nodes out (nodes-raw 2 n d nodes e) had

stated-ok : (r : Result (List NodeData) (ℕ × ℕ)) (out : List NodeData) → stated_nodes r ≡ Ok out → r ≡ Ok out
unfolding at_key
stated-ok (Ok nodes) out e = let same : nodes ≡ out = cc in ap (λ l. Ok l) same
stated-ok (Err at) out e = absurd (cc)

-- the nodes that a version tells are writable, as many trees and as many nodes as those that tell them
pub record AreStatedNodes (n : Counts) (nodes out : List NodeData) : Type 0 where
  pub writable : All (IsWritableNode n) out
  pub whole : is_one_tree out ≡ is_one_tree nodes
  pub many : length out ≡ length nodes

pub nodes-stated : (version : ℕ) (n : Counts) (d : Data) (nodes out : List NodeData) → AreFew n → nodes_of version n d ≡ Ok nodes → nodes_told version nodes ≡ Ok out → AreStatedNodes n nodes out
unfolding nodes_told
nodes-stated version n d nodes out few e told = by (version == 2) refl told
  where
    by : (b : Bool) → (version == 2) ≡ b → (if b then stated_nodes (rebuilt 0 [] nodes) else Ok nodes) ≡ Ok out → AreStatedNodes n nodes out
    by true second h =
        let had = stated-ok (rebuilt 0 [] nodes) out h in
        let two : version ≡ 2 = grind (arith, nat_tests, second) in
        record { writable = second-stated n few d nodes out (subst (λ v. nodes_of v n d ≡ Ok nodes) two e) had; whole = whole-had nodes out had; many = length-had 0 [] nodes out had }
    by false first h =
        let same : nodes ≡ out = cc in
        record { writable = subst (All (IsWritableNode n)) same (first-stated version n d nodes first e); whole = ap is_one_tree (sym same); many = ap length (sym same) }

-- ---- points

pub few-points : (columns : ℕ) (d : Data) (points : List (List ℚ)) → member (codes "points") (points_of columns) d ≡ Ok points → length points ≤ 100
unfolding points_of
few-points columns d points e =
    let v = member-ok (codes "points") (points_of columns) d points e in
    list-keeps (at_most_items point_limit (λ before. point_of columns)) (λ l. length l ≤ 100)
    (λ before w x p said.
    let m = at_most-ok point_limit (λ b. point_of columns) before w x said in
    let more : length (before ++ x ∷ []) ≡ length before + 1 = length_push before x in
    let below = m.0 in omega arith)
    v.0 points (omega arith) v.1
