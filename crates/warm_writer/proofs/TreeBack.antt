-- A writable tree is read back: its nodes are told, read, and had again.
use Rattle.std.specs.Prelude.{◌≡◌, ℕ, zero, suc, ◌≤◌, true, false, ◌&&◌, not, List, [], ◌∷◌, ◌++◌, map, length, get_or, pos, All, Ok}
use Rattle.std.specs.List.{list_all}
use Rattle.std.proofs.Common.{refl, sym, ap, ap₂, subst, ◌∙◌, arith}
use Rattle.std.proofs.lemmas.List.Elements.{All-nil, All-cons, All-head, All-tail}
use Rattle.frac128.specs.Rational.{ℚ, int}
use Rattle.frac128.specs.Range.{Fits}
use Rattle.lp_model.specs.Edits.{is_zero}
use Rattle.lp_model.specs.Limits.{node_limit}
use Rattle.lp_model.specs.declared.types.Basis.{Basis}
use Rattle.lp_model.specs.declared.types.Var.{Var}
use Rattle.branch_tree.specs.Preorder.{SplitData}
use Rattle.branch_tree.specs.declared.node.NodeData.{NodeData}
use Rattle.branch_tree.specs.declared.node.NodeData.TheVariants.{Split, Leaf}
use Rattle.node_differences.specs.Differences.{differing, difference, changed}
use Rattle.node_differences.specs.Order.{are_rising}
use Rattle.node_differences.specs.Told.{no_lists, node_lists, told_node, due_behind, told_nodes, are_told_variables, are_told_multipliers, is_told_node}
use Rattle.node_differences.proofs.KeptLaws.{variables-rise, each-variable, differences-rise, each-difference, multipliers-rise, each-multiplier}
use Rattle.node_differences.proofs.OrderLemmas.{both_true}
use Rattle.frac128.proofs.Comparison.{eq_by_cmp-decides}
use Rattle.warm_file.specs.Values.{at_most_items, list_of}
use Rattle.warm_file.specs.declared.rising.Counts.{Counts}
use Rattle.warm_file.specs.Searches.{is_told, node_of}
use Rattle.warm_writer.specs.Written.{list_json, node_json}
use Rattle.warm_writer.specs.Writable.{IsVariableThere, IsActivity, AreWritableVariables, IsWritableMultiplier, AreWritableMultipliers, IsWritableBasis, IsWritableNode, NodeFits}
use Rattle.warm_writer.proofs.ModelBack.{nonzero-false}
use Rattle.warm_writer.proofs.NodesBack.{AreWritableChanges, IsRawNode, node-back}
use Rattle.warm_writer.proofs.RankOrder.{AreFew, tested, by-rank, told-order}
use Rattle.warm_writer.proofs.Splits.{long, all-here, few-back, list-splits}

abbrev Entry : Type 0
Entry = Var × ℚ

pub record HasWritableLists (n : Counts) (l : SplitData) : Type 0 where
  pub mult : AreWritableMultipliers n l.mult
  pub fits : All (λ (e : Entry). Fits e.1) l.mult
  pub basis : IsWritableBasis n l.basis

pub none-writable : (n : Counts) → HasWritableLists n no_lists
none-writable n = record {
  mult = record { each = All-nil (IsWritableMultiplier n); rising = λ i j d lt within. absurd (omega (arith, within)) };
  fits = All-nil (λ (e : Entry). Fits e.1);
  basis = record {
    basic = record { there = All-nil (IsVariableThere n); rising = λ i j d lt within. absurd (omega (arith, within)) };
    high = record { there = All-nil (IsVariableThere n); rising = λ i j d lt within. absurd (omega (arith, within)) };
  };
}

lists-writable : (n : Counts) (d : NodeData) → IsWritableNode n d → NodeFits d → HasWritableLists n (node_lists d)
lists-writable n (Split col v mult basis) w f = record { mult = w.3; fits = f; basis = w.4 }
lists-writable n (Leaf kept) w f = record { mult = w.0; fits = f.0; basis = w.2 }

-- ---- what is writable can be told

module _ (n : Counts) (few : AreFew n) where
  told-variables : (vs : List Var) → AreWritableVariables n vs → are_told_variables vs ≡ true
  told-variables vs w = ap are_rising (sym (same vs)) ∙ told-order (λ (v : Var). v) n few vs w.there w.rising
    where
      same : (us : List Var) → map (λ (v : Var). v) us ≡ us
      same [] = refl
      same (u ∷ us) = ap (λ l. u ∷ l) (same us)

  told-multipliers : (es : List Entry) → AreWritableMultipliers n es → are_told_multipliers es ≡ true
  told-multipliers es w =
      ap₂ (λ b c. b && c) (told-order (λ (e : Entry). e.0) n few es (λ k d lt. (w.each k d lt).there) w.rising) (none es (λ k d lt. nonzero-false _ (w.each k d lt).nonzero))
    where
      none : (ds : List Entry) → All (λ (e : Entry). is_zero e.1 ≡ false) ds → list_all (λ (e : Entry). not (is_zero e.1)) ds ≡ true
      none [] h = refl
      none (d ∷ ds) h = ap₂ (λ b c. not b && c) (All-head (λ (e : Entry). is_zero e.1 ≡ false) d ds h) (none ds (All-tail (λ (e : Entry). is_zero e.1 ≡ false) d ds h))

  lists-told : (l : SplitData) → HasWritableLists n l → (are_told_multipliers l.mult && (are_told_variables l.basis.basic && are_told_variables l.basis.high)) ≡ true
  lists-told l w =
      ap₂ (λ b c. b && c) (told-multipliers l.mult w.mult) (ap₂ (λ b c. b && c) (told-variables l.basis.basic w.basis.basic) (told-variables l.basis.high w.basis.high))

  pub can-be-told : (d : NodeData) → IsWritableNode n d → NodeFits d → is_told_node d ≡ true
  can-be-told d w f = lists-told (node_lists d) (lists-writable n d w f)

  -- ---- what is told is read

  variables-told : (us vs : List Var) → AreWritableVariables n us → AreWritableVariables n vs → AreWritableVariables n (differing us vs)
  variables-told us vs p q =
      let there = each-variable (IsVariableThere n) us vs p.there q.there in
      record {
        there = there;
        rising = by-rank (λ (v : Var). v) n few (differing us vs) there
            (ap are_rising (same (differing us vs)) ∙ variables-rise us vs (told-variables us p) (told-variables vs q));
      }
    where
      same : (ws : List Var) → map (λ (v : Var). v) ws ≡ ws
      same [] = refl
      same (w ∷ ws) = ap (λ l. w ∷ l) (same ws)

  abbrev IsThere : Entry → Type 0
  IsThere e = IsVariableThere n e.0

  abbrev IsDual : Entry → Type 0
  IsDual e = IsActivity e.0

  changes-told : (ms ns : List Entry) → AreWritableMultipliers n ms → AreWritableMultipliers n ns → AreWritableChanges n (difference ms ns)
  changes-told ms ns p q =
      let there = each-difference IsThere ms ns (λ k d lt. (p.each k d lt).there) (λ k d lt. (q.each k d lt).there) in
      record {
        there = there;
        dual = each-difference IsDual ms ns (λ k d lt. (p.each k d lt).dual) (λ k d lt. (q.each k d lt).dual);
        rising = by-rank (λ (e : Entry). e.0) n few (difference ms ns) there (differences-rise ms ns (told-multipliers ms p) (told-multipliers ns q));
      }

  -- changed multipliers are again writable
  pub changed-writable : (ms ds ns : List Entry) (k : ℕ) → AreWritableMultipliers n ms → AreWritableChanges n ds → changed ms k ds ≡ Ok ns → AreWritableMultipliers n ns
  changed-writable ms ds ns k p c e =
      let there = each-multiplier IsThere ms ds ns k (λ j d lt. (p.each j d lt).there) (λ j d lt some. c.there j d lt) e in
      let dual = each-multiplier IsDual ms ds ns k (λ j d lt. (p.each j d lt).dual) (λ j d lt some. c.dual j d lt) e in
      let nonzero = each-multiplier (λ (x : Entry). is_zero x.1 ≡ false) ms ds ns k (λ j d lt. nonzero-false _ (p.each j d lt).nonzero) (λ j d lt some. some) e in
      let told = multipliers-rise ms ds ns k (told-multipliers ms p) (told-order (λ (x : Entry). x.0) n few ds c.there c.rising) e in
      record {
        each = λ j d lt. record { there = there j d lt; dual = dual j d lt; nonzero = λ zero. let t : is_zero (get_or ns j d).1 ≡ true = (eq_by_cmp-decides (get_or ns j d).1 (int (pos 0))).1 zero in let f = nonzero j d lt in absurd (cc) };
        rising = by-rank (λ (x : Entry). x.0) n few ns there (both_true _ _ told).0;
      }

  abbrev HasRoom : Entry → Type 0
  HasRoom e = Fits e.1

  zero-fits : Fits (int (pos 0))
  unfolding int
  zero-fits = record { numerator = omega arith; denominator = omega arith }

  fits-told : (ms ns : List Entry) → All HasRoom ns → All HasRoom (difference ms ns)
  fits-told ms ns h = each-difference HasRoom ms ns (λ k d lt. zero-fits) h

  pub basis-told : (a b : Basis) → IsWritableBasis n a → IsWritableBasis n b → IsWritableBasis n (record { basic = differing a.basic b.basic; high = differing a.high b.high })
  basis-told a b p q = record { basic = variables-told a.basic b.basic p.basic q.basic; high = variables-told a.high b.high p.high q.high }

  node-told : (a : SplitData) (d : NodeData) → HasWritableLists n a → IsWritableNode n d → NodeFits d → IsRawNode true n (told_node a d) × NodeFits (told_node a d)
  node-told a (Split col v mult basis) p w f =
      ((w.0, w.1, w.2, changes-told a.mult mult p.mult w.3, basis-told a.basis basis p.basis w.4), fits-told a.mult mult f)
  node-told a (Leaf kept) p w f =
      ((changes-told a.mult kept.mult p.mult w.0, w.1, basis-told a.basis kept.basis p.basis w.2), (fits-told a.mult kept.mult f.0, f.1))

  abbrev Above : List SplitData → Type 0
  Above [] = Unit {0}
  Above (a ∷ above) = HasWritableLists n a × Above above

  above-behind : (l : SplitData) (above : List SplitData) (d : NodeData) → HasWritableLists n l → Above above → Above (due_behind l above d)
  above-behind l above (Split col v mult basis) h k = (h, (h, k))
  above-behind l above (Leaf kept) h k = k

  abbrev IsRead : NodeData → Type 0
  IsRead d = IsRawNode true n d × NodeFits d

  nodes-told : (above : List SplitData) (ds : List NodeData) → Above above → All (IsWritableNode n) ds → All NodeFits ds → All IsRead (told_nodes above ds)
  nodes-told above [] h w f = All-nil IsRead
  nodes-told [] (d ∷ ds) h w f =
      let p = All-head (IsWritableNode n) d ds w in
      let q = All-head NodeFits d ds f in
      let due = due_behind (node_lists d) [] d in
      All-cons IsRead (told_node no_lists d) (told_nodes due ds) (node-told no_lists d (none-writable n) p q)
      (nodes-told due ds (above-behind (node_lists d) [] d (lists-writable n d p q) h) (All-tail (IsWritableNode n) d ds w) (All-tail NodeFits d ds f))
  nodes-told (a ∷ above) (d ∷ ds) h w f =
      let p = All-head (IsWritableNode n) d ds w in
      let q = All-head NodeFits d ds f in
      let due = due_behind (node_lists d) above d in
      All-cons IsRead (told_node a d) (told_nodes due ds) (node-told a d h.0 p q)
      (nodes-told due ds (above-behind (node_lists d) above d (lists-writable n d p q) h.1) (All-tail (IsWritableNode n) d ds w) (All-tail NodeFits d ds f))

  -- the root is told by itself
  root-same : (d : NodeData) → told_node no_lists d ≡ d
  root-same (Split col v mult basis) = refl
  root-same (Leaf kept) = refl

  root-raw : (d : NodeData) → IsWritableNode n d → IsRawNode false n d
  root-raw (Split col v mult basis) w = w
  root-raw (Leaf kept) w = w

  below-root : (b : NodeData) (before : List NodeData) → is_told 2 (b ∷ before) ≡ true
  below-root b before = tested 0 (suc (length before)) (omega arith)

  -- each of the nodes that tell a writable tree, behind those before it
  one-back : (ds before after : List NodeData) (x : NodeData) → All (IsWritableNode n) ds → All NodeFits ds → before ++ x ∷ after ≡ told_nodes [] ds → node_of (is_told 2 before) n (node_json x) ≡ Ok x
  one-back ds (b ∷ before) after x w f e =
      let r = all-here (told_nodes [] ds) (b ∷ before) after x e IsRead (nodes-told [] ds tt w f) in
      subst (λ t. node_of t n (node_json x) ≡ Ok x) (sym (below-root b before)) (node-back true n x r.0 r.1)
  one-back [] [] after x w f e = absurd (cc)
  one-back (d ∷ ds) [] after x w f e =
      let first : x ≡ told_node no_lists d = cc in
      let same : d ≡ x = sym (first ∙ root-same d) in
      subst (λ y. node_of (is_told 2 []) n (node_json y) ≡ Ok y) same (node-back false n d (root-raw d (All-head (IsWritableNode n) d ds w)) (All-head NodeFits d ds f))

  pub tree-back : (ds : List NodeData) → All (IsWritableNode n) ds → All NodeFits ds → length (told_nodes [] ds) ≤ node_limit
      → list_of (at_most_items node_limit (λ before. node_of (is_told 2 before) n)) (list_json node_json (told_nodes [] ds)) ≡ Ok (told_nodes [] ds)
  tree-back ds w f limit =
      let raws = told_nodes [] ds in
      list-splits (at_most_items node_limit (λ before. node_of (is_told 2 before) n)) node_json raws
      (λ before after x e. let below = long raws before after x e in
      few-back node_limit (λ b. node_of (is_told 2 b) n) before (node_json x) x (omega (arith, below, limit)) (one-back ds before after x w f e))
