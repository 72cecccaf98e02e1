-- A search that takes a result in order, and one that adds cuts in order, stay so.
-- Idea: a split replaces one leaf, since no leaf has another's id; so the tree gets two nodes more, for which it has room.
use Rattle.std.specs.Prelude.{◌≡◌, ℕ, ◌+◌, ◌<◌, ◌≤◌, true, false, if◌then◌else◌, nat_eq, List, [], ◌∷◌, ◌++◌, ℤ, Some, None, length}
use Rattle.std.proofs.Common.{sym, ap, subst, arith, inl, inr, refl, ◌∙◌}
use Rattle.std.proofs.lemmas.Bool.{cases_lt}
use Rattle.std.proofs.lemmas.List.{map_push}
use Rattle.std.proofs.lemmas.List.Elements.{All-nil, All-push, All-head, All-tail}
use Rattle.lp_model.specs.Formulations.{without_cuts}
use Rattle.lp_model.specs.Program.{Program, Point}
use Rattle.lp_model.specs.Regions.{Path}
use Rattle.lp_model.specs.declared.types.Basis.{Basis}
use Rattle.lp_model.specs.declared.types.CutRow.{CutRow}
use Rattle.lp_model.specs.declared.types.Derivation.{Derivation}
use Rattle.leaf_dual.specs.Dual.{Multipliers}
use Rattle.branch_tree.specs.Tree.{node_count}
use Rattle.branch_tree.specs.Plain.{Plain, leaves_with, one_if_same}
use Rattle.branch_tree.specs.Numbered.{NumberedTree, IsNumbered}
use Rattle.branch_tree.specs.Changes.{first_tree}
use Rattle.branch_tree.specs.Leaves.{with_state}
use Rattle.branch_tree.specs.Tree.{Leaf}
use Rattle.branch_tree.specs.declared.node.LeafData.{LeafData}
use Rattle.branch_tree.specs.declared.node.NodeResult.{NodeResult}
use Rattle.branch_tree.specs.declared.node.NodeResult.TheVariants.{Close, Split as SplitAt, PointAndClose, Keep}
use Rattle.branch_tree.proofs.CountLemmas.{same_other}
use Rattle.kept_cuts.specs.Kept.{derivations_of}
use Rattle.sound_searches.specs.declared.taken.Taken.{Taken}
use Rattle.sound_searches.specs.declared.taken.Taken.TheVariants.{Stale, Refused, Reopened, Full, Closed, Split, Kept}
use Rattle.sound_searches.specs.Placing.{TakesPoint, search_with_leaf, TakesClose, TakesPointClose, PutsJudged, TakesKeep, TakesPointKeep, IsChild, split_with_leaves, search_with_split, TakesSplit, closed_data, with_basis, TakesResult, TakesOpen, Takes}
use Rattle.sound_searches.specs.Pool.{search_with_cut, AddsCut, AddsCuts}
use Rattle.sound_searches.specs.Sound.{PlainSearch, formulation_of}
use Rattle.list_order.specs.Order.{AreInOrder, IsBasisInOrder, IsResultInOrder}
use Rattle.list_order.specs.Ordered.{IsLeafInOrder, IsCutInOrder, AreCutsInOrder, IsInOrder}
use Rattle.list_order.specs.Laws.{FreshOrderLaw, PlaceOrderLaw, PoolOrderLaw}
use Rattle.list_order.proofs.LeftLemmas.{none-rise, none-order}
use Rattle.list_order.proofs.TreeOrder.{judged-order, judged-count, judged-ids, judged-limit, judged-last, order-replaced, count-replaced, ids-within, ids-put, order-found}

-- ---- leaves with ids of their own

pub record HasOwnLeaves (T : NumberedTree) : Type 0 where
  pub distinct : (id : ℕ) → leaves_with id T.root ≤ 1
  pub given : (id : ℕ) → T.last < id → leaves_with id T.root ≡ 0

pub own-leaves : (T : NumberedTree) → IsNumbered T → HasOwnLeaves T
own-leaves T n = record { distinct = λ k. omega (arith, n.distinct k); given = λ k h. omega (arith, n.given k h) }

-- in order, with such leaves, a search of the model
pub record IsKeptInOrder (M : Program) (S : PlainSearch) : Type 0 where
  pub order : IsInOrder S
  pub own : HasOwnLeaves S.tree
  pub model : S.model ≡ M

pub one-at-most : (a b : ℕ) → one_if_same a b ≤ 1
one-at-most a b = elim (nat_eq a b) as (λ c. (if c then 1 else 0) ≤ 1) [ true ↦ omega arith | false ↦ omega arith ]

one-of-two : (a k : ℕ) → one_if_same (a + 1) k + one_if_same (a + 2) k ≤ 1
one-of-two a k = elim (cases_lt (a + 1) k) [
  | inl low ↦ omega (arith, same_other (a + 1) k (λ e. absurd (omega (arith, low, e))), one-at-most (a + 2) k)
  | inr high ↦ omega (arith, same_other (a + 2) k (λ e. absurd (omega (arith, high, e))), one-at-most (a + 1) k)
]

-- ---- a leaf with other data

module _ (M : Program) (S : PlainSearch) (h : IsKeptInOrder M S) where
  abbrev o : IsInOrder S
  o = h.order

  pub put-leaf : (id : ℕ) (kept : LeafData) → IsLeafInOrder kept → IsKeptInOrder M (search_with_leaf S id kept)
  put-leaf id kept k =
      let new : Plain = Leaf (record { id = id; kept = kept }) in
      record {
        order = record {
          lists = order-replaced id new k S.tree.root o.lists;
          cuts = o.cuts;
          nodes = omega (arith, count-replaced id new S.tree.root (h.own.distinct id), o.nodes);
          limit = o.limit;
        };
        own = record {
          distinct = λ i. omega (arith, ids-within i id new S.tree.root (omega arith), h.own.distinct i);
          given = λ i past. omega (arith, ids-within i id new S.tree.root (omega arith), h.own.given i past);
        };
        model = h.model;
      }

  -- ---- a split

  no-new : (id i : ℕ) (last : ℕ) → i ≤ last → one_if_same (last + 1) i + one_if_same (last + 2) i ≡ 0
  no-new id i last low = omega (arith, same_other (last + 1) i (λ e. absurd (omega (arith, low, e))), same_other (last + 2) i (λ e. absurd (omega (arith, low, e))))

  pub put-split : (id j : ℕ) (v : ℤ) (mult : Multipliers) (basis : Basis) (left right : LeafData) → AreInOrder mult → IsBasisInOrder basis → IsLeafInOrder left → IsLeafInOrder right
      → node_count S.tree.root + 2 ≤ S.tree.limit → IsKeptInOrder M (search_with_split S id j v mult basis left right)
  put-split id j v mult basis left right m b l r room =
      let last : ℕ = S.tree.last in
      let new : Plain = split_with_leaves last id j v mult basis left right in
      record {
        order = record {
          lists = order-replaced id new (record { mult = m; basis = b }, (l, r)) S.tree.root o.lists;
          cuts = o.cuts;
          nodes = omega (arith, count-replaced id new S.tree.root (h.own.distinct id), room, o.limit);
          limit = o.limit;
        };
        own = record {
          distinct = λ i. elim (cases_lt last i) [
            | inl past ↦ omega (arith, ids-put i id new S.tree.root (h.own.distinct id) (h.own.given i past), one-of-two last i)
            | inr low ↦ omega (arith, ids-within i id new S.tree.root (omega (arith, no-new id i last low)), h.own.distinct i)
          ];
          given = λ i past. omega (arith, ids-put i id new S.tree.root (h.own.distinct id) (h.own.given i (omega (arith, past))), same_other (last + 1) i (λ e. absurd (omega (arith, past, e))), same_other (last + 2) i (λ e. absurd (omega (arith, past, e))));
        };
        model = h.model;
      }

  -- ---- a point

  pub take-point : (x : Point) (new : PlainSearch) → TakesPoint S x new → IsKeptInOrder M new
  take-point x new t =
      let count = judged-count (formulation_of S) _ S.tree new.tree t.tree in
      let limit = judged-limit (formulation_of S) _ S.tree new.tree t.tree in
      let last = judged-last (formulation_of S) _ S.tree new.tree t.tree in
      record {
        order = record {
          lists = judged-order (formulation_of S) _ S.tree new.tree t.tree o.lists;
          cuts = subst (λ X. X) (λ i. AreCutsInOrder (sym t.model i) (derivations_of (sym t.cuts i))) o.cuts;
          nodes = omega (arith, count, o.nodes);
          limit = omega (arith, limit, o.limit);
        };
        own = record {
          distinct = λ i. omega (arith, judged-ids (formulation_of S) _ S.tree new.tree t.tree i, h.own.distinct i);
          given = λ i past. omega (arith, judged-ids (formulation_of S) _ S.tree new.tree t.tree i, h.own.given i (omega (arith, past, last)));
        };
        model = t.model ∙ h.model;
      }

  put-judged : (id : ℕ) (path : Path) (kept : LeafData) → IsLeafInOrder kept → (new : PlainSearch) → PutsJudged S id path kept new → IsKeptInOrder M new
  put-judged id path kept k new (state, (judged, is)) =
      subst (IsKeptInOrder M) (sym is) (put-leaf id (with_state state kept) (record { mult = k.mult; farkas = k.farkas; basis = k.basis }))

-- ---- what is answered

module _ (M : Program) (S : PlainSearch) (h : IsKeptInOrder M S) (id : ℕ) (path : Path) where
  same : (new : PlainSearch) → new ≡ S → IsKeptInOrder M new
  same new e = subst (IsKeptInOrder M) (sym e) h

  close : (kept : LeafData) → IsLeafInOrder kept → (new : PlainSearch) (taken : Taken) → TakesClose S id path kept new taken → IsKeptInOrder M new
  close kept k new Stale t = absurd t
  close kept k new Refused t = same new t.1
  close kept k new Reopened t = same new t.2
  close kept k new Full t = absurd t
  close kept k new Closed t = subst (IsKeptInOrder M) (sym t.2) (put-leaf M S h id kept k)
  close kept k new Split t = absurd t
  close kept k new Kept t = absurd t

  point-close : (x : Point) (kept : LeafData) → IsLeafInOrder kept → (new : PlainSearch) (taken : Taken) → TakesPointClose S id path x kept new taken → IsKeptInOrder M new
  point-close x kept k new Stale t = absurd t
  point-close x kept k new Refused t = same new t.1
  point-close x kept k new Reopened t = same new t.3
  point-close x kept k new Full t = absurd t
  point-close x kept k new Closed (may, lists, closes, (mid, (takes, is))) = subst (IsKeptInOrder M) (sym is) (put-leaf M mid (take-point M S h x mid takes) id kept k)
  point-close x kept k new Split t = absurd t
  point-close x kept k new Kept t = absurd t

  keep : (kept : LeafData) → IsLeafInOrder kept → (new : PlainSearch) (taken : Taken) → TakesKeep S id path kept new taken → IsKeptInOrder M new
  keep kept k new Stale t = absurd t
  keep kept k new Refused t = same new t.1
  keep kept k new Reopened t = absurd t
  keep kept k new Full t = absurd t
  keep kept k new Closed t = absurd t
  keep kept k new Split t = absurd t
  keep kept k new Kept t = put-judged M S h id path kept k new t.1

  point-keep : (x : Point) (kept : LeafData) → IsLeafInOrder kept → (new : PlainSearch) (taken : Taken) → TakesPointKeep S id path x kept new taken → IsKeptInOrder M new
  point-keep x kept k new Stale t = absurd t
  point-keep x kept k new Refused t = same new t.1
  point-keep x kept k new Reopened t = absurd t
  point-keep x kept k new Full t = absurd t
  point-keep x kept k new Closed t = absurd t
  point-keep x kept k new Split t = absurd t
  point-keep x kept k new Kept (may, basis, (mid, (takes, puts))) = put-judged M mid (take-point M S h x mid takes) id path kept k new puts

  child : (at : Path) (mult : Multipliers) (basis : Basis) (kept : LeafData) → AreInOrder mult → IsBasisInOrder basis → IsChild S at mult basis kept → IsLeafInOrder kept
  child at mult basis kept m b c = record { mult = subst AreInOrder (sym c.mult_is) m; farkas = subst AreInOrder (sym c.farkas_is) none-order; basis = subst IsBasisInOrder (sym c.basis_is) b }

  split : (j : ℕ) (v : ℤ) (mult : Multipliers) (basis : Basis) → AreInOrder mult → IsBasisInOrder basis → (new : PlainSearch) (taken : Taken) → TakesSplit S id path j v mult basis new taken → IsKeptInOrder M new
  split j v mult basis m b new Stale t = absurd t
  split j v mult basis m b new Refused t = same new t.1
  split j v mult basis m b new Reopened t = absurd t
  split j v mult basis m b new Full t = same new t.2
  split j v mult basis m b new Closed t = absurd t
  split j v mult basis m b new Split (sound, room, (left, (right, (first, (second, is))))) =
      subst (IsKeptInOrder M) (sym is) (put-split M S h id j v mult basis left right m b (child _ mult basis left m b first) (child _ mult basis right m b second) room.nodes)
  split j v mult basis m b new Kept t = absurd t

  result : (kept : LeafData) → IsLeafInOrder kept → (done : NodeResult) → IsResultInOrder done → (new : PlainSearch) (taken : Taken) → TakesResult S id path kept done new taken → IsKeptInOrder M new
  result kept k (Close mult farkas basis) (m, f, b) new taken t = close (closed_data mult farkas basis) (record { mult = m; farkas = f; basis = b }) new taken t
  result kept k (SplitAt col v mult basis) (m, b) new taken t = split col.0 v mult basis m b new taken t
  result kept k (PointAndClose x mult basis) (m, b) new taken t = point-close x (closed_data mult kept.farkas basis) (record { mult = m; farkas = k.farkas; basis = b }) new taken t
  result kept k (Keep None basis) b new taken t = keep (with_basis kept basis) (record { mult = k.mult; farkas = k.farkas; basis = b }) new taken t
  result kept k (Keep (Some x) basis) b new taken t = point-keep x (with_basis kept basis) (record { mult = k.mult; farkas = k.farkas; basis = b }) new taken t

pub open-order : (M : Program) (S : PlainSearch) (id : ℕ) (done : NodeResult) (new : PlainSearch) (taken : Taken) → TakesOpen S id done new taken → IsResultInOrder done → IsKeptInOrder M S → IsKeptInOrder M new
open-order M S id done new taken t r h = result M S h id t.path t.kept (order-found id S.tree.root t.kept h.order.lists t.leaf.data_is) done r new taken t.result_is

pub taken-order : (M : Program) (S : PlainSearch) (id : ℕ) (done : NodeResult) (new : PlainSearch) (taken : Taken) → Takes S id done new taken → IsResultInOrder done → IsKeptInOrder M S → IsKeptInOrder M new
taken-order M S id done new Stale t r h = subst (IsKeptInOrder M) (sym t.1) h
taken-order M S id done new Refused t r h = open-order M S id done new Refused t r h
taken-order M S id done new Reopened t r h = open-order M S id done new Reopened t r h
taken-order M S id done new Full t r h = open-order M S id done new Full t r h
taken-order M S id done new Closed t r h = open-order M S id done new Closed t r h
taken-order M S id done new Split t r h = open-order M S id done new Split t r h
taken-order M S id done new Kept t r h = open-order M S id done new Kept t r h

pub place-order : PlaceOrderLaw
place-order S id done new taken t r numbered h = (taken-order S.model S id done new taken t r (record { order = h; own = own-leaves S.tree numbered; model = refl })).order

-- ---- cuts

cuts-push : (S : PlainSearch) (c : CutRow) → IsCutInOrder (length S.model.rows) (length S.model.cols) c.from → IsInOrder S → AreCutsInOrder S.model (derivations_of (S.cuts ++ c ∷ []))
cuts-push S c own h =
    subst (AreCutsInOrder S.model) (sym (map_push (λ (d : CutRow). d.from) S.cuts c))
    (All-push (IsCutInOrder (length S.model.rows) (length S.model.cols)) (derivations_of S.cuts) c.from h.cuts own)

with-cut : (S : PlainSearch) (c : CutRow) → IsCutInOrder (length S.model.rows) (length S.model.cols) c.from → IsInOrder S → IsInOrder (search_with_cut S c)
with-cut S c own h = record { lists = h.lists; cuts = cuts-push S c own h; nodes = h.nodes; limit = h.limit }

-- the first of them, and those behind it at the search that has it
module _ (S : PlainSearch) (d : Derivation) (ds : List Derivation) (mid : PlainSearch) (adds : AddsCut S d mid) (all : AreCutsInOrder S.model (d ∷ ds)) where
  abbrev P : Derivation → Type 0
  P = IsCutInOrder (length S.model.rows) (length S.model.cols)

  model-kept : mid.model ≡ S.model
  model-kept = ap (λ (X : PlainSearch). X.model) adds.new_is

  rest-there : AreCutsInOrder mid.model ds
  rest-there = subst (λ M. AreCutsInOrder M ds) (sym model-kept) (All-tail P d ds all)

  one-order : IsInOrder S → IsInOrder mid
  one-order h = subst IsInOrder (sym adds.new_is) (with-cut S adds.cut (subst P (sym adds.from) (All-head P d ds all)) h)

pub pool-order : PoolOrderLaw
pool-order S [] new e all h = subst IsInOrder (sym e) h
pool-order S (d ∷ ds) new (mid, (adds, rest)) all h = pool-order mid ds new rest (rest-there S d ds mid adds all) (one-order S d ds mid adds all h)

-- cuts leave the tree
tree-kept : (found : List Derivation) (S new : PlainSearch) → AddsCuts S found new → new.tree ≡ S.tree
tree-kept [] S new e = ap (λ (X : PlainSearch). X.tree) e
tree-kept (d ∷ ds) S new (mid, (adds, rest)) = tree-kept ds mid new rest ∙ ap (λ (X : PlainSearch). X.tree) adds.new_is

model-same : (found : List Derivation) (S new : PlainSearch) → AddsCuts S found new → new.model ≡ S.model
model-same [] S new e = ap (λ (X : PlainSearch). X.model) e
model-same (d ∷ ds) S new (mid, (adds, rest)) = model-same ds mid new rest ∙ ap (λ (X : PlainSearch). X.model) adds.new_is

pub adds-kept : (M : Program) (S : PlainSearch) (found : List Derivation) (new : PlainSearch) → AddsCuts S found new → AreCutsInOrder S.model found → IsKeptInOrder M S → IsKeptInOrder M new
adds-kept M S found new adds all h = record { order = pool-order S found new adds all h.order; own = subst HasOwnLeaves (sym (tree-kept found S new adds)) h.own; model = model-same found S new adds ∙ h.model }

-- ---- fresh searches

pub fresh-order : FreshOrderLaw
fresh-order = record {
  fresh = λ M limit S f few.
      let count = judged-count (without_cuts M) None (first_tree limit) S.tree f.tree in
      let same = judged-limit (without_cuts M) None (first_tree limit) S.tree f.tree in
      record {
        lists = judged-order (without_cuts M) None (first_tree limit) S.tree f.tree (record { mult = none-order; farkas = none-order; basis = record { basic = none-rise; high = none-rise } });
        cuts = subst (λ cs. AreCutsInOrder S.model (derivations_of cs)) (sym f.cuts) (All-nil (IsCutInOrder (length S.model.rows) (length S.model.cols)));
        nodes = omega (arith, count);
        limit = omega (arith, same, few);
      };
  limited = λ S limit few h. record { lists = h.lists; cuts = h.cuts; nodes = h.nodes; limit = few };
}
