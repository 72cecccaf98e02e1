-- A search that follows an edit, and one that is cut down, stay in order.
use Rattle.std.specs.Prelude.{◌≡◌, ℕ, suc, ◌+◌, ◌<◌, ◌≤◌, true, false, if◌then◌else◌, not, nat_eq, List, [], ◌∷◌, length, map, filter, get_or, AllPairs, All, Contains, bytes_eq, Some}
use Rattle.std.proofs.Common.{refl, sym, ap, subst, arith, inl, inr}
use Rattle.std.proofs.lemmas.Bool.{cases_order, eq-eqb, not-true}
use Rattle.std.proofs.lemmas.List.{get_or-map, length-map, length_push}
use Rattle.std.proofs.lemmas.List.Elements.{All-map, All-weaker, All-filter, filter_passes}
use Rattle.std.proofs.lemmas.Slice.Eq.{bytes_eq-Decides}
use Rattle.std.proofs.lemmas.List.Folds.{list_any_at}
use Rattle.lp_model.specs.Elements.{place_after}
use Rattle.lp_model.specs.Edits.{place_in, only_row_names, col_place, row_place, with_sides, without_entry, edited, EditFits}
use Rattle.lp_model.specs.Lawful.{column_names}
use Rattle.lp_model.specs.declared.types.Col.{Col as Column}
use Rattle.lp_model.specs.declared.types.Row.{Row as Line}
use Rattle.lp_model.proofs.ChangedLaws.{length-changed_at, length-without_at, place_after-below, place_after-above}
use Rattle.lp_model.proofs.NameLemmas.{contains_cases}
use Rattle.lp_model.specs.Program.{Program}
use Rattle.lp_model.specs.declared.types.Derivation.{Derivation}
use Rattle.lp_model.specs.declared.types.Literal.{Literal}
use Rattle.lp_model.specs.declared.types.Edit.{Edit}
use Rattle.lp_model.specs.declared.types.Edit.TheVariants.{SetCost, SetCost2, SetRow, SetColBounds, SetKind, AddCol, DelCol, AddRow, DelRow, ReplaceRow}
use Rattle.lp_model.specs.declared.types.Var.TheVariants.{Col, Row}
use Rattle.branch_tree.specs.Tree.{node_count}
use Rattle.branch_tree.specs.Following.{followed_edit, after_edit}
use Rattle.branch_tree.specs.Numbered.{NumberedTree}
use Rattle.branch_tree.specs.Changes.{after_trim}
use Rattle.kept_cuts.specs.Kept.{names_column, goes_with, literal_after, derivation_after, derivations_of, derivations_after, gone_with}
use Rattle.sound_searches.specs.Sound.{formulation_of}
use Rattle.list_order.specs.Ordered.{HasListsInOrder, IsCutInOrder, AreCutsInOrder}
use Rattle.list_order.specs.Laws.{EditOrderLaw, TrimOrderLaw}
use Rattle.list_order.proofs.PlaceRise.{place-rises}
use Rattle.list_order.proofs.TreeOrder.{judged-order, judged-count, judged-limit, order-trimmed, count-trimmed, order-merged, count-merged, order-without, count-without, order-left, count-left}

-- ---- literals

-- no literal is of the column that goes
none-named : (g : ℕ) (ls : List Literal) → names_column g ls ≡ false → All (λ (l : Literal). ¬ (g ≡ l.col.0)) ls
none-named g ls none k d below e =
    let some : names_column g ls ≡ true = list_any_at (λ (l : Literal). nat_eq l.col.0 g) ls k d below (eq-eqb (get_or ls k d).col.0 g (sym e)) in
    cc

literals-after : (g : ℕ) (ls : List Literal) → All (λ (l : Literal). ¬ (g ≡ l.col.0)) ls → AllPairs (λ (a b : Literal). a.col.0 < b.col.0) ls
    → AllPairs (λ (a b : Literal). a.col.0 < b.col.0) (map (literal_after g) ls)
literals-after g ls apart rise = λ i j d less below.
    let size : length (map (literal_after g) ls) ≡ length ls = length-map ls (literal_after g) in
    let late : j < length ls = omega (arith, size, below) in
    let early : i < length ls = omega (arith, less, late) in
    let first : (get_or (map (literal_after g) ls) i d).col.0 ≡ place_after g (get_or ls i d).col.0 = ap (λ (l : Literal). l.col.0) (get_or-map (literal_after g) ls i d d early) in
    let second : (get_or (map (literal_after g) ls) j d).col.0 ≡ place_after g (get_or ls j d).col.0 = ap (λ (l : Literal). l.col.0) (get_or-map (literal_after g) ls j d d late) in
    subst (λ k. k < (get_or (map (literal_after g) ls) j d).col.0) (sym first)
    (subst (λ k. place_after g (get_or ls i d).col.0 < k) (sym second) (place-rises g (get_or ls i d).col.0 (get_or ls j d).col.0 (apart i d early) (apart j d late) (rise i j d less late)))

-- ---- what is there

contains-place : (ns : List (List ℕ)) (name : List ℕ) → Contains ns name → place_in ns name < length ns
contains-place [] name h = absurd (omega (arith, h.1))
contains-place (n ∷ ns) name h = elim (contains_cases n name ns h) [
  | inl e ↦ let t : bytes_eq n name ≡ true = (bytes_eq-Decides n name).1 e in rw t (omega arith)
  | inr later ↦ let rest = contains-place ns name later in elim (bytes_eq n name) as (λ b. (if b then 0 else suc (place_in ns name)) < suc (length ns)) [ true ↦ omega arith | false ↦ omega arith ]
]

col-there : (M : Program) (name : List ℕ) → Contains (column_names M) name → col_place M name < length M.cols
col-there M name h = omega (arith, length-map M.cols (λ (c : Column). c.name), contains-place (column_names M) name h)

row-there : (M : Program) (name : List ℕ) → Contains (only_row_names M) name → row_place M name < length M.rows
row-there M name h = omega (arith, length-map M.rows (λ (r : Line). r.name), contains-place (only_row_names M) name h)

-- a place below a count that is another stands below the count less one
place-below : (k n m i : ℕ) → k < n → suc m ≡ n → i < n → ¬ (k ≡ i) → place_after k i < m
place-below k n m i below fewer within apart = elim (cases_order i k) [
  | inl e ↦ absurd (apart (sym e))
  | inr o ↦ elim o [
    | inl low ↦ omega (arith, place_after-below k i (omega (arith, low)), low, below, fewer)
    | inr high ↦ omega (arith, place_after-above k i high, high, within, fewer)
  ]
]

-- a cut is in order where there are as many rows and columns, or more
more-there : (rows columns more_rows more_columns : ℕ) → rows ≤ more_rows → columns ≤ more_columns → (d : Derivation) → IsCutInOrder rows columns d → IsCutInOrder more_rows more_columns d
more-there rows columns more_rows more_columns r c d h = record {
  row = omega (arith, h.row, r);
  there = All-weaker (λ (l : Literal). l.col.0 < columns) (λ (l : Literal). l.col.0 < more_columns) (λ l below. omega (arith, below, c)) d.literals h.there;
  rising = h.rising;
}

derivation-order : (M : Program) (e : Edit) → EditFits M e → (d : Derivation) → not (goes_with M e d) ≡ true → IsCutInOrder (length M.rows) (length M.cols) d
    → IsCutInOrder (length (edited M e).rows) (length (edited M e).cols) (derivation_after M e d)
derivation-order M (SetCost col v) fits d stays h =
    let n = length-changed_at (λ c. record c { cost = v }) M.cols (col_place M col) in more-there _ _ _ _ (omega arith) (omega (arith, n)) d h
derivation-order M (SetCost2 col v) fits d stays h =
    let n = length-changed_at (λ c. record c { cost2 = v }) M.cols (col_place M col) in more-there _ _ _ _ (omega arith) (omega (arith, n)) d h
derivation-order M (SetRow row lo hi) fits d stays h =
    let n = length-changed_at (with_sides lo hi) M.rows (row_place M row) in more-there _ _ _ _ (omega (arith, n)) (omega arith) d h
derivation-order M (SetColBounds col lo up) fits d stays h =
    let n = length-changed_at (λ c. record c { lo = lo; up = up }) M.cols (col_place M col) in more-there _ _ _ _ (omega arith) (omega (arith, n)) d h
derivation-order M (SetKind col integer) fits d stays h =
    let n = length-changed_at (λ c. record c { int = integer }) M.cols (col_place M col) in more-there _ _ _ _ (omega arith) (omega (arith, n)) d h
derivation-order M (AddCol name integer lo up cost cost2 entries) fits d stays h =
    let n : length (edited M (AddCol name integer lo up cost cost2 entries)).cols ≡ length M.cols + 1 = length_push M.cols _ in more-there _ _ _ _ (omega arith) (omega (arith, n)) d h
derivation-order M (DelCol col) fits d stays h =
    let k : ℕ = col_place M col in
    let below : k < length M.cols = col-there M col fits.known.0 in
    let fewer : suc (length (edited M (DelCol col)).cols) ≡ length M.cols = length-without_at M.cols k below in
    let apart = none-named k d.literals (not-true (names_column k d.literals) stays) in
    record {
      row = h.row;
      there =
          All-map (λ (l : Literal). l.col.0 < length (edited M (DelCol col)).cols) (literal_after k) d.literals
          (λ i l within. place-below k (length M.cols) (length (edited M (DelCol col)).cols) (get_or d.literals i l).col.0 below fewer (h.there i l within) (apart i l within));
      rising = literals-after k d.literals apart h.rising;
    }
derivation-order M (AddRow name lo hi entries) fits d stays h =
    let N : Program = edited M (AddRow name lo hi entries) in
    let n : length N.rows ≡ length M.rows + 1 = length_push M.rows _ in
    let m : length N.cols ≡ length M.cols = length-map M.cols _ in
    more-there _ _ _ _ (omega (arith, n)) (omega (arith, m)) d h
derivation-order M (DelRow row) fits d stays h =
    let k : ℕ = row_place M row in
    let N : Program = edited M (DelRow row) in
    let below : k < length M.rows = row-there M row fits.known.0 in
    let fewer : suc (length N.rows) ≡ length M.rows = length-without_at M.rows k below in
    let m : length N.cols ≡ length M.cols = length-map M.cols (λ c. without_entry k c) in
    let apart : ¬ (k ≡ d.row.0) = λ e. let t : nat_eq d.row.0 k ≡ true = eq-eqb d.row.0 k (sym e) in let f : nat_eq d.row.0 k ≡ false = not-true (nat_eq d.row.0 k) stays in cc in
    record {
      row = place-below k (length M.rows) (length N.rows) d.row.0 below fewer h.row apart;
      there = All-weaker (λ (l : Literal). l.col.0 < length M.cols) (λ (l : Literal). l.col.0 < length N.cols) (λ l w. omega (arith, w, m)) d.literals h.there;
      rising = h.rising;
    }
derivation-order M (ReplaceRow row lo hi entries) fits d stays h =
    let N : Program = edited M (ReplaceRow row lo hi entries) in
    let n = length-changed_at (with_sides (Some lo) (Some hi)) M.rows (row_place M row) in
    let m : length N.cols ≡ length M.cols = length-map M.cols _ in
    more-there _ _ _ _ (omega (arith, n)) (omega (arith, m)) d h

derivations-order : (M : Program) (e : Edit) → EditFits M e → (ds : List Derivation) → AreCutsInOrder M ds → AreCutsInOrder (edited M e) (derivations_after M e ds)
derivations-order M e fits ds h =
    let left : List Derivation = filter (λ d. not (goes_with M e d)) ds in
    All-map (IsCutInOrder (length (edited M e).rows) (length (edited M e).cols)) (derivation_after M e) left
    (λ k d below. derivation-order M e fits (get_or left k d) (filter_passes (λ d. not (goes_with M e d)) ds k d below)
    (All-filter (λ d. not (goes_with M e d)) (IsCutInOrder (length M.rows) (length M.cols)) ds h k d below))

-- ---- the nodes that follow

module _ (T : NumberedTree) (M : Program) where
  followed-order : (e : Edit) → HasListsInOrder T.root → HasListsInOrder (followed_edit T M e).root
  followed-order (SetCost col v) h = h
  followed-order (SetCost2 col v) h = h
  followed-order (SetRow row lo hi) h = h
  followed-order (SetColBounds col lo up) h = h
  followed-order (SetKind col true) h = h
  followed-order (SetKind col false) h = order-merged (col_place M col) T.last T.root h
  followed-order (AddCol name integer lo up cost cost2 entries) h = h
  followed-order (DelCol col) h = order-without (Col (record { 0 = col_place M col })) T.root h
  followed-order (AddRow name lo hi entries) h = h
  followed-order (DelRow row) h = order-without (Row (record { 0 = row_place M row })) T.root h
  followed-order (ReplaceRow row lo hi entries) h = h

  followed-count : (e : Edit) → node_count (followed_edit T M e).root ≤ node_count T.root
  followed-count (SetCost col v) = omega arith
  followed-count (SetCost2 col v) = omega arith
  followed-count (SetRow row lo hi) = omega arith
  followed-count (SetColBounds col lo up) = omega arith
  followed-count (SetKind col true) = omega arith
  followed-count (SetKind col false) = count-merged (col_place M col) T.last T.root
  followed-count (AddCol name integer lo up cost cost2 entries) = omega arith
  followed-count (DelCol col) = count-without (Col (record { 0 = col_place M col })) T.root
  followed-count (AddRow name lo hi entries) = omega arith
  followed-count (DelRow row) = count-without (Row (record { 0 = row_place M row })) T.root
  followed-count (ReplaceRow row lo hi entries) = omega arith

  followed-limit : (e : Edit) → (followed_edit T M e).limit ≡ T.limit
  followed-limit (SetCost col v) = refl
  followed-limit (SetCost2 col v) = refl
  followed-limit (SetRow row lo hi) = refl
  followed-limit (SetColBounds col lo up) = refl
  followed-limit (SetKind col true) = refl
  followed-limit (SetKind col false) = refl
  followed-limit (AddCol name integer lo up cost cost2 entries) = refl
  followed-limit (DelCol col) = refl
  followed-limit (AddRow name lo hi entries) = refl
  followed-limit (DelRow row) = refl
  followed-limit (ReplaceRow row lo hi entries) = refl

pub edit-order : EditOrderLaw
edit-order S e new fits f h =
    let T : NumberedTree = followed_edit S.tree S.model e in
    let after : NumberedTree = after_edit S.tree S.model (gone_with S.model e S.cuts) e in
    let count = judged-count (formulation_of new) _ after new.tree f.tree in
    let limit = judged-limit (formulation_of new) _ after new.tree f.tree in
    record {
      lists = judged-order (formulation_of new) _ after new.tree f.tree (order-left S.model e S.cuts T.root (followed-order S.tree S.model e h.lists));
      cuts = subst (λ X. X) (λ i. AreCutsInOrder (sym f.model i) (sym f.cuts i)) (derivations-order S.model e fits (derivations_of S.cuts) h.cuts);
      nodes = omega (arith, count, count-left S.model e S.cuts T.root, followed-count S.tree S.model e, h.nodes);
      limit = omega (arith, limit, followed-limit S.tree S.model e, h.limit);
    }

pub trim-order : TrimOrderLaw
trim-order S depth new t h =
    let T : NumberedTree = after_trim S.tree depth in
    let count = judged-count (formulation_of S) _ T new.tree t.tree in
    let limit = judged-limit (formulation_of S) _ T new.tree t.tree in
    record {
      lists = judged-order (formulation_of S) _ T new.tree t.tree (order-trimmed depth S.tree.last S.tree.root h.lists);
      cuts = subst (λ X. X) (λ i. AreCutsInOrder (sym t.model i) (derivations_of (sym t.cuts i))) h.cuts;
      nodes = omega (arith, count, count-trimmed depth S.tree.last S.tree.root, h.nodes);
      limit = omega (arith, limit, h.limit);
    }
