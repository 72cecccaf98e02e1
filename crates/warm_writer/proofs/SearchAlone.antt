-- Where what is written of a search is read without fault, it is read back.
use Rattle.std.specs.Option.{ForSome}
use Rattle.std.specs.Prelude.{◌≡◌, ℕ, Bool, true, false, not, ◌&&◌, if◌then◌else◌, List, [], ◌∷◌, length, get_or, map, pos, codes, All, Option, Some, Result, Ok}
use Rattle.std.specs.Str.{is_utf8}
use Rattle.std.proofs.Common.{refl, sym, ap, ap₂, subst, ◌∙◌, arith}
use Rattle.frac128.specs.Rational.{ℚ, int}
use Rattle.frac128.specs.Range.{Fits}
use Rattle.lp_model.specs.Limits.{col_limit, row_limit}
use Rattle.lp_model.specs.Program.{Program}
use Rattle.lp_model.specs.Fitting.{SidesFit, ColumnNumbersFit, ModelFits}
use Rattle.lp_model.specs.declared.types.RowId.{RowId}
use Rattle.lp_model.specs.declared.types.Row.{Row}
use Rattle.lp_model.specs.declared.types.Col.{Col}
use Rattle.branch_tree.specs.declared.node.NodeData.{NodeData}
use Rattle.serde_json.specs.Find.{get}
use Rattle.search_data.specs.declared.data.SearchData.{SearchData}
use Rattle.serde_json.specs.Data.{Data, boolean, null, string}
use Rattle.warm_file.specs.Faults.{Fault, or_fault, behind, at_key}
use Rattle.warm_file.specs.Values.{truth_of, member, at_most_items}
use Rattle.warm_file.proofs.Inversions.{next-ok, key-ok, there-ok}
use Rattle.warm_file.specs.Numbers.{number_of, is_far, side_of, near_of, bound_of}
use Rattle.warm_file.specs.Rising.{row_entry_of}
use Rattle.warm_file.specs.Ranges.{are_sides}
use Rattle.lp_model.specs.Names.{is_lawful_name}
use Rattle.warm_file.specs.Models.{is_among, name_of, row_of, room_behind, entries_of, is_bounded, costed_of, bounded_of, col_of, sense_of, rows_of, cols_of, lists_of, program_of, model_of}
use Rattle.warm_file.specs.Searches.{version_of, cut_of, point_of, cuts_of, points_of, nodes_of, counts, tree_of, search_of}
use Rattle.warm_writer.specs.Written.{place_json, number_json, name_json, side_json, list_json, row_json, row_entry_json, col_json, sense_json, model_json, cut_json, point_json, tree_json, search_json}
use Rattle.warm_writer.specs.Writable.{HasNarrowSplit, NodeFits, SearchFits, HasSearchShape}
use Rattle.warm_writer.proofs.Alone.{IsAlone, alone-ok, alone-is, alone-err, alone-next, alone-then, alone-else, alone-key, alone-member, alone-known, alone-few, list-alone}
use Rattle.warm_writer.proofs.ModelBack.{sense-back, two-items}
use Rattle.warm_writer.proofs.NodesAlone.{place-alone, nonzero-alone, cut-alone}
use Rattle.warm_writer.proofs.TreeAlone.{tree-read, whole-alone}
use Rattle.warm_writer.proofs.PartsBack.{number-back, side-back}
use Rattle.warm_writer.proofs.PointBack.{point-back}
use Rattle.warm_writer.proofs.Splits.{all-here}

-- ---- names and rows

name-alone : (taken : List (List ℕ)) (name : List ℕ) → IsAlone (name_of taken (name_json name)) name
unfolding name_of behind or_fault
name-alone taken name = by (is_utf8 name)
  where
    by : (b : Bool) → IsAlone (name_of taken (if b then string name else null)) name
    by true = alone-then (is_lawful_name name && not (is_among name taken)) (Ok name) _ name (alone-ok name)
    by false = alone-err _ name

row-alone : (obj obj2 : List ℕ) (before : List Row) (r : Row) → SidesFit r → IsAlone (row_of obj obj2 before (row_json r)) r
unfolding row_of
row-alone obj obj2 before r fits =
    let taken = obj ∷ obj2 ∷ map (λ (s : Row). s.name) before in
    alone-next _ _ r.name r (alone-member (codes "name") (name_of taken) (row_json r) (name_json r.name) r.name refl (name-alone taken r.name))
    (alone-next _ _ r.lo r (alone-member (codes "lo") side_of (row_json r) (side_json r.lo) r.lo refl (alone-is _ r.lo (side-back r.lo fits.lo)))
    (alone-next _ _ r.hi r (alone-member (codes "hi") side_of (row_json r) (side_json r.hi) r.hi refl (alone-is _ r.hi (side-back r.hi fits.hi)))
    (alone-then (are_sides r.lo r.hi) _ _ r (alone-ok r))))

-- ---- columns

entry-alone : (n : ℕ) (before : List (RowId × ℚ)) (e : RowId × ℚ) → Fits e.1 → IsAlone (row_entry_of n before (row_entry_json e)) e
unfolding row_entry_of or_fault
entry-alone n before e fits =
    alone-next _ _ _ e (alone-ok _)
    (alone-next _ _ e.0.0 e (alone-key _ _ e.0.0 (place-alone n e.0.0)) (alone-then _ _ _ e (alone-next _ _ e.1 e (alone-key _ _ e.1 (nonzero-alone e.1 fits)) (alone-ok e))))

entries-alone : (n room : ℕ) (es : List (RowId × ℚ)) → All (λ (e : RowId × ℚ). Fits e.1) es → IsAlone (entries_of n room (list_json row_entry_json es)) es
unfolding entries_of
entries-alone n room es fits =
    list-alone (at_most_items room (row_entry_of n)) row_entry_json es
    (λ before after e is. alone-few room (row_entry_of n) before (row_entry_json e) e (entry-alone n before e (all-here es before after e is (λ (d : RowId × ℚ). Fits d.1) fits)))

bound-alone : (b : Option ℚ) → ForSome b Fits → IsAlone (bound_of (side_json b)) b
unfolding bound_of
bound-alone b fits = alone-next (side_of (side_json b)) near_of b b (alone-is _ b (side-back b fits)) (alone-else (is_far b) _ _ b (alone-ok b))

col-alone : (n : ℕ) (before : List Col) (c : Col) → ColumnNumbersFit c → IsAlone (col_of n before (col_json c)) c
unfolding col_of bounded_of costed_of or_fault
col-alone n before c fits =
    alone-next _ _ c.name c (alone-member (codes "name") (name_of (map (λ (b : Col). b.name) before)) (col_json c) (name_json c.name) c.name refl (name-alone (map (λ (b : Col). b.name) before) c.name))
    (alone-next _ _ c.int c (alone-member (codes "int") truth_of (col_json c) (boolean c.int) c.int refl (alone-ok c.int))
    (alone-next _ _ c.lo c (alone-member (codes "lo") bound_of (col_json c) (side_json c.lo) c.lo refl (bound-alone c.lo fits.lo))
    (alone-next _ _ c.up c (alone-member (codes "up") bound_of (col_json c) (side_json c.up) c.up refl (bound-alone c.up fits.up))
    (alone-then (is_bounded c.int c.lo c.up) _ _ c
    (alone-next _ _ c.cost c (alone-member (codes "cost") number_of (col_json c) (number_json c.cost) c.cost refl (alone-is _ c.cost (number-back c.cost fits.cost)))
    (alone-next _ _ c.cost2 c (alone-member (codes "cost2") number_of (col_json c) (number_json c.cost2) c.cost2 refl (alone-is _ c.cost2 (number-back c.cost2 fits.cost2)))
    (alone-next _ _ c.rows c (alone-member (codes "rows") (entries_of n (room_behind before)) (col_json c) (list_json row_entry_json c.rows) c.rows refl (entries-alone n (room_behind before) c.rows fits.entries)) (alone-ok c))))))))

-- ---- models

rows-alone : (M : Program) → ModelFits M → IsAlone (rows_of M.obj M.obj2 (list_json row_json M.rows)) M.rows
unfolding rows_of
rows-alone M f =
    list-alone (at_most_items (row_limit false) (row_of M.obj M.obj2)) row_json M.rows
    (λ before after r e. alone-few (row_limit false) (row_of M.obj M.obj2) before (row_json r) r (row-alone M.obj M.obj2 before r (all-here M.rows before after r e SidesFit f.rows)))

cols-alone : (M : Program) → ModelFits M → IsAlone (cols_of (length M.rows) (list_json col_json M.cols)) M.cols
unfolding cols_of
cols-alone M f =
    list-alone (at_most_items (col_limit false) (col_of (length M.rows))) col_json M.cols
    (λ before after c e. alone-few (col_limit false) (col_of (length M.rows)) before (col_json c) c (col-alone (length M.rows) before c (all-here M.cols before after c e ColumnNumbersFit f.columns)))

model-alone : (M : Program) → M.wide ≡ false → length M.consts ≡ 2 → ModelFits M → IsAlone (model_of (model_json M)) M
unfolding model_of program_of lists_of
model-alone M plain two f =
    let z = int (pos 0) in
    let first = get_or M.consts 0 z in
    let second = get_or M.consts 1 z in
    let same : record { sense = M.sense; obj = M.obj; obj2 = M.obj2; consts = first ∷ second ∷ []; rows = M.rows; cols = M.cols; wide = false } ≡ M =
    ap₂ (λ k b. record { sense = M.sense; obj = M.obj; obj2 = M.obj2; consts = k; rows = M.rows; cols = M.cols; wide = b }) (two-items M.consts z two) (sym plain) in
    alone-next _ _ M.sense M (alone-member (codes "sense") sense_of (model_json M) (sense_json M.sense) M.sense refl (alone-is _ M.sense (sense-back M.sense)))
    (alone-next _ _ M.obj M (alone-member (codes "obj") (name_of []) (model_json M) (name_json M.obj) M.obj refl (name-alone [] M.obj))
    (alone-next _ _ M.obj2 M (alone-member (codes "obj2") (name_of (M.obj ∷ [])) (model_json M) (name_json M.obj2) M.obj2 refl (name-alone (M.obj ∷ []) M.obj2))
    (alone-next _ _ first M (alone-member (codes "const") number_of (model_json M) (number_json first) first refl (alone-is _ first (number-back first (f.constants 0 z (omega arith)))))
    (alone-next _ _ second M (alone-member (codes "const2") number_of (model_json M) (number_json second) second refl (alone-is _ second (number-back second (f.constants 1 z (omega arith)))))
    (alone-next _ _ M.rows M (alone-member (codes "rows") (rows_of M.obj M.obj2) (model_json M) (list_json row_json M.rows) M.rows refl (rows-alone M f))
    (alone-next _ _ M.cols M (alone-member (codes "cols") (cols_of (length M.rows)) (model_json M) (list_json col_json M.cols) M.cols refl (cols-alone M f)) (alone-is _ M (ap (λ p. Ok p) same))))))))

-- ---- the whole

version-alone : IsAlone (version_of (place_json 2)) 2
unfolding version_of behind or_fault
version-alone = alone-ok 2

-- the value of a key of what is written
there-alone : {A : Type 0} (key : List ℕ) (states : Data → Result A Fault) (d v : Data) (a : A) → Some v ≡ get key d → member key states d ≡ Ok a → states v ≡ Ok a
there-alone key states d v a there e =
    let n = next-ok (or_fault 2 (get key d)) (λ w. at_key key (states w)) a e in
    let found : get key d ≡ Some n.0 = there-ok 2 (get key d) n.0 n.1.0 in
    let same : n.0 ≡ v = cc in
    subst (λ w. states w ≡ Ok a) same (key-ok key (states n.0) a n.1.1)

pub search-alone : (s : SearchData) → HasSearchShape s → SearchFits s → IsAlone (search_of (search_json s)) s
unfolding search_of search_json tree_of cuts_of points_of nodes_of
search-alone s w f =
    let rows = length s.model.rows in
    let columns = length s.model.cols in
    let n = counts s.model s.cuts in
    let cuts =
    list-alone (at_most_items 10000 (λ before. cut_of rows columns)) cut_json s.cuts
    (λ before after d e. alone-few 10000 (λ b. cut_of rows columns) before (cut_json d) d (cut-alone rows columns d)) in
    let points =
    list-alone (at_most_items 100 (λ before. point_of columns)) point_json s.points
    (λ before after x e.
    let shape = all-here s.points before after x e (λ (y : List ℚ). length y ≡ columns) w.points in
    alone-few 100 (λ b. point_of columns) before (point_json x) x
    (alone-is _ x (ap (λ m. point_of m (point_json x)) (sym shape) ∙ point-back x (all-here s.points before after x e (λ (y : List ℚ). All Fits y) f.points)))) in
    let plain : All (λ (d : NodeData). HasNarrowSplit d × NodeFits d) s.nodes = λ k d lt. (w.splits k d lt, f.nodes k d lt) in
    alone-next _ _ 2 s (alone-member (codes "warm") version_of (search_json s) (place_json 2) 2 refl version-alone)
    (alone-next _ _ s.model s (alone-member (codes "model") model_of (search_json s) (model_json s.model) s.model refl (model-alone s.model w.plain w.constants f.model))
    (alone-next _ _ s.cuts s (alone-member (codes "cuts") (cuts_of rows columns) (search_json s) (list_json cut_json s.cuts) s.cuts refl cuts)
    (alone-next _ _ s.points s (alone-member (codes "points") (points_of columns) (search_json s) (list_json point_json s.points) s.points refl points)
    (alone-known _ _ s (λ read e.
    let r = tree-read n s.nodes read plain (there-alone (codes "nodes") (nodes_of 2 n) (search_json s) (tree_json s.nodes) read refl e) in
    whole-alone s.model s.cuts s.points s.nodes read r.0 r.1)))))
