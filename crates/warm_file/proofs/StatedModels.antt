-- The model that a text states is one that scripts may have.
use Rattle.std.proofs.Common.{◌≡◌, ℕ, Bool, true, false, ◌&&◌, if◌then◌else◌, List, [], ◌∷◌, map, refl, subst, sym, ap, arith, Option, Result, Ok}
use Rattle.std.specs.Prelude.{◌≤◌, length, not, codes, is_some, All}
use Rattle.std.proofs.lemmas.List.{length_push}
use Rattle.std.proofs.lemmas.List.Elements.{All-nil, All-cons, All-push, All-map}
use Rattle.frac128.specs.Rational.{ℚ}
use Rattle.lp_model.specs.Limits.{col_limit, row_limit}
use Rattle.lp_model.specs.Program.{Program}
use Rattle.lp_model.specs.declared.types.Col.{Col}
use Rattle.lp_model.specs.declared.types.Derivation.{Derivation}
use Rattle.lp_model.specs.declared.types.Row.{Row}
use Rattle.lp_model.specs.declared.types.Sense.{Sense}
use Rattle.branch_tree.specs.declared.node.NodeData.{NodeData}
use Rattle.lp_model.specs.Names.{is_lawful_name}
use Rattle.word_names.specs.ScriptModels.{is_far, IsScriptModel}
use Rattle.serde_json.specs.Data.{Data}
use Rattle.serde_json.specs.Find.{as_object}
use Rattle.search_data.specs.Trees.{is_one_tree}
use Rattle.search_data.specs.declared.data.SearchData.{SearchData}
use Rattle.warm_file.specs.Faults.{Fault, fault, behind, at_key}
use Rattle.warm_file.specs.Laws.{StatedModelLaw}
use Rattle.warm_file.specs.Models.{is_among, name_of, row_in, row_of, col_in, col_of, room_behind, entries_of, is_bounded, costed_of, bounded_of, sense_of, rows_of, cols_of, program_of, lists_of, model_of as read_model}
use Rattle.warm_file.specs.Numbers.{side_of, number_of, near_of, bound_of}
use Rattle.warm_file.specs.Ranges.{are_sides}
use Rattle.warm_file.specs.Searches.{search_in, search_of, whole_search, cuts_of, points_of, nodes_of, nodes_told, with_nodes, counts, tree_of}
use Rattle.warm_file.specs.Values.{text_in, truth_of, member, at_most_items}
use Rattle.warm_file.proofs.Inversions.{next-ok, key-ok, test-ok, member-ok, list-keeps, at_most-ok}

left : (a b : Bool) → a && b ≡ true → a ≡ true
left true b h = refl
left false b h = h

abbrev IsLawfulName : List ℕ → Type 0
IsLawfulName name = is_lawful_name name ≡ true

name-lawful : (taken : List (List ℕ)) (d : Data) (name : List ℕ) → name_of taken d ≡ Ok name → IsLawfulName name
unfolding name_of
name-lawful taken d name e =
    let n = next-ok (text_in d) (λ text. if is_lawful_name text && not (is_among text taken) then Ok text else fault 9) name e in
    let t = test-ok (is_lawful_name n.0 && not (is_among n.0 taken)) (Ok n.0) 9 name n.1.1 in
    let same : n.0 ≡ name = let h = t.1 in cc in
    subst IsLawfulName same (left (is_lawful_name n.0) (not (is_among n.0 taken)) t.0)

row-lawful : (obj obj2 : List ℕ) (before : List Row) (d : Data) (r : Row) → row_of obj obj2 before d ≡ Ok r → IsLawfulName r.name
unfolding row_of
row-lawful obj obj2 before d r e =
    let taken = obj ∷ obj2 ∷ map (λ (s : Row). s.name) before in
    let o = test-ok (is_some (as_object d)) (row_in obj obj2 before d) 3 r e in
    let name = next-ok (member (codes "name") (name_of taken) d) _ r o.1 in
    let lo = next-ok (member (codes "lo") side_of d) _ r name.1.1 in
    let hi = next-ok (member (codes "hi") side_of d) _ r lo.1.1 in
    let made : Row = record { name = name.0; lo = lo.0; hi = hi.0 } in
    let t = test-ok (are_sides lo.0 hi.0) (Ok made) 11 r hi.1.1 in
    let same : made ≡ r = let h = t.1 in cc in
    let v = member-ok (codes "name") (name_of taken) d name.0 name.1.0 in
    subst (λ (q : Row). IsLawfulName q.name) same (name-lawful taken v.0 name.0 v.1)

-- a column with a lawful name and no far bound
record IsScriptColumn (c : Col) : Type 0 where
  named : IsLawfulName c.name
  lower : is_far c.lo ≡ false
  upper : is_far c.up ≡ false

near-bound : (d : Data) (b : Option ℚ) → bound_of d ≡ Ok b → is_far b ≡ false
unfolding bound_of
near-bound d b e =
    let n = next-ok (side_of d) near_of b e in
    by n.0 (is_far n.0) refl n.1.1
  where
    by : (o : Option ℚ) (test : Bool) → is_far o ≡ test → (if test then fault 11 else Ok o) ≡ Ok b → is_far b ≡ false
    by o true is h = absurd (cc)
    by o false is h = let same : o ≡ b = cc in subst (λ (c : Option ℚ). is_far c ≡ false) same is

costed-column : (rows room : ℕ) (name : List ℕ) (integer : Bool) (lo up : Option ℚ) (d : Data) (c : Col) → IsLawfulName name → is_far lo ≡ false → is_far up ≡ false → costed_of rows room name integer lo up d ≡ Ok c → IsScriptColumn c
unfolding costed_of
costed-column rows room name integer lo up d c named lower upper e =
    let cost = next-ok (member (codes "cost") number_of d) _ c e in
    let cost2 = next-ok (member (codes "cost2") number_of d) _ c cost.1.1 in
    let entries = next-ok (member (codes "rows") (entries_of rows room) d) _ c cost2.1.1 in
    let made : Col = record { name = name; int = integer; lo = lo; up = up; cost = cost.0; cost2 = cost2.0; rows = entries.0 } in
    let same : made ≡ c = let h = entries.1.1 in cc in
    subst IsScriptColumn same (record { named = named; lower = lower; upper = upper })

bounded-column : (rows room : ℕ) (name : List ℕ) (integer : Bool) (d : Data) (c : Col) → IsLawfulName name → bounded_of rows room name integer d ≡ Ok c → IsScriptColumn c
unfolding bounded_of
bounded-column rows room name integer d c named e =
    let lo = next-ok (member (codes "lo") bound_of d) _ c e in
    let up = next-ok (member (codes "up") bound_of d) _ c lo.1.1 in
    let t = test-ok (is_bounded integer lo.0 up.0) (costed_of rows room name integer lo.0 up.0 d) 11 c up.1.1 in
    let low = member-ok (codes "lo") bound_of d lo.0 lo.1.0 in
    let high = member-ok (codes "up") bound_of d up.0 up.1.0 in
    costed-column rows room name integer lo.0 up.0 d c named (near-bound low.0 lo.0 low.1) (near-bound high.0 up.0 high.1) t.1

col-lawful : (rows : ℕ) (before : List Col) (d : Data) (c : Col) → col_of rows before d ≡ Ok c → IsScriptColumn c
unfolding col_of
col-lawful rows before d c e =
    let taken = map (λ (k : Col). k.name) before in
    let o = test-ok (is_some (as_object d)) (col_in rows before d) 3 c e in
    let name = next-ok (member (codes "name") (name_of taken) d) _ c o.1 in
    let integer = next-ok (member (codes "int") truth_of d) _ c name.1.1 in
    let v = member-ok (codes "name") (name_of taken) d name.0 name.1.0 in
    bounded-column rows (room_behind before) name.0 integer.0 d c (name-lawful taken v.0 name.0 v.1) integer.1.1

rows-lawful : (obj obj2 : List ℕ) (d : Data) (rows : List Row) → rows_of obj obj2 d ≡ Ok rows → All (λ (r : Row). IsLawfulName r.name) rows
unfolding rows_of
rows-lawful obj obj2 d rows e =
    list-keeps (at_most_items (row_limit false) (row_of obj obj2)) (All (λ (r : Row). IsLawfulName r.name))
    (λ before w r p said. All-push (λ (q : Row). IsLawfulName q.name) before r p (row-lawful obj obj2 before w r (at_most-ok (row_limit false) (row_of obj obj2) before w r said).1))
    d rows (All-nil (λ (r : Row). IsLawfulName r.name)) e

cols-lawful : (n : ℕ) (d : Data) (cols : List Col) → cols_of n d ≡ Ok cols → All IsScriptColumn cols
unfolding cols_of
cols-lawful n d cols e =
    list-keeps (at_most_items (col_limit false) (col_of n)) (All IsScriptColumn)
    (λ before w c p said. All-push IsScriptColumn before c p (col-lawful n before w c (at_most-ok (col_limit false) (col_of n) before w c said).1))
    d cols (All-nil IsScriptColumn) e

lists-script : (sense : Sense) (obj obj2 : List ℕ) (consts : List ℚ) (d : Data) (M : Program) → IsLawfulName obj → IsLawfulName obj2 → lists_of sense obj obj2 consts d ≡ Ok M → IsScriptModel M
unfolding lists_of
lists-script sense obj obj2 consts d M first second e =
    let rows = next-ok (member (codes "rows") (rows_of obj obj2) d) _ M e in
    let cols = next-ok (member (codes "cols") (cols_of (length rows.0)) d) _ M rows.1.1 in
    let made : Program = record { sense = sense; obj = obj; obj2 = obj2; consts = consts; rows = rows.0; cols = cols.0; wide = false } in
    let same : made ≡ M = let h = cols.1.1 in cc in
    let r = member-ok (codes "rows") (rows_of obj obj2) d rows.0 rows.1.0 in
    let c = member-ok (codes "cols") (cols_of (length rows.0)) d cols.0 cols.1.0 in
    let names = map (λ (r : Row). r.name) rows.0 in
    let lawful = All-map IsLawfulName (λ (r : Row). r.name) rows.0 (rows-lawful obj obj2 r.0 rows.0 r.1) in
    let columns = cols-lawful (length rows.0) c.0 cols.0 c.1 in
    subst IsScriptModel same (record {
      row_names = All-cons IsLawfulName obj (obj2 ∷ names) first (All-cons IsLawfulName obj2 names second lawful);
      column_names = λ k d below. (columns k d below).named;
      bounds = λ k d below. ((columns k d below).lower, (columns k d below).upper);
      plain = refl;
    })

model-script : (d : Data) (M : Program) → read_model d ≡ Ok M → IsScriptModel M
unfolding read_model program_of
model-script d M e =
    let o = test-ok (is_some (as_object d)) _ 3 M e in
    let sense = next-ok (member (codes "sense") sense_of d) _ M o.1 in
    let obj = next-ok (member (codes "obj") (name_of []) d) _ M sense.1.1 in
    let obj2 = next-ok (member (codes "obj2") (name_of (obj.0 ∷ [])) d) _ M obj.1.1 in
    let first = next-ok (member (codes "const") number_of d) _ M obj2.1.1 in
    let second = next-ok (member (codes "const2") number_of d) _ M first.1.1 in
    let one = member-ok (codes "obj") (name_of []) d obj.0 obj.1.0 in
    let other = member-ok (codes "obj2") (name_of (obj.0 ∷ [])) d obj2.0 obj2.1.0 in
    lists-script sense.0 obj.0 obj2.0 (first.0 ∷ second.0 ∷ []) d M (name-lawful [] one.0 obj.0 one.1) (name-lawful (obj.0 ∷ []) other.0 obj2.0 other.1) second.1.1

whole-model : (version : ℕ) (M : Program) (cuts : List Derivation) (points : List (List ℚ)) (nodes : List NodeData) (s : SearchData) → whole_search version M cuts points nodes ≡ Ok s → s.model ≡ M
whole-model version M cuts points nodes s e = by (is_one_tree nodes) e
  where
    by : (b : Bool) → (if b then behind (nodes_told version nodes) (with_nodes M cuts points) else at_key (codes "nodes") (fault 12)) ≡ Ok s → s.model ≡ M
    by true h =
        let told = next-ok (nodes_told version nodes) (with_nodes M cuts points) s h in
        let made : SearchData = record { model = M; cuts = cuts; points = points; nodes = told.0 } in
        let same : made ≡ s = let g = told.1.1 in cc in
        ap (λ (t : SearchData). t.model) (sym same)
    by false h = let none = key-ok (codes "nodes") (fault {A = SearchData} 12) s h in absurd (cc)

stated-script : (d : Data) (s : SearchData) → search_of d ≡ Ok s → IsScriptModel s.model
unfolding search_of tree_of
stated-script d s e =
    let o = test-ok (is_some (as_object d)) (search_in d) 3 s e in
    let version = next-ok _ _ s o.1 in
    let model = next-ok (member (codes "model") read_model d) _ s version.1.1 in
    let M = model.0 in
    let cuts = next-ok (member (codes "cuts") (cuts_of (length M.rows) (length M.cols)) d) _ s model.1.1 in
    let points = next-ok (member (codes "points") (points_of (length M.cols)) d) _ s cuts.1.1 in
    let nodes = next-ok (member (codes "nodes") (nodes_of version.0 (counts M cuts.0)) d) _ s points.1.1 in
    let v = member-ok (codes "model") read_model d M model.1.0 in
    subst IsScriptModel (sym (whole-model version.0 M cuts.0 points.0 nodes.0 s nodes.1.1)) (model-script v.0 M v.1)

pub stated-model : StatedModelLaw
stated-model text s h = stated-script h.value s h.stated

-- ---- a stated model is within the limits

rows-few : (obj obj2 : List ℕ) (d : Data) (rows : List Row) → rows_of obj obj2 d ≡ Ok rows → length rows ≤ row_limit false
unfolding rows_of
rows-few obj obj2 d rows e =
    list-keeps (at_most_items (row_limit false) (row_of obj obj2)) (λ l. length l ≤ row_limit false)
    (λ before w r p said. let below = (at_most-ok (row_limit false) (row_of obj obj2) before w r said).0 in omega (arith, below, length_push before r))
    d rows (omega arith) e

cols-few : (n : ℕ) (d : Data) (cols : List Col) → cols_of n d ≡ Ok cols → length cols ≤ col_limit false
unfolding cols_of
cols-few n d cols e =
    list-keeps (at_most_items (col_limit false) (col_of n)) (λ l. length l ≤ col_limit false)
    (λ before w c p said. let below = (at_most-ok (col_limit false) (col_of n) before w c said).0 in omega (arith, below, length_push before c))
    d cols (omega arith) e

abbrev stated_model : Program → Result Program Fault
stated_model M = Ok M

one-model : (M N : Program) → stated_model M ≡ stated_model N → M ≡ N
one-model M N e = cc

pub model-few : (d : Data) (M : Program) → read_model d ≡ Ok M → (length M.rows ≤ row_limit false) × (length M.cols ≤ col_limit false)
unfolding read_model program_of lists_of
model-few d M e =
    let o = test-ok (is_some (as_object d)) _ 3 M e in
    let sense = next-ok (member (codes "sense") sense_of d) _ M o.1 in
    let obj = next-ok (member (codes "obj") (name_of []) d) _ M sense.1.1 in
    let obj2 = next-ok (member (codes "obj2") (name_of (obj.0 ∷ [])) d) _ M obj.1.1 in
    let first = next-ok (member (codes "const") number_of d) _ M obj2.1.1 in
    let second = next-ok (member (codes "const2") number_of d) _ M first.1.1 in
    let rows = next-ok (member (codes "rows") (rows_of obj.0 obj2.0) d) _ M second.1.1 in
    let cols = next-ok (member (codes "cols") (cols_of (length rows.0)) d) _ M rows.1.1 in
    let v = member-ok (codes "rows") (rows_of obj.0 obj2.0) d rows.0 rows.1.0 in
    let w = member-ok (codes "cols") (cols_of (length rows.0)) d cols.0 cols.1.0 in
    let made : Program = record { sense = sense.0; obj = obj.0; obj2 = obj2.0; consts = first.0 ∷ second.0 ∷ []; rows = rows.0; cols = cols.0; wide = false } in
    let same : made ≡ M = one-model made M cols.1.1 in
    subst (λ (N : Program). (length N.rows ≤ row_limit false) × (length N.cols ≤ col_limit false)) same (rows-few obj.0 obj2.0 v.0 rows.0 v.1, cols-few (length rows.0) w.0 cols.0 w.1)
