-- What is written of a model is read back.
use Rattle.std.specs.Option.{ForSome}
use Rattle.std.specs.Prelude.{◌≡◌, ◌≢◌, ℕ, suc, ◌+◌, ◌≤◌, Bool, true, false, IsTrue, IsSome, List, [], ◌∷◌, ◌++◌, length, get_or, map, sum_by, pos, codes, All, Option, Some, None, Ok}
use Rattle.std.proofs.Common.{refl, sym, ap, ap₂, subst, ◌∙◌, append_assoc, arith}
use Rattle.std.proofs.lemmas.List.{map-append, length_push}
use Rattle.std.proofs.lemmas.List.Sums.{sum_by-append, sum_by_push}
use Rattle.frac128.specs.Rational.{ℚ, int}
use Rattle.frac128.proofs.Comparison.{eq_by_cmp-decides}
use Rattle.frac128.specs.Range.{Fits}
use Rattle.lp_model.specs.Edits.{is_zero}
use Rattle.lp_model.specs.Program.{Program}
use Rattle.lp_model.specs.Lawful.{AreEntries, IsRange, IsLawfulColumn, row_names}
use Rattle.lp_model.specs.Limits.{row_limit, col_limit, entry_limit}
use Rattle.lp_model.specs.declared.types.Sense.{Sense}
use Rattle.lp_model.specs.declared.types.Sense.TheVariants.{Min, Max}
use Rattle.lp_model.specs.declared.types.RowId.{RowId}
use Rattle.lp_model.specs.declared.types.Row.{Row}
use Rattle.lp_model.specs.declared.types.Col.{Col}
use Rattle.serde_json.specs.Data.{boolean}
use Rattle.warm_file.specs.Faults.{or_fault, behind}
use Rattle.warm_file.specs.Values.{truth_of, at_most_items}
use Rattle.warm_file.specs.Numbers.{number_of, is_far, bound_of}
use Rattle.warm_file.specs.Rising.{row_id, is_past, row_entry_of}
use Rattle.lp_model.specs.Names.{is_lawful_name}
use Rattle.warm_file.specs.Models.{is_among, name_of, row_of, entries_in, room_behind, entries_of, is_bounded, costed_of, bounded_of, col_of, sense_of, rows_of, cols_of, lists_of, program_of, model_of}
use Rattle.warm_file.proofs.RangeLemmas.{are_sides-decides}
use Rattle.warm_file.proofs.Saying.{ok-next, ok-then, ok-else}
use Rattle.warm_writer.specs.Written.{number_json, name_json, side_json, list_json, row_json, row_entry_json, col_json, sense_json, model_json}
use Rattle.lp_model.specs.Fitting.{SidesFit, ColumnNumbersFit, ModelFits}
use Rattle.warm_writer.specs.Writable.{IsWritableModel}
use Rattle.warm_writer.proofs.PartsBack.{number-back, side-back, name-back, row-back, AreRead, read-here, read-none, list-back}
use Rattle.warm_writer.proofs.PointBack.{entry-back}
use Rattle.warm_writer.proofs.Splits.{long, all-here, past-push, member-back, few-back, list-splits}
use Rattle.warm_writer.proofs.NamesFree.{names-free}

pub nonzero-false : (x : ℚ) → x ≢ int (pos 0) → is_zero x ≡ false
nonzero-false x h = by (is_zero x) refl
  where
    by : (b : Bool) → is_zero x ≡ b → is_zero x ≡ false
    by true z = absurd (h ((eq_by_cmp-decides x (int (pos 0))).0 z))
    by false z = z

-- ---- entries

entries-read : (n room from : ℕ) (before es : List (RowId × ℚ)) → ((k : ℕ) → from ≤ k → is_past (λ (e : RowId × ℚ). e.0.0) before k ≡ true) → AreEntries from n es → All (λ (e : RowId × ℚ). Fits e.1) es
    → length before + length es ≤ room → AreRead (at_most_items room (row_entry_of n)) row_entry_json before es
unfolding row_entry_of
entries-read n room from before [] past h fits few = read-none (at_most_items room (row_entry_of n)) row_entry_json before
entries-read n room from before (e ∷ es) past h fits few =
    let more : length (before ++ e ∷ []) ≡ length before + 1 = length_push before e in
    read-here (at_most_items room (row_entry_of n)) row_entry_json before e es
    (few-back room (row_entry_of n) before (row_entry_json e) e (omega arith)
    (entry-back row_id (λ (r : RowId × ℚ). r.0.0) n e.0.0 before e.1 h.1 (fits 0 e (omega arith)) (nonzero-false e.1 h.2) (past e.0.0 h.0)))
    (entries-read n room (suc e.0.0) (before ++ e ∷ []) es (λ k above. past-push (λ (r : RowId × ℚ). r.0.0) before e k (omega arith)) h.3 (λ k d below. fits (suc k) d (omega arith)) (omega arith))

pub entries-back : (n room : ℕ) (es : List (RowId × ℚ)) → AreEntries 0 n es → All (λ (e : RowId × ℚ). Fits e.1) es → length es ≤ room → entries_of n room (list_json row_entry_json es) ≡ Ok es
unfolding entries_of
entries-back n room es h fits few = list-back (at_most_items room (row_entry_of n)) row_entry_json es (entries-read n room 0 [] es (λ k above. refl) h fits (omega arith))

-- ---- columns

bound-back : (b : Option ℚ) → ForSome b Fits → is_far b ≡ false → bound_of (side_json b) ≡ Ok b
unfolding bound_of
bound-back b fits near = ok-next _ _ b b (side-back b fits) (ok-else (is_far b) _ _ b near refl)

bounded-true : (integer : Bool) (lo up : Option ℚ) → (IsTrue integer → IsSome lo × IsSome up) → is_bounded integer lo up ≡ true
bounded-true false lo up h = refl
bounded-true true (Some l) (Some u) h = refl
bounded-true true (Some l) None h = let no_bound = (h refl).1 in absurd (cc)
bounded-true true None up h = let no_bound = (h refl).0 in absurd (cc)

pub col-back : (n : ℕ) (before : List Col) (c : Col) → is_lawful_name c.name ≡ true → is_among c.name (map (λ (b : Col). b.name) before) ≡ false → IsLawfulColumn n c → ColumnNumbersFit c → is_far c.lo ≡ false → is_far c.up ≡ false
    → length c.rows ≤ room_behind before → col_of n before (col_json c) ≡ Ok c
unfolding col_of bounded_of costed_of or_fault
col-back n before c named free lawful fits low high few =
    ok-next _ _ c.name c (member-back (codes "name") (name_of (map (λ (b : Col). b.name) before)) (col_json c) (name_json c.name) c.name refl (name-back (map (λ (b : Col). b.name) before) c.name named free))
    (ok-next _ _ c.int c (member-back (codes "int") truth_of (col_json c) (boolean c.int) c.int refl refl)
    (ok-next _ _ c.lo c (member-back (codes "lo") bound_of (col_json c) (side_json c.lo) c.lo refl (bound-back c.lo fits.lo low))
    (ok-next _ _ c.up c (member-back (codes "up") bound_of (col_json c) (side_json c.up) c.up refl (bound-back c.up fits.up high))
    (ok-then _ _ _ c (bounded-true c.int c.lo c.up lawful.bounded)
    (ok-next _ _ c.cost c (member-back (codes "cost") number_of (col_json c) (number_json c.cost) c.cost refl (number-back c.cost fits.cost))
    (ok-next _ _ c.cost2 c (member-back (codes "cost2") number_of (col_json c) (number_json c.cost2) c.cost2 refl (number-back c.cost2 fits.cost2))
    (ok-next _ _ c.rows c (member-back (codes "rows") (entries_of n (room_behind before)) (col_json c) (list_json row_entry_json c.rows) c.rows refl (entries-back n (room_behind before) c.rows lawful.entries fits.entries few)) refl)))))))

-- ---- models

pub sense-back : (s : Sense) → sense_of (sense_json s) ≡ Ok s
unfolding sense_of behind or_fault
sense-back Min = refl
sense-back Max = refl

pub two-items : (l : List ℚ) (z : ℚ) → length l ≡ 2 → get_or l 0 z ∷ get_or l 1 z ∷ [] ≡ l
two-items [] z e = absurd (omega arith)
two-items (a ∷ []) z e = absurd (omega arith)
two-items (a ∷ b ∷ []) z e = refl
two-items (a ∷ b ∷ c ∷ l) z e = absurd (omega arith)

pub rows-back : (M : Program) → IsWritableModel M → ModelFits M → rows_of M.obj M.obj2 (list_json row_json M.rows) ≡ Ok M.rows
unfolding rows_of
rows-back M w f =
    let few : length M.rows ≤ row_limit false = subst (λ wide. length M.rows ≤ row_limit wide) w.script.plain w.lawful.limits.few_rows in
    list-splits (at_most_items (row_limit false) (row_of M.obj M.obj2)) row_json M.rows
    (λ before after r e.
    let names : M.obj ∷ M.obj2 ∷ (map (λ (s : Row). s.name) before ++ r.name ∷ map (λ (s : Row). s.name) after) ≡ row_names M =
    ap (λ l. M.obj ∷ M.obj2 ∷ l) (sym (map-append (λ (s : Row). s.name) before (r ∷ after)) ∙ ap (λ l. map (λ (s : Row). s.name) l) e) in
    let taken = M.obj ∷ M.obj2 ∷ map (λ (s : Row). s.name) before in
    let fit = all-here M.rows before after r e SidesFit f.rows in
    let below = long M.rows before after r e in
    few-back (row_limit false) (row_of M.obj M.obj2) before (row_json r) r (omega arith)
    (row-back M.obj M.obj2 before r (all-here (row_names M) taken (map (λ (s : Row). s.name) after) r.name names (λ (name : List ℕ). is_lawful_name name ≡ true) w.script.row_names)
    (names-free (row_names M) taken (map (λ (s : Row). s.name) after) r.name names w.lawful.rows_distinct) fit.lo fit.hi
    ((are_sides-decides r.lo r.hi).1 (all-here M.rows before after r e (λ (s : Row). IsRange s.lo s.hi) w.lawful.ranges))))

pub cols-back : (M : Program) → IsWritableModel M → ModelFits M → cols_of (length M.rows) (list_json col_json M.cols) ≡ Ok M.cols
unfolding cols_of
cols-back M w f =
    let few : length M.cols ≤ col_limit false = subst (λ wide. length M.cols ≤ col_limit wide) w.script.plain w.lawful.limits.few_columns in
    let entries : sum_by (λ (c : Col). length c.rows) M.cols ≤ 50000 = subst (λ wide. sum_by (λ (c : Col). length c.rows) M.cols ≤ entry_limit wide) w.script.plain w.lawful.limits.few_entries in
    list-splits (at_most_items (col_limit false) (col_of (length M.rows))) col_json M.cols
    (λ before after c e.
    let names : map (λ (s : Col). s.name) before ++ c.name ∷ map (λ (s : Col). s.name) after ≡ map (λ (s : Col). s.name) M.cols =
    sym (map-append (λ (s : Col). s.name) before (c ∷ after)) ∙ ap (λ l. map (λ (s : Col). s.name) l) e in
    let near = all-here M.cols before after c e (λ (s : Col). (is_far s.lo ≡ false) × (is_far s.up ≡ false)) w.script.bounds in
    let below = long M.cols before after c e in
    let first : sum_by (λ (s : Col). length s.rows) (before ++ c ∷ []) ≡ entries_in before + length c.rows = sum_by_push (λ (s : Col). length s.rows) before c in
    let total : sum_by (λ (s : Col). length s.rows) ((before ++ c ∷ []) ++ after) ≡ sum_by (λ (s : Col). length s.rows) (before ++ c ∷ []) + entries_in after = sum_by-append (λ (s : Col). length s.rows) (before ++ c ∷ []) after in
    let whole : sum_by (λ (s : Col). length s.rows) ((before ++ c ∷ []) ++ after) ≡ sum_by (λ (s : Col). length s.rows) M.cols = ap (λ l. sum_by (λ (s : Col). length s.rows) l) (append_assoc before (c ∷ []) after ∙ e) in
    few-back (col_limit false) (col_of (length M.rows)) before (col_json c) c (omega arith)
    (col-back (length M.rows) before c (all-here M.cols before after c e (λ (s : Col). is_lawful_name s.name ≡ true) w.script.column_names)
    (names-free (map (λ (s : Col). s.name) M.cols) (map (λ (s : Col). s.name) before) (map (λ (s : Col). s.name) after) c.name names w.lawful.columns_distinct)
    (all-here M.cols before after c e (IsLawfulColumn (length M.rows)) w.lawful.columns) (all-here M.cols before after c e ColumnNumbersFit f.columns) near.0 near.1 (omega arith)))

pub model-back : (M : Program) → IsWritableModel M → ModelFits M → model_of (model_json M) ≡ Ok M
unfolding model_of program_of lists_of
model-back M w f =
    let z = int (pos 0) in
    let two = w.lawful.constants in
    let first = get_or M.consts 0 z in
    let second = get_or M.consts 1 z in
    let rest = map (λ (s : Row). s.name) M.rows in
    let obj_named = all-here (row_names M) [] (M.obj2 ∷ rest) M.obj refl (λ (name : List ℕ). is_lawful_name name ≡ true) w.script.row_names in
    let obj2_named = all-here (row_names M) (M.obj ∷ []) rest M.obj2 refl (λ (name : List ℕ). is_lawful_name name ≡ true) w.script.row_names in
    let obj2_free = names-free (row_names M) (M.obj ∷ []) rest M.obj2 refl w.lawful.rows_distinct in
    let same : record { sense = M.sense; obj = M.obj; obj2 = M.obj2; consts = first ∷ second ∷ []; rows = M.rows; cols = M.cols; wide = false } ≡ M =
    ap₂ (λ k b. record { sense = M.sense; obj = M.obj; obj2 = M.obj2; consts = k; rows = M.rows; cols = M.cols; wide = b }) (two-items M.consts z two) (sym w.script.plain) in
    ok-next _ _ M.sense M (member-back (codes "sense") sense_of (model_json M) (sense_json M.sense) M.sense refl (sense-back M.sense))
    (ok-next _ _ M.obj M (member-back (codes "obj") (name_of []) (model_json M) (name_json M.obj) M.obj refl (name-back [] M.obj obj_named refl))
    (ok-next _ _ M.obj2 M (member-back (codes "obj2") (name_of (M.obj ∷ [])) (model_json M) (name_json M.obj2) M.obj2 refl (name-back (M.obj ∷ []) M.obj2 obj2_named obj2_free))
    (ok-next _ _ first M (member-back (codes "const") number_of (model_json M) (number_json first) first refl (number-back first (f.constants 0 z (omega arith))))
    (ok-next _ _ second M (member-back (codes "const2") number_of (model_json M) (number_json second) second refl (number-back second (f.constants 1 z (omega arith))))
    (ok-next _ _ M.rows M (member-back (codes "rows") (rows_of M.obj M.obj2) (model_json M) (list_json row_json M.rows) M.rows refl (rows-back M w f))
    (ok-next _ _ M.cols M (member-back (codes "cols") (cols_of (length M.rows)) (model_json M) (list_json col_json M.cols) M.cols refl (cols-back M w f)) (ap (λ p. Ok p) same)))))))
