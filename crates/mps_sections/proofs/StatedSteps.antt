-- What one more entry changes in what is stated.
use Rattle.std.proofs.Common.{◌≡◌, ℕ, Bool, true, false, ◌||◌, ◌&&◌, List, [], ◌∷◌, ◌++◌, map, length, refl, sym, ◌∙◌, ap, append_assoc, arith, ◌+◌, subst}
use Rattle.std.specs.Prelude.{not, if◌then◌else◌, fold, Option, None, Some, bytes_eq, codes}
use Rattle.std.specs.List.{list_any}
use Rattle.std.proofs.lemmas.Grind.{fold-append}
use Rattle.std.proofs.lemmas.Bool.{or_parts, or_from, true≢false, true_from_ne_false, false_from_ne_true}
use Rattle.mps_sections.proofs.TestFacts.{none_holds, code_of_kind}
use Rattle.mps_sections.proofs.ListFacts.{bytes_eq-flips}
use Rattle.std.proofs.lemmas.Slice.Eq.{bytes_eq-Decides}
use Rattle.std.proofs.lemmas.List.Folds.{list_any-append}
use Rattle.mps_text.specs.Text.{Entry}
use Rattle.mps_fields.specs.Words.{is_key, among, word, section_of, line_kind, data_kind, is_marker}
use Rattle.mps_sections.specs.Statements.{gathered_behind, gathered, section_behind, kind_of, header_on, sense_on, objective_on, row_on, marker_on, is_marked, column_name_on, stated_column_names, FirstLine, first_on, first_lines, column_pairs_on, read_pair, numbers_of_column, column_at, columns, rows, coefficients, coefficients_in, rhs_pairs_on, range_on, bound_on, StatedModel, stated, is_column}
use Rattle.mps_fields.specs.Fields.{Pair, column_pairs}
use Rattle.mps_sections.specs.Shown.{with_more, with_line, after_kind, after}
use Rattle.mps_sections.specs.Faults.{is_last, code_at, column_tests}
use Rattle.mps_fields.specs.declared.words.Section.{Section}
use Rattle.mps_fields.specs.declared.words.Section.TheVariants.{Name, Objsense, Rows, Columns, Rhs, Ranges, Bounds, Ended}
use Rattle.mps_fields.specs.declared.words.LineKind.{LineKind}
use Rattle.mps_fields.specs.declared.words.LineKind.TheVariants.{Header, SenseLine, Row, Marker, Column, RightSide, Range, Bound, Stray}
use Rattle.mps_sections.specs.declared.statements.ColumnLines.{ColumnLines}
use Rattle.mps_sections.specs.declared.statements.RowNumber.{RowNumber}

-- ---- lists

pub nothing_more : {A : Type 0} (xs : List A) → xs ++ [] ≡ xs
nothing_more [] = refl
nothing_more (x ∷ xs) = ap (λ more. x ∷ more) (nothing_more xs)

map_same : {A B : Type 0} (f g : A → B) → ((x : A) → f x ≡ g x) → (xs : List A) → map f xs ≡ map g xs
map_same f g h [] = refl
map_same f g h (x ∷ xs) = ap (λ y. y ∷ map f xs) (h x) ∙ ap (λ ys. g x ∷ ys) (map_same f g h xs)

map_append : {A B : Type 0} (f : A → B) (xs ys : List A) → map f (xs ++ ys) ≡ map f xs ++ map f ys
map_append f [] ys = refl
map_append f (x ∷ xs) ys = ap (λ more. f x ∷ more) (map_append f xs ys)

fold_more : {A B : Type 0} (f : B → A → B) (b : B) (xs : List A) (x : A) → fold f b (xs ++ x ∷ []) ≡ f (fold f b xs) x
fold_more f b [] x = refl
fold_more f b (y ∷ xs) x = fold_more f (f b y) xs x

length_append : {A : Type 0} (xs ys : List A) → length (xs ++ ys) ≡ length xs + length ys
length_append [] ys = omega arith
length_append (x ∷ xs) ys = omega (arith, length_append xs ys)

-- ---- gathering

behind_append : {A : Type 0} (part : List Entry → Entry → List A) (before es more : List Entry) → gathered_behind part before (es ++ more) ≡ gathered_behind part before es ++ gathered_behind part (before ++ es) more
unfolding gathered_behind
behind_append part before [] more = ap (λ (b : List Entry). gathered_behind part b more) (sym (nothing_more before))
behind_append part before (e ∷ es) more =
    ap (λ rest. part before e ++ rest) (behind_append part (before ++ e ∷ []) es more ∙ ap (λ (b : List Entry). gathered_behind part (before ++ e ∷ []) es ++ gathered_behind part b more) (append_assoc before (e ∷ []) es))
    ∙ sym (append_assoc (part before e) (gathered_behind part (before ++ e ∷ []) es) (gathered_behind part (before ++ e ∷ es) more))

-- one more entry gives its part
pub gathered_more : {A : Type 0} (part : List Entry → Entry → List A) (before : List Entry) (e : Entry) → gathered part (before ++ e ∷ []) ≡ gathered part before ++ part before e
unfolding gathered_behind
gathered_more part before e = behind_append part [] before (e ∷ []) ∙ ap (λ last. gathered part before ++ last) (nothing_more (part before e))

-- what holds of no entries, and of one more where it holds, holds of all
by_entries_behind : (P : List Entry → Type 0) → ((before : List Entry) (e : Entry) → P before → P (before ++ e ∷ [])) → (before es : List Entry) → P before → P (before ++ es)
by_entries_behind P step before [] h = subst P (sym (nothing_more before)) h
by_entries_behind P step before (e ∷ es) h = subst P (append_assoc before (e ∷ []) es) (by_entries_behind P step (before ++ e ∷ []) es (step before e h))

pub by_entries : (P : List Entry → Type 0) → P [] → ((before : List Entry) (e : Entry) → P before → P (before ++ e ∷ [])) → (es : List Entry) → P es
by_entries P start step es = by_entries_behind P step [] es start

-- ---- the section and the lists that each line adds to

section_more : (before : List Entry) (e : Entry) → section_behind (before ++ e ∷ []) ≡ (if e.header then section_of (word 0 e) else section_behind before)
section_more before e = fold_more (λ section x. if x.header then section_of (word 0 x) else section) None before e

-- the section and the marker state behind a line of a kind
section_after : LineKind → Option Section → Entry → Option Section
section_after Header section e = section_of (word 0 e)
section_after kind section e = section

section_after-kind : (section : Option Section) (e : Entry) → section_after (line_kind section e) section e ≡ (if e.header then section_of (word 0 e) else section)
unfolding section_after
section_after-kind section e = by_header e.header
  where
    by_marker : (b : Bool) → section_after (if b then Marker else Column) (Some Columns) e ≡ Some Columns
    by_marker true = refl
    by_marker false = refl

    by_section : (s : Option Section) → section_after (data_kind s e) s e ≡ s
    by_section None = refl
    by_section (Some Name) = refl
    by_section (Some Objsense) = refl
    by_section (Some Rows) = refl
    by_section (Some Columns) = by_marker (is_marker e)
    by_section (Some Rhs) = refl
    by_section (Some Ranges) = refl
    by_section (Some Bounds) = refl
    by_section (Some Ended) = refl

    by_header : (b : Bool) → section_after (if b then Header else data_kind section e) section e ≡ (if b then section_of (word 0 e) else section)
    by_header true = refl
    by_header false = by_section section

marked_more : (before : List Entry) (e : Entry) → is_marked (before ++ e ∷ []) ≡ fold (λ marked w. is_key (codes "'INTORG'") w) (is_marked before) (marker_on (kind_of before e) e)
marked_more before e =
    ap (fold (λ marked w. is_key (codes "'INTORG'") w) false) (gathered_more (λ earlier x. marker_on (kind_of earlier x) x) before e)
    ∙ fold-append (λ (marked : Bool) (w : List ℕ). is_key (codes "'INTORG'") w) false (gathered (λ earlier x. marker_on (kind_of earlier x) x) before) (marker_on (kind_of before e) e)

-- what one more line makes of what is stated, each list with the line's part
joined : LineKind → StatedModel → Entry → List ColumnLines → StatedModel
joined kind s e found = record {
  section = section_after kind s.section e;
  headers = s.headers ++ header_on kind e;
  senses = s.senses ++ sense_on kind e;
  objectives = s.objectives ++ objective_on kind e;
  rows = s.rows ++ row_on kind e;
  columns = found;
  marked = fold (λ marked w. is_key (codes "'INTORG'") w) s.marked (marker_on kind e);
  count = s.count + length (coefficients_in s.rows (map read_pair (column_pairs_on kind e)));
  sides = s.sides ++ map read_pair (rhs_pairs_on kind e);
  ranges = s.ranges ++ range_on kind e;
  bounds = s.bounds ++ bound_on kind e;
}

stated_joined : (seen : List Entry) (e : Entry) → stated (seen ++ e ∷ []) ≡ joined (kind_of seen e) (stated seen) e (columns (seen ++ e ∷ []))
unfolding stated joined
stated_joined seen e =
    let section : section_behind (seen ++ e ∷ []) ≡ section_after (kind_of seen e) (section_behind seen) e = section_more seen e ∙ sym (section_after-kind (section_behind seen) e) in
    let headers_more = gathered_more (λ before x. header_on (kind_of before x) x) seen e in
    let senses_more = gathered_more (λ before x. sense_on (kind_of before x) x) seen e in
    let objectives_more = gathered_more (λ before x. objective_on (kind_of before x) x) seen e in
    let rows_more = gathered_more (λ before x. row_on (kind_of before x) x) seen e in
    let marks_more = marked_more seen e in
    let count_more = ap length (gathered_more (λ before x. coefficients_in (rows before) (map read_pair (column_pairs_on (kind_of before x) x))) seen e) ∙ length_append (coefficients seen) (coefficients_in (rows seen) (map read_pair (column_pairs_on (kind_of seen e) e))) in
    let sides_more = gathered_more (λ before x. map read_pair (rhs_pairs_on (kind_of before x) x)) seen e in
    let ranges_more = gathered_more (λ before x. range_on (kind_of before x) x) seen e in
    let bounds_more = gathered_more (λ before x. bound_on (kind_of before x) x) seen e in
    cc

-- the columns behind a line of a kind
columns_after : LineKind → StatedModel → Entry → List ColumnLines
columns_after Column s e = with_line s.columns (word 0 e) e.line s.marked (map read_pair (column_pairs e))
columns_after kind s e = s.columns

-- where a line adds nothing to a list, the list stays
joined_after : (kind : LineKind) (s : StatedModel) (e : Entry) → joined kind s e (columns_after kind s e) ≡ after_kind kind s e
unfolding joined section_after columns_after
joined_after Header s e =
    let o = nothing_more s.objectives in let r = nothing_more s.rows in let d = nothing_more s.sides in let g = nothing_more s.ranges in let b = nothing_more s.bounds in
    let n : s.count + 0 ≡ s.count = omega arith in cc
joined_after SenseLine s e =
    let h = nothing_more s.headers in let o = nothing_more s.objectives in let r = nothing_more s.rows in let d = nothing_more s.sides in let g = nothing_more s.ranges in let b = nothing_more s.bounds in
    let n : s.count + 0 ≡ s.count = omega arith in cc
joined_after Row s e =
    let h = nothing_more s.headers in let z = nothing_more s.senses in let d = nothing_more s.sides in let g = nothing_more s.ranges in let b = nothing_more s.bounds in
    let n : s.count + 0 ≡ s.count = omega arith in cc
joined_after Marker s e =
    let h = nothing_more s.headers in let z = nothing_more s.senses in let o = nothing_more s.objectives in let r = nothing_more s.rows in let d = nothing_more s.sides in let g = nothing_more s.ranges in let b = nothing_more s.bounds in
    let n : s.count + 0 ≡ s.count = omega arith in cc
joined_after Column s e =
    let h = nothing_more s.headers in let z = nothing_more s.senses in let o = nothing_more s.objectives in let r = nothing_more s.rows in let d = nothing_more s.sides in let g = nothing_more s.ranges in let b = nothing_more s.bounds in
    cc
joined_after RightSide s e =
    let h = nothing_more s.headers in let z = nothing_more s.senses in let o = nothing_more s.objectives in let r = nothing_more s.rows in let g = nothing_more s.ranges in let b = nothing_more s.bounds in
    let n : s.count + 0 ≡ s.count = omega arith in cc
joined_after Range s e =
    let h = nothing_more s.headers in let z = nothing_more s.senses in let o = nothing_more s.objectives in let r = nothing_more s.rows in let d = nothing_more s.sides in let b = nothing_more s.bounds in
    let n : s.count + 0 ≡ s.count = omega arith in cc
joined_after Bound s e =
    let h = nothing_more s.headers in let z = nothing_more s.senses in let o = nothing_more s.objectives in let r = nothing_more s.rows in let d = nothing_more s.sides in let g = nothing_more s.ranges in
    let n : s.count + 0 ≡ s.count = omega arith in cc
joined_after Stray s e =
    let h = nothing_more s.headers in let z = nothing_more s.senses in let o = nothing_more s.objectives in let r = nothing_more s.rows in let d = nothing_more s.sides in let g = nothing_more s.ranges in let b = nothing_more s.bounds in
    let n : s.count + 0 ≡ s.count = omega arith in
    let same : joined Stray s e s.columns ≡ record { section = s.section; headers = s.headers; senses = s.senses; objectives = s.objectives; rows = s.rows; columns = s.columns; marked = s.marked; count = s.count; sides = s.sides; ranges = s.ranges; bounds = s.bounds } = cc in
    same

-- ---- columns

-- a first line has the name
is_first : List FirstLine → List ℕ → Bool
is_first found name = list_any (λ f. bytes_eq f.name name) found

first_more : (seen : List Entry) (e : Entry) → first_lines (seen ++ e ∷ []) ≡ first_lines seen ++ first_on (kind_of seen e) e (among (stated_column_names seen) (word 0 e)) (is_marked seen)
first_more seen e = gathered_more (λ before x. first_on (kind_of before x) x (among (stated_column_names before) (word 0 x)) (is_marked before)) seen e

names_more : (seen : List Entry) (e : Entry) → stated_column_names (seen ++ e ∷ []) ≡ stated_column_names seen ++ column_name_on (kind_of seen e) e
names_more seen e = gathered_more (λ before x. column_name_on (kind_of before x) x) seen e

part_of : LineKind → Entry → List ℕ → List RowNumber
part_of kind e name = if bytes_eq (word 0 e) name then map read_pair (column_pairs_on kind e) else []

numbers_more : (seen : List Entry) (e : Entry) (name : List ℕ) → numbers_of_column (seen ++ e ∷ []) name ≡ numbers_of_column seen name ++ part_of (kind_of seen e) e name
unfolding part_of
numbers_more seen e name = gathered_more (λ before x. if bytes_eq (word 0 x) name then map read_pair (column_pairs_on (kind_of before x) x) else []) seen e

-- the names of the first lines are those of all lines
either_same : (a b : Bool) → (b ≡ true → a ≡ true) → (a || (b || false)) ≡ a
either_same true b h = refl
either_same false true h = sym (h refl)
either_same false false h = refl

FirstsAre : List FirstLine → List (List ℕ) → Type 0
FirstsAre found names = (name : List ℕ) → is_first found name ≡ among names name

firsts_column : (e : Entry) (names : List (List ℕ)) (found : List FirstLine) (m b : Bool) → among names (word 0 e) ≡ b → FirstsAre found names → FirstsAre (found ++ first_on Column e b m) (names ++ word 0 e ∷ [])
unfolding FirstsAre is_first
firsts_column e names found m true q h name =
    ap (λ (fs : List FirstLine). list_any (λ f. bytes_eq f.name name) fs) (nothing_more found) ∙ h name
    ∙ sym (list_any-append (λ (other : List ℕ). bytes_eq other name) names (word 0 e ∷ []) ∙ either_same (among names name) (bytes_eq (word 0 e) name) (λ t. ap (among names) (sym ((bytes_eq-Decides (word 0 e) name).0 t)) ∙ q))
firsts_column e names found m false q h name =
    list_any-append (λ (f : FirstLine). bytes_eq f.name name) found (record { name = word 0 e; line = e.line; marked = m } ∷ []) ∙ ap (λ b. b || (bytes_eq (word 0 e) name || false)) (h name)
    ∙ sym (list_any-append (λ (other : List ℕ). bytes_eq other name) names (word 0 e ∷ []))

firsts_stay : (names : List (List ℕ)) (found : List FirstLine) → FirstsAre found names → FirstsAre (found ++ []) (names ++ [])
unfolding FirstsAre
firsts_stay names found h name = ap (λ (fs : List FirstLine). is_first fs name) (nothing_more found) ∙ h name ∙ ap (λ (ns : List (List ℕ)). among ns name) (sym (nothing_more names))

firsts_more : (kind : LineKind) (e : Entry) (names : List (List ℕ)) (found : List FirstLine) (m : Bool) → FirstsAre found names → FirstsAre (found ++ first_on kind e (among names (word 0 e)) m) (names ++ column_name_on kind e)
firsts_more Header e names found m h = firsts_stay names found h
firsts_more SenseLine e names found m h = firsts_stay names found h
firsts_more Row e names found m h = firsts_stay names found h
firsts_more Marker e names found m h = firsts_stay names found h
firsts_more Column e names found m h = firsts_column e names found m (among names (word 0 e)) refl h
firsts_more RightSide e names found m h = firsts_stay names found h
firsts_more Range e names found m h = firsts_stay names found h
firsts_more Bound e names found m h = firsts_stay names found h
firsts_more Stray e names found m h = firsts_stay names found h

firsts_of_none : FirstsAre (first_lines []) (stated_column_names [])
unfolding FirstsAre is_first gathered_behind
firsts_of_none = λ name. refl

firsts_are : (entries : List Entry) → FirstsAre (first_lines entries) (stated_column_names entries)
firsts_are = by_entries (λ seen. FirstsAre (first_lines seen) (stated_column_names seen)) firsts_of_none more
  where
    more : (seen : List Entry) (e : Entry) → FirstsAre (first_lines seen) (stated_column_names seen) → FirstsAre (first_lines (seen ++ e ∷ [])) (stated_column_names (seen ++ e ∷ []))
    more seen e h = subst (λ (fs : List FirstLine). FirstsAre fs (stated_column_names (seen ++ e ∷ []))) (sym (first_more seen e)) (subst (λ (ns : List (List ℕ)). FirstsAre (first_lines seen ++ first_on (kind_of seen e) e (among (stated_column_names seen) (word 0 e)) (is_marked seen)) ns) (sym (names_more seen e)) (firsts_more (kind_of seen e) e (stated_column_names seen) (first_lines seen) (is_marked seen) h))

-- no two first lines have one name
Apart : List FirstLine → Type 0
Apart [] = Unit {0}
Apart (f ∷ more) = (is_first more f.name ≡ false) × Apart more

apart_more : (found : List FirstLine) (last : FirstLine) → Apart found → is_first found last.name ≡ false → Apart (found ++ last ∷ [])
unfolding Apart is_first
apart_more [] last a h = (refl, tt)
apart_more (f ∷ more) last a h =
    let parts = or_parts (bytes_eq f.name last.name) (is_first more last.name) h in (
      list_any-append (λ (g : FirstLine). bytes_eq g.name f.name) more (last ∷ []) ∙ or_from (is_first more f.name) (bytes_eq last.name f.name || false) a.0 (or_from (bytes_eq last.name f.name) false (bytes_eq-flips last.name f.name ∙ parts.0) refl),
      apart_more more last a.1 parts.1,
    )

apart_column : (e : Entry) (found : List FirstLine) (m b : Bool) → is_first found (word 0 e) ≡ b → Apart found → Apart (found ++ first_on Column e b m)
apart_column e found m true q a = subst Apart (sym (nothing_more found)) a
apart_column e found m false q a = apart_more found (record { name = word 0 e; line = e.line; marked = m }) a q

apart_step : (kind : LineKind) (e : Entry) (found : List FirstLine) (m b : Bool) → is_first found (word 0 e) ≡ b → Apart found → Apart (found ++ first_on kind e b m)
apart_step Header e found m b q a = subst Apart (sym (nothing_more found)) a
apart_step SenseLine e found m b q a = subst Apart (sym (nothing_more found)) a
apart_step Row e found m b q a = subst Apart (sym (nothing_more found)) a
apart_step Marker e found m b q a = subst Apart (sym (nothing_more found)) a
apart_step Column e found m b q a = apart_column e found m b q a
apart_step RightSide e found m b q a = subst Apart (sym (nothing_more found)) a
apart_step Range e found m b q a = subst Apart (sym (nothing_more found)) a
apart_step Bound e found m b q a = subst Apart (sym (nothing_more found)) a
apart_step Stray e found m b q a = subst Apart (sym (nothing_more found)) a

firsts_known : (entries : List Entry) (name : List ℕ) → is_first (first_lines entries) name ≡ among (stated_column_names entries) name
unfolding FirstsAre
firsts_known entries name = firsts_are entries name

apart_of_none : Apart (first_lines [])
unfolding Apart gathered_behind
apart_of_none = tt

firsts_apart : (entries : List Entry) → Apart (first_lines entries)
firsts_apart = by_entries (λ seen. Apart (first_lines seen)) apart_of_none more
  where
    more : (seen : List Entry) (e : Entry) → Apart (first_lines seen) → Apart (first_lines (seen ++ e ∷ []))
    more seen e a = subst Apart (sym (first_more seen e)) (apart_step (kind_of seen e) e (first_lines seen) (is_marked seen) (among (stated_column_names seen) (word 0 e)) (firsts_known seen (word 0 e)) a)

-- a name that stands on no line has no numbers
HasNone : List Entry → Type 0
HasNone entries = (name : List ℕ) → among (stated_column_names entries) name ≡ false → numbers_of_column entries name ≡ []

abbrev no_number : List RowNumber
no_number = []

both_nothing : (b : Bool) → (if b then no_number else no_number) ≡ no_number
both_nothing true = refl
both_nothing false = refl

part_of_other : (kind : LineKind) (e : Entry) (name : List ℕ) (names : List (List ℕ)) → among (names ++ column_name_on kind e) name ≡ false → part_of kind e name ≡ []
unfolding part_of
part_of_other Header e name names h = both_nothing (bytes_eq (word 0 e) name)
part_of_other SenseLine e name names h = both_nothing (bytes_eq (word 0 e) name)
part_of_other Row e name names h = both_nothing (bytes_eq (word 0 e) name)
part_of_other Marker e name names h = both_nothing (bytes_eq (word 0 e) name)
part_of_other Column e name names h =
    let parts = or_parts (among names name) (bytes_eq (word 0 e) name || false) (sym (list_any-append (λ (other : List ℕ). bytes_eq other name) names (word 0 e ∷ [])) ∙ h) in
    let differs = or_parts (bytes_eq (word 0 e) name) false parts.1 in
    ap (λ b. if b then map read_pair (column_pairs e) else []) differs.0
part_of_other RightSide e name names h = both_nothing (bytes_eq (word 0 e) name)
part_of_other Range e name names h = both_nothing (bytes_eq (word 0 e) name)
part_of_other Bound e name names h = both_nothing (bytes_eq (word 0 e) name)
part_of_other Stray e name names h = both_nothing (bytes_eq (word 0 e) name)

before_other : (kind : LineKind) (e : Entry) (name : List ℕ) (names : List (List ℕ)) → among (names ++ column_name_on kind e) name ≡ false → among names name ≡ false
before_other kind e name names h = (or_parts (among names name) (among (column_name_on kind e) name) (sym (list_any-append (λ (other : List ℕ). bytes_eq other name) names (column_name_on kind e)) ∙ h)).0

has_none_more : (seen : List Entry) (e : Entry) → HasNone seen → HasNone (seen ++ e ∷ [])
unfolding HasNone
has_none_more seen e h name unknown =
    let none : among (stated_column_names seen ++ column_name_on (kind_of seen e) e) name ≡ false = ap (λ (ns : List (List ℕ)). among ns name) (sym (names_more seen e)) ∙ unknown in
    numbers_more seen e name ∙ ap (λ found. found ++ part_of (kind_of seen e) e name) (h name (before_other (kind_of seen e) e name (stated_column_names seen) none)) ∙ part_of_other (kind_of seen e) e name (stated_column_names seen) none

has_none_of_none : HasNone []
unfolding HasNone gathered_behind
has_none_of_none = λ name h. refl

has_none : (entries : List Entry) → HasNone entries
has_none = by_entries HasNone has_none_of_none has_none_more

no_numbers : (entries : List Entry) (name : List ℕ) → among (stated_column_names entries) name ≡ false → numbers_of_column entries name ≡ []
unfolding HasNone
no_numbers entries name h = has_none entries name h

with_numbers : FirstLine → List RowNumber → ColumnLines
with_numbers f found = record { name = f.name; line = f.line; marked = f.marked; numbers = found }

at_more : (seen : List Entry) (e : Entry) (f : FirstLine) → column_at (seen ++ e ∷ []) f ≡ with_numbers f (numbers_of_column seen f.name ++ part_of (kind_of seen e) e f.name)
unfolding with_numbers
at_more seen e f = ap (with_numbers f) (numbers_more seen e f.name)

-- a column to which the line adds nothing stays
at_same : (seen : List Entry) (e : Entry) (f : FirstLine) → part_of (kind_of seen e) e f.name ≡ [] → column_at (seen ++ e ∷ []) f ≡ column_at seen f
unfolding with_numbers
at_same seen e f h = at_more seen e f ∙ ap (λ found. with_numbers f (numbers_of_column seen f.name ++ found)) h ∙ ap (with_numbers f) (nothing_more (numbers_of_column seen f.name))

columns_same : (seen : List Entry) (e : Entry) → ((name : List ℕ) → part_of (kind_of seen e) e name ≡ []) → first_on (kind_of seen e) e (among (stated_column_names seen) (word 0 e)) (is_marked seen) ≡ [] → columns (seen ++ e ∷ []) ≡ columns seen
columns_same seen e nothing none =
    ap (map (column_at (seen ++ e ∷ []))) (first_more seen e ∙ ap (λ found. first_lines seen ++ found) none ∙ nothing_more (first_lines seen))
    ∙ map_same (column_at (seen ++ e ∷ [])) (column_at seen) (λ f. at_same seen e f (nothing f.name)) (first_lines seen)

-- a line without pairs of a column adds nothing
no_part : (kind : LineKind) (e : Entry) (name : List ℕ) → column_pairs_on kind e ≡ [] → part_of kind e name ≡ []
unfolding part_of
no_part kind e name h = ap (λ (found : List Pair). if bytes_eq (word 0 e) name then map read_pair found else []) h ∙ both_nothing (bytes_eq (word 0 e) name)

-- what a line of COLUMNS adds to a column of its name, or of another
own_part : (seen : List Entry) (e : Entry) (name : List ℕ) → kind_of seen e ≡ Column → bytes_eq (word 0 e) name ≡ true → part_of (kind_of seen e) e name ≡ map read_pair (column_pairs e)
unfolding part_of
own_part seen e name q h = ap (λ (k : LineKind). part_of k e name) q ∙ ap (λ b. if b then map read_pair (column_pairs e) else []) h

other_part : (seen : List Entry) (e : Entry) (name : List ℕ) → kind_of seen e ≡ Column → bytes_eq (word 0 e) name ≡ false → part_of (kind_of seen e) e name ≡ []
unfolding part_of
other_part seen e name q h = ap (λ (k : LineKind). part_of k e name) q ∙ ap (λ b. if b then map read_pair (column_pairs e) else []) h

others_same : (seen : List Entry) (e : Entry) → kind_of seen e ≡ Column → (found : List FirstLine) → is_first found (word 0 e) ≡ false → map (column_at (seen ++ e ∷ [])) found ≡ map (column_at seen) found
unfolding is_first
others_same seen e q [] h = refl
others_same seen e q (f ∷ more) h =
    let parts = or_parts (bytes_eq f.name (word 0 e)) (is_first more (word 0 e)) h in
    ap (λ c. c ∷ map (column_at (seen ++ e ∷ [])) more) (at_same seen e f (other_part seen e f.name q (bytes_eq-flips (word 0 e) f.name ∙ parts.0)))
    ∙ ap (λ cs. column_at seen f ∷ cs) (others_same seen e q more parts.1)

column_of_first : (seen : List Entry) (found : List FirstLine) (name : List ℕ) → is_column (map (column_at seen) found) name ≡ is_first found name
unfolding is_first
column_of_first seen [] name = refl
column_of_first seen (f ∷ more) name = ap (λ b. bytes_eq f.name name || b) (column_of_first seen more name)

not_last : (found : List ColumnLines) (name : List ℕ) → is_column found name ≡ false → is_last found name ≡ false
not_last [] name h = refl
not_last (c ∷ []) name h = (or_parts (bytes_eq c.name name) false h).0
not_last (c ∷ next ∷ more) name h = not_last (next ∷ more) name (or_parts (bytes_eq c.name name) (is_column (next ∷ more) name) h).1

last_stands : (seen : List Entry) (found : List FirstLine) (name : List ℕ) → is_last (map (column_at seen) found) name ≡ true → is_first found name ≡ true
last_stands seen found name h = true_from_ne_false (is_first found name) (λ e. true≢false (sym h ∙ not_last (map (column_at seen) found) name (column_of_first seen found name ∙ e)))

-- the line adds to the last column
last_more : (seen : List Entry) (e : Entry) → kind_of seen e ≡ Column → (found : List FirstLine) → Apart found → is_last (map (column_at seen) found) (word 0 e) ≡ true → map (column_at (seen ++ e ∷ [])) found ≡ with_more (map (column_at seen) found) (map read_pair (column_pairs e))
unfolding Apart is_first with_numbers
last_more seen e q [] a h = refl
last_more seen e q (f ∷ []) a h =
    ap (λ c. c ∷ []) (at_more seen e f ∙ ap (λ found. with_numbers f (numbers_of_column seen f.name ++ found)) (own_part seen e f.name q (bytes_eq-flips (word 0 e) f.name ∙ h)))
last_more seen e q (f ∷ g ∷ more) a h =
    let stands = last_stands seen (g ∷ more) (word 0 e) h in
    let differs : bytes_eq (word 0 e) f.name ≡ false = false_from_ne_true (bytes_eq (word 0 e) f.name) (λ s. true≢false (sym stands ∙ ap (is_first (g ∷ more)) ((bytes_eq-Decides (word 0 e) f.name).0 s) ∙ a.0)) in
    ap (λ c. c ∷ map (column_at (seen ++ e ∷ [])) (g ∷ more)) (at_same seen e f (other_part seen e f.name q differs)) ∙ ap (λ cs. column_at seen f ∷ cs) (last_more seen e q (g ∷ more) a.1 h)

with_line_new : (found : List ColumnLines) (name : List ℕ) (line : ℕ) (marked : Bool) (more : List RowNumber) → is_last found name ≡ false → with_line found name line marked more ≡ found ++ record { name = name; line = line; marked = marked; numbers = more } ∷ []
with_line_new found name line marked more h = ap (λ b. if b then with_more found more else found ++ record { name = name; line = line; marked = marked; numbers = more } ∷ []) h

with_line_last : (found : List ColumnLines) (name : List ℕ) (line : ℕ) (marked : Bool) (more : List RowNumber) → is_last found name ≡ true → with_line found name line marked more ≡ with_more found more
with_line_last found name line marked more h = ap (λ b. if b then with_more found more else found ++ record { name = name; line = line; marked = marked; numbers = more } ∷ []) h

new_column : (seen : List Entry) (e : Entry) → kind_of seen e ≡ Column → among (stated_column_names seen) (word 0 e) ≡ false → columns (seen ++ e ∷ []) ≡ with_line (columns seen) (word 0 e) e.line (is_marked seen) (map read_pair (column_pairs e))
unfolding with_numbers
new_column seen e q unknown =
    let first : FirstLine = record { name = word 0 e; line = e.line; marked = is_marked seen } in
    let one : first_lines (seen ++ e ∷ []) ≡ first_lines seen ++ first ∷ [] = first_more seen e ∙ ap (λ (k : LineKind). first_lines seen ++ first_on k e (among (stated_column_names seen) (word 0 e)) (is_marked seen)) q ∙ ap (λ b. first_lines seen ++ first_on Column e b (is_marked seen)) unknown in
    let none : is_first (first_lines seen) (word 0 e) ≡ false = firsts_known seen (word 0 e) ∙ unknown in
    let own : column_at (seen ++ e ∷ []) first ≡ with_numbers first (map read_pair (column_pairs e)) =
    at_more seen e first ∙ ap (λ found. with_numbers first (found ++ part_of (kind_of seen e) e (word 0 e))) (no_numbers seen (word 0 e) unknown) ∙ ap (with_numbers first) (own_part seen e (word 0 e) q ((bytes_eq-Decides (word 0 e) (word 0 e)).1 refl))
    in
    ap (map (column_at (seen ++ e ∷ []))) one
    ∙ map_append (column_at (seen ++ e ∷ [])) (first_lines seen) (first ∷ [])
    ∙ ap (λ cs. cs ++ column_at (seen ++ e ∷ []) first ∷ []) (others_same seen e q (first_lines seen) none)
    ∙ ap (λ c. columns seen ++ c ∷ []) own
    ∙ sym (with_line_new (columns seen) (word 0 e) e.line (is_marked seen) (map read_pair (column_pairs e)) (not_last (columns seen) (word 0 e) (column_of_first seen (first_lines seen) (word 0 e) ∙ none)))

old_column : (seen : List Entry) (e : Entry) → kind_of seen e ≡ Column → among (stated_column_names seen) (word 0 e) ≡ true → is_last (columns seen) (word 0 e) ≡ true → columns (seen ++ e ∷ []) ≡ with_line (columns seen) (word 0 e) e.line (is_marked seen) (map read_pair (column_pairs e))
old_column seen e q known last =
    let same : first_lines (seen ++ e ∷ []) ≡ first_lines seen = first_more seen e ∙ ap (λ (k : LineKind). first_lines seen ++ first_on k e (among (stated_column_names seen) (word 0 e)) (is_marked seen)) q ∙ ap (λ b. first_lines seen ++ first_on Column e b (is_marked seen)) known ∙ nothing_more (first_lines seen) in
    ap (map (column_at (seen ++ e ∷ []))) same ∙ last_more seen e q (first_lines seen) (firsts_apart seen) last ∙ sym (with_line_last (columns seen) (word 0 e) e.line (is_marked seen) (map read_pair (column_pairs e)) last)

-- no column returns after another
last_of_known : (known last : Bool) → (known && not last) ≡ false → known ≡ true → last ≡ true
last_of_known true true h k = refl
last_of_known true false h k = absurd (true≢false h)
last_of_known false last h k = absurd (true≢false (sym k))

returns_not : (seen : List Entry) (e : Entry) → kind_of seen e ≡ Column → code_at seen e ≡ None → (is_column (columns seen) (word 0 e) && not (is_last (columns seen) (word 0 e))) ≡ false
unfolding code_at stated
returns_not seen e q h = (none_holds (column_tests (stated seen) e) (code_of_kind (stated seen) e Column (sym q) h)).1.1.1.1.1.0

column_line : (seen : List Entry) (e : Entry) → kind_of seen e ≡ Column → code_at seen e ≡ None → (b : Bool) → among (stated_column_names seen) (word 0 e) ≡ b → columns (seen ++ e ∷ []) ≡ with_line (columns seen) (word 0 e) e.line (is_marked seen) (map read_pair (column_pairs e))
column_line seen e q h true known =
    let stands : is_column (columns seen) (word 0 e) ≡ true = column_of_first seen (first_lines seen) (word 0 e) ∙ firsts_known seen (word 0 e) ∙ known in
    old_column seen e q known (last_of_known (is_column (columns seen) (word 0 e)) (is_last (columns seen) (word 0 e)) (returns_not seen e q h) stands)
column_line seen e q h false unknown = new_column seen e q unknown

columns_of_kind : (seen : List Entry) (e : Entry) → code_at seen e ≡ None → (kind : LineKind) → kind_of seen e ≡ kind → columns (seen ++ e ∷ []) ≡ columns_after kind (stated seen) e
unfolding columns_after stated
columns_of_kind seen e h Header q = columns_same seen e (λ name. ap (λ (k : LineKind). part_of k e name) q ∙ no_part Header e name refl) (ap (λ (k : LineKind). first_on k e (among (stated_column_names seen) (word 0 e)) (is_marked seen)) q)
columns_of_kind seen e h SenseLine q = columns_same seen e (λ name. ap (λ (k : LineKind). part_of k e name) q ∙ no_part SenseLine e name refl) (ap (λ (k : LineKind). first_on k e (among (stated_column_names seen) (word 0 e)) (is_marked seen)) q)
columns_of_kind seen e h Row q = columns_same seen e (λ name. ap (λ (k : LineKind). part_of k e name) q ∙ no_part Row e name refl) (ap (λ (k : LineKind). first_on k e (among (stated_column_names seen) (word 0 e)) (is_marked seen)) q)
columns_of_kind seen e h Marker q = columns_same seen e (λ name. ap (λ (k : LineKind). part_of k e name) q ∙ no_part Marker e name refl) (ap (λ (k : LineKind). first_on k e (among (stated_column_names seen) (word 0 e)) (is_marked seen)) q)
columns_of_kind seen e h Column q = column_line seen e q h (among (stated_column_names seen) (word 0 e)) refl
columns_of_kind seen e h RightSide q = columns_same seen e (λ name. ap (λ (k : LineKind). part_of k e name) q ∙ no_part RightSide e name refl) (ap (λ (k : LineKind). first_on k e (among (stated_column_names seen) (word 0 e)) (is_marked seen)) q)
columns_of_kind seen e h Range q = columns_same seen e (λ name. ap (λ (k : LineKind). part_of k e name) q ∙ no_part Range e name refl) (ap (λ (k : LineKind). first_on k e (among (stated_column_names seen) (word 0 e)) (is_marked seen)) q)
columns_of_kind seen e h Bound q = columns_same seen e (λ name. ap (λ (k : LineKind). part_of k e name) q ∙ no_part Bound e name refl) (ap (λ (k : LineKind). first_on k e (among (stated_column_names seen) (word 0 e)) (is_marked seen)) q)
columns_of_kind seen e h Stray q = columns_same seen e (λ name. ap (λ (k : LineKind). part_of k e name) q ∙ no_part Stray e name refl) (ap (λ (k : LineKind). first_on k e (among (stated_column_names seen) (word 0 e)) (is_marked seen)) q)

columns_more : (seen : List Entry) (e : Entry) → code_at seen e ≡ None → columns (seen ++ e ∷ []) ≡ columns_after (kind_of seen e) (stated seen) e
columns_more seen e h = columns_of_kind seen e h (kind_of seen e) refl

pub stated_more : (seen : List Entry) (e : Entry) → code_at seen e ≡ None → stated (seen ++ e ∷ []) ≡ after (stated seen) e
unfolding after stated
stated_more seen e h = stated_joined seen e ∙ ap (joined (kind_of seen e) (stated seen) e) (columns_more seen e h) ∙ joined_after (kind_of seen e) (stated seen) e
