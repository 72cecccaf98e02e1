-- The lines of NAME, OBJSENSE and ROWS pass, and state the sense, both objectives and the rows.
use Rattle.std.proofs.Common.{◌≡◌, ◌≢◌, ℕ, suc, ◌+◌, ◌≤◌, Bool, true, false, ◌&&◌, ◌||◌, List, [], ◌∷◌, ◌++◌, map, length, get_or, refl, sym, ◌∙◌, ap, subst, arith, append_assoc, length-append}
use Rattle.std.specs.Prelude.{if◌then◌else◌, nat_le, codes, bytes_eq, Option, None, Some, All, AllPairs}
use Rattle.std.specs.Ordering.{eq_by_cmp}
use Rattle.std.proofs.lemmas.Bool.{or_parts, or_from, le-ltb, lt-leb, false_from_ne_true}
use Rattle.std.proofs.lemmas.List.Elements.{All-head, All-tail}
use Rattle.std.proofs.lemmas.List.Folds.{list_any-append}
use Rattle.std.proofs.lemmas.Slice.Eq.{bytes_eq-Decides}
use Rattle.frac128.specs.Rational.{ℚ, rational_cmp}
use Rattle.lp_model.specs.Limits.{row_limit}
use Rattle.lp_model.specs.Lawful.{IsRange}
use Rattle.lp_model.specs.declared.types.Sense.{Sense}
use Rattle.lp_model.specs.declared.types.Sense.TheVariants.{Min, Max}
use Rattle.lp_model.specs.declared.types.Row.{Row}
use Rattle.mps_text.specs.Text.{Entry}
use Rattle.mps_fields.specs.Words.{is_key, among, row_kind, line_kind}
use Rattle.mps_sections.specs.Statements.{gathered_behind, StatedModel, stated, is_row_name, as_row, as_objective}
use Rattle.mps_sections.specs.Faults.{Test, least, tests_of, row_tests, is_unknown_kind, has_sides, is_known, code_in}
use Rattle.mps_fields.specs.Fields.{is_end}
use Rattle.mps_sections.specs.Shown.{after_kind, after}
use Rattle.mps_fields.specs.declared.words.Section.TheVariants.{Name, Objsense, Rows}
use Rattle.mps_fields.specs.declared.words.RowKind.{RowKind}
use Rattle.mps_sections.specs.declared.statements.RowLine.{RowLine}
use Rattle.mps_sections.proofs.TestFacts.{NoneHolds}
use Rattle.mps_sections.proofs.StatedSteps.{nothing_more}
use Rattle.mps_writer.specs.Canonical.{Data, opening_lines, row_type, row_line}
use Rattle.mps_writer.proofs.RecordLaws.{entry_of, entries_from}
use Rattle.mps_writer.proofs.PassLaws.{Passes}
use Rattle.mps_writer.proofs.ModelBack.{kind_by, kind_of}

-- where no test holds there is no code
pub none_from : (found : List Test) → NoneHolds found → least found ≡ None
none_from [] h = refl
none_from (test ∷ more) h = ap (λ b. if b then Some test.0 else least more) h.0 ∙ none_from more h.1

-- ---- NAME and OBJSENSE

abbrev pub opened : Sense → StatedModel
opened sense = record {
  section = Some Objsense;
  headers = Name ∷ Objsense ∷ [];
  senses = sense ∷ [];
  objectives = [];
  rows = [];
  columns = [];
  marked = false;
  count = 0;
  sides = [];
  ranges = [];
  bounds = [];
}

pub opening_passes : (sense : Sense) → Passes (stated []) (entries_from 1 (opening_lines sense)) (opened sense)
unfolding stated gathered_behind code_in after is_end is_key
opening_passes Min = (refl, refl, (refl, refl, refl))
opening_passes Max = (refl, refl, (refl, refl, refl))

-- ---- a line of ROWS

abbrev pub with_row : RowKind → List ℕ → StatedModel → StatedModel
with_row kind name s = record s { objectives = s.objectives ++ as_objective (Some kind) name; rows = s.rows ++ as_row (Some kind) name }

module _ (s : StatedModel) (number : ℕ) (w name : List ℕ) (kind : RowKind) (there : s.section ≡ Some Rows) (is : row_kind w ≡ Some kind) where
  abbrev pub line : Entry
  line = entry_of number (Data (w ∷ name ∷ []))

  pub row_clean : length name ≤ 255 → is_known s name ≡ false → (has_sides (Some kind) && nat_le (row_limit false) (length s.rows)) ≡ false → code_in s line ≡ None
  unfolding code_in
  row_clean short new room =
      ap (λ section. least (tests_of (line_kind section line) s line)) there
      ∙ none_from (row_tests s line) (
        refl,
        (le-ltb 255 (length name) short, (ap is_unknown_kind is, (new, (ap (λ (k : Option RowKind). has_sides k && nat_le (row_limit false) (length s.rows)) is ∙ room, tt)))),
      )

  pub row_after : after s line ≡ with_row kind name s
  unfolding after
  row_after =
      ap (λ section. after_kind (line_kind section line) s line) there
      ∙ ap (λ (k : Option RowKind). record s { objectives = s.objectives ++ as_objective k name; rows = s.rows ++ as_row k name }) is

  pub row_no_end : is_end line ≡ false
  unfolding is_end
  row_no_end = refl

-- ---- rows with sides

type_kind : (lo hi : Option ℚ) → IsRange lo hi → row_kind (row_type lo hi) ≡ Some (kind_of lo hi)
unfolding is_key
type_kind None None range = absurd range
type_kind (Some low) None range = refl
type_kind None (Some high) range = refl
type_kind (Some low) (Some high) range = by (eq_by_cmp rational_cmp low high)
  where
    by : (b : Bool) → row_kind (if b then codes "E" else codes "L") ≡ Some (kind_by b)
    by true = refl
    by false = refl

abbrev pub stated_row : Row → RowLine
stated_row r = record { name = r.name; kind = kind_of r.lo r.hi }

-- a row with sides is stated as one
as_sided : (lo hi : Option ℚ) (name : List ℕ) → IsRange lo hi → (as_row (Some (kind_of lo hi)) name ≡ record { name = name; kind = kind_of lo hi } ∷ []) × (as_objective (Some (kind_of lo hi)) name ≡ []) × (has_sides (Some (kind_of lo hi)) ≡ true)
as_sided None None name range = absurd range
as_sided (Some low) None name range = (refl, refl, refl)
as_sided None (Some high) name range = (refl, refl, refl)
as_sided (Some low) (Some high) name range = by (eq_by_cmp rational_cmp low high)
  where
    by : (b : Bool) → (as_row (Some (kind_by b)) name ≡ record { name = name; kind = kind_by b } ∷ []) × (as_objective (Some (kind_by b)) name ≡ []) × (has_sides (Some (kind_by b)) ≡ true)
    by true = (refl, refl, refl)
    by false = (refl, refl, refl)

abbrev pub with_sided : List RowLine → StatedModel → StatedModel
with_sided more s = record s { rows = s.rows ++ more }

one_more : (s : StatedModel) (r : Row) → IsRange r.lo r.hi → with_row (kind_of r.lo r.hi) r.name s ≡ with_sided (stated_row r ∷ []) s
one_more s r range =
    let parts = as_sided r.lo r.hi r.name range in
    ap (λ (found : List RowLine). record s { objectives = s.objectives ++ as_objective (Some (kind_of r.lo r.hi)) r.name; rows = s.rows ++ found }) parts.0
    ∙ ap (λ (found : List (List ℕ)). record s { objectives = s.objectives ++ found; rows = s.rows ++ stated_row r ∷ [] }) parts.1
    ∙ ap (λ (found : List (List ℕ)). record s { objectives = found; rows = s.rows ++ stated_row r ∷ [] }) (nothing_more s.objectives)

-- the names of the rows are new, and differ
pub record AreNew (s : StatedModel) (rows : List Row) : Type 0 where
  pub new : All (λ (r : Row). is_known s r.name ≡ false) rows
  pub apart : AllPairs (λ (a b : Row). a.name ≢ b.name) rows

-- a row that is new stays so behind another one
still_new : (s : StatedModel) (r q : Row) → is_known s q.name ≡ false → r.name ≢ q.name → is_known (with_sided (stated_row r ∷ []) s) q.name ≡ false
still_new s r q new differs =
    let parts = or_parts (is_row_name s.rows q.name) (among s.objectives q.name) new in
    let other : bytes_eq r.name q.name ≡ false = false_from_ne_true (bytes_eq r.name q.name) (λ e. differs ((bytes_eq-Decides r.name q.name).0 e)) in
    or_from (is_row_name (s.rows ++ stated_row r ∷ []) q.name) (among s.objectives q.name)
    (list_any-append (λ (x : RowLine). bytes_eq x.name q.name) s.rows (stated_row r ∷ []) ∙ or_from (is_row_name s.rows q.name) (bytes_eq r.name q.name || false) parts.0 (or_from (bytes_eq r.name q.name) false other refl))
    parts.1

all_still_new : (s : StatedModel) (r : Row) (rows : List Row) → AreNew s (r ∷ rows) → AreNew (with_sided (stated_row r ∷ []) s) rows
all_still_new s r rows h = record {
  new = λ i d below. still_new s r (get_or rows i d) (h.new (suc i) d (omega (arith, below))) (h.apart 0 (suc i) d (omega arith) (omega (arith, below)));
  apart = λ i j d below later. h.apart (suc i) (suc j) d (omega (arith, below)) (omega (arith, later));
}

pub rows_pass : (s : StatedModel) (number : ℕ) (rows : List Row) → s.section ≡ Some Rows → All (λ (r : Row). IsRange r.lo r.hi) rows → All (λ (r : Row). length r.name ≤ 255) rows → AreNew s rows → length s.rows + length rows ≤ row_limit false
    → Passes s (entries_from number (map row_line rows)) (with_sided (map stated_row rows) s)
rows_pass s number [] there ranges short new few = ap (λ (found : List RowLine). record s { rows = found }) (sym (nothing_more s.rows))
rows_pass s number (r ∷ rows) there ranges short new few =
    let range = All-head (λ (q : Row). IsRange q.lo q.hi) r rows ranges in
    let kind = kind_of r.lo r.hi in
    let typed = type_kind r.lo r.hi range in
    let room : (has_sides (Some kind) && nat_le (row_limit false) (length s.rows)) ≡ false = ap (λ b. b && nat_le (row_limit false) (length s.rows)) (as_sided r.lo r.hi r.name range).2 ∙ lt-leb (row_limit false) (length s.rows) (omega (arith, few)) in
    let next = row_after s number (row_type r.lo r.hi) r.name kind there typed ∙ one_more s r range in
    let rest = rows_pass (with_sided (stated_row r ∷ []) s) (suc number) rows there (All-tail (λ (q : Row). IsRange q.lo q.hi) r rows ranges) (All-tail (λ (q : Row). length q.name ≤ 255) r rows short) (all_still_new s r rows new) (omega (arith, few, length-append s.rows (stated_row r ∷ []))) in (
      row_clean s number (row_type r.lo r.hi) r.name kind there typed (All-head (λ (q : Row). length q.name ≤ 255) r rows short) (All-head (λ (q : Row). is_known s q.name ≡ false) r rows new.new) room,
      row_no_end s number (row_type r.lo r.hi) r.name kind there typed,
      subst (λ (t : StatedModel). Passes t (entries_from (suc number) (map row_line rows)) (with_sided (map stated_row (r ∷ rows)) s)) (sym next)
          (subst (λ (found : List RowLine). Passes (with_sided (stated_row r ∷ []) s) (entries_from (suc number) (map row_line rows)) (record s { rows = found })) (append_assoc s.rows (stated_row r ∷ []) (map stated_row rows)) rest),
    )
