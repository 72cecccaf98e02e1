-- Rows by name, and the codes of the numbers of RANGES: where none has a code, each row's sides have room.
use Rattle.std.proofs.Common.{◌≡◌, ℕ, zero, suc, ◌<◌, Bool, true, false, List, [], ◌∷◌, length, get_or, drop, refl, sym, ◌∙◌, ap, arith}
use Rattle.std.specs.Prelude.{if◌then◌else◌, bytes_eq, Option, None, Some, IfSome}
use Rattle.std.proofs.lemmas.Bool.{or_parts, false_from_ne_true}
use Rattle.std.proofs.lemmas.List.{length-map}
use Rattle.std.proofs.Math.Seq.{drop-cons}
use Rattle.std.proofs.lemmas.Slice.Eq.{bytes_eq-Decides}
use Rattle.frac128.specs.Rational.{ℚ}
use Rattle.lp_model.proofs.NameLemmas.{get_or-map, contains_at}
use Rattle.mps_text.specs.Text.{Flaw}
use Rattle.mps_fields.specs.Words.{among}
use Rattle.mps_sections.specs.Statements.{stated_row_names}
use Rattle.mps_sections.specs.Limits.{AreNamesApart}
use Rattle.mps_sections.specs.declared.statements.Sections.{Sections}
use Rattle.mps_sections.specs.declared.statements.RowLine.{RowLine}
use Rattle.mps_sections.specs.declared.statements.RangeLine.{RangeLine}
use Rattle.mps_model.specs.Ranges.{has_room}
use Rattle.mps_model.specs.Meaning.{row_number_beside, row_numbers_beside, range_beside}
use Rattle.mps_model.specs.Faults.{code_on, row_named, range_code, code_of_range, range_flaw, flaw_or}
use Rattle.mps_model.specs.private.Places.{IsFoundAt}
use Rattle.mps_model.proofs.EntryCounts.{none_later, apart_later}
use Rattle.mps_model.proofs.BesideSteps.{beside_row}

-- ---- rows by name

abbrev name_of : RowLine → List ℕ
name_of r = r.name

-- the row at a place is the one with its name, where names differ
pub row_named-at : (rows : List RowLine) (k : ℕ) (r : RowLine) (name : List ℕ) → AreNamesApart (stated_row_names rows) → k < length rows → r ≡ get_or rows k r → r.name ≡ name → row_named name rows ≡ Some r
row_named-at [] k r name apart below is e = absurd (omega arith)
row_named-at (q ∷ rows) zero r name apart below is e =
    ap (λ b. if b then Some q else row_named name rows) ((bytes_eq-Decides q.name name).1 (ap name_of (sym is) ∙ e)) ∙ ap Some (sym is)
row_named-at (q ∷ rows) (suc k) r name apart below is e =
    let within : k < length rows = omega (arith, below) in
    let differs : bytes_eq q.name name ≡ false = false_from_ne_true (bytes_eq q.name name) (λ s. none_later q.name (stated_row_names rows) apart (contains_at name_of rows q.name k r within is (e ∙ sym ((bytes_eq-Decides q.name name).0 s)))) in
    ap (λ b. if b then Some q else row_named name rows) differs ∙ row_named-at rows k r name (apart_later q.name (stated_row_names rows) apart) within is e

pub row_unnamed : (rows : List RowLine) (name : List ℕ) → among (stated_row_names rows) name ≡ false → row_named name rows ≡ None
row_unnamed [] name e = refl
row_unnamed (r ∷ rows) name e =
    let parts = or_parts (bytes_eq r.name name) (among (stated_row_names rows) name) e in
    ap (λ b. if b then Some r else row_named name rows) parts.0 ∙ row_unnamed rows name parts.1

-- ---- codes

abbrev pub code_by : Bool → Option ℕ
code_by room = if room then None else Some 13

module _ (s : Sections) (names : List (List ℕ)) (q : RangeLine) (n : names ≡ stated_row_names s.rows) where
  -- the code of a number whose row stands at a place
  pub code_found : (numbers : List ℚ) (k : ℕ) (row : RowLine) (x : ℚ) → AreNamesApart (stated_row_names s.rows) → IsFoundAt names q.row (Some k) → row ≡ get_or s.rows k row
      → numbers ≡ row_numbers_beside (stated_row_names s.rows) s.sides → x ≡ get_or numbers k x → code_of_range s q ≡ (if has_room row.kind x q.number then None else Some 13)
  code_found numbers k row x apart found is e there =
      let below : k < length s.rows = let w = found.0 in omega (arith, ap length n, length-map s.rows (λ (r : RowLine). r.name)) in
      let named : row.name ≡ q.row = sym (get_or-map name_of s.rows k row [] below is) ∙ ap (λ (ns : List (List ℕ)). get_or ns k []) (sym n) ∙ found.1 in
      let number : x ≡ row_number_beside q.row s.sides = beside_row s.rows s.sides numbers k x row below e there is ∙ ap (λ name. row_number_beside name s.sides) named in
      ap (λ (r : Option RowLine). range_code r (row_number_beside q.row s.sides) q.number) (row_named-at s.rows k row q.row apart below is named)
      ∙ ap (λ y. range_code (Some row) y q.number) (sym number)

  pub code_missing : IsFoundAt names q.row None → code_of_range s q ≡ None
  code_missing none = ap (λ (r : Option RowLine). range_code r (row_number_beside q.row s.sides) q.number) (row_unnamed s.rows q.row (ap (λ (ns : List (List ℕ)). among ns q.row) (sym n) ∙ none))

-- the first flaw from a number on: its own, or that of those behind it
pub range_flaw_at : (s : Sections) (found : List RangeLine) (k : ℕ) (q : RangeLine) (code : Option ℕ) → k < length found → q ≡ get_or found k q → code ≡ code_of_range s q → range_flaw s (drop k found) ≡ code_on q.line code (range_flaw s (drop (suc k) found))
range_flaw_at s found k q code below is e =
    ap (range_flaw s) (drop-cons found k q below ∙ ap (λ (r : RangeLine). r ∷ drop (suc k) found) (sym is)) ∙ ap (λ x. code_on q.line x (range_flaw s (drop (suc k) found))) (sym e)

no_code : (line : ℕ) (code : Option ℕ) (behind : Option Flaw) → code_on line code behind ≡ None → (code ≡ None) × (behind ≡ None)
no_code line None behind e = (refl, e)
no_code line (Some c) behind e = absurd (cc)

roomy : (b : Bool) → code_by b ≡ None → b ≡ true
roomy true e = refl
roomy false e = absurd (cc)

-- the number beside a row has room, where no number has a code
pub room_beside : (s : Sections) (row : RowLine) → row_named row.name s.rows ≡ Some row → (found : List RangeLine) → range_flaw s found ≡ None → IfSome (range_beside row.name found) (λ r. has_room row.kind (row_number_beside row.name s.sides) r ≡ true)
room_beside s row named [] e = tt
room_beside s row named (q ∷ more) e = by (bytes_eq q.row row.name) refl (no_code q.line (code_of_range s q) (range_flaw s more) e) (λ h. room_beside s row named more h)
  where
    first : q.row ≡ row.name → code_of_range s q ≡ None → has_room row.kind (row_number_beside row.name s.sides) q.number ≡ true
    first same code =
        roomy (has_room row.kind (row_number_beside row.name s.sides) q.number)
        (sym (ap (λ name. range_code (row_named name s.rows) (row_number_beside name s.sides) q.number) same ∙ ap (λ (r : Option RowLine). range_code r (row_number_beside row.name s.sides) q.number) named) ∙ code)

    by : (b : Bool) → bytes_eq q.row row.name ≡ b → (code_of_range s q ≡ None) × (range_flaw s more ≡ None)
        → (range_flaw s more ≡ None → IfSome (range_beside row.name more) (λ r. has_room row.kind (row_number_beside row.name s.sides) r ≡ true))
        → IfSome (if b then Some q.number else range_beside row.name more) (λ r. has_room row.kind (row_number_beside row.name s.sides) r ≡ true)
    by true same none later = first ((bytes_eq-Decides q.row row.name).0 same) none.0
    by false same none later = later none.1

pub neither : (a b : Option Flaw) → flaw_or a b ≡ None → (a ≡ None) × (b ≡ None)
neither None b e = (refl, e)
neither (Some f) b e = absurd (cc)
