-- A whole column passes: its lines, between its own markers where it is integer.
use Rattle.std.proofs.Common.{◌≡◌, ◌≢◌, ℕ, suc, ◌+◌, ◌<◌, ◌≤◌, Bool, true, false, List, [], ◌∷◌, ◌++◌, map, length, get_or, refl, sym, ◌∙◌, ap, subst, arith}
use Rattle.std.specs.Prelude.{if◌then◌else◌, bytes_eq, codes, Some, All, AllPairs}
use Rattle.std.proofs.lemmas.Bool.{or_from, false_from_ne_true}
use Rattle.std.proofs.lemmas.List.Elements.{All-head, All-tail}
use Rattle.std.proofs.lemmas.Slice.Eq.{bytes_eq-Decides}
use Rattle.mps_sections.specs.Statements.{StatedModel, is_column, coefficients_in}
use Rattle.mps_text.specs.Text.{Entry}
use Rattle.mps_sections.specs.Shown.{after}
use Rattle.mps_fields.specs.Fields.{is_end}
use Rattle.mps_fields.specs.declared.words.Section.TheVariants.{Columns}
use Rattle.mps_sections.specs.declared.statements.ColumnLines.{ColumnLines}
use Rattle.lp_model.specs.Limits.{col_limit}
use Rattle.lp_model.specs.Program.{Program}
use Rattle.lp_model.specs.declared.types.Col.{Col}
use Rattle.mps_writer.specs.Canonical.{WrittenLine, marker_line, own_lines, column_lines}
use Rattle.mps_writer.proofs.RecordLaws.{entry_of, entries_from}
use Rattle.mps_writer.proofs.PassLaws.{Passes, passes_append}
use Rattle.mps_writer.proofs.ColumnsBack.{marked_as, opens_clean, opens_after, closes_clean, closes_after, first_clean, first_after}
use Rattle.mps_writer.proofs.PairsBack.{Named, as_number, as_line, IsPair, AreFresh, numbered, one_counts, pairs_pass}
use Rattle.mps_writer.proofs.SetsBack.{entry_no_end}
use Rattle.mps_writer.proofs.OwnLines.{own_pairs, own_are, own_some, entries_append}

-- the column that these pairs state from a line on
abbrev pub column_at : List ℕ → ℕ → Bool → List Named → ColumnLines
column_at name number marked pairs = record { name = name; line = number; marked = marked; numbers = map as_number pairs }

abbrev pub counted : StatedModel → List Named → ℕ
counted s pairs = length (coefficients_in s.rows (map as_number pairs))

-- what a column's lines need
pub record MayStand (s : StatedModel) (name : List ℕ) (pairs : List Named) : Type 0 where
  pub there : s.section ≡ Some Columns
  pub short : length name ≤ 255
  pub new : is_column s.columns name ≡ false
  pub few : length s.columns < col_limit false
  pub each : All (IsPair s) pairs
  pub apart : AllPairs (λ (a b : Named). a.0 ≢ b.0) pairs
  pub room : s.count + counted s pairs ≤ 50000

fresh_behind : (name : List ℕ) (number : ℕ) (marked : Bool) (p : Named) (more : List Named) → AllPairs (λ (a b : Named). a.0 ≢ b.0) (p ∷ more) → AreFresh (column_at name number marked (p ∷ [])) more
fresh_behind name number marked p more apart = record {
  new = λ i d below.
      let q = get_or more i d in
      or_from (bytes_eq p.0 q.0) false (false_from_ne_true (bytes_eq p.0 q.0) (λ e. apart 0 (suc i) d (omega arith) (omega (arith, below)) ((bytes_eq-Decides p.0 q.0).0 e))) refl;
  apart = λ i j d below later. apart (suc i) (suc j) d (omega (arith, below)) (omega (arith, later));
}

pub lines_pass : (s : StatedModel) (number : ℕ) (name : List ℕ) (pairs : List Named) → 0 < length pairs → MayStand s name pairs
    → Passes s (entries_from number (map (as_line name) pairs)) (numbered s s.columns (column_at name number s.marked pairs) (s.count + counted s pairs))
lines_pass s number name [] some m = absurd (omega arith)
lines_pass s number name (p ∷ more) some m =
    let here = All-head (IsPair s) p more m.each in
    let room = m.room in
    let split = one_counts s.rows (as_number p) (map as_number more) in
    let one = counted s (p ∷ []) in
    let first = column_at name number s.marked (p ∷ []) in
    let now : s.count + one ≤ 50000 = omega (arith, room, split) in
    let later : (s.count + one) + counted s more ≤ 50000 = omega (arith, room, split) in
    let all : (s.count + one) + counted s more ≡ s.count + counted s (p ∷ more) = omega (arith, split) in
    let behind = pairs_pass s name s.columns first (s.count + one) (suc number) more m.there m.short ((bytes_eq-Decides name name).1 refl) (All-tail (IsPair s) p more m.each) (fresh_behind name number s.marked p more m.apart) later in (
      first_clean s number name p.0 p.1 here.fits m.there here.unmarked m.short here.short here.known now m.new m.few,
      entry_no_end s number name p.0 p.1 here.fits here.short here.known,
      subst (λ (t : StatedModel). Passes t (entries_from (suc number) (map (as_line name) more)) (numbered s s.columns (column_at name number s.marked (p ∷ more)) (s.count + counted s (p ∷ more)))) (sym (first_after s number name p.0 p.1 here.fits m.there here.unmarked m.short here.short here.known now m.new))
          (subst (λ n. Passes (numbered s s.columns first (s.count + one)) (entries_from (suc number) (map (as_line name) more)) (numbered s s.columns (column_at name number s.marked (p ∷ more)) n)) all behind),
    )

-- the column begins on the line behind its first marker
abbrev pub first_line : Bool → ℕ → ℕ
first_line integer number = if integer then suc number else number

-- behind a marker all is as before it
within : (s : StatedModel) (name : List ℕ) (pairs : List Named) → MayStand s name pairs → MayStand (marked_as true s) name pairs
within s name pairs m = record {
  there = m.there;
  short = m.short;
  new = m.new;
  few = m.few;
  each = λ i d below. let h = m.each i d below in record { fits = h.fits; unmarked = h.unmarked; short = h.short; known = h.known };
  apart = m.apart;
  room = m.room;
}

marker_no_end : (number : ℕ) (w : List ℕ) → is_end (entry_of number (marker_line w)) ≡ false
unfolding is_end
marker_no_end number w = refl

module _ (M : Program) (s : StatedModel) (number : ℕ) (c : Col) (out : s.marked ≡ false) (m : MayStand s c.name (own_pairs M c)) where
  abbrev pub own : List Named
  own = own_pairs M c

  abbrev pub count : ℕ
  count = s.count + counted s own

  -- a column that is not integer
  plain : Passes s (entries_from number (own_lines M c)) (numbered s s.columns (column_at c.name number false own) count)
  plain =
      subst (λ (lines : List WrittenLine). Passes s (entries_from number lines) (numbered s s.columns (column_at c.name number false own) count)) (sym (own_are M c))
      (subst (λ marked. Passes s (entries_from number (map (as_line c.name) own)) (numbered s s.columns (column_at c.name number marked own) count)) out (lines_pass s number c.name own (own_some M c) m))

  abbrev pub inside : StatedModel
  inside = marked_as true s

  abbrev pub stood : StatedModel
  stood = numbered inside s.columns (column_at c.name (suc number) true own) count

  abbrev pub opening : WrittenLine
  opening = marker_line (codes "'INTORG'")

  abbrev pub closing : WrittenLine
  closing = marker_line (codes "'INTEND'")

  -- and one that is
  marked : Passes s (entries_from number (opening ∷ (own_lines M c ++ closing ∷ []))) (numbered s s.columns (column_at c.name (suc number) true own) count)
  marked =
      let n = suc number + length (own_lines M c) in
      let lines : Passes inside (entries_from (suc number) (own_lines M c)) stood =
      subst (λ (found : List WrittenLine). Passes inside (entries_from (suc number) found) stood) (sym (own_are M c)) (lines_pass inside (suc number) c.name own (own_some M c) (within s c.name own m))
      in
      let closed : after stood (entry_of n closing) ≡ numbered s s.columns (column_at c.name (suc number) true own) count =
      closes_after stood n m.there ∙ ap (λ b. marked_as b (numbered s s.columns (column_at c.name (suc number) true own) count)) (sym out)
      in
      let last : Passes stood (entries_from n (closing ∷ [])) (numbered s s.columns (column_at c.name (suc number) true own) count) = (closes_clean stood n m.there refl, marker_no_end n (codes "'INTEND'"), closed) in
      let behind = passes_append inside stood (numbered s s.columns (column_at c.name (suc number) true own) count) (entries_from (suc number) (own_lines M c)) (entries_from n (closing ∷ [])) lines last in (
        opens_clean s number m.there out,
        marker_no_end number (codes "'INTORG'"),
        subst (λ (t : StatedModel). Passes t (entries_from (suc number) (own_lines M c ++ closing ∷ [])) (numbered s s.columns (column_at c.name (suc number) true own) count)) (sym (opens_after s number m.there))
            (subst (λ (es : List Entry). Passes inside es (numbered s s.columns (column_at c.name (suc number) true own) count)) (sym (entries_append (suc number) (own_lines M c) (closing ∷ []))) behind),
      )

  pub column_pass : Passes s (entries_from number (column_lines M c)) (numbered s s.columns (column_at c.name (first_line c.int number) c.int own) count)
  column_pass = by c.int
    where
      by : (b : Bool) → Passes s (entries_from number (if b then opening ∷ (own_lines M c ++ closing ∷ []) else own_lines M c)) (numbered s s.columns (column_at c.name (first_line b number) b own) count)
      by true = marked
      by false = plain
