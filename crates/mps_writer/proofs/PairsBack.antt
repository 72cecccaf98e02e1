-- The lines of one column after its first one pass, and the column has their numbers in order.
use Rattle.std.proofs.Common.{◌≡◌, ◌≢◌, ℕ, suc, ◌+◌, ◌≤◌, Bool, true, false, ◌||◌, List, [], ◌∷◌, ◌++◌, map, length, get_or, refl, sym, ◌∙◌, ap, subst, arith, append_assoc}
use Rattle.std.specs.Prelude.{if◌then◌else◌, bytes_eq, Some, codes, All, AllPairs}
use Rattle.std.proofs.lemmas.Bool.{or_from, false_from_ne_true}
use Rattle.std.proofs.lemmas.List.Folds.{list_any-append}
use Rattle.std.proofs.lemmas.List.Elements.{All-head, All-tail}
use Rattle.std.proofs.lemmas.Slice.Eq.{bytes_eq-Decides}
use Rattle.frac128.specs.Rational.{ℚ}
use Rattle.frac128.specs.Range.{Fits}
use Rattle.mps_fields.specs.Words.{is_key}
use Rattle.mps_sections.specs.Statements.{StatedModel, is_numbered, is_coefficient, coefficients_in}
use Rattle.mps_sections.specs.Faults.{is_known}
use Rattle.mps_fields.specs.declared.words.Section.TheVariants.{Columns}
use Rattle.mps_sections.specs.declared.statements.RowLine.{RowLine}
use Rattle.mps_sections.specs.declared.statements.RowNumber.{RowNumber}
use Rattle.mps_sections.specs.declared.statements.ColumnLines.{ColumnLines}
use Rattle.mps_sections.proofs.StatedSteps.{nothing_more}
use Rattle.mps_writer.specs.Canonical.{WrittenLine, entry_line}
use Rattle.mps_writer.proofs.RecordLaws.{entries_from}
use Rattle.mps_writer.proofs.PassLaws.{Passes}
use Rattle.mps_writer.proofs.ColumnsBack.{beside, with_numbers, more_clean, more_after}
use Rattle.mps_writer.proofs.SetsBack.{entry_no_end}

-- a row's or an objective's name, and the number beside it
abbrev pub Named : Type 0
Named = List ℕ × ℚ

abbrev pub as_number : Named → RowNumber
as_number p = beside p.0 p.1

abbrev pub as_line : List ℕ → Named → WrittenLine
as_line name p = entry_line name p.0 p.1

-- what the lines need of a pair, wherever they stand
pub record IsPair (s : StatedModel) (p : Named) : Type 0 where
  pub fits : Fits p.1
  pub unmarked : is_key (codes "'MARKER'") p.0 ≡ false
  pub short : length p.0 ≤ 255
  pub known : is_known s p.0 ≡ true

-- the state with the last column's numbers and the count
abbrev pub numbered : StatedModel → List ColumnLines → ColumnLines → ℕ → StatedModel
numbered s done c count = record s { columns = done ++ c ∷ []; count = count }

pub one_counts : (rows : List RowLine) (p : RowNumber) (more : List RowNumber) → length (coefficients_in rows (p ∷ more)) ≡ length (coefficients_in rows (p ∷ [])) + length (coefficients_in rows more)
one_counts rows p more = by (is_coefficient rows p)
  where
    by : (b : Bool) → length (if b then p ∷ coefficients_in rows more else coefficients_in rows more) ≡ length (if b then p ∷ [] else []) + length (coefficients_in rows more)
    by true = omega arith
    by false = omega arith

-- none of the pairs' rows stands in the column yet, and they differ
pub record AreFresh (c : ColumnLines) (pairs : List Named) : Type 0 where
  pub new : All (λ (p : Named). is_numbered c.numbers p.0 ≡ false) pairs
  pub apart : AllPairs (λ (a b : Named). a.0 ≢ b.0) pairs

still_fresh : (c : ColumnLines) (p : Named) (pairs : List Named) → AreFresh c (p ∷ pairs) → AreFresh (with_numbers c (as_number p ∷ [])) pairs
still_fresh c p pairs h = record {
  new = λ i d below.
      let q = get_or pairs i d in
      let differs : bytes_eq p.0 q.0 ≡ false = false_from_ne_true (bytes_eq p.0 q.0) (λ e. h.apart 0 (suc i) d (omega arith) (omega (arith, below)) ((bytes_eq-Decides p.0 q.0).0 e)) in
      list_any-append (λ (x : RowNumber). bytes_eq x.row q.0) c.numbers (as_number p ∷ [])
      ∙ or_from (is_numbered c.numbers q.0) (bytes_eq p.0 q.0 || false) (h.new (suc i) d (omega (arith, below))) (or_from (bytes_eq p.0 q.0) false differs refl);
  apart = λ i j d below later. h.apart (suc i) (suc j) d (omega (arith, below)) (omega (arith, later));
}

pub pairs_pass : (s : StatedModel) (name : List ℕ) (done : List ColumnLines) (c : ColumnLines) (count : ℕ) (number : ℕ) (pairs : List Named) → s.section ≡ Some Columns → length name ≤ 255 → bytes_eq c.name name ≡ true
    → All (IsPair s) pairs → AreFresh c pairs → count + length (coefficients_in s.rows (map as_number pairs)) ≤ 50000
    → Passes (numbered s done c count) (entries_from number (map (as_line name) pairs)) (numbered s done (with_numbers c (map as_number pairs)) (count + length (coefficients_in s.rows (map as_number pairs))))
pairs_pass s name done c count number [] there short own pairs fresh room =
    let none : count + 0 ≡ count = omega arith in
    ap (λ (found : List RowNumber). numbered s done (record { name = c.name; line = c.line; marked = c.marked; numbers = found }) count) (sym (nothing_more c.numbers))
    ∙ ap (λ n. numbered s done (with_numbers c []) n) (sym none)
pairs_pass s name done c count number (p ∷ more) there short own pairs fresh room =
    let t = numbered s done c count in
    let here = All-head (IsPair s) p more pairs in
    let one = length (coefficients_in s.rows (as_number p ∷ [])) in
    let rest = length (coefficients_in s.rows (map as_number more)) in
    let split : length (coefficients_in s.rows (map as_number (p ∷ more))) ≡ one + rest = one_counts s.rows (as_number p) (map as_number more) in
    let now : count + one ≤ 50000 = omega (arith, room, split) in
    let later : (count + one) + rest ≤ 50000 = omega (arith, room, split) in
    let all : (count + one) + rest ≡ count + length (coefficients_in s.rows (map as_number (p ∷ more))) = omega (arith, split) in
    let next = with_numbers c (as_number p ∷ []) in
    let after_is = more_after t number name p.0 p.1 here.fits there here.unmarked short here.short here.known now done c refl own in
    let behind = pairs_pass s name done next (count + one) (suc number) more there short own (All-tail (IsPair s) p more pairs) (still_fresh c p more fresh) later in (
      more_clean t number name p.0 p.1 here.fits there here.unmarked short here.short here.known now done c refl own (All-head (λ (q : Named). is_numbered c.numbers q.0 ≡ false) p more fresh.new),
      entry_no_end t number name p.0 p.1 here.fits here.short here.known,
      subst (λ (u : StatedModel). Passes u (entries_from (suc number) (map (as_line name) more)) (numbered s done (with_numbers c (map as_number (p ∷ more))) (count + length (coefficients_in s.rows (map as_number (p ∷ more)))))) (sym after_is)
          (subst (λ n. Passes (numbered s done next (count + one)) (entries_from (suc number) (map (as_line name) more)) (numbered s done (with_numbers c (map as_number (p ∷ more))) n)) all
          (subst (λ (found : List RowNumber). Passes (numbered s done next (count + one)) (entries_from (suc number) (map (as_line name) more)) (numbered s done (record { name = c.name; line = c.line; marked = c.marked; numbers = found }) ((count + one) + rest))) (append_assoc c.numbers (as_number p ∷ []) (map as_number more)) behind)),
    )
