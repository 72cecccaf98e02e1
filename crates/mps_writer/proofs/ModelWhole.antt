-- The lists that a canonical text states mean the model that was written, and have no flaw.
use Rattle.std.proofs.Common.{◌≡◌, ◌≢◌, ℕ, zero, suc, ◌+◌, ◌<◌, Bool, true, false, ◌&&◌, List, [], ◌∷◌, ◌++◌, map, length, get_or, refl, sym, ◌∙◌, ap, subst, pos, arith}
use Rattle.std.specs.Prelude.{if◌then◌else◌, flat_map, Option, None, Some, All}
use Rattle.std.specs.Ordering.{eq_by_cmp}
use Rattle.std.proofs.lemmas.Bool.{and_from}
use Rattle.std.proofs.lemmas.List.Elements.{All-head, All-tail, All-append}
use Rattle.frac128.specs.Rational.{ℚ, int, neg_ℚ, ◌-ℚ◌, ◌≤ℚ◌, rational_cmp}
use Rattle.frac128.specs.RationalRing.{ring, reads_ℚ}
use Rattle.lp_model.specs.Program.{Program, constant}
use Rattle.lp_model.specs.Edits.{is_zero}
use Rattle.lp_model.specs.Lawful.{AreSubtractable, IsRange, IsLawfulColumn, IsLawful}
use Rattle.lp_model.specs.declared.types.Sense.{Sense}
use Rattle.lp_model.specs.declared.types.RowId.{RowId}
use Rattle.lp_model.specs.declared.types.Row.{Row}
use Rattle.lp_model.specs.declared.types.Col.{Col}
use Rattle.mps_text.specs.Text.{Flaw}
use Rattle.mps_sections.specs.declared.statements.RowLine.{RowLine}
use Rattle.mps_sections.specs.declared.statements.ColumnLines.{ColumnLines}
use Rattle.mps_fields.specs.declared.words.RowKind.TheVariants.{AtMost}
use Rattle.mps_model.specs.Ranges.{difference_fits, are_subtractable, has_room}
use Rattle.mps_model.specs.Meaning.{row_number_beside, range_beside, high_side_with, row_with, row_of, span_of, column_of, model_of}
use Rattle.mps_model.specs.Faults.{code_on, row_named, range_code, range_flaw, column_code, column_flaw, flaw_or, sections_flaw}
use Rattle.mps_model.specs.declared.spans.Span.{Span}
use Rattle.frac128.proofs.RoomTests.{sum_fits-decides}
use Rattle.mps_writer.specs.Canonical.{right_side, column_lines}
use Rattle.lp_model.specs.Fitting.{ModelFits}
use Rattle.mps_writer.specs.Writable.{IsWritableMps}
use Rattle.mps_writer.proofs.ModelBack.{kind_by, kind_of, range_of, width, sides_back, whole_span, constant_back}
use Rattle.mps_writer.proofs.RowsBack.{stated_row}
use Rattle.mps_writer.proofs.PairsBack.{Named, as_number}
use Rattle.mps_writer.proofs.OwnLines.{named_number, own_pairs}
use Rattle.mps_writer.proofs.ColumnPass.{column_at, first_line}
use Rattle.mps_writer.proofs.ColumnsPass.{stated_columns}
use Rattle.mps_writer.proofs.SetLines.{side_pairs, rhs_pairs}
use Rattle.mps_writer.proofs.SetsPass.{ranges_at, stated_bounds}
use Rattle.mps_writer.proofs.WholePass.{columns_from, ranges_from, all_ranges}
use Rattle.mps_writer.proofs.NamePremises.{unequal, equal_self, rows_apart, columns_apart, from_objective, from_objective2}
use Rattle.mps_writer.proofs.RowPairs.{named_all, named_first, named_passed, number_in, HaveNamesApart, rows_later, first_apart, all_pairs, number_at, range_at_row}
use Rattle.mps_writer.proofs.SetPairs.{some_number, side_number, range_number, sides_are, all_ranges_are, sides_named}
use Rattle.mps_writer.proofs.BoundLines.{own_kept, span_back, no_bound_code}
use Rattle.mps_writer.proofs.OwnNumbers.{zero_is, cost_back, cost2_back, entries_from_numbers}
use Rattle.mps_writer.proofs.WholeText.{sections_of}

-- ---- rows

-- a row from its parts, and from the number of RHS and that of RANGES
abbrev pub row_from : List ℕ → Option ℚ → Option ℚ → Row
row_from name lo hi = record { name = name; lo = lo; hi = hi }

row_is : (r : Row) (x : ℚ) (range : Option ℚ) → x ≡ right_side r.lo r.hi → range ≡ range_of r.lo r.hi → IsRange r.lo r.hi → row_with x range (stated_row r) ≡ r
row_is r x range e g sides =
    let kind = kind_of r.lo r.hi in
    let side = right_side r.lo r.hi in
    let back = sides_back r.lo r.hi sides in
    ap (λ y. row_with y range (stated_row r)) e
    ∙ ap (λ (o : Option ℚ). row_with side o (stated_row r)) g
    ∙ ap (λ (lo : Option ℚ). row_from r.name lo (high_side_with kind side (range_of r.lo r.hi))) back.0
    ∙ ap (λ (hi : Option ℚ). row_from r.name r.lo hi) back.1

rows_are : (f : Row → RowLine) (g : RowLine → Row) (rows : List Row) → All (λ (r : Row). g (f r) ≡ r) rows → map g (map f rows) ≡ rows
rows_are f g [] h = refl
rows_are f g (r ∷ rows) h = ap (λ q. q ∷ map g (map f rows)) (All-head (λ (q : Row). g (f q) ≡ q) r rows h) ∙ ap (λ more. r ∷ more) (rows_are f g rows (All-tail (λ (q : Row). g (f q) ≡ q) r rows h))

-- a number that is left out where it is 0 comes back
some_back : (x : ℚ) → number_in (some_number x) ≡ x
some_back x = by (is_zero x) refl
  where
    by : (b : Bool) → is_zero x ≡ b → number_in (if b then None else Some x) ≡ x
    by true e = sym (zero_is x e)
    by false e = refl

-- ---- a row by its name

named_back : (rows : List Row) (i : ℕ) (d : Row) → i < length rows → HaveNamesApart rows → row_named (get_or rows i d).name (map stated_row rows) ≡ Some (stated_row (get_or rows i d))
named_back [] i d below apart = absurd (omega (arith, below))
named_back (r ∷ rows) zero d below apart = ap (λ b. if b then Some (stated_row r) else row_named r.name (map stated_row rows)) (equal_self r.name)
named_back (r ∷ rows) (suc i) d below apart =
    let q = get_or rows i d in
    ap (λ b. if b then Some (stated_row r) else row_named q.name (map stated_row rows)) (unequal r.name q.name (first_apart r rows apart i d (omega (arith, below))))
    ∙ named_back rows i d (omega (arith, below)) (rows_later r rows apart)

-- ---- room of the sides that RANGES gives back

near_room : (low high : ℚ) → low ≤ℚ high → AreSubtractable low high → has_room AtMost high (high -ℚ low) ≡ true
near_room low high ordered near =
    let w = high -ℚ low in
    let back : high -ℚ w ≡ low = ring (low ∷ high ∷ []) (search reads_ℚ) tt in
    let first : difference_fits high low ≡ true = (sum_fits-decides high (neg_ℚ low)).1 near.width in
    let second : difference_fits high w ≡ true = (sum_fits-decides high (neg_ℚ w)).1 near.back in
    ap (λ m. difference_fits high m && are_subtractable (high -ℚ m) high) (width low high ordered)
    ∙ ap (λ l. difference_fits high w && are_subtractable l high) back
    ∙ and_from (difference_fits high w) (are_subtractable low high) second (and_from (difference_fits high low) (difference_fits high w) first second)

room_back : (lo hi : Option ℚ) (x : ℚ) → IsRange lo hi → range_of lo hi ≡ Some x → has_room (kind_of lo hi) (right_side lo hi) x ≡ true
room_back None None x range e = absurd range
room_back (Some low) None x range e = absurd (cc)
room_back None (Some high) x range e = absurd (cc)
room_back (Some low) (Some high) x range e = by (eq_by_cmp rational_cmp low high) e
  where
    by : (b : Bool) → (if b then None else Some (high -ℚ low)) ≡ Some x → has_room (kind_by b) high x ≡ true
    by true q = absurd (cc)
    by false q = subst (λ y. has_room AtMost high y ≡ true) (ap number_in q) (near_room low high range.0 range.1)

-- what is found by a row's name
record IsFound (M : Program) (r : Row) : Type 0 where
  named : row_named r.name (map stated_row M.rows) ≡ Some (stated_row r)
  side : row_number_beside r.name (map as_number (rhs_pairs M)) ≡ right_side r.lo r.hi
  range : range_beside r.name (ranges_at (suc (ranges_from M)) (all_ranges M)) ≡ range_of r.lo r.hi
  sides : IsRange r.lo r.hi

-- ---- columns

abbrev pub column_from : List ℕ → Bool → Option ℚ → Option ℚ → ℚ → ℚ → List (RowId × ℚ) → Col
column_from name integer lower upper cost cost2 rows = record { name = name; int = integer; lo = lower; up = upper; cost = cost; cost2 = cost2; rows = rows }

two_numbers : (l : List ℚ) → length l ≡ 2 → get_or l 0 (int (pos 0)) ∷ get_or l 1 (int (pos 0)) ∷ [] ≡ l
two_numbers [] e = absurd (omega (arith, e))
two_numbers (a ∷ []) e = absurd (omega (arith, e))
two_numbers (a ∷ b ∷ []) e = refl
two_numbers (a ∷ b ∷ c ∷ l) e = absurd (omega (arith, e))

abbrev pub program_from : Sense → List ℕ → List ℕ → List ℚ → List Row → List Col → Bool → Program
program_from sense obj obj2 consts rows cols wide = record { sense = sense; obj = obj; obj2 = obj2; consts = consts; rows = rows; cols = cols; wide = wide }

module _ (M : Program) (h : IsLawful M) (w : IsWritableMps M) (f : ModelFits M) where
  abbrev pub sides : List Named
  sides = flat_map side_pairs M.rows

  abbrev pub first : ℚ
  first = neg_ℚ (constant M 1)

  abbrev pub second : ℚ
  second = neg_ℚ (constant M 2)

  objectives_apart : M.obj ≢ M.obj2
  objectives_apart = h.rows_distinct 0 1 [] (omega arith) (omega arith)

  -- ---- constants

  first_beside : row_number_beside M.obj (map as_number (rhs_pairs M)) ≡ first
  first_beside =
      named_first M.obj first (named_number M.obj2 second ++ sides)
      (All-append (λ (q : Named). q.0 ≢ M.obj) (named_number M.obj2 second) sides (named_all (λ (q : Named). q.0 ≢ M.obj) M.obj2 second (λ e. objectives_apart (sym e)))
      (sides_named M h w f (λ name. name ≢ M.obj) (λ i d below. λ e. from_objective M h w i d below (sym e))))

  second_beside : row_number_beside M.obj2 (map as_number (rhs_pairs M)) ≡ second
  second_beside =
      named_passed M.obj M.obj2 first (named_number M.obj2 second ++ sides) objectives_apart
      ∙ named_first M.obj2 second sides (sides_named M h w f (λ name. name ≢ M.obj2) (λ i d below. λ e. from_objective2 M h w i d below (sym e)))

  constants_back : neg_ℚ (row_number_beside M.obj (map as_number (rhs_pairs M))) ∷ neg_ℚ (row_number_beside M.obj2 (map as_number (rhs_pairs M))) ∷ [] ≡ M.consts
  constants_back =
      let other = neg_ℚ (row_number_beside M.obj2 (map as_number (rhs_pairs M))) in
      ap (λ x. neg_ℚ x ∷ other ∷ []) first_beside
      ∙ ap (λ x. neg_ℚ first ∷ neg_ℚ x ∷ []) second_beside
      ∙ ap (λ x. x ∷ neg_ℚ second ∷ []) (constant_back (constant M 1))
      ∙ ap (λ x. constant M 1 ∷ x ∷ []) (constant_back (constant M 2))
      ∙ two_numbers M.consts h.constants

  -- ---- rows

  found : All (IsFound M) M.rows
  found = λ i d below.
      let r = get_or M.rows i d in
      let apart = rows_apart M h w in
      record {
        named = named_back M.rows i d below apart;
        side =
            named_passed M.obj r.name first (named_number M.obj2 second ++ sides) (from_objective M h w i d below)
            ∙ named_passed M.obj2 r.name second sides (from_objective2 M h w i d below)
            ∙ ap (λ (pairs : List Named). row_number_beside r.name (map as_number pairs)) (sides_are M.rows)
            ∙ number_at side_number M.rows i d below apart
            ∙ some_back (right_side r.lo r.hi);
        range =
            ap (λ (pairs : List Named). range_beside r.name (ranges_at (suc (ranges_from M)) pairs)) (all_ranges_are M.rows)
            ∙ range_at_row range_number M.rows (suc (ranges_from M)) i d below apart;
        sides = h.ranges i d below;
      }

  rows_back : map (row_of (sections_of M)) (map stated_row M.rows) ≡ M.rows
  rows_back = rows_are stated_row (row_of (sections_of M)) M.rows (λ i d below.
      let r = get_or M.rows i d in
      let k = found i d below in
      row_is r (row_number_beside r.name (map as_number (rhs_pairs M))) (range_beside r.name (ranges_at (suc (ranges_from M)) (all_ranges M))) k.side k.range k.sides)

  no_range_flaw : (number : ℕ) (pairs : List Named) → All (λ (p : Named). range_code (row_named p.0 (map stated_row M.rows)) (row_number_beside p.0 (map as_number (rhs_pairs M))) p.1 ≡ None) pairs → range_flaw (sections_of M) (ranges_at number pairs) ≡ None
  no_range_flaw number [] k = refl
  no_range_flaw number (p ∷ pairs) k =
      let clean = λ (q : Named). range_code (row_named q.0 (map stated_row M.rows)) (row_number_beside q.0 (map as_number (rhs_pairs M))) q.1 ≡ None in
      ap (λ (code : Option ℕ). code_on number code (range_flaw (sections_of M) (ranges_at (suc number) pairs))) (All-head clean p pairs k)
      ∙ no_range_flaw (suc number) pairs (All-tail clean p pairs k)

  ranges_clean : range_flaw (sections_of M) (ranges_at (suc (ranges_from M)) (all_ranges M)) ≡ None
  ranges_clean =
      let clean = λ (q : Named). range_code (row_named q.0 (map stated_row M.rows)) (row_number_beside q.0 (map as_number (rhs_pairs M))) q.1 ≡ None in
      no_range_flaw (suc (ranges_from M)) (all_ranges M) (subst (All clean) (sym (all_ranges_are M.rows)) (all_pairs range_number (IsFound M) clean (λ r x e k.
      ap (λ (row : Option RowLine). range_code row (row_number_beside r.name (map as_number (rhs_pairs M))) x) k.named
      ∙ ap (λ y. range_code (Some (stated_row r)) y x) k.side
      ∙ ap (λ b. if b then None else Some 13) (room_back r.lo r.hi x k.sides e)) M.rows found))

  -- ---- columns

  spans : (i : ℕ) (d : Col) (line : ℕ) → i < length M.cols → span_of (flat_map stated_bounds M.cols) (column_at (get_or M.cols i d).name line (get_or M.cols i d).int (own_pairs M (get_or M.cols i d))) ≡ whole_span (get_or M.cols i d).int (get_or M.cols i d).lo (get_or M.cols i d).up
  spans i d line below = let c = get_or M.cols i d in span_back (flat_map stated_bounds M.cols) c line (own_pairs M c) (own_kept M.cols i d below (columns_apart M h w))

  -- a column whose lines begin anywhere
  abbrev pub column_stated : Col → ℕ → ColumnLines
  column_stated c line = column_at c.name line c.int (own_pairs M c)

  column_back : (c : Col) (line : ℕ) → IsLawfulColumn (length M.rows) c → span_of (flat_map stated_bounds M.cols) (column_stated c line) ≡ whole_span c.int c.lo c.up → column_of (sections_of M) None (column_stated c line) ≡ c
  column_back c line lawful span =
      let numbers = map as_number (own_pairs M c) in
      let cost = row_number_beside M.obj numbers in
      let cost2 = row_number_beside M.obj2 numbers in
      let entries = (column_of (sections_of M) None (column_stated c line)).rows in
      ap (λ (s : Span). column_from c.name s.integer s.lower s.upper cost cost2 entries) span
      ∙ ap (λ x. column_from c.name c.int c.lo c.up x cost2 entries) (cost_back M h w c lawful.entries)
      ∙ ap (λ x. column_from c.name c.int c.lo c.up c.cost x entries) (cost2_back M h w c lawful.entries)
      ∙ ap (λ (es : List (RowId × ℚ)). column_from c.name c.int c.lo c.up c.cost c.cost2 es) (entries_from_numbers M h w c lawful.entries)

  columns_are : (number : ℕ) (cols : List Col) → All (λ (c : Col). (line : ℕ) → column_of (sections_of M) None (column_stated c line) ≡ c) cols → map (column_of (sections_of M) None) (stated_columns M number cols) ≡ cols
  columns_are number [] k = refl
  columns_are number (c ∷ cols) k =
      let back = λ (d : Col). (line : ℕ) → column_of (sections_of M) None (column_stated d line) ≡ d in
      let more = stated_columns M (number + length (column_lines M c)) cols in
      ap (λ (d : Col). d ∷ map (column_of (sections_of M) None) more) (All-head back c cols k (first_line c.int number))
      ∙ ap (λ (ds : List Col). c ∷ ds) (columns_are (number + length (column_lines M c)) cols (All-tail back c cols k))

  columns_back : map (column_of (sections_of M) None) (stated_columns M (suc (columns_from M)) M.cols) ≡ M.cols
  columns_back = columns_are (suc (columns_from M)) M.cols (λ i d below. λ line. column_back (get_or M.cols i d) line (h.columns i d below) (spans i d line below))

  no_column_flaw : (number : ℕ) (cols : List Col) → All (λ (c : Col). (line : ℕ) → column_code None (span_of (flat_map stated_bounds M.cols) (column_stated c line)) ≡ None) cols → column_flaw None (flat_map stated_bounds M.cols) (stated_columns M number cols) ≡ None
  no_column_flaw number [] k = refl
  no_column_flaw number (c ∷ cols) k =
      let clean = λ (d : Col). (line : ℕ) → column_code None (span_of (flat_map stated_bounds M.cols) (column_stated d line)) ≡ None in
      let more = stated_columns M (number + length (column_lines M c)) cols in
      ap (λ (code : Option ℕ). code_on (first_line c.int number) code (column_flaw None (flat_map stated_bounds M.cols) more)) (All-head clean c cols k (first_line c.int number))
      ∙ no_column_flaw (number + length (column_lines M c)) cols (All-tail clean c cols k)

  columns_clean : column_flaw None (flat_map stated_bounds M.cols) (stated_columns M (suc (columns_from M)) M.cols) ≡ None
  columns_clean = no_column_flaw (suc (columns_from M)) M.cols (λ i d below. λ line.
      let c = get_or M.cols i d in
      ap (column_code None) (spans i d line below) ∙ no_bound_code c.int c.lo c.up (h.columns i d below).bounded)

  -- ---- the model

  pub flawless : sections_flaw (sections_of M) None ≡ None
  flawless = ap (λ (flaw : Option Flaw). flaw_or flaw (column_flaw None (flat_map stated_bounds M.cols) (stated_columns M (suc (columns_from M)) M.cols))) ranges_clean ∙ columns_clean

  pub meant : M ≡ model_of (sections_of M) None
  unfolding model_of
  meant =
      let consts = (model_of (sections_of M) None).consts in
      let cols = map (column_of (sections_of M) None) (stated_columns M (suc (columns_from M)) M.cols) in
      sym (
      ap (λ (rows : List Row). program_from M.sense M.obj M.obj2 consts rows cols false) rows_back
      ∙ ap (λ (cs : List Col). program_from M.sense M.obj M.obj2 consts M.rows cs false) columns_back
      ∙ ap (λ (ks : List ℚ). program_from M.sense M.obj M.obj2 ks M.rows M.cols false) constants_back
      ∙ ap (λ (wide : Bool). program_from M.sense M.obj M.obj2 M.consts M.rows M.cols wide) (sym w.plain)
      )
