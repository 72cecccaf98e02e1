-- A lawful writable model whose numbers have room may pass: its lines have what each section needs, and each line is shown.
use Rattle.std.proofs.Common.{◌≡◌, ℕ, zero, suc, ◌+◌, ◌<◌, ◌≤◌, true, List, [], ◌∷◌, ◌++◌, map, length, get_or, refl, subst, arith}
use Rattle.std.specs.Prelude.{flat_map, codes, bytes_eq, Some, All}
use Rattle.std.proofs.lemmas.Bool.{or_left, or_right}
use Rattle.std.proofs.lemmas.List.Elements.{All-nil, All-cons, All-append}
use Rattle.frac128.specs.Rational.{neg_ℚ}
use Rattle.frac128.proofs.Whole.{Fits-neg, Fits-sum}
use Rattle.lp_model.specs.Program.{Program, constant}
use Rattle.lp_model.specs.Lawful.{IsRange, IsLawful, IsLawfulColumn}
use Rattle.lp_model.specs.Limits.{row_limit}
use Rattle.lp_model.specs.declared.types.Row.{Row}
use Rattle.lp_model.specs.declared.types.Col.{Col}
use Rattle.mps_sections.specs.Statements.{is_column}
use Rattle.mps_writer.specs.Canonical.{WrittenLine, Header, opening_lines, objective_line, row_line, rows_lines, column_lines, columns_lines, number_line, rhs_line, rhs_lines, range_line, ranges_lines, bound_lines, bounds_lines, canonical_lines}
use Rattle.lp_model.specs.Fitting.{ColumnNumbersFit, ModelFits}
use Rattle.mps_writer.specs.Writable.{IsField, IsWritableMps}
use Rattle.mps_writer.proofs.FieldLaws.{key_field}
use Rattle.mps_writer.proofs.RecordLaws.{IsShown}
use Rattle.mps_writer.proofs.RoomLemmas.{places_below}
use Rattle.mps_writer.proofs.ColumnsPass.{stated_columns}
use Rattle.mps_writer.proofs.SetsPass.{HasBounds}
use Rattle.mps_writer.proofs.ShownLines.{AreShown, header_shown, opening_shown, number_shown, rows_shown, objective_shown, RowMayStand, sides_shown, ranges_shown, BoundsMayStand, bounds_shown, ColMayStand, columns_shown}
use Rattle.mps_writer.proofs.WholePass.{columns_from, at_bounds, MayPass}
use Rattle.mps_writer.proofs.NamePremises.{equal_self, objective_short, objective2_short, objectives_differ, rows_field, rows_short, rows_new, columns_field}
use Rattle.mps_writer.proofs.OwnPairs.{at_place, columns_written}
use Rattle.mps_writer.proofs.SetPairs.{IsGoodRow, side_fits, rows_good, constant_fits, constant2_fits, sides_good, sides_apart, ranges_good, ranges_sided, ranges_apart}

-- each column is stated
column_stated : (M : Program) (number : ℕ) (cols : List Col) (i : ℕ) (d : Col) → i < length cols → is_column (stated_columns M number cols) (get_or cols i d).name ≡ true
column_stated M number [] i d below = absurd (omega (arith, below))
column_stated M number (c ∷ cols) zero d below = or_left (bytes_eq c.name c.name) (is_column (stated_columns M (number + length (column_lines M c)) cols) c.name) (equal_self c.name)
column_stated M number (c ∷ cols) (suc i) d below =
    or_right (bytes_eq c.name (get_or cols i d).name) (is_column (stated_columns M (number + length (column_lines M c)) cols) (get_or cols i d).name)
    (column_stated M (number + length (column_lines M c)) cols i d (omega (arith, below)))

module _ (M : Program) (h : IsLawful M) (w : IsWritableMps M) (f : ModelFits M) where
  bounds_good : All (HasBounds (at_bounds M)) M.cols
  bounds_good = λ i d below. record {
    short = (columns_field M h w i d below).short;
    known = column_stated M (suc (columns_from M)) M.cols i d below;
    lower_fits = (f.columns i d below).lo;
    lower_near = (w.bounds i d below).lower;
    upper_fits = (f.columns i d below).up;
    upper_near = (w.bounds i d below).upper;
  }

  pub may_pass : MayPass M
  may_pass =
      let few = subst (λ wide. length M.rows ≤ row_limit wide) w.plain h.limits.few_rows in
      record {
        objective_short = objective_short M h w;
        objective2_short = objective2_short M h w;
        objectives_differ = objectives_differ M h w;
        rows_ranged = h.ranges;
        rows_short = rows_short M h w;
        rows_new = rows_new M h w;
        rows_few = few;
        columns = columns_written M h w f;
        sides = sides_good M h w f;
        sides_apart = sides_apart M h w f;
        ranges = ranges_good M h w f;
        ranges_sided = ranges_sided M h w f;
        ranges_apart = ranges_apart M h w f;
        bounds = bounds_good;
      }

  -- ---- each line is shown

  first_field : IsField M.obj
  first_field = w.rows 0 [] (omega arith)

  second_field : IsField M.obj2
  second_field = w.rows 1 [] (omega arith)

  row_stands : (r : Row) → IsGoodRow M r → RowMayStand r
  row_stands r g = record {
    name = g.field;
    side = side_fits r.lo r.hi g.fits.lo g.fits.hi;
    distance = λ low high e q. let both : IsRange (Some low) (Some high) = subst (λ hi. IsRange (Some low) hi) q (subst (λ lo. IsRange lo r.hi) e g.range) in Fits-sum high (neg_ℚ low) both.1.width;
  }

  rows_stand : All RowMayStand M.rows
  rows_stand = λ i d below. row_stands (get_or M.rows i d) (rows_good M h w f i d below)

  column_stands : (c : Col) → IsField c.name → IsLawfulColumn (length M.rows) c → ColumnNumbersFit c → ColMayStand M c
  column_stands c name lawful fits = record {
    name = name;
    cost = fits.cost;
    cost2 = fits.cost2;
    entries = λ k d below. (at_place M h w IsField (rows_field M h w) (get_or c.rows k d).0.0 (places_below 0 (length M.rows) c.rows lawful.entries k d below), fits.entries k d below);
  }

  columns_stand : All (ColMayStand M) M.cols
  columns_stand = λ i d below. column_stands (get_or M.cols i d) (columns_field M h w i d below) (h.columns i d below) (f.columns i d below)

  bounds_stand : All BoundsMayStand M.cols
  bounds_stand = λ i d below. record { name = columns_field M h w i d below; lower = (f.columns i d below).lo; upper = (f.columns i d below).up }

  abbrev pub ending : List WrittenLine
  ending = Header (codes "ENDATA" ∷ []) ∷ []

  headed : (word : List ℕ) (lines : List WrittenLine) → IsShown (Header (word ∷ [])) → AreShown lines → AreShown (Header (word ∷ []) ∷ lines)
  headed word lines head rest = All-cons IsShown (Header (word ∷ [])) lines head rest

  rows_section : AreShown (rows_lines M)
  rows_section =
      headed (codes "ROWS") (objective_line M.obj ∷ objective_line M.obj2 ∷ map row_line M.rows) (header_shown (codes "ROWS") refl refl)
      (All-cons IsShown (objective_line M.obj) (objective_line M.obj2 ∷ map row_line M.rows) (objective_shown M.obj first_field)
      (All-cons IsShown (objective_line M.obj2) (map row_line M.rows) (objective_shown M.obj2 second_field) (rows_shown M.rows (rows_field M h w))))

  columns_section : AreShown (columns_lines M)
  columns_section = headed (codes "COLUMNS") (flat_map (column_lines M) M.cols) (header_shown (codes "COLUMNS") refl refl) (columns_shown M first_field second_field M.cols columns_stand)

  rhs_section : AreShown (rhs_lines M)
  rhs_section =
      let one = number_line (codes "RHS") M.obj (neg_ℚ (constant M 1)) in
      let two = number_line (codes "RHS") M.obj2 (neg_ℚ (constant M 2)) in
      let rows = flat_map rhs_line M.rows in
      let set : IsField (codes "RHS") = key_field (codes "RHS") refl in
      headed (codes "RHS") (one ++ (two ++ rows)) (header_shown (codes "RHS") refl refl)
      (All-append IsShown one (two ++ rows) (number_shown (codes "RHS") M.obj (neg_ℚ (constant M 1)) set first_field (Fits-neg (constant M 1) (constant_fits M h w f)))
      (All-append IsShown two rows (number_shown (codes "RHS") M.obj2 (neg_ℚ (constant M 2)) set second_field (Fits-neg (constant M 2) (constant2_fits M h w f))) (sides_shown M.rows rows_stand)))

  ranges_section : AreShown (ranges_lines M)
  ranges_section = headed (codes "RANGES") (flat_map range_line M.rows) (header_shown (codes "RANGES") refl refl) (ranges_shown M.rows rows_stand)

  bounds_section : AreShown (bounds_lines M)
  bounds_section = headed (codes "BOUNDS") (flat_map bound_lines M.cols) (header_shown (codes "BOUNDS") refl refl) (bounds_shown M.cols bounds_stand)

  pub lines_shown : AreShown (canonical_lines M)
  lines_shown =
      let bounds = bounds_lines M ++ ending in
      let ranges = ranges_lines M ++ bounds in
      let rhs = rhs_lines M ++ ranges in
      let columns = columns_lines M ++ rhs in
      All-append IsShown (opening_lines M.sense) (rows_lines M ++ columns) (opening_shown M.sense)
      (All-append IsShown (rows_lines M) columns rows_section
      (All-append IsShown (columns_lines M) rhs columns_section
      (All-append IsShown (rhs_lines M) ranges rhs_section
      (All-append IsShown (ranges_lines M) bounds ranges_section (All-append IsShown (bounds_lines M) ending bounds_section (headed (codes "ENDATA") [] (header_shown (codes "ENDATA") refl refl) (All-nil IsShown)))))))
