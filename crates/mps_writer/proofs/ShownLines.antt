-- Each line of a writable model's canonical text is shown: its words are fields, and there are 1 to 4 of them.
use Rattle.std.proofs.Common.{◌≡◌, ℕ, Bool, true, false, List, [], ◌∷◌, ◌++◌, map, refl, arith}
use Rattle.std.specs.Prelude.{if◌then◌else◌, flat_map, codes, Option, None, Some, All}
use Rattle.std.specs.Option.{ForSome}
use Rattle.std.specs.Ordering.{eq_by_cmp}
use Rattle.std.proofs.lemmas.List.Elements.{All-nil, All-cons, All-head, All-tail, All-append}
use Rattle.frac128.specs.Rational.{ℚ, ◌-ℚ◌, rational_cmp}
use Rattle.frac128.specs.Range.{Fits}
use Rattle.frac128.specs.Printing.{printed}
use Rattle.lp_model.specs.Program.{Program}
use Rattle.lp_model.specs.Lawful.{row_name}
use Rattle.lp_model.specs.Edits.{is_zero}
use Rattle.lp_model.specs.declared.types.Sense.{Sense}
use Rattle.lp_model.specs.declared.types.Sense.TheVariants.{Min, Max}
use Rattle.lp_model.specs.declared.types.RowId.{RowId}
use Rattle.lp_model.specs.declared.types.Row.{Row}
use Rattle.lp_model.specs.declared.types.Col.{Col}
use Rattle.mps_text.specs.Text.{is_comment_line}
use Rattle.mps_writer.specs.Canonical.{WrittenLine, Header, Data, sense_word, opening_lines, side_type, row_type, row_line, objective_line, entry_line, number_line, entry_lines, number_lines, own_lines, has_no_number, marker_line, column_lines, right_side, rhs_line, range_line_of, range_line, lower_line, upper_line, bound_lines}
use Rattle.mps_writer.specs.Writable.{IsField}
use Rattle.lp_model.specs.Names.{is_lawful_name}
use Rattle.mps_writer.proofs.FieldLaws.{key_field, number_field}
use Rattle.mps_writer.proofs.RecordLaws.{IsShown}

abbrev pub AreShown : List WrittenLine → Type 0
AreShown = All IsShown

none : AreShown []
none = All-nil IsShown

one : (line : WrittenLine) → IsShown line → AreShown (line ∷ [])
one line h = All-cons IsShown line [] h none

both : (a b : List WrittenLine) → AreShown a → AreShown b → AreShown (a ++ b)
both a b h k = All-append IsShown a b h k

each_map : {A : Type 0} (f : A → WrittenLine) (P : A → Type 0) → ((x : A) → P x → IsShown (f x)) → (xs : List A) → All P xs → AreShown (map f xs)
each_map f P h [] all = none
each_map f P h (x ∷ xs) all = All-cons IsShown (f x) (map f xs) (h x (All-head P x xs all)) (each_map f P h xs (All-tail P x xs all))

each_flat : {A : Type 0} (f : A → List WrittenLine) (P : A → Type 0) → ((x : A) → P x → AreShown (f x)) → (xs : List A) → All P xs → AreShown (flat_map f xs)
each_flat f P h [] all = none
each_flat f P h (x ∷ xs) all = both (f x) (flat_map f xs) (h x (All-head P x xs all)) (each_flat f P h xs (All-tail P x xs all))

-- ---- lines of fields

fields_two : (a b : List ℕ) → IsField a → IsField b → All IsField (a ∷ b ∷ [])
fields_two a b h k = All-cons IsField a (b ∷ []) h (All-cons IsField b [] k (All-nil IsField))

fields_three : (a b c : List ℕ) → IsField a → IsField b → IsField c → All IsField (a ∷ b ∷ c ∷ [])
fields_three a b c h k l = All-cons IsField a (b ∷ c ∷ []) h (fields_two b c k l)

data_two : (a b : List ℕ) → IsField a → IsField b → IsShown (Data (a ∷ b ∷ []))
data_two a b h k = record { fields = fields_two a b h k; some = omega arith; few = omega arith; begins = tt }

data_three : (a b c : List ℕ) → IsField a → IsField b → IsField c → IsShown (Data (a ∷ b ∷ c ∷ []))
data_three a b c h k l = record { fields = fields_three a b c h k l; some = omega arith; few = omega arith; begins = tt }

data_four : (a b c d : List ℕ) → IsField a → IsField b → IsField c → IsField d → IsShown (Data (a ∷ b ∷ c ∷ d ∷ []))
data_four a b c d h k l m = record { fields = All-cons IsField a (b ∷ c ∷ d ∷ []) h (fields_three b c d k l m); some = omega arith; few = omega arith; begins = tt }

-- ---- headers

pub header_shown : (word : List ℕ) → is_lawful_name word ≡ true → is_comment_line (word ++ []) ≡ false → IsShown (Header (word ∷ []))
header_shown word e plain = record { fields = All-cons IsField word [] (key_field word e) (All-nil IsField); some = omega arith; few = omega arith; begins = plain }

pub opening_shown : (sense : Sense) → AreShown (opening_lines sense)
opening_shown sense = All-cons IsShown (Header (codes "NAME" ∷ [])) (Header (codes "OBJSENSE" ∷ sense_word sense ∷ []) ∷ []) first (one (Header (codes "OBJSENSE" ∷ sense_word sense ∷ [])) (second sense))
  where
    first : IsShown (Header (codes "NAME" ∷ []))
    first = record { fields = All-cons IsField (codes "NAME") [] (key_field (codes "NAME") refl) (All-nil IsField); some = omega arith; few = omega arith; begins = refl }

    second : (sense : Sense) → IsShown (Header (codes "OBJSENSE" ∷ sense_word sense ∷ []))
    second Min = record { fields = fields_two (codes "OBJSENSE") (codes "MIN") (key_field (codes "OBJSENSE") refl) (key_field (codes "MIN") refl); some = omega arith; few = omega arith; begins = refl }
    second Max = record { fields = fields_two (codes "OBJSENSE") (codes "MAX") (key_field (codes "OBJSENSE") refl) (key_field (codes "MAX") refl); some = omega arith; few = omega arith; begins = refl }

-- ---- lines of numbers

entry_shown : (first name : List ℕ) (x : ℚ) → IsField first → IsField name → Fits x → IsShown (entry_line first name x)
entry_shown first name x h k fits = data_three first name (printed x) h k (number_field x fits)

pub number_shown : (first name : List ℕ) (x : ℚ) → IsField first → IsField name → Fits x → AreShown (number_line first name x)
number_shown first name x h k fits = by (is_zero x)
  where
    by : (b : Bool) → AreShown (if b then [] else entry_line first name x ∷ [])
    by true = none
    by false = one (entry_line first name x) (entry_shown first name x h k fits)

-- ---- rows

row_shown : (r : Row) → IsField r.name → IsShown (row_line r)
row_shown r name = data_two (row_type r.lo r.hi) r.name (typed r.lo r.hi) name
  where
    side : (lo : Option ℚ) (high : ℚ) → IsField (side_type lo high)
    side None high = key_field (codes "L") refl
    side (Some low) high = by (eq_by_cmp rational_cmp low high)
      where
        by : (b : Bool) → IsField (if b then codes "E" else codes "L")
        by true = key_field (codes "E") refl
        by false = key_field (codes "L") refl

    typed : (lo hi : Option ℚ) → IsField (row_type lo hi)
    typed lo None = key_field (codes "G") refl
    typed lo (Some high) = side lo high

pub rows_shown : (rows : List Row) → All (λ (r : Row). IsField r.name) rows → AreShown (map row_line rows)
rows_shown rows names = each_map row_line (λ (r : Row). IsField r.name) row_shown rows names

pub objective_shown : (name : List ℕ) → IsField name → IsShown (objective_line name)
objective_shown name h = data_two (codes "N") name (key_field (codes "N") refl) h

-- a row whose name is a field, and whose sides have room, as well as their distance where there are two
pub record RowMayStand (r : Row) : Type 0 where
  pub name : IsField r.name
  pub side : Fits (right_side r.lo r.hi)
  pub distance : (low high : ℚ) → r.lo ≡ Some low → r.hi ≡ Some high → Fits (high -ℚ low)

pub sides_shown : (rows : List Row) → All RowMayStand rows → AreShown (flat_map rhs_line rows)
sides_shown rows h = each_flat rhs_line RowMayStand (λ r m. number_shown (codes "RHS") r.name (right_side r.lo r.hi) (key_field (codes "RHS") refl) m.name m.side) rows h

pub ranges_shown : (rows : List Row) → All RowMayStand rows → AreShown (flat_map range_line rows)
ranges_shown rows h = each_flat range_line RowMayStand (λ r m. by r.name r.lo r.hi m.name (λ low high e f. m.distance low high e f)) rows h
  where
    by : (name : List ℕ) (lo hi : Option ℚ) → IsField name → ((low high : ℚ) → lo ≡ Some low → hi ≡ Some high → Fits (high -ℚ low)) → AreShown (range_line_of name lo hi)
    by name (Some low) (Some high) f room = number_shown (codes "RNG") name (high -ℚ low) (key_field (codes "RNG") refl) f (room low high refl refl)
    by name (Some low) None f room = none
    by name None (Some high) f room = none
    by name None None f room = none

-- ---- bounds

pub record BoundsMayStand (c : Col) : Type 0 where
  pub name : IsField c.name
  pub lower : ForSome c.lo Fits
  pub upper : ForSome c.up Fits

lower_shown : (name : List ℕ) (lo : Option ℚ) → IsField name → ForSome lo Fits → IsShown (lower_line name lo)
lower_shown name (Some x) h fits = data_four (codes "LO") (codes "BND") name (printed x) (key_field (codes "LO") refl) (key_field (codes "BND") refl) h (number_field x (fits x refl))
lower_shown name None h fits = data_three (codes "MI") (codes "BND") name (key_field (codes "MI") refl) (key_field (codes "BND") refl) h

upper_shown : (name : List ℕ) (up : Option ℚ) → IsField name → ForSome up Fits → IsShown (upper_line name up)
upper_shown name (Some x) h fits = data_four (codes "UP") (codes "BND") name (printed x) (key_field (codes "UP") refl) (key_field (codes "BND") refl) h (number_field x (fits x refl))
upper_shown name None h fits = data_three (codes "PL") (codes "BND") name (key_field (codes "PL") refl) (key_field (codes "BND") refl) h

pub bounds_shown : (cols : List Col) → All BoundsMayStand cols → AreShown (flat_map bound_lines cols)
bounds_shown cols h = each_flat bound_lines BoundsMayStand (λ c m. All-cons IsShown (lower_line c.name c.lo) (upper_line c.name c.up ∷ []) (lower_shown c.name c.lo m.name m.lower) (one (upper_line c.name c.up) (upper_shown c.name c.up m.name m.upper))) cols h

-- ---- columns

pub record ColMayStand (M : Program) (c : Col) : Type 0 where
  pub name : IsField c.name
  pub cost : Fits c.cost
  pub cost2 : Fits c.cost2
  pub entries : All (λ (e : RowId × ℚ). IsField (row_name M e.0.0) × Fits e.1) c.rows

module _ (M : Program) (first : IsField M.obj) (second : IsField M.obj2) where
  numbers_shown : (c : Col) → ColMayStand M c → AreShown (number_lines M c)
  numbers_shown c m =
      both (number_line c.name M.obj c.cost) (number_line c.name M.obj2 c.cost2 ++ entry_lines M c) (number_shown c.name M.obj c.cost m.name first m.cost)
      (both (number_line c.name M.obj2 c.cost2) (entry_lines M c) (number_shown c.name M.obj2 c.cost2 m.name second m.cost2)
      (each_map (λ (e : RowId × ℚ). entry_line c.name (row_name M e.0.0) e.1) (λ (e : RowId × ℚ). IsField (row_name M e.0.0) × Fits e.1) (λ e h. entry_shown c.name (row_name M e.0.0) e.1 m.name h.0 h.1) c.rows m.entries))

  own_shown : (c : Col) → ColMayStand M c → AreShown (own_lines M c)
  own_shown c m = by (has_no_number c)
    where
      by : (b : Bool) → AreShown (if b then entry_line c.name M.obj c.cost ∷ [] else number_lines M c)
      by true = one (entry_line c.name M.obj c.cost) (entry_shown c.name M.obj c.cost m.name first m.cost)
      by false = numbers_shown c m

  marker_shown : (w : List ℕ) → IsField w → IsShown (marker_line w)
  marker_shown w h = data_three (codes "M") (codes "'MARKER'") w (key_field (codes "M") refl) (key_field (codes "'MARKER'") refl) h

  column_shown : (c : Col) → ColMayStand M c → AreShown (column_lines M c)
  column_shown c m = by c.int
    where
      by : (b : Bool) → AreShown (if b then marker_line (codes "'INTORG'") ∷ (own_lines M c ++ marker_line (codes "'INTEND'") ∷ []) else own_lines M c)
      by true =
          All-cons IsShown (marker_line (codes "'INTORG'")) (own_lines M c ++ marker_line (codes "'INTEND'") ∷ []) (marker_shown (codes "'INTORG'") (key_field (codes "'INTORG'") refl))
          (both (own_lines M c) (marker_line (codes "'INTEND'") ∷ []) (own_shown c m) (one (marker_line (codes "'INTEND'")) (marker_shown (codes "'INTEND'") (key_field (codes "'INTEND'") refl))))
      by false = own_shown c m

  pub columns_shown : (cols : List Col) → All (ColMayStand M) cols → AreShown (flat_map (column_lines M) cols)
  columns_shown cols h = each_flat (column_lines M) (ColMayStand M) column_shown cols h
