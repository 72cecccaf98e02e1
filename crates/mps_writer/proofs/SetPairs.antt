-- The pairs of RHS and RANGES of a lawful model are pairs of its rows: they have room, are known and differ.
use Rattle.std.proofs.Common.{◌≡◌, ◌≢◌, ℕ, Bool, true, false, List, [], ◌∷◌, ◌++◌, map, refl, sym, ◌∙◌, ap, subst, pos, arith}
use Rattle.std.specs.Prelude.{if◌then◌else◌, flat_map, Option, None, Some, All}
use Rattle.std.specs.Option.{ForSome}
use Rattle.std.specs.Bool.{Decides}
use Rattle.std.specs.Ordering.{eq_by_cmp}
use Rattle.std.proofs.lemmas.Bool.Decides.{same_from_decides}
use Rattle.std.proofs.lemmas.List.Elements.{All-nil, All-append}
use Rattle.frac128.specs.Rational.{ℚ, int, neg_ℚ, ◌-ℚ◌, rational_cmp}
use Rattle.frac128.proofs.Comparison.{eq_by_cmp-decides}
use Rattle.frac128.specs.RationalRing.{ring, reads_ℚ}
use Rattle.frac128.specs.Range.{Fits}
use Rattle.frac128.proofs.Whole.{Fits-zero, Fits-neg, Fits-sum}
use Rattle.lp_model.specs.Program.{Program, constant}
use Rattle.lp_model.specs.Edits.{is_zero}
use Rattle.lp_model.specs.Lawful.{AreSubtractable, IsRange, IsLawful}
use Rattle.lp_model.specs.declared.types.Row.{Row}
use Rattle.mps_sections.specs.Statements.{is_row_name}
use Rattle.mps_sections.specs.Faults.{is_known}
use Rattle.mps_writer.specs.Canonical.{right_side}
use Rattle.lp_model.specs.Fitting.{SidesFit, ModelFits}
use Rattle.mps_writer.specs.Writable.{IsField, IsWritableMps}
use Rattle.mps_writer.proofs.ModelBack.{range_of}
use Rattle.mps_writer.proofs.RowsBack.{stated_row}
use Rattle.mps_writer.proofs.PairsBack.{Named}
use Rattle.mps_writer.proofs.OwnLines.{named_number}
use Rattle.mps_writer.proofs.SetLines.{side_pairs, rhs_pairs, range_pairs_of, range_pairs}
use Rattle.mps_writer.proofs.SetsPass.{IsSetPair, AreApart}
use Rattle.mps_writer.proofs.WholePass.{rows_stated, at_rhs, at_ranges, all_ranges}
use Rattle.mps_writer.proofs.NamePremises.{objective_short, objective2_short, rows_field, rows_apart, from_objective, from_objective2, row_stated, objective_known, objective2_known, row_known}
use Rattle.mps_writer.proofs.RowPairs.{named_all, all_flat, named_before, pair_of, pairs_of, pairs_apart}

-- ---- the number of RHS and that of RANGES of a row, where it has one

abbrev pub some_number : ℚ → Option ℚ
some_number x = if is_zero x then None else Some x

abbrev pub side_number : Row → Option ℚ
side_number r = some_number (right_side r.lo r.hi)

abbrev pub range_number : Row → Option ℚ
range_number r = range_of r.lo r.hi

named_is : (name : List ℕ) (x : ℚ) → named_number name x ≡ pair_of name (some_number x)
named_is name x = by (is_zero x)
  where
    by : (b : Bool) → (if b then [] else (name, x) ∷ []) ≡ pair_of name (if b then None else Some x)
    by true = refl
    by false = refl

-- two sides are equal where their distance is 0
apart_zero : (low high : ℚ) → high -ℚ low ≡ int (pos 0) → low ≡ high
apart_zero low high e =
    let twice : low ≡ high -ℚ (high -ℚ low) = ring (low ∷ high ∷ []) (search reads_ℚ) tt in
    let nothing : high -ℚ int (pos 0) ≡ high = ring (high ∷ []) (search reads_ℚ) tt in
    twice ∙ ap (λ w. high -ℚ w) e ∙ nothing

zero_apart : (low high : ℚ) → low ≡ high → high -ℚ low ≡ int (pos 0)
zero_apart low high e =
    let none : high -ℚ high ≡ int (pos 0) = ring (high ∷ []) (search reads_ℚ) tt in
    ap (λ w. high -ℚ w) e ∙ none

pub zero_width : (low high : ℚ) → is_zero (high -ℚ low) ≡ eq_by_cmp rational_cmp low high
zero_width low high =
    let d = eq_by_cmp-decides (high -ℚ low) (int (pos 0)) in
    let same : Decides (is_zero (high -ℚ low)) (low ≡ high) = ((λ e. apart_zero low high (d.0 e)), (λ e. d.1 (zero_apart low high e))) in
    same_from_decides (is_zero (high -ℚ low)) (eq_by_cmp rational_cmp low high) same (eq_by_cmp-decides low high)

range_is : (name : List ℕ) (lo hi : Option ℚ) → range_pairs_of name lo hi ≡ pair_of name (range_of lo hi)
range_is name (Some low) (Some high) = named_is name (high -ℚ low) ∙ ap (λ b. pair_of name (if b then None else Some (high -ℚ low))) (zero_width low high)
range_is name (Some low) None = refl
range_is name None (Some high) = refl
range_is name None None = refl

flat_same : (f g : Row → List Named) → ((r : Row) → f r ≡ g r) → (rows : List Row) → flat_map f rows ≡ flat_map g rows
flat_same f g h [] = refl
flat_same f g h (r ∷ rows) = ap (λ l. l ++ flat_map f rows) (h r) ∙ ap (λ l. g r ++ l) (flat_same f g h rows)

pub sides_are : (rows : List Row) → flat_map side_pairs rows ≡ pairs_of side_number rows
sides_are rows = flat_same side_pairs (λ (r : Row). pair_of r.name (side_number r)) (λ r. named_is r.name (right_side r.lo r.hi)) rows

pub all_ranges_are : (rows : List Row) → flat_map range_pairs rows ≡ pairs_of range_number rows
all_ranges_are rows = flat_same range_pairs (λ (r : Row). pair_of r.name (range_number r)) (λ r. range_is r.name r.lo r.hi) rows

-- ---- what holds of each row

pub record IsGoodRow (M : Program) (r : Row) : Type 0 where
  pub field : IsField r.name
  pub known : is_known (rows_stated M) r.name ≡ true
  pub sided : is_row_name (map stated_row M.rows) r.name ≡ true
  pub fits : SidesFit r
  pub range : IsRange r.lo r.hi

pub side_fits : (lo hi : Option ℚ) → ForSome lo Fits → ForSome hi Fits → Fits (right_side lo hi)
side_fits None None low high = Fits-zero
side_fits (Some l) None low high = low l refl
side_fits None (Some h) low high = high h refl
side_fits (Some l) (Some h) low high = high h refl

-- what holds of the distance of two near sides holds of all pairs of RANGES
range_all : (name : List ℕ) (P : Named → Type 0) (lo hi : Option ℚ) → IsRange lo hi → ((low high : ℚ) → AreSubtractable low high → P (name, high -ℚ low)) → All P (range_pairs_of name lo hi)
range_all name P (Some low) (Some high) range h = named_all P name (high -ℚ low) (h low high range.1)
range_all name P (Some low) None range h = All-nil P
range_all name P None (Some high) range h = All-nil P
range_all name P None None range h = All-nil P

module _ (M : Program) (h : IsLawful M) (w : IsWritableMps M) (f : ModelFits M) where
  pub rows_good : All (IsGoodRow M) M.rows
  rows_good = λ i d below. record {
    field = rows_field M h w i d below;
    known = row_known M h w i d below;
    sided = row_stated M h w i d below;
    fits = f.rows i d below;
    range = h.ranges i d below;
  }

  -- ---- RHS

  pub constant_fits : Fits (constant M 1)
  constant_fits = let two = h.constants in f.constants 0 (int (pos 0)) (omega (arith, two))

  pub constant2_fits : Fits (constant M 2)
  constant2_fits = let two = h.constants in f.constants 1 (int (pos 0)) (omega (arith, two))

  abbrev pub first : ℚ
  first = neg_ℚ (constant M 1)

  abbrev pub second : ℚ
  second = neg_ℚ (constant M 2)

  abbrev pub rest : List Named
  rest = flat_map side_pairs M.rows

  pub sides_good : All (IsSetPair (at_rhs M)) (rhs_pairs M)
  sides_good =
      let P = IsSetPair (at_rhs M) in
      All-append P (named_number M.obj first) (named_number M.obj2 second ++ rest) (named_all P M.obj first (record { fits = Fits-neg (constant M 1) constant_fits; short = objective_short M h w; known = objective_known M h w }))
      (All-append P (named_number M.obj2 second) rest (named_all P M.obj2 second (record { fits = Fits-neg (constant M 2) constant2_fits; short = objective2_short M h w; known = objective2_known M h w }))
      (all_flat side_pairs (IsGoodRow M) P (λ r g. named_all P r.name (right_side r.lo r.hi) (record { fits = side_fits r.lo r.hi g.fits.lo g.fits.hi; short = g.field.short; known = g.known })) M.rows rows_good))

  pub sides_named : (P : List ℕ → Type 0) → All (λ (r : Row). P r.name) M.rows → All (λ (q : Named). P q.0) rest
  sides_named P all = all_flat side_pairs (λ (r : Row). P r.name) (λ (q : Named). P q.0) (λ r k. named_all (λ (q : Named). P q.0) r.name (right_side r.lo r.hi) k) M.rows all

  rest_apart : AreApart rest
  rest_apart = subst AreApart (sym (sides_are M.rows)) (pairs_apart side_number M.rows (rows_apart M h w))

  pub sides_apart : AreApart (rhs_pairs M)
  sides_apart =
      let differ : M.obj ≢ M.obj2 = h.rows_distinct 0 1 [] (omega arith) (omega arith) in
      named_before M.obj first (named_number M.obj2 second ++ rest)
      (All-append (λ (q : Named). M.obj ≢ q.0) (named_number M.obj2 second) rest (named_all (λ (q : Named). M.obj ≢ q.0) M.obj2 second differ) (sides_named (λ name. M.obj ≢ name) (from_objective M h w)))
      (named_before M.obj2 second rest (sides_named (λ name. M.obj2 ≢ name) (from_objective2 M h w)) rest_apart)

  -- ---- RANGES

  ranges_all : (P : Named → Type 0) → ((r : Row) → IsGoodRow M r → (low high : ℚ) → AreSubtractable low high → P (r.name, high -ℚ low)) → All P (all_ranges M)
  ranges_all P k = all_flat range_pairs (IsGoodRow M) P (λ r g. range_all r.name P r.lo r.hi g.range (k r g)) M.rows rows_good

  pub ranges_good : All (IsSetPair (at_ranges M)) (all_ranges M)
  ranges_good = ranges_all (IsSetPair (at_ranges M)) (λ r g low high near. record { fits = Fits-sum high (neg_ℚ low) near.width; short = g.field.short; known = g.known })

  pub ranges_sided : All (λ (p : Named). is_row_name (at_ranges M).rows p.0 ≡ true) (all_ranges M)
  ranges_sided = ranges_all (λ (p : Named). is_row_name (at_ranges M).rows p.0 ≡ true) (λ r g low high near. g.sided)

  pub ranges_apart : AreApart (all_ranges M)
  ranges_apart = subst AreApart (sym (all_ranges_are M.rows)) (pairs_apart range_number M.rows (rows_apart M h w))
