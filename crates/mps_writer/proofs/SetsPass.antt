-- The lines of RHS, RANGES and BOUNDS pass, one after the other.
use Rattle.std.proofs.Common.{◌≡◌, ◌≢◌, ℕ, suc, ◌<◌, ◌≤◌, true, false, ◌||◌, List, [], ◌∷◌, ◌++◌, map, length, get_or, refl, sym, ◌∙◌, ap, subst, arith, append_assoc}
use Rattle.std.specs.Prelude.{flat_map, bytes_eq, Option, None, Some, All, AllPairs}
use Rattle.std.specs.Option.{ForSome}
use Rattle.std.proofs.lemmas.Bool.{or_from, false_from_ne_true}
use Rattle.std.proofs.lemmas.List.Elements.{All-head, All-tail}
use Rattle.std.proofs.lemmas.List.Folds.{list_any-append}
use Rattle.std.proofs.lemmas.Slice.Eq.{bytes_eq-Decides}
use Rattle.frac128.specs.Rational.{ℚ}
use Rattle.frac128.specs.Range.{Fits}
use Rattle.lp_model.specs.declared.types.Col.{Col}
use Rattle.mps_sections.specs.Statements.{StatedModel, is_numbered, is_ranged, is_row_name, is_column}
use Rattle.mps_sections.specs.Faults.{is_known, code_in}
use Rattle.mps_fields.specs.Fields.{is_end}
use Rattle.mps_sections.specs.Shown.{after}
use Rattle.mps_fields.specs.declared.words.Section.TheVariants.{Rhs, Ranges, Bounds}
use Rattle.mps_sections.specs.declared.statements.RowNumber.{RowNumber}
use Rattle.mps_sections.specs.declared.statements.RangeLine.{RangeLine}
use Rattle.mps_sections.specs.declared.statements.BoundLine.{BoundLine}
use Rattle.mps_sections.proofs.StatedSteps.{nothing_more}
use Rattle.mps_writer.specs.Canonical.{Data, lower_line, upper_line, bound_lines}
use Rattle.mps_writer.specs.Writable.{IsNotFar}
use Rattle.mps_writer.proofs.RecordLaws.{entry_of, entries_from}
use Rattle.mps_writer.proofs.PassLaws.{Passes}
use Rattle.mps_writer.proofs.PairsBack.{Named, as_number, as_line}
use Rattle.mps_writer.proofs.SetsBack.{rhs_clean, rhs_after, range_clean, range_after, entry_no_end}
use Rattle.mps_writer.proofs.BoundsBack.{limit_printed, with_bound, lower_stated, upper_stated, lower_clean, lower_after, upper_clean, upper_after, no_lower_clean, no_lower_after, no_upper_clean, no_upper_after}

pub record IsSetPair (s : StatedModel) (p : Named) : Type 0 where
  pub fits : Fits p.1
  pub short : length p.0 ≤ 255
  pub known : is_known s p.0 ≡ true

abbrev pub AreApart : List Named → Type 0
AreApart pairs = AllPairs (λ (a b : Named). a.0 ≢ b.0) pairs

differs : (p : Named) (more : List Named) (i : ℕ) (d : Named) → i < length more → AreApart (p ∷ more) → bytes_eq p.0 (get_or more i d).0 ≡ false
differs p more i d below apart = false_from_ne_true (bytes_eq p.0 (get_or more i d).0) (λ e. apart 0 (suc i) d (omega arith) (omega (arith, below)) ((bytes_eq-Decides p.0 (get_or more i d).0).0 e))

rest_apart : (p : Named) (more : List Named) → AreApart (p ∷ more) → AreApart more
rest_apart p more apart = λ i j d below later. apart (suc i) (suc j) d (omega (arith, below)) (omega (arith, later))

-- ---- RHS

abbrev pub with_sides : List RowNumber → StatedModel → StatedModel
with_sides more s = record s { sides = s.sides ++ more }

pub rhs_pass : (s : StatedModel) (number : ℕ) (set : List ℕ) (pairs : List Named) → s.section ≡ Some Rhs → All (IsSetPair s) pairs → All (λ (p : Named). is_numbered s.sides p.0 ≡ false) pairs → AreApart pairs
    → Passes s (entries_from number (map (as_line set) pairs)) (with_sides (map as_number pairs) s)
rhs_pass s number set [] there each new apart = ap (λ (found : List RowNumber). record s { sides = found }) (sym (nothing_more s.sides))
rhs_pass s number set (p ∷ more) there each new apart =
    let here = All-head (IsSetPair s) p more each in
    let t = with_sides (as_number p ∷ []) s in
    let still : All (λ (q : Named). is_numbered t.sides q.0 ≡ false) more =
    λ i d below. list_any-append (λ (x : RowNumber). bytes_eq x.row (get_or more i d).0) s.sides (as_number p ∷ []) ∙ or_from (is_numbered s.sides (get_or more i d).0) (bytes_eq p.0 (get_or more i d).0 || false) (new (suc i) d (omega (arith, below))) (or_from (bytes_eq p.0 (get_or more i d).0) false (differs p more i d below apart) refl)
    in
    let kept : All (IsSetPair t) more = λ i d below. let h = each (suc i) d (omega (arith, below)) in record { fits = h.fits; short = h.short; known = h.known } in
    let rest = rhs_pass t (suc number) set more there kept still (rest_apart p more apart) in (
      rhs_clean s number set p.0 p.1 here.fits here.short here.known there (All-head (λ (q : Named). is_numbered s.sides q.0 ≡ false) p more new),
      entry_no_end s number set p.0 p.1 here.fits here.short here.known,
      subst (λ (u : StatedModel). Passes u (entries_from (suc number) (map (as_line set) more)) (with_sides (map as_number (p ∷ more)) s)) (sym (rhs_after s number set p.0 p.1 here.fits here.short here.known there))
          (subst (λ (found : List RowNumber). Passes t (entries_from (suc number) (map (as_line set) more)) (record s { sides = found })) (append_assoc s.sides (as_number p ∷ []) (map as_number more)) rest),
    )

-- ---- RANGES

abbrev pub range_at : ℕ → Named → RangeLine
range_at number p = record { row = p.0; number = p.1; line = number }

abbrev pub ranges_at : ℕ → List Named → List RangeLine
ranges_at number [] = []
ranges_at number (p ∷ more) = range_at number p ∷ ranges_at (suc number) more

abbrev pub with_ranges : List RangeLine → StatedModel → StatedModel
with_ranges more s = record s { ranges = s.ranges ++ more }

pub ranges_pass : (s : StatedModel) (number : ℕ) (set : List ℕ) (pairs : List Named) → s.section ≡ Some Ranges → All (IsSetPair s) pairs → All (λ (p : Named). is_row_name s.rows p.0 ≡ true) pairs → All (λ (p : Named). is_ranged s.ranges p.0 ≡ false) pairs → AreApart pairs
    → Passes s (entries_from number (map (as_line set) pairs)) (with_ranges (ranges_at number pairs) s)
ranges_pass s number set [] there each sided new apart = ap (λ (found : List RangeLine). record s { ranges = found }) (sym (nothing_more s.ranges))
ranges_pass s number set (p ∷ more) there each sided new apart =
    let here = All-head (IsSetPair s) p more each in
    let t = with_ranges (range_at number p ∷ []) s in
    let still : All (λ (q : Named). is_ranged t.ranges q.0 ≡ false) more =
    λ i d below. list_any-append (λ (x : RangeLine). bytes_eq x.row (get_or more i d).0) s.ranges (range_at number p ∷ []) ∙ or_from (is_ranged s.ranges (get_or more i d).0) (bytes_eq p.0 (get_or more i d).0 || false) (new (suc i) d (omega (arith, below))) (or_from (bytes_eq p.0 (get_or more i d).0) false (differs p more i d below apart) refl)
    in
    let kept : All (IsSetPair t) more = λ i d below. let h = each (suc i) d (omega (arith, below)) in record { fits = h.fits; short = h.short; known = h.known } in
    let rest = ranges_pass t (suc number) set more there kept (All-tail (λ (q : Named). is_row_name s.rows q.0 ≡ true) p more sided) still (rest_apart p more apart) in (
      range_clean s number set p.0 p.1 here.fits here.short here.known there (All-head (λ (q : Named). is_ranged s.ranges q.0 ≡ false) p more new) (All-head (λ (q : Named). is_row_name s.rows q.0 ≡ true) p more sided),
      entry_no_end s number set p.0 p.1 here.fits here.short here.known,
      subst (λ (u : StatedModel). Passes u (entries_from (suc number) (map (as_line set) more)) (with_ranges (ranges_at number (p ∷ more)) s)) (sym (range_after s number set p.0 p.1 here.fits here.short here.known there))
          (subst (λ (found : List RangeLine). Passes t (entries_from (suc number) (map (as_line set) more)) (record s { ranges = found })) (append_assoc s.ranges (range_at number p ∷ []) (ranges_at (suc number) more)) rest),
    )

-- ---- BOUNDS

abbrev pub stated_bounds : Col → List BoundLine
stated_bounds c = lower_stated c.name c.lo ∷ upper_stated c.name c.up ∷ []

abbrev pub with_bounds : List BoundLine → StatedModel → StatedModel
with_bounds more s = record s { bounds = s.bounds ++ more }

pub record HasBounds (s : StatedModel) (c : Col) : Type 0 where
  pub short : length c.name ≤ 255
  pub known : is_column s.columns c.name ≡ true
  pub lower_fits : ForSome c.lo Fits
  pub lower_near : ForSome c.lo IsNotFar
  pub upper_fits : ForSome c.up Fits
  pub upper_near : ForSome c.up IsNotFar

data_no_end : (number : ℕ) (words : List (List ℕ)) → is_end (entry_of number (Data words)) ≡ false
unfolding is_end
data_no_end number words = refl

module _ (s : StatedModel) (number : ℕ) (name : List ℕ) (there : s.section ≡ Some Bounds) (short : length name ≤ 255) (known : is_column s.columns name ≡ true) where
  lower_pass : (lo : Option ℚ) → ForSome lo Fits → ForSome lo IsNotFar → (code_in s (entry_of number (lower_line name lo)) ≡ None) × (is_end (entry_of number (lower_line name lo)) ≡ false) × (after s (entry_of number (lower_line name lo)) ≡ with_bound (lower_stated name lo) s)
  lower_pass (Some x) fits near = let lim = limit_printed x (fits x refl) (near x refl) in (lower_clean s number name there short known x lim, data_no_end number _, lower_after s number name there short known x lim)
  lower_pass None fits near = (no_lower_clean s number name there short known, data_no_end number _, no_lower_after s number name there short known)

  upper_pass : (up : Option ℚ) → ForSome up Fits → ForSome up IsNotFar → (code_in s (entry_of number (upper_line name up)) ≡ None) × (is_end (entry_of number (upper_line name up)) ≡ false) × (after s (entry_of number (upper_line name up)) ≡ with_bound (upper_stated name up) s)
  upper_pass (Some x) fits near = let lim = limit_printed x (fits x refl) (near x refl) in (upper_clean s number name there short known x lim, data_no_end number _, upper_after s number name there short known x lim)
  upper_pass None fits near = (no_upper_clean s number name there short known, data_no_end number _, no_upper_after s number name there short known)

pub bounds_pass : (s : StatedModel) (number : ℕ) (cols : List Col) → s.section ≡ Some Bounds → All (HasBounds s) cols → Passes s (entries_from number (flat_map bound_lines cols)) (with_bounds (flat_map stated_bounds cols) s)
bounds_pass s number [] there each = ap (λ (found : List BoundLine). record s { bounds = found }) (sym (nothing_more s.bounds))
bounds_pass s number (c ∷ cols) there each =
    let h = All-head (HasBounds s) c cols each in
    let t = with_bound (lower_stated c.name c.lo) s in
    let u = with_bound (upper_stated c.name c.up) t in
    let low = lower_pass s number c.name there h.short h.known c.lo h.lower_fits h.lower_near in
    let high = upper_pass t (suc number) c.name there h.short h.known c.up h.upper_fits h.upper_near in
    let kept : All (HasBounds u) cols = λ i d below. let k = each (suc i) d (omega (arith, below)) in record { short = k.short; known = k.known; lower_fits = k.lower_fits; lower_near = k.lower_near; upper_fits = k.upper_fits; upper_near = k.upper_near } in
    let rest = bounds_pass u (suc (suc number)) cols there kept in
    let more = entries_from (suc (suc number)) (flat_map bound_lines cols) in
    let end = with_bounds (flat_map stated_bounds (c ∷ cols)) s in
    let joined : (s.bounds ++ lower_stated c.name c.lo ∷ []) ++ (upper_stated c.name c.up ∷ [] ++ flat_map stated_bounds cols) ≡ s.bounds ++ flat_map stated_bounds (c ∷ cols) = append_assoc s.bounds (lower_stated c.name c.lo ∷ []) (upper_stated c.name c.up ∷ flat_map stated_bounds cols) in
    let led : Passes u more end =
    subst (λ (found : List BoundLine). Passes u more (record s { bounds = found })) (append_assoc (s.bounds ++ lower_stated c.name c.lo ∷ []) (upper_stated c.name c.up ∷ []) (flat_map stated_bounds cols) ∙ joined) rest
    in (
      low.0,
      low.1,
      subst (λ (r : StatedModel). Passes r (entry_of (suc number) (upper_line c.name c.up) ∷ more) end) (sym low.2)
          (high.0, high.1, subst (λ (r : StatedModel). Passes r more end) (sym high.2) led),
    )
