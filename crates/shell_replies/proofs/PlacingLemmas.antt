-- The names of a line as places: one name further, names that differ have places which differ, and the sides of their rows.
use Rattle.std.proofs.Common.{◌≡◌, ◌≢◌, ℕ, suc, ◌+◌, ◌≤◌, ◌<◌, Bool, true, false, List, [], ◌∷◌, ◌++◌, length, get_or, map, take, refl, sym, ap, ap₂, subst, ◌∙◌, arith, inl, inr, if◌then◌else◌, Option, Some, None, Ok, Err}
use Rattle.std.specs.Prelude.{All, AllPairs, Contains, bytes_eq}
use Rattle.std.proofs.lemmas.List.{get_or_default, length-map, map_more, take-map, take_all}
use Rattle.std.proofs.lemmas.List.Elements.{All-nil, All-cons, All-head, All-tail, All-map, All-more, All-weaker}
use Rattle.frac128.specs.Rational.{ℚ}
use Rattle.lp_model.specs.Edits.{Named, place_in, only_row_names}
use Rattle.lp_model.specs.Lawful.{column_names}
use Rattle.lp_model.specs.Program.{Program, low_side, high_side}
use Rattle.lp_model.specs.declared.types.Row.{Row}
use Rattle.lp_model.specs.declared.types.Col.{Col}
use Rattle.lp_model.specs.declared.types.RowId.{RowId}
use Rattle.lp_model.specs.declared.types.ColId.{ColId}
use Rattle.lp_model.proofs.ElementLemmas.{element, of_element-get}
use Rattle.lp_model.specs.Elements.{of_element}
use Rattle.lp_model.proofs.NameLemmas.{get_or-map, same, not_same, contains_cases}
use Rattle.model_edits.specs.Faults.{IsFirstUnknown}
use Rattle.dual_bounds.specs.NewNumbers.{HasEqualSides, AreNamedOnce, AreNewSides, AreNewCosts, AreNewNumbers}
use Rattle.dual_bounds.specs.declared.new_numbers.OtherNumbers.TheVariants as other
use Rattle.command_words.specs.declared.words.NewNumbers.{NewNumbers}
use Rattle.command_words.specs.declared.words.NewNumbers.TheVariants.{Sides, Costs}
use Rattle.edit_words.specs.EditWords.{names_in}
use Rattle.shell_replies.specs.Names.{placed_in, row_id_at, col_id_at, placed_rows, placed_cols, placed_numbers, AreThere, HasOneNumber, HaveOneNumber, IsFirstTwoSided}
use Rattle.shell_replies.specs.Placing.{name_at, IsUnplaced, AreNumbersPlaced}
use Rattle.shell_replies.specs.private.Placing.{HasOneNumberAt, IsPlacedIn, IsFirstTwoSidedAt}
use Rattle.shell_replies.specs.declared.placing.Unplaced.{Unplaced}
use Rattle.shell_replies.specs.declared.placing.Unplaced.TheVariants as unplaced

abbrev Entry : Type 0
Entry = List ℕ × ℚ

-- ---- one name further

placed-more : {P : Type 0} (place : ℕ → P) (names : List (List ℕ)) (named : Named) (k : ℕ) (e : List ℕ × ℚ) → k < length named → e ≡ get_or named k e
    → placed_in place names (take (k + 1) named) ≡ placed_in place names (take k named) ++ (place (place_in names e.0), e.1) ∷ []
placed-more place names named k e below is =
    map_more (λ (d : Entry). (place (place_in names d.0), d.1)) named k e below ∙ ap (λ (d : Entry). placed_in place names (take k named) ++ (place (place_in names d.0), d.1) ∷ []) (sym is)

pub placed-step : {P : Type 0} (place : ℕ → P) (names : List (List ℕ)) (named : Named) (k : ℕ) (e : List ℕ × ℚ) {old new : List (P × ℚ)} {p : P} → k < length named → e ≡ get_or named k e → new ≡ old ++ (p, e.1) ∷ []
    → old ≡ placed_in place names (take k named) → p ≡ place (place_in names e.0) → new ≡ placed_in place names (take (k + 1) named)
placed-step place names named k e below is pushed before found = pushed ∙ (λ i. before i ++ (found i, e.1) ∷ []) ∙ sym (placed-more place names named k e below is)

pub placed-all : {P : Type 0} (place : ℕ → P) (names : List (List ℕ)) (named : Named) (k : ℕ) → length named ≤ k → placed_in place names (take k named) ≡ placed_in place names named
placed-all place names named k past = ap (placed_in place names) (take_all k named past)

pub name_here : (named : Named) (k : ℕ) (e : List ℕ × ℚ) → k < length named → e ≡ get_or named k e → name_at named k ≡ e.0
name_here named k e below is = get_or-map (λ (d : Entry). d.0) named k e [] below is

within_names : (named : Named) (k : ℕ) → k < length named → k < length (names_in named)
within_names named k below = rw (length-map named (λ (d : Entry). d.0)) below

pub there-more : (names : List (List ℕ)) (named : Named) (k : ℕ) (e : List ℕ × ℚ) → k < length named → e ≡ get_or named k e → All (Contains names) (take k (names_in named)) → Contains names e.0
    → All (Contains names) (take (k + 1) (names_in named))
there-more names named k e below is before there =
    All-more (Contains names) (names_in named) k [] (within_names named k below) before (subst (Contains names) (sym (name_here named k e below is)) there)

pub there-all : (names : List (List ℕ)) (named : Named) (k : ℕ) → length named ≤ k → All (Contains names) (take k (names_in named)) → All (Contains names) (names_in named)
there-all names named k past all =
    let long : length (names_in named) ≤ k = rw (length-map named (λ (d : Entry). d.0)) past in
    subst (All (Contains names)) (take_all k (names_in named) long) all

pub first-unknown : (names : List (List ℕ)) (named : Named) (k : ℕ) (e : List ℕ × ℚ) → k < length named → e ≡ get_or named k e → All (Contains names) (take k (names_in named)) → ¬ Contains names e.0
    → IsFirstUnknown names (names_in named) (name_at named k)
first-unknown names named k e below is before none = record {
  place = k;
  within = within_names named k below;
  is = get_or_default (names_in named) k [] (name_at named k) (within_names named k below);
  before = before;
  unknown = λ there. none (subst (Contains names) (name_here named k e below is) there);
}

-- ---- places of names

-- a name that is there is found at its place
found_at : (names : List (List ℕ)) (name : List ℕ) → Contains names name → (place_in names name < length names) × (get_or names (place_in names name) [] ≡ name)
found_at [] name (k, below, e) = absurd (omega arith)
found_at (n ∷ names) name there = by (bytes_eq n name) refl (λ more. found_at names name more)
  where
    by : (b : Bool) → bytes_eq n name ≡ b → (Contains names name → (place_in names name < length names) × (get_or names (place_in names name) [] ≡ name))
        → ((if b then 0 else suc (place_in names name)) < length (n ∷ names)) × (get_or (n ∷ names) (if b then 0 else suc (place_in names name)) [] ≡ name)
    by true e rec = (omega arith, same n name e)
    by false e rec = elim (contains_cases n name names there) [
      | inl first ↦ absurd (not_same n name e first)
      | inr more ↦ let r = rec more in let low = r.0 in (omega arith, r.1)
    ]

module _ (names : List (List ℕ)) where
  places_within : (xs : List (List ℕ)) → All (Contains names) xs → All (λ k. k < length names) (map (place_in names) xs)
  places_within xs all = All-map (λ k. k < length names) (place_in names) xs (All-weaker (Contains names) (λ x. place_in names x < length names) (λ x there. (found_at names x there).0) xs all)

  -- names that differ have places which differ
  places_apart : (xs : List (List ℕ)) → All (Contains names) xs → AllPairs (λ a b. a ≢ b) xs → AllPairs (λ j k. j ≢ k) (map (place_in names) xs)
  places_apart xs all apart = λ i j d early late e.
      let late_x : j < length xs = rw (← length-map xs (place_in names)) late in
      let early_x : i < length xs = omega arith in
      let a : List ℕ = get_or xs i [] in
      let b : List ℕ = get_or xs j [] in
      let at_i : get_or (map (place_in names) xs) i d ≡ place_in names a = get_or-map (place_in names) xs i a d early_x (get_or_default xs i [] a early_x) in
      let at_j : get_or (map (place_in names) xs) j d ≡ place_in names b = get_or-map (place_in names) xs j b d late_x (get_or_default xs j [] b late_x) in
      let one : place_in names a ≡ place_in names b = sym at_i ∙ e ∙ at_j in
      let same_name : a ≡ b = sym (found_at names a (all i [] early_x)).1 ∙ ap (λ k. get_or names k []) one ∙ (found_at names b (all j [] late_x)).1 in
      apart i j [] early late_x same_name

  named_once : (xs : List (List ℕ)) → All (Contains names) xs → AllPairs (λ a b. a ≢ b) xs → AreNamedOnce (length names) (map (place_in names) xs)
  named_once xs all apart = record { there = places_within xs all; once = places_apart xs all apart }

-- the places alone
places_of : {P : Type 0} (place : ℕ → P) (back : P → ℕ) → ((k : ℕ) → back (place k) ≡ k) → (names : List (List ℕ)) (named : Named) → map (place_in names) (names_in named) ≡ map (λ (e : P × ℚ). back e.0) (placed_in place names named)
places_of place back h names [] = refl
places_of place back h names (e ∷ named) = ap₂ (λ x xs. x ∷ xs) (sym (h (place_in names e.0))) (places_of place back h names named)

-- ---- what holds of elements that were made of others

unmapped : {A B : Type 0} (P : B → Type 0) (f : A → B) (xs : List A) → All P (map f xs) → All (λ a. P (f a)) xs
unmapped P f [] all = All-nil (λ a. P (f a))
unmapped P f (x ∷ xs) all = All-cons (λ a. P (f a)) x xs (All-head P (f x) (map f xs) all) (unmapped P f xs (All-tail P (f x) (map f xs) all))

abbrev row_entry : Program → Entry → RowId × ℚ
row_entry M e = (row_id_at (place_in (only_row_names M) e.0), e.1)

one_number : (M : Program) (named : Named) → All (HasOneNumberAt M.rows) (map (row_entry M) named) → All (HasOneNumber M) (names_in named)
one_number M named all = All-map (HasOneNumber M) (λ (e : Entry). e.0) named (unmapped (HasOneNumberAt M.rows) (row_entry M) named all)

pub have-one : (M : Program) (named : Named) → All (HasOneNumberAt M.rows) (placed_rows M named) → HaveOneNumber Sides M named
have-one M named all = one_number M named all

pub rows-within : (M : Program) (named : Named) → AreThere Sides M named → All (λ (e : RowId × ℚ). e.0.0 < length M.rows) (placed_rows M named)
rows-within M named there =
    let places = places_within (only_row_names M) (names_in named) there in
    let rows = subst (All (λ k. k < length (only_row_names M))) (places_of row_id_at (λ (r : RowId). r.0) (λ k. refl) (only_row_names M) named) places in
    let few : length (only_row_names M) ≡ length M.rows = length-map M.rows (λ (r : Row). r.name) in
    subst (λ n. All (λ (e : RowId × ℚ). e.0.0 < n) (placed_rows M named)) few (unmapped (λ k. k < length (only_row_names M)) (λ (e : RowId × ℚ). e.0.0) (placed_rows M named) rows)

pub first-two-sided : (M : Program) (named : Named) (k : ℕ) → k < length (placed_rows M named) → All (HasOneNumberAt M.rows) (take k (placed_rows M named)) → ((d : RowId × ℚ) → ¬ HasOneNumberAt M.rows (get_or (placed_rows M named) k d))
    → (k < length named) × IsFirstTwoSided M (names_in named) (name_at named k)
first-two-sided M named k below before differ =
    let on_line : k < length named = rw (← length-map named (row_entry M)) below in
    let found = element named k on_line in
    let e : Entry = found.0 in
    let is : e ≡ get_or named k e = found.1 in
    let here : name_at named k ≡ e.0 = name_here named k e on_line is in
    let row : get_or (placed_rows M named) k (row_entry M e) ≡ row_entry M e = get_or-map (row_entry M) named k e (row_entry M e) on_line is in
    let first : All (HasOneNumberAt M.rows) (map (row_entry M) (take k named)) = subst (All (HasOneNumberAt M.rows)) (take-map (row_entry M) k named) before in (
      on_line,
      record {
        place = k;
        within = within_names named k on_line;
        is = get_or_default (names_in named) k [] (name_at named k) (within_names named k on_line);
        before = subst (All (HasOneNumber M)) (sym (take-map (λ (d : Entry). d.0) k named)) (one_number M (take k named) first);
        differ = λ one. differ (row_entry M e) (subst (HasOneNumberAt M.rows) (sym row) (subst (HasOneNumber M) here one));
      },
    )

-- ---- what the bounds ask of the numbers

new-sides : (M : Program) (named : Named) → AllPairs (λ a b. a ≢ b) (names_in named) → AreThere Sides M named → HaveOneNumber Sides M named → AreNewSides M (placed_rows M named)
new-sides M named apart there one =
    let names : List (List ℕ) = only_row_names M in
    let few : length names ≡ length M.rows = length-map M.rows (λ (r : Row). r.name) in
    let once = subst (AreNamedOnce (length names)) (places_of row_id_at (λ (r : RowId). r.0) (λ k. refl) names named) (named_once names (names_in named) there apart) in
    record {
      named = subst (λ n. AreNamedOnce n (map (λ (e : RowId × ℚ). e.0.0) (placed_rows M named))) few once;
      equal = All-map (λ (e : RowId × ℚ). HasEqualSides (low_side M e.0.0) (high_side M e.0.0)) (row_entry M) named (unmapped (HasOneNumber M) (λ (e : Entry). e.0) named one);
    }

new-costs : (M : Program) (named : Named) → AllPairs (λ a b. a ≢ b) (names_in named) → AreThere Costs M named → AreNewCosts M (placed_cols M named)
new-costs M named apart there =
    let names : List (List ℕ) = column_names M in
    let few : length names ≡ length M.cols = length-map M.cols (λ (c : Col). c.name) in
    let once = subst (AreNamedOnce (length names)) (places_of col_id_at (λ (c : ColId). c.0) (λ k. refl) names named) (named_once names (names_in named) there apart) in
    subst (λ n. AreNamedOnce n (map (λ (e : ColId × ℚ). e.0.0) (placed_cols M named))) few once

pub new-numbers : (numbers : NewNumbers) (M : Program) (named : Named) → AllPairs (λ a b. a ≢ b) (names_in named) → AreThere numbers M named → HaveOneNumber numbers M named → AreNewNumbers M (placed_numbers numbers M named)
new-numbers Sides M named apart there one = new-sides M named apart there one
new-numbers Costs M named apart there one = new-costs M named apart there

-- ---- rows, one further

module _ (rows : List Row) (k : ℕ) (r : Row) (below : k < length rows) (is : r ≡ get_or rows k r) where
  lo_is : of_element None (λ (s : Row). s.lo) rows k ≡ r.lo
  lo_is = of_element-get None (λ (s : Row). s.lo) rows k r below is

  hi_is : of_element None (λ (s : Row). s.hi) rows k ≡ r.hi
  hi_is = of_element-get None (λ (s : Row). s.hi) rows k r below is

  at_place : HasEqualSides r.lo r.hi → HasEqualSides (of_element None (λ (s : Row). s.lo) rows k) (of_element None (λ (s : Row). s.hi) rows k)
  at_place one = subst (λ (lo : Option ℚ). HasEqualSides lo (of_element None (λ (s : Row). s.hi) rows k)) (sym lo_is) (subst (λ (hi : Option ℚ). HasEqualSides r.lo hi) (sym hi_is) one)

  of_row : HasEqualSides (of_element None (λ (s : Row). s.lo) rows k) (of_element None (λ (s : Row). s.hi) rows k) → HasEqualSides r.lo r.hi
  of_row one = subst (λ (hi : Option ℚ). HasEqualSides r.lo hi) hi_is (subst (λ (lo : Option ℚ). HasEqualSides lo (of_element None (λ (s : Row). s.hi) rows k)) lo_is one)

module _ (rows : List Row) (sides : List (RowId × ℚ)) (i : ℕ) (e : RowId × ℚ) (small : i < length sides) (is : e ≡ get_or sides i e) (r : Row) (below : e.0.0 < length rows) (row : r ≡ get_or rows e.0.0 r) (before : All (HasOneNumberAt rows) (take i sides)) where
  pub one-more : HasEqualSides r.lo r.hi → All (HasOneNumberAt rows) (take (i + 1) sides)
  one-more one = All-more (HasOneNumberAt rows) sides i e small before (subst (HasOneNumberAt rows) is (at_place rows e.0.0 r below row one))

  pub first-differs : ¬ HasEqualSides r.lo r.hi → IsFirstTwoSidedAt rows sides (Some i)
  first-differs differ = (
    small,
    before,
    λ d one.
        let here : HasOneNumberAt rows e = subst (HasOneNumberAt rows) (get_or_default sides i d e small ∙ sym is) one in
        differ (of_row rows e.0.0 r below row here),
  )

pub one-all : (rows : List Row) (sides : List (RowId × ℚ)) (i : ℕ) → length sides ≤ i → All (HasOneNumberAt rows) (take i sides) → All (HasOneNumberAt rows) sides
one-all rows sides i past all = subst (All (HasOneNumberAt rows)) (take_all i sides past) all

-- ---- what the calls answer

pub all-placed_costs : (M : Program) (cols : List Col) (named : Named) (costs : List (ColId × ℚ)) → cols ≡ M.cols → IsPlacedIn col_id_at (map (λ (c : Col). c.name) cols) named (Ok costs) → AreNumbersPlaced Costs M named (Ok (other.Costs costs))
all-placed_costs M cols named costs same h =
    let own : IsPlacedIn col_id_at (column_names M) named (Ok costs) = subst (λ (cs : List Col). IsPlacedIn col_id_at (map (λ (c : Col). c.name) cs) named (Ok costs)) same h in
    (own.0, tt, ap other.Costs own.1)

-- names that are no columns
pub unplaced-columns : (M : Program) (cols : List Col) (named : Named) (u : Unplaced) → cols ≡ M.cols → IsPlacedIn {P = ColId} col_id_at (map (λ (c : Col). c.name) cols) named (Err u) → IsUnplaced Costs M named u
unplaced-columns M cols named u same h = by u (subst (λ (cs : List Col). IsPlacedIn {P = ColId} col_id_at (map (λ (c : Col). c.name) cs) named (Err u)) same h)
  where
    by : (u : Unplaced) → IsPlacedIn {P = ColId} col_id_at (column_names M) named (Err u) → IsUnplaced Costs M named u
    by (unplaced.Unknown k) h = h
    by (unplaced.TwoSided k) h = absurd h
    by unplaced.Memory h = tt

-- rows that were placed, before their sides are looked at
module _ (M : Program) (rows : List Row) (named : Named) (sides : List (RowId × ℚ)) (same : rows ≡ M.rows) (placed : IsPlacedIn row_id_at (map (λ (r : Row). r.name) rows) named (Ok sides)) where
  own : IsPlacedIn row_id_at (only_row_names M) named (Ok sides)
  own = subst (λ (rs : List Row). IsPlacedIn row_id_at (map (λ (r : Row). r.name) rs) named (Ok sides)) same placed

  pub sides-within : All (λ (e : RowId × ℚ). e.0.0 < length M.rows) sides
  sides-within = subst (All (λ (e : RowId × ℚ). e.0.0 < length M.rows)) (sym own.1) (rows-within M named own.0)

  pub all-one : IsFirstTwoSidedAt M.rows sides None → AreNumbersPlaced Sides M named (Ok (other.Sides sides))
  all-one one = (own.0, have-one M named (subst (All (HasOneNumberAt M.rows)) own.1 one), ap other.Sides own.1)

  pub one-two-sided : (k : ℕ) → IsFirstTwoSidedAt M.rows sides (Some k) → IsUnplaced Sides M named (unplaced.TwoSided k)
  one-two-sided k first =
      let h = subst (λ (l : List (RowId × ℚ)). IsFirstTwoSidedAt M.rows l (Some k)) own.1 first in
      let told = first-two-sided M named k h.0 h.1 h.2 in
      (told.0, refl, own.0, told.1)

-- names that are no rows
pub unplaced-rows : (M : Program) (rows : List Row) (named : Named) (u : Unplaced) → rows ≡ M.rows → IsPlacedIn {P = RowId} row_id_at (map (λ (r : Row). r.name) rows) named (Err u) → IsUnplaced Sides M named u
unplaced-rows M rows named u same h = by u (subst (λ (rs : List Row). IsPlacedIn {P = RowId} row_id_at (map (λ (r : Row). r.name) rs) named (Err u)) same h)
  where
    by : (u : Unplaced) → IsPlacedIn {P = RowId} row_id_at (only_row_names M) named (Err u) → IsUnplaced Sides M named u
    by (unplaced.Unknown k) h = h
    by (unplaced.TwoSided k) h = absurd h
    by unplaced.Memory h = tt
