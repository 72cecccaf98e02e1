-- The edits that change, take out or replace a row or column: where they fit, they make a lawful model of a lawful one.
use Rattle.std.specs.Prelude.{◌≡◌, ◌≢◌, ◌⊎◌, ℕ, suc, ◌-◌, ◌^◌, ◌<◌, ◌≤◌, Bool, IsTrue, List, [], ◌∷◌, length, get_or, map, sum_by, All, AllPairs, Contains, Option, Some, None, false, IsSome}
use Rattle.std.proofs.Common.{refl, sym, ap, subst, ◌∙◌, arith, inl, inr}
use Rattle.std.proofs.lemmas.List.{length-map, get_or_default}
use Rattle.std.proofs.lemmas.List.Elements.{All-map, All-nil}
use Rattle.frac128.specs.Rational.{ℚ}
use Rattle.lp_model.specs.Elements.{of_element, without_at}
use Rattle.lp_model.specs.Program.{Program}
use Rattle.lp_model.specs.Lawful.{IsRange, IsLawfulColumn, AreWithinLimits, row_names, column_names, entry_count, IsLawful}
use Rattle.lp_model.specs.Edits.{Named, number_beside, IsBounded, HasRange, side_or, with_sides, without_entry, replaced_entry, col_place, row_place, only_row_names, with_col, edited, subject, EditFits, KeepsLimits, AreKnown, IsNameTaken, HasSubject, IsPlaceOf}
use Rattle.model_edits.specs.private.Changes.{column_changed, column_edit, IsBoundedAfter}
use Rattle.model_edits.specs.Faults.{EditBad, IsEditFault, PassesLimit}
use Rattle.model_edits.specs.declared.changing.ColChange.{ColChange}
use Rattle.model_edits.specs.declared.changing.ColChange.TheVariants.{Cost, Cost2, Bounds, Kind}
use Rattle.lp_model.specs.declared.types.Edit.TheVariants.{SetRow, DelCol, DelRow, ReplaceRow}
use Rattle.model_edits.specs.declared.faults.EditFault.{EditFault}
use Rattle.model_edits.specs.declared.faults.EditFault.TheVariants.{NoSuch, Memory}
use Rattle.lp_model.specs.declared.types.Row.{Row}
use Rattle.lp_model.specs.declared.types.Col.{Col}
use Rattle.lp_model.proofs.ElementLemmas.{of_element-get}
use Rattle.lp_model.proofs.ChangedLaws.{length-changed_at, map-changed_at, sum_by-changed_at, All-changed_at, length-without_at, length-without_at-le, map-without_at, sum_by-without_at, All-without_at, AllPairs-without_at}
use Rattle.model_edits.proofs.EntriesLaws.{without_entry-lawful, replaced_entry-lawful, count-without, count-lawful}
use Rattle.lp_model.proofs.ModelLaws.{few_rows, few_columns}

-- limits that are kept are kept by fewer
within-fewer : (wide : Bool) (r c e s d f : ℕ) → s ≤ r → d ≤ c → f ≤ e → AreWithinLimits wide r c e → AreWithinLimits wide s d f
within-fewer wide r c e s d f p q o h =
    record {
      few_rows = let a = h.few_rows in omega arith;
      few_columns = let a = h.few_columns in omega arith;
      few_entries = let a = h.few_entries in omega arith;
    }

map-kept : {A B : Type 0} (g : A → B) (f : A → A) → ((a : A) → g (f a) ≡ g a) → (xs : List A) → map g (map f xs) ≡ map g xs
map-kept g f same [] = refl
map-kept g f same (a ∷ as_) = λ i. same a i ∷ map-kept g f same as_ i

-- an element is the one at its place
at_place : {A : Type 0} (xs : List A) (k n : ℕ) (a b : A) → n < length xs → k ≡ n → a ≡ get_or xs n a → b ≡ get_or xs k b → a ≡ b
at_place xs k n a b below same a_is b_is = a_is ∙ get_or_default xs n a b below ∙ sym (b_is ∙ ap (λ m. get_or xs m b) same)

-- ---- edits without other names

no_others : (known : List (List ℕ)) → All (Contains known) []
no_others known = All-nil (Contains known)

pub none_taken : (name : List ℕ) → ¬ Contains [] name
none_taken name (k, below, e) = absurd (omega arith)

-- ---- a column changed

changed_name : (change : ColChange) (c : Col) → (column_changed change c).name ≡ c.name
changed_name (Cost v) c = refl
changed_name (Cost2 v) c = refl
changed_name (Bounds lo up) c = refl
changed_name (Kind integer) c = refl

changed_rows : (change : ColChange) (c : Col) → (column_changed change c).rows ≡ c.rows
changed_rows (Cost v) c = refl
changed_rows (Cost2 v) c = refl
changed_rows (Bounds lo up) c = refl
changed_rows (Kind integer) c = refl

changed-lawful : (n : ℕ) (change : ColChange) (c : Col) → IsLawfulColumn n c → IsBoundedAfter change c → IsLawfulColumn n (column_changed change c)
changed-lawful n (Cost v) c h b = record { bounded = h.bounded; entries = h.entries }
changed-lawful n (Cost2 v) c h b = record { bounded = h.bounded; entries = h.entries }
changed-lawful n (Bounds lo up) c h b = record { bounded = b; entries = h.entries }
changed-lawful n (Kind integer) c h b = record { bounded = b; entries = h.entries }

module _ (M : Program) (name : List ℕ) where
  pub edited-column : (change : ColChange) → edited M (column_edit name change) ≡ with_col M name (column_changed change)
  edited-column (Cost v) = refl
  edited-column (Cost2 v) = refl
  edited-column (Bounds lo up) = refl
  edited-column (Kind integer) = refl

  column-subject : (change : ColChange) → name ≡ subject (column_edit name change)
  column-subject (Cost v) = refl
  column-subject (Cost2 v) = refl
  column-subject (Bounds lo up) = refl
  column-subject (Kind integer) = refl

  column-has : (change : ColChange) → Contains (column_names M) name ≡ HasSubject M (column_edit name change)
  column-has (Cost v) = refl
  column-has (Cost2 v) = refl
  column-has (Bounds lo up) = refl
  column-has (Kind integer) = refl

  column-known : (change : ColChange) → Contains (column_names M) name → AreKnown M (column_edit name change)
  column-known (Cost v) h = (h, no_others [])
  column-known (Cost2 v) h = (h, no_others [])
  column-known (Bounds lo up) h = (h, no_others [])
  column-known (Kind integer) h = (h, no_others [])

  column-free : (change : ColChange) → ¬ IsNameTaken M (column_edit name change)
  column-free (Cost v) = none_taken name
  column-free (Cost2 v) = none_taken name
  column-free (Bounds lo up) = none_taken name
  column-free (Kind integer) = none_taken name

  column-range : (change : ColChange) → HasRange M (column_edit name change)
  column-range (Cost v) = tt
  column-range (Cost2 v) = tt
  column-range (Bounds lo up) = tt
  column-range (Kind integer) = tt

  column-limits : (change : ColChange) → IsLawful M → KeepsLimits M (column_edit name change)
  column-limits change lawful =
      let f = column_changed change in
      let k = col_place M name in
      subst (λ N. AreWithinLimits M.wide (length N.rows) (length N.cols) (entry_count N)) (sym (edited-column change))
      (subst (λ P. P) (sym (λ i. AreWithinLimits M.wide (length M.rows) (length-changed_at f M.cols k i) (sum_by-changed_at f (λ (c : Col). length c.rows) (λ c. ap length (changed_rows change c)) M.cols k i))) lawful.limits)

  module _ (k : ℕ) (c : Col) (place : IsPlaceOf (column_names M) name k) (is : c ≡ get_or M.cols k c) where
    there : k < length M.cols
    there = let n = length-map M.cols (λ (d : Col). d.name) in let w = place.within in omega arith

    here : k ≡ col_place M name
    here = place.is

    at_k : {B : Type 0} (d : B) (g : Col → B) → g c ≡ of_element d g M.cols (col_place M name)
    at_k d g = sym (of_element-get d g M.cols k c there is) ∙ ap (of_element d g M.cols) here

    column-bounded : (change : ColChange) → IsBoundedAfter change c ≡ IsBounded M (column_edit name change)
    column-bounded (Cost v) = refl
    column-bounded (Cost2 v) = refl
    column-bounded (Bounds lo up) = λ i. IsTrue (at_k false (λ d. d.int) i) → IsSome lo × IsSome up
    column-bounded (Kind integer) = λ i. IsTrue integer → IsSome (at_k None (λ d. d.lo) i) × IsSome (at_k None (λ d. d.up) i)

    pub column-fits : (change : ColChange) → IsLawful M → IsBoundedAfter change c → EditFits M (column_edit name change)
    column-fits change lawful bounded = record {
      known = column-known change place.there;
      free = column-free change;
      limits = column-limits change lawful;
      bounded = subst (λ P. P) (column-bounded change) bounded;
      range = column-range change;
    }

    pub column-unbounded : (change : ColChange) → IsLawful M → ¬ IsBoundedAfter change c → ¬ IsBounded M (column_edit name change)
    column-unbounded change lawful open_ h = open_ (subst (λ P. P) (sym (column-bounded change)) h)

  pub column-fault : (change : ColChange) (k : ℕ) (c : Col) (named : List ℕ) → IsPlaceOf (column_names M) name k → c ≡ get_or M.cols k c → IsLawful M → named ≡ name → ¬ IsBoundedAfter change c →
      AreKnown M (column_edit name change) × (¬ IsNameTaken M (column_edit name change)) × KeepsLimits M (column_edit name change) × (¬ IsBounded M (column_edit name change)) × (named ≡ subject (column_edit name change))
  column-fault change k c named place is lawful same open_ =
      (column-known change place.there, column-free change, column-limits change lawful, column-unbounded k c place is change lawful open_, same ∙ column-subject change)

  column-no_such : (change : ColChange) (f : EditFault) → f ≡ NoSuch name → ¬ Contains (column_names M) name → EditBad M (column_edit name change) f
  column-no_such change f e h =
      subst (EditBad M (column_edit name change)) (sym e) (inl ((λ g. h (subst (λ P. P) (sym (column-has change)) g)), column-subject change))

  pub column-told : (change : ColChange) (f : EditFault) → (f ≡ Memory) ⊎ ((f ≡ NoSuch name) × (¬ Contains (column_names M) name)) → IsEditFault M (column_edit name change) f
  column-told change f (inl h) = inl h
  column-told change f (inr h) = inr (column-no_such change f h.0 h.1)

  pub column-lawful : (change : ColChange) → IsLawful M → EditFits M (column_edit name change) → IsLawful (with_col M name (column_changed change))
  column-lawful change lawful fits =
      let f = column_changed change in
      let k = col_place M name in
      record {
        constants = lawful.constants;
        ranges = lawful.ranges;
        columns = All-changed_at f (IsLawfulColumn (length M.rows)) M.cols k lawful.columns (λ c below is.
            let old : IsLawfulColumn (length M.rows) c = subst (IsLawfulColumn (length M.rows)) (sym is) (lawful.columns k c below) in
            changed-lawful (length M.rows) change c old (bounded_at change c below is fits));
        rows_distinct = lawful.rows_distinct;
        columns_distinct = subst (AllPairs (λ a b. a ≢ b)) (sym (map-changed_at f (λ d. d.name) (changed_name change) M.cols k)) lawful.columns_distinct;
        limits = subst (λ N. AreWithinLimits M.wide (length N.rows) (length N.cols) (entry_count N)) (edited-column change) fits.limits;
      }
    where
      bounded_at : (change : ColChange) (c : Col) → col_place M name < length M.cols → c ≡ get_or M.cols (col_place M name) c → EditFits M (column_edit name change) → IsBoundedAfter change c
      bounded_at (Cost v) c below is fits = tt
      bounded_at (Cost2 v) c below is fits = tt
      bounded_at (Bounds lo up) c below is fits = subst (λ b. IsTrue b → IsSome lo × IsSome up) (of_element-get false (λ d. d.int) M.cols (col_place M name) c below is) fits.bounded
      bounded_at (Kind integer) c below is fits =
          let lo = of_element-get None (λ d. d.lo) M.cols (col_place M name) c below is in
          let up = of_element-get None (λ d. d.up) M.cols (col_place M name) c below is in
          subst (λ P. P) (λ i. IsTrue integer → IsSome (lo i) × IsSome (up i)) fits.bounded

-- ---- a row's sides changed

module _ (M : Program) (name : List ℕ) (lo hi : Option (Option ℚ)) where
  sides-limits : IsLawful M → KeepsLimits M (SetRow name lo hi)
  sides-limits lawful = subst (λ n. AreWithinLimits M.wide n (length M.cols) (entry_count M)) (sym (length-changed_at (with_sides lo hi) M.rows (row_place M name))) lawful.limits

  module _ (k : ℕ) (r : Row) (place : IsPlaceOf (only_row_names M) name k) (is : r ≡ get_or M.rows k r) where
    row_there : k < length M.rows
    row_there = let n = length-map M.rows (λ (d : Row). d.name) in let w = place.within in omega arith

    row_at_k : {B : Type 0} (d : B) (g : Row → B) → g r ≡ of_element d g M.rows (row_place M name)
    row_at_k d g = sym (of_element-get d g M.rows k r row_there is) ∙ ap (of_element d g M.rows) place.is

    sides-range : IsRange (side_or lo r.lo) (side_or hi r.hi) ≡ HasRange M (SetRow name lo hi)
    sides-range = λ i. IsRange (side_or lo (row_at_k None (λ d. d.lo) i)) (side_or hi (row_at_k None (λ d. d.hi) i))

    pub sides-fits : IsLawful M → IsRange (side_or lo r.lo) (side_or hi r.hi) → EditFits M (SetRow name lo hi)
    sides-fits lawful range = record { known = (place.there, no_others []); free = none_taken name; limits = sides-limits lawful; bounded = tt; range = subst (λ P. P) sides-range range }

    pub sides-fault : (named : List ℕ) → IsLawful M → named ≡ name → ¬ IsRange (side_or lo r.lo) (side_or hi r.hi) →
        AreKnown M (SetRow name lo hi) × (¬ IsNameTaken M (SetRow name lo hi)) × KeepsLimits M (SetRow name lo hi) × IsBounded M (SetRow name lo hi) × (¬ HasRange M (SetRow name lo hi)) × (named ≡ name)
    sides-fault named lawful same none =
        ((place.there, no_others []), none_taken name, sides-limits lawful, tt, (λ h. none (subst (λ P. P) (sym sides-range) h)), same)

  pub sides-lawful : IsLawful M → EditFits M (SetRow name lo hi) → IsLawful (edited M (SetRow name lo hi))
  sides-lawful lawful fits =
      let k = row_place M name in
      let rows = length-changed_at (with_sides lo hi) M.rows k in
      record {
        constants = lawful.constants;
        ranges = All-changed_at (with_sides lo hi) (λ r. IsRange r.lo r.hi) M.rows k lawful.ranges (λ r below is.
            let l = of_element-get None (λ (d : Row). d.lo) M.rows k r below is in
            let h = of_element-get None (λ (d : Row). d.hi) M.rows k r below is in
            subst (λ P. P) (λ i. IsRange (side_or lo (l i)) (side_or hi (h i))) fits.range);
        columns = subst (λ n. All (IsLawfulColumn n) M.cols) (sym rows) lawful.columns;
        rows_distinct = subst (λ l. AllPairs (λ a b. a ≢ b) (M.obj ∷ M.obj2 ∷ l)) (sym (map-changed_at (with_sides lo hi) (λ (r : Row). r.name) (λ r. refl) M.rows k)) lawful.rows_distinct;
        columns_distinct = lawful.columns_distinct;
        limits = fits.limits;
      }

-- ---- a column or a row taken out

pub del_col-fits : (M : Program) (name : List ℕ) → IsLawful M → Contains (column_names M) name → EditFits M (DelCol name)
del_col-fits M name lawful h = record {
  known = (h, no_others []);
  free = none_taken name;
  limits = within-fewer M.wide (length M.rows) (length M.cols) (entry_count M) (length M.rows) (length (without_at M.cols (col_place M name))) (sum_by (λ c. length c.rows) (without_at M.cols (col_place M name))) (omega arith) (length-without_at-le M.cols (col_place M name)) (sum_by-without_at (λ (c : Col). length c.rows) M.cols (col_place M name)) lawful.limits;
  bounded = tt;
  range = tt;
}

pub del_col-lawful : (M : Program) (name : List ℕ) → IsLawful M → col_place M name < length M.cols → EditFits M (DelCol name) → IsLawful (edited M (DelCol name))
del_col-lawful M name lawful below fits =
    let k = col_place M name in
    let inside : k < length (column_names M) = rw (length-map M.cols (λ (c : Col). c.name)) below in
    record {
      constants = lawful.constants;
      ranges = lawful.ranges;
      columns = All-without_at (IsLawfulColumn (length M.rows)) M.cols k lawful.columns;
      rows_distinct = lawful.rows_distinct;
      columns_distinct = subst (AllPairs (λ a b. a ≢ b)) (sym (map-without_at (λ (c : Col). c.name) M.cols k)) (AllPairs-without_at (λ a b. a ≢ b) (column_names M) k inside lawful.columns_distinct);
      limits = fits.limits;
    }

pub del_row-fits : (M : Program) (name : List ℕ) → IsLawful M → Contains (only_row_names M) name → EditFits M (DelRow name)
del_row-fits M name lawful h =
    let k = row_place M name in
    let changed = map (λ c. without_entry k c) M.cols in
    record {
      known = (h, no_others []);
      free = none_taken name;
      limits = within-fewer M.wide (length M.rows) (length M.cols) (entry_count M) (length (without_at M.rows k)) (length changed) (sum_by (λ c. length c.rows) changed) (length-without_at-le M.rows k) (let n = length-map M.cols (λ c. without_entry k c) in omega arith) (count-without k M.cols) lawful.limits;
      bounded = tt;
      range = tt;
    }

pub del_row-lawful : (M : Program) (name : List ℕ) → IsLawful M → row_place M name < length M.rows → EditFits M (DelRow name) → IsLawful (edited M (DelRow name))
del_row-lawful M name lawful below fits =
    let k = row_place M name in
    let inside : suc (suc k) < length (row_names M) = let n = length-map M.rows (λ (r : Row). r.name) in omega arith in
    let fewer : length M.rows - 1 ≡ length (without_at M.rows k) = let n = length-without_at M.rows k below in omega arith in
    record {
      constants = lawful.constants;
      ranges = All-without_at (λ (r : Row). IsRange r.lo r.hi) M.rows k lawful.ranges;
      columns = subst (λ n. All (IsLawfulColumn n) (map (λ c. without_entry k c) M.cols)) fewer
          (All-map (IsLawfulColumn (length M.rows - 1)) (λ c. without_entry k c) M.cols (λ i d within. without_entry-lawful k (length M.rows) below (get_or M.cols i d) (lawful.columns i d within)));
      rows_distinct = subst (λ l. AllPairs (λ a b. a ≢ b) (M.obj ∷ M.obj2 ∷ l)) (sym (map-without_at (λ (r : Row). r.name) M.rows k)) (AllPairs-without_at (λ a b. a ≢ b) (row_names M) (suc (suc k)) inside lawful.rows_distinct);
      columns_distinct = subst (AllPairs (λ a b. a ≢ b)) (sym (map-kept (λ (c : Col). c.name) (λ c. without_entry k c) (λ c. refl) M.cols)) lawful.columns_distinct;
      limits = fits.limits;
    }

-- ---- a row replaced

pub replaced_columns : (M : Program) (name : List ℕ) (named : Named) → IsLawful M → row_place M name < length M.rows → All (IsLawfulColumn (length M.rows)) (map (λ c. replaced_entry (row_place M name) (number_beside c.name named) c) M.cols)
replaced_columns M name named lawful below =
    All-map (IsLawfulColumn (length M.rows)) (λ c. replaced_entry (row_place M name) (number_beside c.name named) c) M.cols
    (λ i d within. replaced_entry-lawful (row_place M name) (length M.rows) (number_beside (get_or M.cols i d).name named) (get_or M.cols i d) below (lawful.columns i d within))

pub replace-lawful : (M : Program) (name : List ℕ) (lo hi : Option ℚ) (named : Named) → IsLawful M → row_place M name < length M.rows → EditFits M (ReplaceRow name lo hi named) → IsLawful (edited M (ReplaceRow name lo hi named))
replace-lawful M name lo hi named lawful below fits =
    let k = row_place M name in
    let f = with_sides (Some lo) (Some hi) in
    let rows = length-changed_at f M.rows k in
    record {
      constants = lawful.constants;
      ranges = All-changed_at f (λ (r : Row). IsRange r.lo r.hi) M.rows k lawful.ranges (λ r within is. fits.range);
      columns = subst (λ n. All (IsLawfulColumn n) (map (λ c. replaced_entry k (number_beside c.name named) c) M.cols)) (sym rows) (replaced_columns M name named lawful below);
      rows_distinct = subst (λ l. AllPairs (λ a b. a ≢ b) (M.obj ∷ M.obj2 ∷ l)) (sym (map-changed_at f (λ (r : Row). r.name) (λ r. refl) M.rows k)) lawful.rows_distinct;
      columns_distinct = subst (AllPairs (λ a b. a ≢ b)) (sym (map-kept (λ (c : Col). c.name) (λ c. replaced_entry k (number_beside c.name named) c) (λ c. refl) M.cols)) lawful.columns_distinct;
      limits = fits.limits;
    }

module _ (M : Program) (name : List ℕ) (lo hi : Option ℚ) (named : Named) (k : ℕ) (rows : List Row) (cols changed : List Col) (lawful : IsLawful M) (place : IsPlaceOf (only_row_names M) name k)
    (rows_is : rows ≡ M.rows) (cols_is : cols ≡ M.cols) (changed_is : changed ≡ map (λ c. replaced_entry k (number_beside c.name named) c) cols) where
  all_changed : changed ≡ (edited M (ReplaceRow name lo hi named)).cols
  all_changed = changed_is ∙ (λ i. map (λ c. replaced_entry (place.is i) (number_beside c.name named) c) (cols_is i))

  replaced_there : row_place M name < length M.rows
  replaced_there = let n = length-map M.rows (λ (d : Row). d.name) in let w = place.within in let e = place.is in omega arith

  pub replace-few : sum_by (λ c. length c.rows) changed < 2 ^ 32
  replace-few =
      let all = replaced_columns M name named lawful replaced_there in
      let few = count-lawful (length M.rows) (edited M (ReplaceRow name lo hi named)).cols (let f = few_rows M lawful in omega arith) all in
      let same = length-map M.cols (λ c. replaced_entry (row_place M name) (number_beside c.name named) c) in
      let f = few_columns M lawful in
      let e = ap (sum_by (λ (c : Col). length c.rows)) all_changed in
      omega arith

  rows-count : length rows ≡ length (edited M (ReplaceRow name lo hi named)).rows
  rows-count = ap length rows_is ∙ sym (length-changed_at (with_sides (Some lo) (Some hi)) M.rows (row_place M name))

  cols-count : length cols ≡ length (edited M (ReplaceRow name lo hi named)).cols
  cols-count = ap length cols_is ∙ sym (length-map M.cols (λ c. replaced_entry (row_place M name) (number_beside c.name named) c))

  module _ (wide : Bool) (entries : ℕ) (wide_is : wide ≡ M.wide) (entries_is : entries ≡ sum_by (λ c. length c.rows) changed) where
    entries-count : entries ≡ entry_count (edited M (ReplaceRow name lo hi named))
    entries-count = entries_is ∙ ap (sum_by (λ (c : Col). length c.rows)) all_changed

    pub replace-passes : (n : ℕ) → PassesLimit wide (length rows) (length cols) entries n
        → PassesLimit M.wide (length (edited M (ReplaceRow name lo hi named)).rows) (length (edited M (ReplaceRow name lo hi named)).cols) (entry_count (edited M (ReplaceRow name lo hi named))) n
    replace-passes n h = subst (λ P. P) (λ i. PassesLimit (wide_is i) (rows-count i) (cols-count i) (entries-count i) n) h

    pub replace-within : AreWithinLimits wide (length rows) (length cols) entries → KeepsLimits M (ReplaceRow name lo hi named)
    replace-within h = subst (λ P. P) (λ i. AreWithinLimits (wide_is i) (rows-count i) (cols-count i) (entries-count i)) h
