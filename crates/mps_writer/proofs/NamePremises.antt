-- What the names of a lawful writable model give: they are short, differ, and are known where they are stated.
use Rattle.std.proofs.Common.{◌≡◌, ◌≢◌, ℕ, suc, ◌<◌, ◌≤◌, Bool, true, false, ◌||◌, List, [], map, length, get_or, refl, sym, ◌∙◌, ap, subst, arith}
use Rattle.std.specs.Prelude.{bytes_eq, None, All, AllPairs}
use Rattle.std.proofs.lemmas.Bool.{or_from, false_from_ne_true}
use Rattle.std.proofs.lemmas.List.{length-map, get_or-map}
use Rattle.std.proofs.lemmas.List.Folds.{list_any_none, list_any_at}
use Rattle.std.proofs.lemmas.Slice.Eq.{bytes_eq-Decides}
use Rattle.lp_model.specs.Program.{Program}
use Rattle.lp_model.specs.Lawful.{IsLawful}
use Rattle.lp_model.specs.declared.types.Row.{Row}
use Rattle.lp_model.specs.declared.types.Col.{Col}
use Rattle.mps_sections.specs.Statements.{is_row_name}
use Rattle.mps_sections.specs.Faults.{is_known}
use Rattle.mps_sections.specs.declared.statements.RowLine.{RowLine}
use Rattle.mps_writer.specs.Writable.{IsField, IsWritableMps}
use Rattle.mps_writer.proofs.RowsBack.{AreNew, stated_row}
use Rattle.mps_writer.proofs.WholePass.{objectives_stated, rows_stated}

-- ---- what holds of the images holds of the elements

pub all_unmapped : {A B : Type 0} (f : A → B) (P : B → Type 0) (xs : List A) → All P (map f xs) → All (λ (x : A). P (f x)) xs
all_unmapped f P xs h = λ i d below. subst P (get_or-map f xs i d (f d) below) (h i (f d) (subst (λ n. i < n) (sym (length-map xs f)) below))

pub pairs_unmapped : {A B : Type 0} (f : A → B) (xs : List A) → AllPairs (λ (a b : B). a ≢ b) (map f xs) → AllPairs (λ (a b : A). f a ≢ f b) xs
pairs_unmapped f xs h = λ i j d before below. λ e.
    h i j (f d) before (subst (λ n. j < n) (sym (length-map xs f)) below) (get_or-map f xs i d (f d) (omega (arith, before, below)) ∙ e ∙ sym (get_or-map f xs j d (f d) below))

pub unequal : (a b : List ℕ) → a ≢ b → bytes_eq a b ≡ false
unequal a b differ = false_from_ne_true (bytes_eq a b) (λ e. differ ((bytes_eq-Decides a b).0 e))

pub equal_self : (a : List ℕ) → bytes_eq a a ≡ true
equal_self a = (bytes_eq-Decides a a).1 refl

abbrev pub name_of : Row → List ℕ
name_of r = r.name

abbrev pub column_name_of : Col → List ℕ
column_name_of c = c.name

module _ (M : Program) (h : IsLawful M) (w : IsWritableMps M) where
  -- ---- how long they are

  pub objective_short : length M.obj ≤ 255
  objective_short = (w.rows 0 [] (omega arith)).short

  pub objective2_short : length M.obj2 ≤ 255
  objective2_short = (w.rows 1 [] (omega arith)).short

  pub rows_field : All (λ (r : Row). IsField r.name) M.rows
  rows_field = all_unmapped name_of IsField M.rows (λ i d below. w.rows (suc (suc i)) d (omega (arith, below)))

  pub rows_short : All (λ (r : Row). length r.name ≤ 255) M.rows
  rows_short = λ i d below. (rows_field i d below).short

  pub columns_field : All (λ (c : Col). IsField c.name) M.cols
  columns_field = all_unmapped column_name_of IsField M.cols w.columns

  pub columns_short : All (λ (c : Col). length c.name ≤ 255) M.cols
  columns_short = λ i d below. (columns_field i d below).short

  -- ---- how they differ

  pub objectives_differ : bytes_eq M.obj M.obj2 ≡ false
  objectives_differ = unequal M.obj M.obj2 (h.rows_distinct 0 1 [] (omega arith) (omega arith))

  pub rows_apart : AllPairs (λ (a b : Row). a.name ≢ b.name) M.rows
  rows_apart = pairs_unmapped name_of M.rows (λ i j d before below. h.rows_distinct (suc (suc i)) (suc (suc j)) d (omega (arith, before)) (omega (arith, below)))

  pub columns_apart : AllPairs (λ (a b : Col). a.name ≢ b.name) M.cols
  columns_apart = pairs_unmapped column_name_of M.cols h.columns_distinct

  -- a row has no objective's name
  pub from_objective : All (λ (r : Row). M.obj ≢ r.name) M.rows
  from_objective = all_unmapped name_of (λ n. M.obj ≢ n) M.rows (λ i d below. h.rows_distinct 0 (suc (suc i)) d (omega arith) (omega (arith, below)))

  pub from_objective2 : All (λ (r : Row). M.obj2 ≢ r.name) M.rows
  from_objective2 = all_unmapped name_of (λ n. M.obj2 ≢ n) M.rows (λ i d below. h.rows_distinct 1 (suc (suc i)) d (omega arith) (omega (arith, below)))

  pub rows_new : AreNew (objectives_stated M) M.rows
  rows_new = record {
    new = λ i d below.
        let name = (get_or M.rows i d).name in
        or_from (bytes_eq M.obj name) (bytes_eq M.obj2 name || false) (unequal M.obj name (from_objective i d below)) (or_from (bytes_eq M.obj2 name) false (unequal M.obj2 name (from_objective2 i d below)) refl);
    apart = rows_apart;
  }

  -- ---- which of them are known

  pub row_stated : (i : ℕ) (d : Row) → i < length M.rows → is_row_name (map stated_row M.rows) (get_or M.rows i d).name ≡ true
  row_stated i d below =
      let name = (get_or M.rows i d).name in
      list_any_at (λ (x : RowLine). bytes_eq x.name name) (map stated_row M.rows) i (stated_row d) (subst (λ n. i < n) (sym (length-map M.rows stated_row)) below)
      (ap (λ (x : RowLine). bytes_eq x.name name) (get_or-map stated_row M.rows i d (stated_row d) below) ∙ equal_self name)

  none_has : (name : List ℕ) → All (λ (r : Row). name ≢ r.name) M.rows → is_row_name (map stated_row M.rows) name ≡ false
  none_has name differ = list_any_none (λ (x : RowLine). bytes_eq x.name name) (map stated_row M.rows) (λ i d below.
      let within : i < length M.rows = subst (λ n. i < n) (length-map M.rows stated_row) below in
      let e : Row = record { name = d.name; lo = None; hi = None } in
      ap (λ (x : RowLine). bytes_eq x.name name) (get_or-map stated_row M.rows i e d within) ∙ unequal (get_or M.rows i e).name name (λ s. differ i e within (sym s)))

  pub objective_unstated : is_row_name (map stated_row M.rows) M.obj ≡ false
  objective_unstated = none_has M.obj from_objective

  pub objective2_unstated : is_row_name (map stated_row M.rows) M.obj2 ≡ false
  objective2_unstated = none_has M.obj2 from_objective2

  pub objective_known : is_known (rows_stated M) M.obj ≡ true
  objective_known = or_true_right (is_row_name (map stated_row M.rows) M.obj) (bytes_eq M.obj M.obj || (bytes_eq M.obj2 M.obj || false)) (ap (λ b. b || (bytes_eq M.obj2 M.obj || false)) (equal_self M.obj))
    where
      or_true_right : (a b : Bool) → b ≡ true → (a || b) ≡ true
      or_true_right true b e = refl
      or_true_right false b e = e

  pub objective2_known : is_known (rows_stated M) M.obj2 ≡ true
  objective2_known = by (is_row_name (map stated_row M.rows) M.obj2) (bytes_eq M.obj M.obj2)
    where
      by : (a b : Bool) → (a || (b || (bytes_eq M.obj2 M.obj2 || false))) ≡ true
      by true b = refl
      by false true = refl
      by false false = ap (λ c. c || false) (equal_self M.obj2)

  pub row_known : (i : ℕ) (d : Row) → i < length M.rows → is_known (rows_stated M) (get_or M.rows i d).name ≡ true
  row_known i d below = let name = (get_or M.rows i d).name in ap (λ b. b || (bytes_eq M.obj name || (bytes_eq M.obj2 name || false))) (row_stated i d below)
