-- Edits that are taken back leave the model.
use Rattle.std.specs.Prelude.{◌≡◌, ℕ, zero, suc, ◌<◌, Bool, true, false, if◌then◌else◌, not, nat_eq, List, [], ◌∷◌, ◌++◌, length, map, filter, take, get_or, All, Contains, bytes_eq, pos, Option}
use Rattle.std.proofs.Common.{refl, sym, ap, ap₂, ◌∙◌, arith, append-nil}
use Rattle.std.proofs.lemmas.Bool.{ne_eqb, eq-eqb}
use Rattle.std.proofs.lemmas.List.{length-map, map-append}
use Rattle.std.proofs.lemmas.List.Elements.{All-head, All-tail}
use Rattle.std.proofs.lemmas.Slice.Eq.{bytes_eq-Decides}
use Rattle.frac128.specs.Rational.{ℚ, int}
use Rattle.lp_model.specs.Elements.{changed_at, without_at, place_after, of_element}
use Rattle.lp_model.specs.Program.{Program}
use Rattle.lp_model.specs.Lawful.{IsLawful, column_names, column_name}
use Rattle.lp_model.specs.Edits.{Named, number_beside, is_zero, with_entry, entry_after, entries_without, without_entry, place_in, only_row_names, row_place, col_place, edited}
use Rattle.lp_model.specs.declared.types.RowId.{RowId}
use Rattle.lp_model.specs.declared.types.Row.{Row}
use Rattle.lp_model.specs.declared.types.Col.{Col}
use Rattle.lp_model.specs.declared.types.Edit.TheVariants.{SetCost, AddCol, DelCol, AddRow, DelRow}
use Rattle.lp_model.proofs.ChangedLaws.{place_after-below}
use Rattle.lp_model.proofs.NameLemmas.{contains_first, contains_later}
use Rattle.lp_model.proofs.PlaceLemmas.{place_unique}
use Rattle.inner_models.specs.Inner.{costed}
use Rattle.inner_models.specs.Undone.{recosted, with_costs, IsUndone}
use Rattle.inner_models.proofs.NamedNumbers.{apart_test}
use Rattle.inner_models.proofs.AddedRow.{AreBelow, lawful-below}
use Rattle.inner_models.proofs.AddedColumn.{new_column}

-- ---- the last of a list

without_last : {A : Type 0} (xs : List A) (x : A) → without_at (xs ++ x ∷ []) (length xs) ≡ xs
without_last [] x = refl
without_last (y ∷ xs) x = ap (λ l. y ∷ l) (without_last xs x)

place_last : (names : List (List ℕ)) (name : List ℕ) → ¬ Contains names name → place_in (names ++ name ∷ []) name ≡ length names
place_last [] name free = let t : bytes_eq name name ≡ true = (bytes_eq-Decides name name).1 refl in rw t refl
place_last (n ∷ names) name free =
    rw (apart_test n name (λ e. free (contains_first n name names e)))
    (ap suc (place_last names name (λ there. free (contains_later n name names there))))

-- ---- a row

abbrev at_row : ℕ → ℚ → RowId × ℚ
at_row k x = (record { 0 = k }, x)

entries_back : (n : ℕ) (es : List (RowId × ℚ)) → All (λ (e : RowId × ℚ). e.0.0 < n) es → (more : List (RowId × ℚ)) → filter (λ (e : RowId × ℚ). not (nat_eq e.0.0 n)) more ≡ [] → entries_without n (es ++ more) ≡ es
entries_back n [] all more none = ap (map (entry_after n)) none
entries_back n (e ∷ es) all more none =
    let h : e.0.0 < n = All-head (λ (e : RowId × ℚ). e.0.0 < n) e es all in
    let apart : nat_eq e.0.0 n ≡ false = ne_eqb e.0.0 n (λ same. absurd (omega arith)) in
    let stays : place_after n e.0.0 ≡ e.0.0 = place_after-below n e.0.0 (omega arith) in
    rw apart (ap₂ (λ (k : ℕ) (l : List (RowId × ℚ)). at_row k e.1 ∷ l) stays (entries_back n es (All-tail (λ (e : RowId × ℚ). e.0.0 < n) e es all) more none))

column_back : (n : ℕ) (x : ℚ) (c : Col) → AreBelow n c → without_entry n (with_entry n x c) ≡ c
column_back n x c all = ap (λ es. record c { rows = es }) (by (is_zero x))
  where
    by : (b : Bool) → entries_without n (if b then c.rows else c.rows ++ (record { 0 = n }, x) ∷ []) ≡ c.rows
    by true = ap (entries_without n) (sym (append-nil c.rows)) ∙ entries_back n c.rows all [] refl
    by false = entries_back n c.rows all ((record { 0 = n }, x) ∷ []) (rw (eq-eqb n n refl) refl)

columns_back : (n : ℕ) (named : Named) (cols : List Col) → All (AreBelow n) cols → map (λ c. without_entry n c) (map (λ c. with_entry n (number_beside c.name named) c) cols) ≡ cols
columns_back n named [] all = refl
columns_back n named (c ∷ cols) all =
    ap₂ (λ (d : Col) (l : List Col). d ∷ l) (column_back n (number_beside c.name named) c (All-head (AreBelow n) c cols all)) (columns_back n named cols (All-tail (AreBelow n) c cols all))

row_back : (N : Program) → IsLawful N → (name : List ℕ) (lo hi : Option ℚ) (named : Named) → ¬ Contains (only_row_names N) name → edited (edited N (AddRow name lo hi named)) (DelRow name) ≡ N
row_back N lawful name lo hi named free =
    let r : Row = record { name = name; lo = lo; hi = hi } in
    let R : Program = edited N (AddRow name lo hi named) in
    let place : row_place R name ≡ length N.rows =
    ap (λ names. place_in names name) (map-append (λ (s : Row). s.name) N.rows (r ∷ [])) ∙ place_last (only_row_names N) name free ∙ length-map N.rows (λ (s : Row). s.name) in
    (λ i. record N { rows = without_at (N.rows ++ r ∷ []) (place i); cols = map (λ c. without_entry (place i) c) R.cols })
    ∙ (λ i. record N { rows = without_last N.rows r i; cols = columns_back (length N.rows) named N.cols (lawful-below N lawful) i })

-- ---- a column

column_gone : (N : Program) (name : List ℕ) (integer : Bool) (lo up : Option ℚ) (cost cost2 : ℚ) → ¬ Contains (column_names N) name → edited (edited N (AddCol name integer lo up cost cost2 [])) (DelCol name) ≡ N
column_gone N name integer lo up cost cost2 free =
    let C : Program = edited N (AddCol name integer lo up cost cost2 []) in
    let place : col_place C name ≡ length N.cols =
    ap (λ names. place_in names name) (map-append (λ (c : Col). c.name) N.cols (new_column N name integer lo up cost cost2 ∷ [])) ∙ place_last (column_names N) name free ∙ length-map N.cols (λ (c : Col). c.name) in
    (λ i. record N { cols = without_at C.cols (place i) }) ∙ (λ i. record N { cols = without_last N.cols (new_column N name integer lo up cost cost2) i })

-- ---- costs

recosted-names : (vs : List ℚ) (cols : List Col) → map (λ c. c.name) (recosted vs cols) ≡ map (λ c. c.name) cols
recosted-names [] cols = refl
recosted-names (v ∷ vs) [] = refl
recosted-names (v ∷ vs) (c ∷ cols) = ap (λ l. c.name ∷ l) (recosted-names vs cols)

one_more : (vs : List ℚ) (cols : List Col) (j : ℕ) → j < length vs → j < length cols → changed_at (costed (λ c. get_or vs j (int (pos 0)))) (recosted (take j vs) cols) j ≡ recosted (take (suc j) vs) cols
one_more [] cols j within below = absurd (omega arith)
one_more (v ∷ vs) [] j within below = absurd (omega arith)
one_more (v ∷ vs) (c ∷ cols) zero within below = refl
one_more (v ∷ vs) (c ∷ cols) (suc j) within below = ap (λ (l : List Col). costed (λ d. v) c ∷ l) (one_more vs cols j (omega arith) (omega arith))

name_at : (cols : List Col) (j : ℕ) → get_or (map (λ c. c.name) cols) j [] ≡ of_element [] (λ c. c.name) cols j
name_at [] j = refl
name_at (c ∷ cols) zero = refl
name_at (c ∷ cols) (suc j) = name_at cols j

cost_more : (N : Program) → IsLawful N → (vs : List ℚ) (j : ℕ) → j < length vs → j < length N.cols
    → edited (with_costs (take j vs) N) (SetCost (column_name N j) (get_or vs j (int (pos 0)))) ≡ with_costs (take (suc j) vs) N
cost_more N lawful vs j within below =
    let names : column_names (with_costs (take j vs) N) ≡ column_names N = recosted-names (take j vs) N.cols in
    let long = length-map N.cols (λ (c : Col). c.name) in
    let place : j ≡ place_in (column_names N) (column_name N j) = place_unique (column_names N) (column_name N j) j lawful.columns_distinct (omega arith) (name_at N.cols j) in
    let here : col_place (with_costs (take j vs) N) (column_name N j) ≡ j = ap (λ l. place_in l (column_name N j)) names ∙ sym place in
    (λ i. record N { cols = changed_at (costed (λ c. get_or vs j (int (pos 0)))) (recosted (take j vs) N.cols) (here i) })
    ∙ (λ i. record N { cols = one_more vs N.cols j within below i })

objective_set : (f : Col → ℚ) (us : List ℚ) (cols : List Col) → length us ≡ length cols → recosted (map f cols) (recosted us cols) ≡ map (costed f) cols
objective_set f [] [] same = refl
objective_set f [] (c ∷ cols) same = absurd (omega arith)
objective_set f (u ∷ us) [] same = absurd (omega arith)
objective_set f (u ∷ us) (c ∷ cols) same = ap (λ l. costed f c ∷ l) (objective_set f us cols (omega arith))

pub undone : (N : Program) → IsLawful N → IsUndone N
undone N lawful = record {
  row = row_back N lawful;
  column = column_gone N;
  cost = cost_more N lawful;
  objective = λ us f same. (λ i. record N { cols = objective_set f us N.cols same i });
}
