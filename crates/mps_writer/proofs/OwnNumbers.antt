-- The numbers that a column's pairs state give its costs and its entries back.
use Rattle.std.proofs.Common.{◌≡◌, ◌≢◌, ℕ, suc, ◌+◌, Bool, true, false, ◌&&◌, List, [], ◌∷◌, ◌++◌, map, length, get_or, refl, sym, ◌∙◌, ap, pos, arith}
use Rattle.std.specs.Prelude.{if◌then◌else◌, All}
use Rattle.std.proofs.lemmas.Bool.{and_parts, true≢false}
use Rattle.std.proofs.lemmas.List.Elements.{All-head, All-tail, All-append, All-map}
use Rattle.frac128.specs.Rational.{ℚ, int}
use Rattle.frac128.proofs.Comparison.{eq_by_cmp-decides}
use Rattle.lp_model.specs.Program.{Program}
use Rattle.lp_model.specs.Elements.{of_element}
use Rattle.lp_model.specs.Edits.{is_zero}
use Rattle.lp_model.specs.Lawful.{row_name, AreEntries, IsLawful}
use Rattle.lp_model.specs.declared.types.Row.{Row}
use Rattle.lp_model.specs.declared.types.Col.{Col}
use Rattle.mps_sections.specs.Statements.{stated_row_names}
use Rattle.mps_sections.specs.declared.statements.RowNumber.{RowNumber}
use Rattle.mps_model.specs.Meaning.{row_number_beside, row_numbers_beside, row_entries_from}
use Rattle.mps_writer.specs.Canonical.{is_none, has_no_number}
use Rattle.mps_writer.specs.Writable.{IsWritableMps}
use Rattle.mps_writer.proofs.RowsBack.{stated_row}
use Rattle.mps_writer.proofs.ColumnsBack.{beside}
use Rattle.mps_writer.proofs.PairsBack.{Named, as_number}
use Rattle.mps_writer.proofs.OwnLines.{named_number, entry_pairs, number_pairs, own_pairs}
use Rattle.mps_writer.proofs.EntriesBack.{Entries, beside_first, at_names, names_from, entries_back}
use Rattle.mps_writer.proofs.NamePremises.{name_of, unequal, from_objective, from_objective2}
use Rattle.mps_writer.proofs.OwnPairs.{entry_pair, differ, entries_named}
use Rattle.mps_writer.proofs.RowPairs.{named_all, named_first, named_passed}

-- ---- lists

map_agree : {A B : Type 0} (f g : A → B) (xs : List A) → All (λ (x : A). f x ≡ g x) xs → map f xs ≡ map g xs
map_agree f g [] h = refl
map_agree f g (x ∷ xs) h = ap (λ y. y ∷ map f xs) (All-head (λ x. f x ≡ g x) x xs h) ∙ ap (λ ys. g x ∷ ys) (map_agree f g xs (All-tail (λ x. f x ≡ g x) x xs h))

pairs_fused : (M : Program) (es : Entries) → map as_number (map (entry_pair M) es) ≡ at_names (row_name M) es
pairs_fused M [] = refl
pairs_fused M (e ∷ es) = ap (λ more. beside (row_name M e.0.0) e.1 ∷ more) (pairs_fused M es)

pub names_stated : (rows : List Row) → stated_row_names (map stated_row rows) ≡ map name_of rows
names_stated [] = refl
names_stated (r ∷ rows) = ap (λ names. r.name ∷ names) (names_stated rows)

-- the names of rows by their places
names_placed : (name_at : ℕ → List ℕ) (rows : List Row) (k : ℕ) → ((i : ℕ) → of_element [] name_of rows i ≡ name_at (k + i)) → map name_of rows ≡ names_from name_at k (length rows)
names_placed name_at [] k h = refl
names_placed name_at (r ∷ rows) k h =
    let here : k + 0 ≡ k = omega arith in
    ap (λ name. name ∷ map name_of rows) (h 0 ∙ ap name_at here)
    ∙ ap (λ names. name_at k ∷ names) (names_placed name_at rows (suc k) (λ i. let next : k + suc i ≡ suc k + i = omega arith in h (suc i) ∙ ap name_at next))

row_names_placed : (M : Program) → map name_of M.rows ≡ names_from (row_name M) 0 (length M.rows)
row_names_placed M = names_placed (row_name M) M.rows 0 (λ i. let same : i ≡ 0 + i = omega arith in ap (row_name M) same)

none_in : {A : Type 0} (xs : List A) → is_none xs ≡ true → xs ≡ []
none_in [] e = refl
none_in (x ∷ xs) e = absurd (true≢false (sym e))

pub zero_is : (x : ℚ) → is_zero x ≡ true → x ≡ int (pos 0)
zero_is x e = (eq_by_cmp-decides x (int (pos 0))).0 e

module _ (M : Program) (h : IsLawful M) (w : IsWritableMps M) (c : Col) (entries : AreEntries 0 (length M.rows) c.rows) where
  abbrev pub numbers : List RowNumber
  numbers = map as_number (own_pairs M c)

  abbrev pub own : Bool → List Named
  own b = if b then (M.obj, c.cost) ∷ [] else number_pairs M c

  -- no entry stands beside an objective's name
  not_first : All (λ (q : Named). q.0 ≢ M.obj) (entry_pairs M c)
  not_first = entries_named M h w (λ name. name ≢ M.obj) (λ i d below. λ e. from_objective M h w i d below (sym e)) c.rows entries

  not_second : All (λ (q : Named). q.0 ≢ M.obj2) (entry_pairs M c)
  not_second = entries_named M h w (λ name. name ≢ M.obj2) (λ i d below. λ e. from_objective2 M h w i d below (sym e)) c.rows entries

  objectives_apart : M.obj ≢ M.obj2
  objectives_apart = h.rows_distinct 0 1 [] (omega arith) (omega arith)

  pub cost_back : row_number_beside M.obj numbers ≡ c.cost
  cost_back = by (has_no_number c)
    where
      by : (b : Bool) → row_number_beside M.obj (map as_number (own b)) ≡ c.cost
      by true = beside_first [] M.obj c.cost
      by false =
          named_first M.obj c.cost (named_number M.obj2 c.cost2 ++ entry_pairs M c)
          (All-append (λ (q : Named). q.0 ≢ M.obj) (named_number M.obj2 c.cost2) (entry_pairs M c) (named_all (λ (q : Named). q.0 ≢ M.obj) M.obj2 c.cost2 (λ e. objectives_apart (sym e))) not_first)

  pub cost2_back : row_number_beside M.obj2 numbers ≡ c.cost2
  cost2_back = by (has_no_number c) refl
    where
      by : (b : Bool) → has_no_number c ≡ b → row_number_beside M.obj2 (map as_number (own b)) ≡ c.cost2
      by true e =
          let parts = and_parts (is_zero c.cost) (is_zero c.cost2 && is_none c.rows) e in
          let second = and_parts (is_zero c.cost2) (is_none c.rows) parts.1 in
          ap (λ b. if b then c.cost else int (pos 0)) (unequal M.obj M.obj2 objectives_apart) ∙ sym (zero_is c.cost2 second.0)
      by false e = named_passed M.obj M.obj2 c.cost (named_number M.obj2 c.cost2 ++ entry_pairs M c) objectives_apart ∙ named_first M.obj2 c.cost2 (entry_pairs M c) not_second

  -- beside a row's name stands the number of its entry
  row_beside : (name : List ℕ) → M.obj ≢ name → M.obj2 ≢ name → row_number_beside name numbers ≡ row_number_beside name (map as_number (entry_pairs M c))
  row_beside name first second = by (has_no_number c) refl
    where
      by : (b : Bool) → has_no_number c ≡ b → row_number_beside name (map as_number (own b)) ≡ row_number_beside name (map as_number (entry_pairs M c))
      by true e =
          let parts = and_parts (is_zero c.cost) (is_zero c.cost2 && is_none c.rows) e in
          let none : c.rows ≡ [] = none_in c.rows (and_parts (is_zero c.cost2) (is_none c.rows) parts.1).1 in
          ap (λ b. if b then c.cost else int (pos 0)) (unequal M.obj name first) ∙ ap (λ (es : Entries). row_number_beside name (map as_number (map (entry_pair M) es))) (sym none)
      by false e = named_passed M.obj name c.cost (named_number M.obj2 c.cost2 ++ entry_pairs M c) first ∙ named_passed M.obj2 name c.cost2 (entry_pairs M c) second

  pub entries_from_numbers : row_entries_from 0 (row_numbers_beside (stated_row_names (map stated_row M.rows)) numbers) ≡ c.rows
  entries_from_numbers =
      let given = λ (name : List ℕ). row_number_beside name numbers in
      let own_given = λ (name : List ℕ). row_number_beside name (map as_number (entry_pairs M c)) in
      let agree : All (λ name. given name ≡ own_given name) (map name_of M.rows) = All-map (λ name. given name ≡ own_given name) name_of M.rows (λ i d below. row_beside (get_or M.rows i d).name (from_objective M h w i d below) (from_objective2 M h w i d below)) in
      ap (λ (names : List (List ℕ)). row_entries_from 0 (map given names)) (names_stated M.rows)
      ∙ ap (row_entries_from 0) (map_agree given own_given (map name_of M.rows) agree)
      ∙ ap (λ (found : List RowNumber). row_entries_from 0 (map (λ name. row_number_beside name found) (map name_of M.rows))) (pairs_fused M c.rows)
      ∙ ap (λ (names : List (List ℕ)). row_entries_from 0 (map (λ name. row_number_beside name (at_names (row_name M) c.rows)) names)) (row_names_placed M)
      ∙ entries_back (length M.rows) (row_name M) (differ M h w) 0 (length M.rows) c.rows (omega arith) entries
