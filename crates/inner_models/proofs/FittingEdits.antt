-- The edits that make inner models fit: their names are known and free, and there is room for them.
use Rattle.std.specs.Prelude.{◌≡◌, ℕ, suc, ◌+◌, ◌<◌, ◌≤◌, Bool, true, false, if◌then◌else◌, List, [], ◌∷◌, ◌++◌, length, map, sum_by, get_or, All, Contains, pos, negsuc, ℤ, Some, None}
use Rattle.std.proofs.Common.{refl, sym, ap, subst, arith, inl, inr}
use Rattle.std.proofs.lemmas.List.{length-map, length_push, map_push}
use Rattle.std.proofs.lemmas.List.Elements.{All-push, Contains-get_or, Contains-push, Contains-push_cases, Contains-append_left}
use Rattle.std.proofs.lemmas.List.Sums.{sum_by-cons, sum_by_push}
use Rattle.frac128.specs.Rational.{ℚ, int}
use Rattle.lp_model.specs.Limits.{col_limit, entry_limit, row_limit}
use Rattle.lp_model.specs.Program.{Program}
use Rattle.lp_model.specs.Lawful.{AreWithinLimits, IsLawful, row_names, column_names, entry_count}
use Rattle.lp_model.specs.Edits.{Named, number_beside, is_zero, with_entry, edited, EditFits}
use Rattle.lp_model.specs.declared.types.Col.{Col}
use Rattle.inner_models.specs.Inner.{least_col, bare_model, costed, with_objective, z_name, g1_name, g2_name, row_terms, row_terms_less_z, capped, width_column}
use Rattle.inner_models.specs.Room.{HasInnerRoom, HasFittingEdits}
use Rattle.inner_models.proofs.FreeNames.{names_free}
use Rattle.inner_models.proofs.AddedColumn.{entries_none, new_column}
use Rattle.inner_models.proofs.LawfulCopies.{counts_is}

-- ---- names

names_kept : (g : Col → Col) → ((c : Col) → (g c).name ≡ c.name) → (cols : List Col) → map (λ c. c.name) (map g cols) ≡ map (λ c. c.name) cols
names_kept g kept [] = refl
names_kept g kept (c ∷ cols) = (λ i. kept c i ∷ names_kept g kept cols i)

terms_named : (f : Col → ℚ) (cols : List Col) → map (λ (e : List ℕ × ℚ). e.0) (map (λ (c : Col). (c.name, f c)) cols) ≡ map (λ c. c.name) cols
terms_named f [] = refl
terms_named f (c ∷ cols) = ap (λ l. c.name ∷ l) (terms_named f cols)

-- the names of the terms of a row stand among names that have those of the columns
terms_known : (N : Program) (f : Col → ℚ) (names : List (List ℕ)) → ((name : List ℕ) → Contains (column_names N) name → Contains names name)
    → All (Contains names) (map (λ (e : List ℕ × ℚ). e.0) (row_terms f N))
terms_known N f names has = subst (All (Contains names)) (sym (terms_named f N.cols)) (λ i d within. has (get_or (column_names N) i d) (Contains-get_or (column_names N) i d within))

less_z_known : (N : Program) (f : Col → ℚ) (names : List (List ℕ)) → ((name : List ℕ) → Contains (column_names N) name → Contains names name) → Contains names (z_name N)
    → All (Contains names) (map (λ (e : List ℕ × ℚ). e.0) (row_terms_less_z f N))
less_z_known N f names has z =
    subst (All (Contains names)) (sym (map_push (λ (e : List ℕ × ℚ). e.0) (row_terms f N) (z_name N, int (negsuc 0))))
    (All-push (Contains names) (map (λ (e : List ℕ × ℚ). e.0) (row_terms f N)) (z_name N) (terms_known N f names has) z)

-- ---- entries

one_more : (n : ℕ) (x : ℚ) (c : Col) → length (with_entry n x c).rows ≤ length c.rows + 1
one_more n x c = by (is_zero x)
  where
    by : (b : Bool) → length (if b then c.rows else c.rows ++ (record { 0 = n }, x) ∷ []) ≤ length c.rows + 1
    by true = omega arith
    by false = let more = length_push c.rows (record { 0 = n }, x) in omega arith

row_counted : (n : ℕ) (named : Named) (cols : List Col) →
    sum_by (λ c. length c.rows) (map (λ c. with_entry n (number_beside c.name named) c) cols) ≤ sum_by (λ c. length c.rows) cols + length cols
row_counted n named [] = omega arith
row_counted n named (c ∷ cols) =
    let x = number_beside c.name named in
    let changed = map (λ d. with_entry n (number_beside d.name named) d) cols in
    let left : sum_by (λ d. length d.rows) (with_entry n x c ∷ changed) ≡ length (with_entry n x c).rows + sum_by (λ d. length d.rows) changed = sum_by-cons (λ d. length d.rows) (with_entry n x c) changed in
    let right : sum_by (λ d. length d.rows) (c ∷ cols) ≡ length c.rows + sum_by (λ d. length d.rows) cols = sum_by-cons (λ d. length d.rows) c cols in
    let rest = row_counted n named cols in
    let one = one_more n x c in
    omega arith

-- ---- a row

module _ (B : Program) (name : List ℕ) (side : ℚ) (named : Named) where
  abbrev R : Program
  R = edited B (capped name side named)

  row_columns : length R.cols ≡ length B.cols
  row_columns = length-map B.cols (λ c. with_entry (length B.rows) (number_beside c.name named) c)

  row_entries : entry_count R ≤ entry_count B + length B.cols
  row_entries = row_counted (length B.rows) named B.cols

  row_rows : length R.rows ≡ suc (length B.rows)
  row_rows = let more = length_push B.rows (record { name = name; lo = None; hi = Some side }) in omega arith

  row_fits : B.wide ≡ true → All (Contains (column_names B)) (map (λ (e : List ℕ × ℚ). e.0) named) → ¬ Contains (row_names B) name
      → length B.rows < row_limit true → length B.cols ≤ col_limit true → entry_count B + length B.cols ≤ entry_limit true → EditFits B (capped name side named)
  row_fits wide known free rows cols entries = record {
    known = (tt, known);
    free = free;
    limits = subst (λ w. AreWithinLimits w (length R.rows) (length R.cols) (entry_count R)) (sym wide) (record {
      few_rows = (let n = row_rows in omega arith);
      few_columns = (let n = row_columns in omega arith);
      few_entries = (let n = row_entries in omega arith);
    });
    bounded = tt;
    range = tt;
  }

  row_keeps_columns : column_names R ≡ column_names B
  row_keeps_columns = names_kept (λ c. with_entry (length B.rows) (number_beside c.name named) c) (λ c. refl) B.cols

  -- a name that is free, and is not the row's, is free behind the row
  row_keeps_free : (other : List ℕ) → ¬ Contains (row_names B) other → ¬ (name ≡ other) → ¬ Contains (row_names R) other
  row_keeps_free other free apart there =
      elim (Contains-push_cases (row_names B) name other (subst (λ l. Contains (B.obj ∷ B.obj2 ∷ l) other) (map_push (λ r. r.name) B.rows (record { name = name; lo = None; hi = Some side })) there)) [
        | inl before ↦ free before
        | inr same ↦ apart same
      ]

-- ---- the edits of the inner models

module _ (N : Program) (wide : N.wide ≡ true) (room : HasInnerRoom N) where
  module _ (g : Col → ℚ) where
    abbrev P : Program
    P = with_objective g N

    objective_columns : length P.cols ≡ length N.cols
    objective_columns = length-map N.cols (costed g)

    objective_entries : entry_count P ≡ entry_count N
    objective_entries = counts_is (costed g) (λ c. refl) (λ c. refl) N.cols

    objective_names : (name : List ℕ) → Contains (column_names N) name → Contains (column_names P) name
    objective_names name there = subst (λ l. Contains l name) (sym (names_kept (costed g) (λ c. refl) N.cols)) there

    row_fits_over : (side : ℚ) (f : Col → ℚ) → EditFits P (capped (g1_name N) side (row_terms f N))
    row_fits_over side f =
        let few_rows = room.few_rows in
        let few_columns = room.few_columns in
        let few_entries = room.few_entries in
        let columns = objective_columns in
        let entries = objective_entries in
        row_fits P (g1_name N) side (row_terms f N) wide (terms_known N f (column_names P) objective_names) (names_free N).first (omega arith) (omega arith) (omega arith)

    second_fits : (side side2 : ℚ) (f f2 : Col → ℚ) → EditFits (edited P (capped (g1_name N) side (row_terms f N))) (capped (g2_name N) side2 (row_terms f2 N))
    second_fits side side2 f f2 =
        let first = capped (g1_name N) side (row_terms f N) in
        let few_rows = room.few_rows in
        let few_columns = room.few_columns in
        let few_entries = room.few_entries in
        let columns = objective_columns in
        let entries = objective_entries in
        let rows = row_rows P (g1_name N) side (row_terms f N) in
        let columns2 = row_columns P (g1_name N) side (row_terms f N) in
        let entries2 = row_entries P (g1_name N) side (row_terms f N) in
        row_fits (edited P first) (g2_name N) side2 (row_terms f2 N) wide
        (terms_known N f2 (column_names (edited P first)) (λ name there. subst (λ l. Contains l name) (sym (row_keeps_columns P (g1_name N) side (row_terms f N))) (objective_names name there)))
        (row_keeps_free P (g1_name N) side (row_terms f N) (g2_name N) (names_free N).second (names_free N).apart)
        (omega arith) (omega arith) (omega arith)

    -- behind the column Z
    abbrev Q : ℤ → Program
    Q width = edited P (width_column N width)

    abbrev column_of : ℤ → Col
    column_of width = new_column P (z_name N) true (Some (int (pos 0))) (Some (int width)) (int (pos 1)) (int (pos 0))

    column_columns : (width : ℤ) → length (Q width).cols ≡ suc (length N.cols)
    column_columns width = let more = length_push P.cols (column_of width) in let same = objective_columns in omega arith

    column_entries : (width : ℤ) → entry_count (Q width) ≡ entry_count N
    column_entries width =
        let more = sum_by_push (λ (c : Col). length c.rows) P.cols (column_of width) in
        let none : length (column_of width).rows ≡ 0 = ap length (entries_none 0 (map (λ r. r.name) P.rows)) in
        let same = objective_entries in
        omega arith

    column_fits : (width : ℤ) → EditFits P (width_column N width)
    column_fits width =
        let few_rows = room.few_rows in
        let few_columns = room.few_columns in
        let few_entries = room.few_entries in
        let columns = objective_columns in
        let entries = objective_entries in
        let more = column_columns width in
        let same = column_entries width in
        record {
          known = (tt, λ i d within. absurd (omega arith));
          free = λ there. (names_free N).column (subst (λ l. Contains l (z_name N)) (names_kept (costed g) (λ c. refl) N.cols) there);
          limits = subst (λ w. AreWithinLimits w (length P.rows) (length (Q width).cols) (entry_count (Q width))) (sym wide) (record { few_rows = omega arith; few_columns = omega arith; few_entries = omega arith });
          bounded = λ is. (refl, refl);
          range = tt;
        }

    column_names_are : (width : ℤ) → column_names (Q width) ≡ column_names P ++ z_name N ∷ []
    column_names_are width = map_push (λ (c : Col). c.name) P.cols (column_of width)

    old_known : (width : ℤ) (name : List ℕ) → Contains (column_names N) name → Contains (column_names (Q width)) name
    old_known width name there = subst (λ l. Contains l name) (sym (column_names_are width)) (Contains-append_left (column_names P) (z_name N ∷ []) name (objective_names name there))

    z_known : (width : ℤ) → Contains (column_names (Q width)) (z_name N)
    z_known width = subst (λ l. Contains l (z_name N)) (sym (column_names_are width)) (Contains-push (column_names P) (z_name N))

    gap_row_fits : (width : ℤ) (side : ℚ) (f : Col → ℚ) → EditFits (Q width) (capped (g1_name N) side (row_terms_less_z f N))
    gap_row_fits width side f =
        let few_rows = room.few_rows in
        let few_columns = room.few_columns in
        let few_entries = room.few_entries in
        let columns = column_columns width in
        let entries = column_entries width in
        row_fits (Q width) (g1_name N) side (row_terms_less_z f N) wide (less_z_known N f (column_names (Q width)) (old_known width) (z_known width)) (names_free N).first
        (omega arith) (omega arith) (omega arith)

    second_gap_fits : (width : ℤ) (side side2 : ℚ) (f f2 : Col → ℚ) → EditFits (edited (Q width) (capped (g1_name N) side (row_terms_less_z f N))) (capped (g2_name N) side2 (row_terms_less_z f2 N))
    second_gap_fits width side side2 f f2 =
        let named = row_terms_less_z f N in
        let first = capped (g1_name N) side named in
        let few_rows = room.few_rows in
        let few_columns = room.few_columns in
        let few_entries = room.few_entries in
        let columns = column_columns width in
        let entries = column_entries width in
        let rows = row_rows (Q width) (g1_name N) side named in
        let columns2 = row_columns (Q width) (g1_name N) side named in
        let entries2 = row_entries (Q width) (g1_name N) side named in
        let back = sym (row_keeps_columns (Q width) (g1_name N) side named) in
        row_fits (edited (Q width) first) (g2_name N) side2 (row_terms_less_z f2 N) wide
        (less_z_known N f2 (column_names (edited (Q width) first)) (λ name there. subst (λ l. Contains l name) back (old_known width name there)) (subst (λ l. Contains l (z_name N)) back (z_known width)))
        (row_keeps_free (Q width) (g1_name N) side named (g2_name N) (names_free N).second (names_free N).apart)
        (omega arith) (omega arith) (omega arith)

  plain_fits : (side : ℚ) (f : Col → ℚ) → EditFits N (capped (g1_name N) side (row_terms f N))
  plain_fits side f =
      let few_rows = room.few_rows in
      let few_columns = room.few_columns in
      let few_entries = room.few_entries in
      row_fits N (g1_name N) side (row_terms f N) wide (terms_known N f (column_names N) (λ name there. there)) (names_free N).first (omega arith) (omega arith) (omega arith)

  pub fitting_edits : HasFittingEdits N
  fitting_edits = record { plain = plain_fits; row = row_fits_over; second = second_fits; column = column_fits; gap_row = gap_row_fits; second_gap = second_gap_fits }

-- the model in least form is as large as the model
pub bare_room : (M : Program) → M.wide ≡ false → IsLawful M → HasInnerRoom (bare_model M)
bare_room M narrow lawful =
    subst (λ n. AreWithinLimits false (length M.rows) n (entry_count (bare_model M))) (sym (length-map M.cols (least_col M.sense)))
    (subst (λ n. AreWithinLimits false (length M.rows) (length M.cols) n) (sym (counts_is (least_col M.sense) (λ c. refl) (λ c. refl) M.cols))
    (subst (λ w. AreWithinLimits w (length M.rows) (length M.cols) (entry_count M)) narrow lawful.limits))
