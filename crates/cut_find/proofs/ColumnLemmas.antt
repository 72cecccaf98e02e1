-- The entries of a column, added to their rows one after the other.
use Rattle.std.specs.Prelude.{◌≡◌, ◌≢◌, ◌⊎◌, ℕ, suc, ◌+◌, ◌<◌, ◌≤◌, if◌then◌else◌, List, [], ◌∷◌, ◌++◌, length, get_or, set, drop, replicate, pos}
use Rattle.std.proofs.Common.{refl, sym, ap, subst, ◌∙◌, inl, inr, arith, eq-eqb, ne_eqb}
use Rattle.std.proofs.lemmas.Bool.{cases_order}
use Rattle.std.proofs.lemmas.List.{drop_more, drop_all, get_or-set_same, get_or-set_other, get_or-replicate, length-set, length-replicate}
use Rattle.frac128.specs.Rational.{ℚ, int}
use Rattle.lp_model.specs.Program.{Program, entry_of, coefficient}
use Rattle.lp_model.specs.Lawful.{AreEntries, IsLawfulColumn, IsLawful}
use Rattle.lp_model.specs.declared.types.RowId.{RowId}
use Rattle.lp_model.specs.declared.types.Col.{Col}
use Rattle.lp_model.proofs.ElementLemmas.{of_element-read}
use Rattle.cut_find.specs.RowEntries.{AreEntriesOf, AreRowsTo}
use Rattle.cut_find.proofs.RowLemmas.{none_more, entry_more}

-- the entries of a column that was read
module _ (M : Program) (lawful : IsLawful M) (j : ℕ) (below : j < length M.cols) (cols : List Col) (col : Col) (cols_is : cols ≡ M.cols) (col_is : col ≡ get_or cols j col) (entries : List (RowId × ℚ)) (entries_is : entries ≡ col.rows) where
  pub column_lawful : AreEntries 0 (length M.rows) entries
  column_lawful =
      let is : col ≡ get_or M.cols j col = col_is ∙ ap (λ l. get_or l j col) cols_is in
      let column : IsLawfulColumn (length M.rows) col = subst (IsLawfulColumn (length M.rows)) (sym is) (lawful.columns j col below) in
      subst (AreEntries 0 (length M.rows)) (sym entries_is) column.entries

  pub column_coefficient : (i : ℕ) → coefficient M i j ≡ entry_of i entries
  column_coefficient i = sym (of_element-read (int (pos 0)) (λ (d : Col). entry_of i d.rows) M.cols cols j col cols_is below col_is) ∙ ap (entry_of i) (sym entries_is)

-- rows that no entry from a place on names
entry_none : (i from to : ℕ) (es : List (RowId × ℚ)) → i < from → AreEntries from to es → entry_of i es ≡ int (pos 0)
entry_none i from to [] below h = refl
entry_none i from to (e ∷ es) below h =
    let low = h.0 in
    let next : i < suc e.0.0 = omega (arith, low, below) in
    ap (λ b. if b then e.1 else entry_of i es) (ne_eqb e.0.0 i (λ q. omega (arith, q, low, below))) ∙ entry_none i (suc e.0.0) to es next h.3

pub no_rows : (M : Program) (n : ℕ) → AreRowsTo M 0 (replicate n [])
no_rows M n i below =
    let nil : List (ℕ × ℚ) = [] in
    let within : i < n = omega (arith, below, length-replicate n nil) in
    subst (AreEntriesOf M i 0 0) (sym (get_or-replicate n i nil nil within)) (omega arith, λ j low less. absurd (omega (arith, less)))

-- the rows below a place have the column's entry, if it has one, and the others not yet
pub record AreRowsBelow (M : Program) (col : ℕ) (entries : List (RowId × ℚ)) (k from : ℕ) (rows : List (List (ℕ × ℚ))) : Type 0 where
  pub left : AreEntries from (length M.rows) (drop k entries)
  pub rest : (i : ℕ) → from ≤ i → entry_of i entries ≡ entry_of i (drop k entries)
  pub done : (i : ℕ) → i < length rows → i < from → AreEntriesOf M i 0 (suc col) (get_or rows i [])
  pub todo : (i : ℕ) → i < length rows → from ≤ i → AreEntriesOf M i 0 col (get_or rows i [])

module _ (M : Program) (col : ℕ) (entries : List (RowId × ℚ)) (column : (i : ℕ) → coefficient M i col ≡ entry_of i entries) where
  pub rows_begin : (rows : List (List (ℕ × ℚ))) → AreEntries 0 (length M.rows) entries → AreRowsTo M col rows → AreRowsBelow M col entries 0 0 rows
  rows_begin rows lawful before = record { left = lawful; rest = λ i low. refl; done = λ i below less. absurd (omega (arith, less)); todo = λ i below low. before i below }

  module _ (k from : ℕ) (rows : List (List (ℕ × ℚ))) (before : AreRowsBelow M col entries k from rows) where
    pub rows_end : length entries ≤ k → AreRowsTo M (suc col) rows
    rows_end past i below =
        elim (split i) [
          | inl less ↦ before.done i below less
          | inr low ↦ none_more M i 0 col (get_or rows i []) (column i ∙ before.rest i low ∙ ap (entry_of i) (drop_all k entries past)) (before.todo i below low)
        ]
      where
        split : (i : ℕ) → (i < from) ⊎ (from ≤ i)
        split i = elim (cases_order i from) [ inl e ↦ inr (omega (arith, e)) | inr apart ↦ elim apart [ inl less ↦ inl less | inr more ↦ inr (omega (arith, more)) ] ]

    module _ (e : RowId × ℚ) (below : k < length entries) (e_is : e ≡ get_or entries k e) (long : length rows ≡ length M.rows) where
      here : drop k entries ≡ e ∷ drop (k + 1) entries
      here = drop_more entries k e below ∙ ap (λ (x : RowId × ℚ). x ∷ drop (k + 1) entries) (sym e_is)

      left : AreEntries from (length M.rows) (e ∷ drop (k + 1) entries)
      left = subst (AreEntries from (length M.rows)) here before.left

      abbrev at : ℕ
      at = e.0.0

      rest : (i : ℕ) → from ≤ i → entry_of i entries ≡ entry_of i (e ∷ drop (k + 1) entries)
      rest i low = before.rest i low ∙ ap (entry_of i) here

      further : (i : ℕ) → from ≤ i → at ≢ i → entry_of i entries ≡ entry_of i (drop (k + 1) entries)
      further i low apart = rest i low ∙ ap (λ b. if b then e.1 else entry_of i (drop (k + 1) entries)) (ne_eqb at i apart)

      pub entry_within : at < length rows
      entry_within = let w = left.1 in omega (arith, w, long)

      pub rows_more : AreRowsBelow M col entries (k + 1) (suc at) (set rows at (get_or rows at [] ++ (col, e.1) ∷ []))
      rows_more =
          let low = left.0 in
          let new = get_or rows at [] ++ (col, e.1) ∷ [] in
          record {
            left = left.3;
            rest = λ i next. further i (omega (arith, low, next)) (λ q. omega (arith, q, next));
            done = λ i within less. let there : i < length rows = omega (arith, within, length-set rows at new) in
                elim (cases_order i at) [
                  | inl q ↦
                      subst (λ n. AreEntriesOf M n 0 (suc col) (get_or (set rows at new) n [])) (sym q)
                      (subst (AreEntriesOf M at 0 (suc col)) (sym (get_or-set_same rows at new [] entry_within))
                      (entry_more M at 0 col (get_or rows at []) e.1 (omega arith) (sym (column at ∙ rest at low ∙ ap (λ b. if b then e.1 else entry_of at (drop (k + 1) entries)) (eq-eqb at at refl))) left.2 (before.todo at entry_within low)))
                  | inr apart ↦ elim apart [
                    | inl under ↦ subst (AreEntriesOf M i 0 (suc col)) (sym (get_or-set_other rows at i new [] (λ q. omega (arith, q, under)))) (old i there under)
                    | inr over ↦ absurd (omega (arith, over, less))
                  ]
                ];
            todo = λ i within next. let there : i < length rows = omega (arith, within, length-set rows at new) in
                subst (AreEntriesOf M i 0 col) (sym (get_or-set_other rows at i new [] (λ q. omega (arith, q, next)))) (before.todo i there (omega (arith, low, next)));
          }
        where
          old : (i : ℕ) → i < length rows → i < at → AreEntriesOf M i 0 (suc col) (get_or rows i [])
          old i there under = elim (cases_order i from) [
            | inl q ↦ skipped i there under (omega (arith, q))
            | inr apart ↦ elim apart [ inl less ↦ before.done i there less | inr more ↦ skipped i there under (omega (arith, more)) ]
          ]
            where
              skipped : (i : ℕ) → i < length rows → i < at → from ≤ i → AreEntriesOf M i 0 (suc col) (get_or rows i [])
              skipped i there under low =
                  none_more M i 0 col (get_or rows i [])
                  (column i ∙ further i low (λ q. omega (arith, q, under)) ∙ entry_none i (suc at) (length M.rows) (drop (k + 1) entries) (omega (arith, under)) left.3)
                  (before.todo i there low)
