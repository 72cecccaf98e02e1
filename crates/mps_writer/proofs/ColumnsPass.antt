-- All columns pass, one after the other.
use Rattle.std.proofs.Common.{◌≡◌, ◌≢◌, ℕ, suc, ◌+◌, ◌≤◌, false, ◌||◌, List, [], ◌∷◌, ◌++◌, map, length, get_or, refl, sym, ◌∙◌, ap, subst, arith, append_assoc, length-append}
use Rattle.std.specs.Prelude.{flat_map, bytes_eq, Some, All, AllPairs}
use Rattle.std.proofs.lemmas.Bool.{or_from, false_from_ne_true}
use Rattle.std.proofs.lemmas.List.Elements.{All-head}
use Rattle.std.proofs.lemmas.List.Folds.{list_any-append}
use Rattle.std.proofs.lemmas.Slice.Eq.{bytes_eq-Decides}
use Rattle.lp_model.specs.Limits.{col_limit}
use Rattle.lp_model.specs.Program.{Program}
use Rattle.lp_model.specs.declared.types.Col.{Col}
use Rattle.mps_text.specs.Text.{Entry}
use Rattle.mps_sections.specs.Statements.{StatedModel, is_column, coefficients_in}
use Rattle.mps_fields.specs.declared.words.Section.TheVariants.{Columns}
use Rattle.mps_sections.specs.declared.statements.ColumnLines.{ColumnLines}
use Rattle.mps_sections.proofs.StatedSteps.{nothing_more}
use Rattle.mps_writer.specs.Canonical.{column_lines}
use Rattle.mps_writer.proofs.RecordLaws.{entries_from}
use Rattle.mps_writer.proofs.PassLaws.{Passes, passes_append}
use Rattle.mps_writer.proofs.PairsBack.{Named, IsPair, numbered, as_number}
use Rattle.mps_writer.proofs.OwnLines.{own_pairs, entries_append}
use Rattle.mps_writer.proofs.ColumnPass.{column_at, counted, first_line, MayStand, column_pass}

abbrev pub stated_columns : Program → ℕ → List Col → List ColumnLines
stated_columns M number [] = []
stated_columns M number (c ∷ cols) = column_at c.name (first_line c.int number) c.int (own_pairs M c) ∷ stated_columns M (number + length (column_lines M c)) cols

abbrev pub total : Program → StatedModel → List Col → ℕ
total M s [] = 0
total M s (c ∷ cols) = counted s (own_pairs M c) + total M s cols

abbrev pub with_columns : StatedModel → List ColumnLines → ℕ → StatedModel
with_columns s more count = record s { columns = s.columns ++ more; count = count }

-- what the lines of a column need wherever they stand
pub record IsWritten (M : Program) (s : StatedModel) (c : Col) : Type 0 where
  pub short : length c.name ≤ 255
  pub pairs : All (IsPair s) (own_pairs M c)
  pub apart : AllPairs (λ (a b : Named). a.0 ≢ b.0) (own_pairs M c)

pub record AreWritten (M : Program) (s : StatedModel) (cols : List Col) : Type 0 where
  pub there : s.section ≡ Some Columns
  pub out : s.marked ≡ false
  pub each : All (IsWritten M s) cols
  pub new : All (λ (c : Col). is_column s.columns c.name ≡ false) cols
  pub apart : AllPairs (λ (a b : Col). a.name ≢ b.name) cols
  pub few : length s.columns + length cols ≤ col_limit false
  pub room : s.count + total M s cols ≤ 50000

module _ (M : Program) where
  stand : (s : StatedModel) (c : Col) (cols : List Col) → AreWritten M s (c ∷ cols) → MayStand s c.name (own_pairs M c)
  stand s c cols w =
      let own = All-head (IsWritten M s) c cols w.each in
      let few = w.few in
      let room = w.room in
      record { there = w.there; short = own.short; new = All-head (λ (d : Col). is_column s.columns d.name ≡ false) c cols w.new; few = omega (arith, few); each = own.pairs; apart = own.apart; room = omega (arith, room) }

  -- behind a column
  abbrev pub next : StatedModel → ℕ → Col → StatedModel
  next s number c = numbered s s.columns (column_at c.name (first_line c.int number) c.int (own_pairs M c)) (s.count + counted s (own_pairs M c))

  total_same : (s t : StatedModel) (cols : List Col) → t.rows ≡ s.rows → total M t cols ≡ total M s cols
  total_same s t [] e = refl
  total_same s t (c ∷ cols) e = ap (λ rows. length (coefficients_in rows (map as_number (own_pairs M c))) + total M t cols) e ∙ ap (λ n. counted s (own_pairs M c) + n) (total_same s t cols e)

  behind : (s : StatedModel) (number : ℕ) (c : Col) (cols : List Col) → AreWritten M s (c ∷ cols) → AreWritten M (next s number c) cols
  behind s number c cols w =
      let few = w.few in
      let room = w.room in
      let one = column_at c.name (first_line c.int number) c.int (own_pairs M c) in
      record {
        there = w.there;
        out = w.out;
        each = λ i d below. let h = w.each (suc i) d (omega (arith, below)) in record {
          short = h.short;
          pairs = λ j e within. let p = h.pairs j e within in record { fits = p.fits; unmarked = p.unmarked; short = p.short; known = p.known };
          apart = h.apart;
        };
        new = λ i d below.
            let q = get_or cols i d in
            let differs : bytes_eq c.name q.name ≡ false = false_from_ne_true (bytes_eq c.name q.name) (λ e. w.apart 0 (suc i) d (omega arith) (omega (arith, below)) ((bytes_eq-Decides c.name q.name).0 e)) in
            list_any-append (λ (x : ColumnLines). bytes_eq x.name q.name) s.columns (one ∷ [])
            ∙ or_from (is_column s.columns q.name) (bytes_eq c.name q.name || false) (w.new (suc i) d (omega (arith, below))) (or_from (bytes_eq c.name q.name) false differs refl);
        apart = λ i j d below later. w.apart (suc i) (suc j) d (omega (arith, below)) (omega (arith, later));
        few = omega (arith, few, length-append s.columns (one ∷ []));
        room = omega (arith, room, total_same s (next s number c) cols refl);
      }

  pub columns_pass : (s : StatedModel) (number : ℕ) (cols : List Col) → AreWritten M s cols → Passes s (entries_from number (flat_map (column_lines M) cols)) (with_columns s (stated_columns M number cols) (s.count + total M s cols))
  columns_pass s number [] w =
      let none : s.count + 0 ≡ s.count = omega arith in
      ap (λ (found : List ColumnLines). record s { columns = found; count = s.count }) (sym (nothing_more s.columns)) ∙ ap (λ n. record s { columns = s.columns ++ []; count = n }) (sym none)
  columns_pass s number (c ∷ cols) w =
      let t = next s number c in
      let n = number + length (column_lines M c) in
      let one = column_at c.name (first_line c.int number) c.int (own_pairs M c) in
      let more = stated_columns M n cols in
      let rest = columns_pass t n cols (behind s number c cols w) in
      let sum : (s.count + counted s (own_pairs M c)) + total M t cols ≡ s.count + total M s (c ∷ cols) = omega (arith, total_same s t cols refl) in
      let end = with_columns s (one ∷ more) (s.count + total M s (c ∷ cols)) in
      let led : Passes t (entries_from n (flat_map (column_lines M) cols)) end =
      subst (λ k. Passes t (entries_from n (flat_map (column_lines M) cols)) (record s { columns = s.columns ++ one ∷ more; count = k })) sum
      (subst (λ (found : List ColumnLines). Passes t (entries_from n (flat_map (column_lines M) cols)) (record s { columns = found; count = (s.count + counted s (own_pairs M c)) + total M t cols })) (append_assoc s.columns (one ∷ []) more) rest)
      in
      subst (λ (es : List Entry). Passes s es end) (sym (entries_append number (column_lines M c) (flat_map (column_lines M) cols)))
      (passes_append s t end (entries_from number (column_lines M c)) (entries_from n (flat_map (column_lines M) cols)) (column_pass M s number c w.out (stand s c cols w)) led)
