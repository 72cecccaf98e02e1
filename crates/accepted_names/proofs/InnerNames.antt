-- The names of inner models are words where those of the model are: a base with underscores behind it is one word.
use Rattle.std.specs.Prelude.{◌≡◌, ℕ, zero, suc, ◌+◌, Bool, true, false, if◌then◌else◌, List, [], ◌∷◌, ◌++◌, length, map, All, sum_by, bytes_eq, codes, ℤ, pos, ◌*ℤ◌, Option, Some, None}
use Rattle.std.specs.List.{list_any}
use Rattle.std.proofs.Common.{refl, arith}
use Rattle.std.proofs.lemmas.List.{length_push}
use Rattle.std.proofs.lemmas.List.Elements.{All-nil, All-cons, All-append, All-map}
use Rattle.frac128.specs.Rational.{ℚ, int, ◌*ℚ◌}
use Rattle.text_lines.specs.Lines.{is_newline}
use Rattle.text_lines.specs.Words.{is_blank, IsWord}
use Rattle.lp_model.specs.Program.{Program}
use Rattle.lp_model.specs.Lawful.{row_names, column_names}
use Rattle.lp_model.specs.Edits.{Named, edited, with_entry, number_beside, entries_beside}
use Rattle.lp_model.specs.declared.types.Col.{Col}
use Rattle.lp_model.specs.declared.types.Row.{Row}
use Rattle.lp_model.specs.declared.types.Edit.TheVariants.{AddRow}
use Rattle.word_names.specs.WordNames.{HasWordNames}
use Rattle.inner_models.specs.Names.{free_within, free_name}
use Rattle.inner_models.specs.Inner.{bare_model, least_col, costed, with_objective, z_name, g1_name, g2_name, row_terms_less_z, least2_model, gap_start, gap_half, gap_model}

-- ---- free names

underscored : (name : List ℕ) → IsWord name → IsWord (name ++ 95 ∷ [])
underscored name word =
    let size = length_push name 95 in
    let some = word.some in
    record {
      some = omega (arith, size, some);
      one_line = All-append (λ byte. is_newline byte ≡ false) name (95 ∷ []) word.one_line (All-cons (λ byte. is_newline byte ≡ false) 95 [] refl (All-nil (λ byte. is_newline byte ≡ false)));
      one_word = All-append (λ byte. is_blank byte ≡ false) name (95 ∷ []) word.one_word (All-cons (λ byte. is_blank byte ≡ false) 95 [] refl (All-nil (λ byte. is_blank byte ≡ false)));
    }

within_word : (n : ℕ) (names : List (List ℕ)) (name : List ℕ) → IsWord name → IsWord (free_within n names name)
within_word zero names name word = word
within_word (suc n) names name word = by (list_any (λ other. bytes_eq other name) names) (within_word n names (name ++ 95 ∷ []) (underscored name word))
  where
    by : (b : Bool) → IsWord (free_within n names (name ++ 95 ∷ [])) → IsWord (if b then free_within n names (name ++ 95 ∷ []) else name)
    by true rest = rest
    by false rest = word

free_word : (names : List (List ℕ)) (base : List ℕ) → IsWord base → IsWord (free_name names base)
free_word names base word = within_word (sum_by length names + 1) names base word

-- a letter that is neither blank nor newline, alone
letter_word : (byte : ℕ) → is_newline byte ≡ false → is_blank byte ≡ false → IsWord (byte ∷ [])
letter_word byte line word = record {
  some = omega arith;
  one_line = All-cons (λ b. is_newline b ≡ false) byte [] line (All-nil (λ b. is_newline b ≡ false));
  one_word = All-cons (λ b. is_blank b ≡ false) byte [] word (All-nil (λ b. is_blank b ≡ false));
}

pair_word : (first second : ℕ) → is_newline first ≡ false → is_blank first ≡ false → IsWord (second ∷ []) → IsWord (first ∷ second ∷ [])
pair_word first second line word rest = record {
  some = omega arith;
  one_line = All-cons (λ b. is_newline b ≡ false) first (second ∷ []) line rest.one_line;
  one_word = All-cons (λ b. is_blank b ≡ false) first (second ∷ []) word rest.one_word;
}

z_word : (N : Program) → IsWord (z_name N)
z_word N = free_word (column_names N) (codes "Z") (letter_word 90 refl refl)

g1_word : (N : Program) → IsWord (g1_name N)
g1_word N = free_word (row_names N) (codes "G1") (pair_word 71 49 refl refl (letter_word 49 refl refl))

g2_word : (N : Program) → IsWord (g2_name N)
g2_word N = free_word (row_names N) (codes "G2") (pair_word 71 50 refl refl (letter_word 50 refl refl))

-- ---- models

abbrev ColumnWord : Col → Type 0
ColumnWord c = IsWord c.name

abbrev RowWord : Row → Type 0
RowWord r = IsWord r.name

pub bare_words : (M : Program) → HasWordNames M → HasWordNames (bare_model M)
bare_words M plain = record { columns = All-map ColumnWord (least_col M.sense) M.cols plain.columns; rows = plain.rows }

objective_words : (f : Col → ℚ) (N : Program) → HasWordNames N → HasWordNames (with_objective f N)
objective_words f N plain = record { columns = All-map ColumnWord (costed f) N.cols plain.columns; rows = plain.rows }

pub least2_words : (N : Program) → HasWordNames N → HasWordNames (least2_model N)
least2_words N plain = objective_words (λ c. c.cost2) N plain

row_added : (N : Program) (name : List ℕ) (lo hi : Option ℚ) (named : Named) → IsWord name → HasWordNames N → HasWordNames (edited N (AddRow name lo hi named))
row_added N name lo hi named word plain = record {
  columns = All-map ColumnWord (λ c. with_entry (length N.rows) (number_beside c.name named) c) N.cols plain.columns;
  rows = All-append RowWord N.rows (record { name = name; lo = lo; hi = hi } ∷ []) plain.rows (All-cons RowWord (record { name = name; lo = lo; hi = hi }) [] word (All-nil RowWord));
}

column_added : (N : Program) (c : Col) → IsWord c.name → HasWordNames N → All ColumnWord (N.cols ++ c ∷ [])
column_added N c word plain = All-append ColumnWord N.cols (c ∷ []) plain.columns (All-cons ColumnWord c [] word (All-nil ColumnWord))

-- the column Z has no entries yet
start_words : (N : Program) (width : ℤ) → HasWordNames N → HasWordNames (gap_start N width)
start_words N width plain =
    let costless = objective_words (λ c. int (pos 0)) N plain in
    let P = with_objective (λ c. int (pos 0)) N in
    record {
      columns =
          column_added P
          (record { name = z_name N; int = true; lo = Some (int (pos 0)); up = Some (int width); cost = int (pos 1); cost2 = int (pos 0); rows = entries_beside 0 (map (λ r. r.name) P.rows) [] })
          (z_word N) costless;
      rows = costless.rows;
    }

half_words : (N : Program) (a b i1 : ℤ) → HasWordNames N → HasWordNames (gap_half N a b i1)
half_words N a b i1 plain =
    row_added (gap_start N (a *ℤ b)) (g1_name N) None (Some (int (a *ℤ i1))) (row_terms_less_z (λ c. int a *ℚ c.cost) N) (g1_word N) (start_words N (a *ℤ b) plain)

pub gap_words : (N : Program) (a b i1 i2 : ℤ) → HasWordNames N → HasWordNames (gap_model N a b i1 i2)
gap_words N a b i1 i2 plain =
    row_added (gap_half N a b i1) (g2_name N) None (Some (int (b *ℤ i2))) (row_terms_less_z (λ c. int b *ℚ c.cost2) N) (g2_word N) (half_words N a b i1 plain)
