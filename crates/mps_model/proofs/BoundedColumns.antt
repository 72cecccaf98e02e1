-- Each integer column of a model that a text means has two bounds.
use Rattle.std.proofs.Common.{◌≡◌, ℕ, Bool, true, false, ◌&&◌, ◌||◌, not, List, [], ◌∷◌, map, refl, if◌then◌else◌, Option, Some, None}
use Rattle.std.specs.Prelude.{is_some}
use Rattle.std.specs.List.{list_all}
use Rattle.frac128.specs.Rational.{ℚ}
use Rattle.lp_model.specs.declared.types.Col.{Col}
use Rattle.mps_sections.specs.declared.statements.Sections.{Sections}
use Rattle.mps_sections.specs.declared.statements.ColumnLines.{ColumnLines}
use Rattle.mps_model.specs.Meaning.{span_of, upper_or, column_of}
use Rattle.mps_model.specs.Faults.{is_none_of, column_code, code_on, column_flaw}

-- a column that is not integer, or has two bounds
abbrev pub is_bounded_column : Col → Bool
is_bounded_column c = not c.int || (is_some c.lo && is_some c.up)

both : (a b : Bool) → a ≡ true → b ≡ true → a && b ≡ true
both true b e f = f
both false b e f = cc

-- the code of a column with this kind and these bounds
abbrev code_by : Bool → Option ℚ → Option ℚ → Option ℕ
code_by integer lower upper = if integer && (is_none_of lower || is_none_of upper) then Some 24 else None

no_code : (integer : Bool) (lower upper : Option ℚ) → code_by integer lower upper ≡ None → not integer || (is_some lower && is_some upper) ≡ true
no_code true (Some l) (Some u) e = refl
no_code true (Some l) None e = absurd (cc)
no_code true None u e = absurd (cc)
no_code false l u e = refl

pub flawless : (s : Sections) (intupper : Option ℕ) (columns : List ColumnLines) → column_flaw intupper s.bounds columns ≡ None → list_all is_bounded_column (map (column_of s intupper) columns) ≡ true
flawless s intupper [] e = refl
flawless s intupper (c ∷ more) e = by (column_code intupper (span_of s.bounds c)) refl e (λ rest. flawless s intupper more rest)
  where
    by : (code : Option ℕ) → column_code intupper (span_of s.bounds c) ≡ code → code_on c.line code (column_flaw intupper s.bounds more) ≡ None
        → (column_flaw intupper s.bounds more ≡ None → list_all is_bounded_column (map (column_of s intupper) more) ≡ true) → list_all is_bounded_column (map (column_of s intupper) (c ∷ more)) ≡ true
    by (Some n) is h later = absurd (cc)
    by None is h later =
        both (is_bounded_column (column_of s intupper c)) (list_all is_bounded_column (map (column_of s intupper) more))
        (no_code (span_of s.bounds c).integer (span_of s.bounds c).lower (upper_or intupper (span_of s.bounds c).integer (span_of s.bounds c).upper) is)
        (later h)
