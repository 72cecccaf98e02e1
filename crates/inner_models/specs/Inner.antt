-- The inner models of a front: the models with one objective that are solved on the way to it (T. K. Ralphs, M. J. Saltzman,
-- M. M. Wiecek, An improved algorithm for solving biobjective integer programs, 2006; in whole numbers). All stand on the model
-- N in least form with constants 0, whose values are f1 and f2, and differ from it by objective 1, by rows behind its rows, and
-- for a gap by a column behind its columns:
--     least1   min f1                 left    min f2, f1 <= i1         pull   min f1 + f2, f1 <= r1, f2 <= r2
--     least2   min f2                 right   min f1, f2 <= i2         gap    min Z, a*f1 - Z <= a*i1, b*f2 - Z <= b*i2, 0 <= Z <= a*b
-- A gap stands between the outcomes p and q, with the least values i1 and i2: a = p2 - i2 and b = q1 - i1. So Z is at least the
-- weighted Chebyshev distance max(a*(f1 - i1), b*(f2 - i2)) of a point from (i1, i2), and below a*b exactly where f1 < q1 and f2 < p2.
use Rattle.std.specs.Prelude.{◌≡◌, ℕ, true, List, [], ◌∷◌, ◌++◌, map, codes, ℤ, pos, negsuc, ◌*ℤ◌, Some, None}
use Rattle.frac128.specs.Rational.{ℚ, int, ◌+ℚ◌, ◌*ℚ◌}
use Rattle.lp_model.specs.Program.{Program, in_least_form}
use Rattle.lp_model.specs.Lawful.{row_names, column_names}
use Rattle.lp_model.specs.Edits.{Named, edited}
use Rattle.lp_model.specs.declared.types.Sense.{Sense}
use Rattle.lp_model.specs.declared.types.Sense.TheVariants.{Min}
use Rattle.lp_model.specs.declared.types.Col.{Col}
use Rattle.lp_model.specs.declared.types.Edit.{Edit}
use Rattle.lp_model.specs.declared.types.Edit.TheVariants.{AddCol, AddRow}
use Rattle.inner_models.specs.Names.{free_name}

-- ---- the model that they stand on

abbrev pub least_col : Sense → Col → Col
least_col s c = record c { cost = in_least_form s c.cost; cost2 = in_least_form s c.cost2 }

-- the model in least form, with constants 0, and with room for the rows and the column of an inner model
abbrev pub bare_model : Program → Program
bare_model M = record M { sense = Min; consts = int (pos 0) ∷ int (pos 0) ∷ []; cols = map (least_col M.sense) M.cols; wide = true }

pub record IsBare (N : Program) : Type 0 where
  pub least : N.sense ≡ Min
  pub constants : N.consts ≡ int (pos 0) ∷ int (pos 0) ∷ []
  pub wide : N.wide ≡ true

-- ---- objectives, names, rows

-- the model with f of each column as its cost in objective 1
abbrev pub costed : (Col → ℚ) → Col → Col
costed f c = record c { cost = f c }

abbrev pub with_objective : (Col → ℚ) → Program → Program
with_objective f N = record N { cols = map (costed f) N.cols }

-- the names of the column Z and of the rows G1 and G2, each made free by itself
abbrev pub z_name : Program → List ℕ
z_name N = free_name (column_names N) (codes "Z")

abbrev pub g1_name : Program → List ℕ
g1_name N = free_name (row_names N) (codes "G1")

abbrev pub g2_name : Program → List ℕ
g2_name N = free_name (row_names N) (codes "G2")

-- the terms of a row: f of each column beside its name
abbrev pub row_terms : (Col → ℚ) → Program → Named
row_terms f N = map (λ c. (c.name, f c)) N.cols

-- the terms of a row less Z: -1 beside the name of Z
abbrev pub row_terms_less_z : (Col → ℚ) → Program → Named
row_terms_less_z f N = row_terms f N ++ (z_name N, int (negsuc 0)) ∷ []

-- the row whose sum is at most a number
abbrev pub capped : List ℕ → ℚ → Named → Edit
capped name hi named = AddRow name None (Some hi) named

-- the column Z, which is a whole number from 0 to the width of the gap
abbrev pub width_column : Program → ℤ → Edit
width_column N width = AddCol (z_name N) true (Some (int (pos 0))) (Some (int width)) (int (pos 1)) (int (pos 0)) []

-- ---- the inner models

abbrev pub least2_model : Program → Program
least2_model N = with_objective (λ c. c.cost2) N

abbrev pub left_model : Program → ℤ → Program
left_model N i1 = edited (least2_model N) (capped (g1_name N) (int i1) (row_terms (λ c. c.cost) N))

abbrev pub right_model : Program → ℤ → Program
right_model N i2 = edited N (capped (g1_name N) (int i2) (row_terms (λ c. c.cost2) N))

-- objective 1 is f1 + f2, and f1 is at most r1
abbrev pub pull_half : Program → ℤ → Program
pull_half N r1 = edited (with_objective (λ c. c.cost +ℚ c.cost2) N) (capped (g1_name N) (int r1) (row_terms (λ c. c.cost) N))

abbrev pub pull_model : Program → ℤ → ℤ → Program
pull_model N r1 r2 = edited (pull_half N r1) (capped (g2_name N) (int r2) (row_terms (λ c. c.cost2) N))

-- objective 1 is Z alone
abbrev pub gap_start : Program → ℤ → Program
gap_start N width = edited (with_objective (λ c. int (pos 0)) N) (width_column N width)

abbrev pub gap_half : Program → ℤ → ℤ → ℤ → Program
gap_half N a b i1 = edited (gap_start N (a *ℤ b)) (capped (g1_name N) (int (a *ℤ i1)) (row_terms_less_z (λ c. int a *ℚ c.cost) N))

abbrev pub gap_model : Program → ℤ → ℤ → ℤ → ℤ → Program
gap_model N a b i1 i2 = edited (gap_half N a b i1) (capped (g2_name N) (int (b *ℤ i2)) (row_terms_less_z (λ c. int b *ℚ c.cost2) N))
