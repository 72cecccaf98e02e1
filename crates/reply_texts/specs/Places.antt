-- Names, variables, the places of steps of arithmetic, and where a search stopped, as bytes.
use Rattle.std.specs.Prelude.{ℕ, suc, Bool, true, false, List, [], ◌∷◌, ◌++◌, codes, decimal, Option, Some, None}
use Rattle.std.specs.List.{flat_map}
use Rattle.std.specs.Fmt.{signed_decimal}
use Rattle.lp_model.specs.Program.{Program}
use Rattle.lp_model.specs.Regions.{Path}
use Rattle.lp_model.specs.declared.types.Basis.{Basis}
use Rattle.lp_model.specs.declared.types.BoundChange.{BoundChange}
use Rattle.lp_model.specs.declared.types.ColId.{ColId}
use Rattle.lp_model.specs.declared.types.Derivation.{Derivation}
use Rattle.lp_model.specs.declared.types.Literal.{Literal}
use Rattle.lp_model.specs.declared.types.Side.{Side}
use Rattle.lp_model.specs.declared.types.Side.TheVariants as side
use Rattle.lp_model.specs.declared.types.Var.{Var}
use Rattle.lp_model.specs.declared.types.Var.TheVariants as var
use Rattle.lp_model.specs.declared.types.WideStep.{WideStep}
use Rattle.lp_model.specs.declared.types.WideStep.TheVariants as step
use Rattle.lp_model.specs.Lawful.{column_name}
use Rattle.lp_model.specs.Lawful.{row_name}

-- ---- names and variables

abbrev pub relation_text : Side → List ℕ
relation_text side.Lo = codes " >= "
relation_text side.Hi = codes " <= "

abbrev pub change_text : Program → BoundChange → List ℕ
change_text M c = relation_text c.side ++ column_name M c.col.0 ++ codes " " ++ signed_decimal c.v

-- the bound changes of a leaf, in path order
abbrev pub path_line : Program → Path → List ℕ
path_line M path = codes "path" ++ flat_map (change_text M) path ++ codes "\n"

-- those of the leaf, or that the relaxation is that of the ray phase
abbrev pub region_line : Program → Option Path → List ℕ
region_line M (Some path) = path_line M path
region_line M None = codes "path ray\n"

-- a variable: a cut by its place from 1
abbrev pub variable_text : Program → Var → List ℕ
variable_text M (var.Col col) = codes "col " ++ column_name M col.0
variable_text M (var.Row row) = codes "row " ++ row_name M row.0
variable_text M (var.Cut cut) = codes "cut " ++ decimal (suc cut.0)

abbrev pub value_step_text : Program → Option ColId → List ℕ
value_step_text M None = codes "value"
value_step_text M (Some col) = codes "value col " ++ column_name M col.0

-- a variable, behind a blank
abbrev pub next_text : Program → Var → List ℕ
next_text M v = codes " " ++ variable_text M v

-- the place of a step of arithmetic
abbrev pub step_text : Program → WideStep → List ℕ
step_text M (step.Pivot r s i k) = codes "pivot" ++ next_text M r ++ next_text M s ++ next_text M i ++ next_text M k
step_text M (step.Point b k) = codes "point" ++ next_text M b ++ next_text M k
step_text M (step.Cost k b) = codes "cost" ++ next_text M k ++ next_text M b
step_text M (step.RatioCost r k) = codes "ratio" ++ next_text M r ++ next_text M k ++ codes " 0"
step_text M (step.Ratio r k v) = codes "ratio" ++ next_text M r ++ next_text M k ++ next_text M v
step_text M (step.Act row col) = codes "act row " ++ row_name M row.0 ++ codes " col " ++ column_name M col.0
step_text M (step.Value col) = value_step_text M col
step_text M (step.LagEntry col by) = codes "lag col " ++ column_name M col.0 ++ codes " " ++ variable_text M by
step_text M (step.LagTerm of) = codes "lag " ++ variable_text M of
step_text M (step.Cover row col) = codes "cover row " ++ row_name M row.0 ++ codes " col " ++ column_name M col.0

abbrev pub step_line : Program → WideStep → List ℕ
step_line M at_ = codes "at " ++ step_text M at_ ++ codes "\n"

-- ---- cuts

abbrev pub side_text : Side → List ℕ
side_text side.Lo = codes " lo"
side_text side.Hi = codes " hi"

abbrev pub sign_text : Bool → List ℕ
sign_text true = codes " +"
sign_text false = codes " -"

abbrev pub literal_text : Program → Literal → List ℕ
literal_text M l = sign_text l.plus ++ column_name M l.col.0

-- a cut, by its place from 1, and where it comes from
abbrev pub cut_line : Program → ℕ → Derivation → List ℕ
cut_line M k d = codes "cut " ++ decimal k ++ codes " " ++ row_name M d.row.0 ++ side_text d.side ++ flat_map (literal_text M) d.literals ++ codes "\n"

-- the first of them has place k
unfoldable pub cut_lines : Program → ℕ → List Derivation → List ℕ
cut_lines M k [] = []
cut_lines M k (d ∷ ds) = cut_line M k d ++ cut_lines M (suc k) ds

-- ---- a relaxation and a basis of it

abbrev pub basis_line : Program → List Var → List ℕ
basis_line M variables = codes "basis" ++ flat_map (next_text M) variables ++ codes "\n"

abbrev pub high_line : Program → List Var → List ℕ
high_line M variables = codes "high" ++ flat_map (next_text M) variables ++ codes "\n"

abbrev pub basis_lines : Program → Basis → List ℕ
basis_lines M basis = basis_line M basis.basic ++ high_line M basis.high

abbrev pub block_text : Program → Option Path → List Derivation → Basis → List ℕ
block_text M region cuts basis = cut_lines M 1 cuts ++ region_line M region ++ basis_lines M basis
