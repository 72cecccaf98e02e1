-- The bytes of the replies.
use Rattle.std.specs.Prelude.{ℕ, List, [], ◌∷◌, ◌++◌, codes, decimal, if◌then◌else◌, nat_eq, unsigned_abs, Option, Some, None}
use Rattle.frac128.specs.Rational.{ℚ}
use Rattle.frac128.specs.Printing.{printed}
use Rattle.lp_model.specs.Program.{Program, Point, value}
use Rattle.lp_model.specs.Lawful.{column_name}
use Rattle.lp_model.specs.declared.types.Col.{Col}
use Rattle.lp_model.specs.declared.types.ColId.{ColId}
use Rattle.lp_model.specs.declared.answers.PivotPlace.{PivotPlace}
use Rattle.lp_model.specs.declared.answers.WideAt.{WideAt}
use Rattle.lp_model.specs.declared.answers.StopWhy.{StopWhy}
use Rattle.lp_model.specs.declared.answers.StopWhy.TheVariants as stop
use Rattle.search_answers.specs.declared.answers.Answer.{Answer}
use Rattle.search_answers.specs.declared.answers.Answer.TheVariants.{Optimal, Within, Infeasible, Unbounded, Stopped, Memory}
use Rattle.lp_model.specs.declared.types.WideStep.{WideStep}
use Rattle.reply_texts.specs.Places.{block_text, step_line, step_text}

abbrev pub ok_text : List ℕ
ok_text = codes "ok\n"

-- ---- refusals

abbrev pub unknown_text : List ℕ → List ℕ
unknown_text word = codes "error 02 unknown command " ++ word ++ codes "\n"

abbrev pub arguments_text : List ℕ
arguments_text = codes "error 03 arguments\n"

abbrev pub no_model_text : List ℕ
no_model_text = codes "error 04 no model\n"

abbrev pub no_answer_text : List ℕ
no_answer_text = codes "error 13 no finished answer\n"

-- no row or column has the name; it is taken; a count would pass this limit; an integer column would lack a bound; a row would have no
-- sides to compute with
abbrev pub unknown_name_text : List ℕ → List ℕ
unknown_name_text name = codes "error 05 unknown " ++ name ++ codes "\n"

abbrev pub taken_text : List ℕ → List ℕ
taken_text name = codes "error 06 taken " ++ name ++ codes "\n"

abbrev pub limit_text : ℕ → List ℕ
limit_text n = codes "error 08 limit " ++ decimal n ++ codes "\n"

abbrev pub bounds_text : List ℕ → List ℕ
bounds_text name = codes "error 10 bounds " ++ name ++ codes "\n"

abbrev pub sides_text : List ℕ → List ℕ
sides_text name = codes "error 11 sides " ++ name ++ codes "\n"

-- what of an objective is no whole number: this column, or the constant
abbrev pub not_whole_word : Program → Option ColId → List ℕ
not_whole_word M None = codes "constant"
not_whole_word M (Some col) = column_name M col.0

-- an objective, by its number, that isn't whole
abbrev pub not_whole_text : Program → ℕ → Option ColId → List ℕ
not_whole_text M which col = codes "error 12 not whole " ++ decimal which ++ codes " " ++ not_whole_word M col ++ codes "\n"

abbrev pub number_text : List ℕ → List ℕ
number_text word = codes "error 07 number " ++ word ++ codes "\n"

abbrev pub store_text : List ℕ
store_text = codes "error 20 store\n"

abbrev pub file_too_long_text : List ℕ
file_too_long_text = codes "error 21 file too long\n"

abbrev pub mps_text : ℕ → ℕ → List ℕ
mps_text line code = codes "error 30 mps line " ++ decimal line ++ codes " code " ++ decimal code ++ codes "\n"

-- the place of the fault in a text that states no search, and its code
abbrev pub warm_text : List ℕ → ℕ → List ℕ
warm_text place code = codes "error 31 warm place " ++ place ++ codes " code " ++ decimal code ++ codes "\n"

abbrev pub memory_text : List ℕ
memory_text = codes "error 90 memory\n"

abbrev pub cert_fault_text : ℕ → ℕ → List ℕ
cert_fault_text line code = codes "error 32 cert line " ++ decimal line ++ codes " code " ++ decimal code ++ codes "\n"

-- ---- optima

-- the line of a column whose number is not 0
abbrev pub column_line : List ℕ → ℚ → List ℕ
column_line name v = if nat_eq (unsigned_abs v.num) 0 then [] else codes "x " ++ name ++ codes " " ++ printed v ++ codes "\n"

-- the lines of the columns in order
unfoldable pub column_lines : List Col → Point → List ℕ
column_lines [] x = []
column_lines (c ∷ cs) [] = []
column_lines (c ∷ cs) (v ∷ vs) = column_line c.name v ++ column_lines cs vs

-- the first line of an optimum: its value, after n results
abbrev pub value_line : ℚ → ℕ → List ℕ
value_line v n = codes "optimal " ++ printed v ++ codes " nodes " ++ decimal n ++ codes "\n"

-- a point with its value, after n results
abbrev pub optimal_text : Program → Point → ℕ → List ℕ
optimal_text M x n = value_line (value M 1 x) n ++ column_lines M.cols x ++ codes "end\n"

-- a point with its value within a gap, after n results
abbrev pub within_line : ℚ → ℚ → ℕ → List ℕ
within_line g v n = codes "within " ++ printed g ++ codes " " ++ printed v ++ codes " nodes " ++ decimal n ++ codes "\n"

abbrev pub within_text : Program → ℚ → Point → ℕ → List ℕ
within_text M g x n = within_line g (value M 1 x) n ++ column_lines M.cols x ++ codes "end\n"

abbrev pub infeasible_text : ℕ → List ℕ
infeasible_text n = codes "infeasible nodes " ++ decimal n ++ codes "\n"

abbrev pub unbounded_text : ℕ → List ℕ
unbounded_text n = codes "unbounded nodes " ++ decimal n ++ codes "\n"

-- ---- stops

abbrev pub number_or_none : Option ℚ → List ℕ
number_or_none None = codes "none"
number_or_none (Some x) = printed x

-- what is known after n results: the bound, and the best value
abbrev pub known_words : ℕ → Option ℚ → Option ℚ → List ℕ
known_words n bound best = decimal n ++ codes " bound " ++ number_or_none bound ++ codes " best " ++ number_or_none best

abbrev pub known_text : ℕ → Option ℚ → Option ℚ → List ℕ
known_text n bound best = known_words n bound best ++ codes "\n"

abbrev pub stopped_nodes_text : ℕ → Option ℚ → Option ℚ → List ℕ
stopped_nodes_text n bound best = codes "stopped nodes " ++ known_text n bound best

abbrev pub stopped_tree_text : ℕ → Option ℚ → Option ℚ → List ℕ
stopped_tree_text n bound best = codes "stopped tree " ++ known_text n bound best

abbrev pub stopped_pivots_text : Program → ℕ → Option ℚ → Option ℚ → PivotPlace → List ℕ
stopped_pivots_text M n bound best place = codes "stopped pivots " ++ known_text n bound best ++ block_text M place.path place.cuts place.basis ++ codes "end\n"

abbrev pub stopped_wide_text : Program → ℕ → Option ℚ → Option ℚ → WideAt → List ℕ
stopped_wide_text M n bound best at_ = codes "stopped wide " ++ known_text n bound best ++ block_text M at_.path at_.cuts at_.basis ++ step_line M at_.step ++ codes "end\n"

abbrev pub stopped_text : Program → StopWhy → ℕ → Option ℚ → Option ℚ → List ℕ
stopped_text M stop.Nodes n bound best = stopped_nodes_text n bound best
stopped_text M stop.Tree n bound best = stopped_tree_text n bound best
stopped_text M (stop.Pivots place) n bound best = stopped_pivots_text M n bound best place
stopped_text M (stop.Wide at_) n bound best = stopped_wide_text M n bound best at_

-- ---- stops of a search that is a part of a greater task

-- the words before the count of results
abbrev pub stop_words : StopWhy → List ℕ
stop_words stop.Nodes = codes "stopped nodes "
stop_words stop.Tree = codes "stopped tree "
stop_words (stop.Pivots place) = codes "stopped pivots "
stop_words (stop.Wide at_) = codes "stopped wide "

-- where it stopped, of which a count that was reached tells nothing
abbrev pub stop_place_text : Program → StopWhy → List ℕ
stop_place_text M stop.Nodes = []
stop_place_text M stop.Tree = []
stop_place_text M (stop.Pivots place) = block_text M place.path place.cuts place.basis
stop_place_text M (stop.Wide at_) = block_text M at_.path at_.cuts at_.basis ++ step_line M at_.step

-- the line of the stop, with the part's name last
abbrev pub part_stop_line : List ℕ → StopWhy → ℕ → Option ℚ → Option ℚ → List ℕ
part_stop_line part why n bound best = stop_words why ++ known_words n bound best ++ codes " of " ++ part ++ codes "\n"

-- that line, and where it stopped in the part's own model; the task's own reply ends behind it
abbrev pub part_stop_text : Program → List ℕ → StopWhy → ℕ → Option ℚ → Option ℚ → List ℕ
part_stop_text M part why n bound best = part_stop_line part why n bound best ++ stop_place_text M why

-- ---- bounds with other sides or costs

-- the bound, or that none is known
abbrev pub bound_text : Option ℚ → List ℕ
bound_text bound = codes "bound " ++ number_or_none bound ++ codes "\n"

-- no point is feasible
abbrev pub no_point_text : List ℕ
no_point_text = codes "bound infeasible\n"

-- the leaf, from 1 in preorder, and the step that has no room
abbrev pub wide_bound_text : Program → ℕ → WideStep → List ℕ
wide_bound_text M leaf at_ = codes "bound wide " ++ decimal leaf ++ codes " " ++ step_text M at_ ++ codes "\n"

-- ---- answers

abbrev pub answer_text : Program → Answer → List ℕ
answer_text M (Optimal v x n) = optimal_text M x n
answer_text M (Within g v x n) = within_text M g x n
answer_text M (Infeasible n) = infeasible_text n
answer_text M (Unbounded n) = unbounded_text n
answer_text M (Stopped why n bound best) = stopped_text M why n bound best
answer_text M Memory = memory_text
