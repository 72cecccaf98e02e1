-- What a front's text means, and its faults: the first faulty line, and the least code on it. Beside a line's own codes 2 to 5
-- (specs/Lines) there are
--     1   the first line is not `front 1`
--     6   a part out of order, missing or twice: outcomes, one at least, each with its point behind it, then trees, each with its
--         cuts and one node at least, `end`. Which trees stand is not asked
--     7   the nodes of a tree are not one whole tree
--     8   no `end`, or a line after it
-- A missing part stands at the line where it was due.
use Rattle.std.specs.Prelude.{◌≡◌, ℕ, suc, ◌+◌, ◌<◌, ℤ, Bool, true, false, ◌||◌, if◌then◌else◌, ◌==◌, List, [], ◌∷◌, ◌++◌, length, take, get_or, is_some, option_to_list, Option, None, Some, Result, Ok, Err}
use Rattle.text_lines.specs.Lines.{line_bytes}
use Rattle.lp_model.specs.Edits.{Named}
use Rattle.cert_text.specs.declared.cert.NamedCut.{NamedCut}
use Rattle.cert_text.specs.declared.cert.CertNode.{CertNode}
use Rattle.cert_text.specs.Text.{are_none, is_whole_tree, or_no_end}
use Rattle.front_text.specs.declared.front.TreeOf.{TreeOf}
use Rattle.front_text.specs.declared.front.FrontTree.{FrontTree}
use Rattle.front_text.specs.declared.front.FrontOutcome.{FrontOutcome}
use Rattle.front_text.specs.declared.front.FrontCert.{FrontCert}
use Rattle.front_text.specs.declared.front_line.FrontStatement.{FrontStatement}
use Rattle.front_text.specs.declared.front_line.FrontStatement.TheVariants.{Header, Outcome, Point, Tree, Cut, Node, End, Foreign}
use Rattle.front_text.specs.Lines.{front_line_says, begin_front}

-- ---- what some lines state

pub record StatedFront : Type 0 where
  -- how many lines there are
  pub count : ℕ
  -- the outcomes that have their point
  pub outcomes : List FrontOutcome
  -- the values of one whose point is due
  pub waiting : Option (ℤ × ℤ)
  -- the trees behind which another one began
  pub trees : List FrontTree
  -- the last one
  pub last : Option FrontTree
  pub ended : Bool

abbrev pub nothing_stated : StatedFront
nothing_stated = record { count = 0; outcomes = []; waiting = None; trees = []; last = None; ended = false }

-- the point of the values that wait for it
abbrev pub with_point : Option (ℤ × ℤ) → Named → List FrontOutcome
with_point (Some values) named = record { v1 = values.0; v2 = values.1; point = named } ∷ []
with_point None named = []

abbrev pub with_cut : NamedCut → FrontTree → FrontTree
with_cut cut tree = record { of = tree.of; cuts = tree.cuts ++ cut ∷ []; nodes = tree.nodes }

abbrev pub with_node : CertNode → FrontTree → FrontTree
with_node node tree = record { of = tree.of; cuts = tree.cuts; nodes = tree.nodes ++ node ∷ [] }

abbrev pub new_tree : TreeOf → FrontTree
new_tree of = record { of = of; cuts = []; nodes = [] }

abbrev pub in_last : (FrontTree → FrontTree) → Option FrontTree → Option FrontTree
in_last change (Some tree) = Some (change tree)
in_last change None = None

-- what is stated with one more line that says this
abbrev pub with_statement : StatedFront → FrontStatement → StatedFront
with_statement s (Outcome v1 v2) = record { count = s.count + 1; outcomes = s.outcomes; waiting = Some (v1, v2); trees = s.trees; last = s.last; ended = s.ended }
with_statement s (Point named) = record { count = s.count + 1; outcomes = s.outcomes ++ with_point s.waiting named; waiting = None; trees = s.trees; last = s.last; ended = s.ended }
with_statement s (Tree of) = record { count = s.count + 1; outcomes = s.outcomes; waiting = s.waiting; trees = s.trees ++ option_to_list s.last; last = Some (new_tree of); ended = s.ended }
with_statement s (Cut cut) = record { count = s.count + 1; outcomes = s.outcomes; waiting = s.waiting; trees = s.trees; last = in_last (with_cut cut) s.last; ended = s.ended }
with_statement s (Node node) = record { count = s.count + 1; outcomes = s.outcomes; waiting = s.waiting; trees = s.trees; last = in_last (with_node node) s.last; ended = s.ended }
with_statement s End = record { count = s.count + 1; outcomes = s.outcomes; waiting = s.waiting; trees = s.trees; last = s.last; ended = true }
with_statement s Header = record { count = s.count + 1; outcomes = s.outcomes; waiting = s.waiting; trees = s.trees; last = s.last; ended = s.ended }
with_statement s Foreign = record { count = s.count + 1; outcomes = s.outcomes; waiting = s.waiting; trees = s.trees; last = s.last; ended = s.ended }

abbrev pub after_line : StatedFront → Result FrontStatement ℕ → StatedFront
after_line s (Ok statement) = with_statement s statement
after_line s (Err code) = with_statement s Foreign

abbrev pub stated_behind : StatedFront → List (List ℕ) → StatedFront
stated_behind s [] = s
stated_behind s (line ∷ lines) = stated_behind (after_line s (front_line_says line)) lines

unfoldable pub stated_front : List (List ℕ) → StatedFront
stated_front lines = stated_behind nothing_stated lines

-- ---- order

-- what follows a tree stands behind one whole tree of nodes
abbrev pub tree_end_code : Option FrontTree → Option ℕ
tree_end_code None = None
tree_end_code (Some tree) = if are_none tree.nodes then Some 6 else if is_whole_tree tree.nodes then None else Some 7

-- an outcome stands before all trees, and behind the point of the one before
abbrev pub outcome_code : StatedFront → Option ℕ
outcome_code s = if is_some s.waiting || is_some s.last then Some 6 else None

abbrev pub point_code : StatedFront → Option ℕ
point_code s = if is_some s.waiting then None else Some 6

-- a tree and the end stand behind an outcome at least and its point, and behind the whole tree before
abbrev pub part_code : StatedFront → Option ℕ
part_code s = if is_some s.waiting || are_none s.outcomes then Some 6 else tree_end_code s.last

-- a cut stands in a tree, before its nodes
abbrev pub tree_cut_code : Option FrontTree → Option ℕ
tree_cut_code None = Some 6
tree_cut_code (Some tree) = if are_none tree.nodes then None else Some 6

-- a node stands in a tree that is not whole yet
abbrev pub tree_node_code : Option FrontTree → Option ℕ
tree_node_code None = Some 6
tree_node_code (Some tree) = if is_whole_tree tree.nodes then Some 7 else None

-- the code of a statement by what stands before it
abbrev pub front_place_code : StatedFront → FrontStatement → Option ℕ
front_place_code s (Outcome v1 v2) = outcome_code s
front_place_code s (Point named) = point_code s
front_place_code s (Tree of) = part_code s
front_place_code s (Cut cut) = tree_cut_code s.last
front_place_code s (Node node) = tree_node_code s.last
front_place_code s End = part_code s
front_place_code s Header = Some 6
front_place_code s Foreign = Some 6

abbrev pub is_front_header : Result FrontStatement ℕ → Bool
is_front_header (Ok Header) = true
is_front_header said = false

abbrev pub front_said_code : StatedFront → Result FrontStatement ℕ → Option ℕ
front_said_code s (Ok statement) = front_place_code s statement
front_said_code s (Err code) = Some code

-- the code of a line behind what is stated, if it has one
abbrev pub front_code_in : StatedFront → Result FrontStatement ℕ → Option ℕ
front_code_in s said =
    if s.count == 0 then (if is_front_header said then None else Some 1)
    else if s.ended then Some 8
    else front_said_code s said

-- the code of what is missing where the text ends behind what is stated
abbrev pub front_end_code : StatedFront → Option ℕ
front_end_code s =
    if s.count == 0 then Some 1
    else if s.ended then None
    else Some (or_no_end (part_code s))

-- the code of line k of some, the first being line 0
unfoldable pub front_code_at : List (List ℕ) → ℕ → Option ℕ
front_code_at lines k = front_code_in (stated_front (take k lines)) (front_line_says (get_or lines k []))

-- the first n lines are without fault
abbrev pub AreFrontClean : List (List ℕ) → ℕ → Type 0
AreFrontClean lines n = (k : ℕ) → k < n → front_code_at lines k ≡ None

-- ---- meaning and faults

abbrev pub stated_front_cert : StatedFront → FrontCert
stated_front_cert s = record { outcomes = s.outcomes; trees = s.trees ++ option_to_list s.last }

-- the certificate of a front that lines state
pub record StateFront (lines : List (List ℕ)) (cert : FrontCert) : Type 0 where
  pub clean : AreFrontClean lines (length lines)
  pub ended : front_end_code (stated_front lines) ≡ None
  pub is : cert ≡ stated_front_cert (stated_front lines)

-- the first faulty line, from 1, and its least code
pub data HaveFrontFault (lines : List (List ℕ)) (line code : ℕ) : Type 0 where
  OnLine : (k : ℕ) → k < length lines → AreFrontClean lines k → front_code_at lines k ≡ Some code → line ≡ suc k → HaveFrontFault lines line code
  AtEnd : AreFrontClean lines (length lines) → front_end_code (stated_front lines) ≡ Some code → line ≡ suc (length lines) → HaveFrontFault lines line code

-- the certificate of a front that the text states
abbrev pub MeantFront : List ℕ → FrontCert → Type 0
MeantFront text cert = StateFront (line_bytes text) cert

abbrev pub FaultyFront : List ℕ → ℕ → ℕ → Type 0
FaultyFront text line code = HaveFrontFault (line_bytes text) line code

-- the first word of the text's first line is `front`
abbrev pub is_front_text : List ℕ → Bool
is_front_text text = begin_front (line_bytes text)
