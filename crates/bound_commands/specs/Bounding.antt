-- What `lbrhs`, `lbobj`, `ubrhs` and `ubobj` may be answered: a bound on the best value that the model would have with other sides, or with
-- other costs, from the tree or from the points that are kept. Nothing is solved, and nothing changes.
--     asked_model numbers M named     the model with the numbers beside the names: for the sides of rows, or as the costs of columns
use Rattle.std.specs.Prelude.{◌≡◌, ◌⊎◌, ℕ, List, Option, Some, None}
use Rattle.lp_model.specs.Edits.{Named}
use Rattle.lp_model.specs.Program.{Program, Point, value}
use Rattle.model_edits.specs.Faults.{IsFirstUnknown}
use Rattle.sound_searches.specs.Laws.{HasNoOpenLeaf}
use Rattle.search_parts.specs.Points.{IsIncumbent}
use Rattle.sound_searches.specs.Sound.{PlainSearch}
use Rattle.dual_bounds.specs.Laws.{IsTrueLowerBound, IsTrueUpperBound}
use Rattle.dual_bounds.specs.NewNumbers.{with_new_numbers, ArePresentNumbers}
use Rattle.dual_bounds.specs.TreeBounds.{IsTreeBoundAt, IsPointBound}
use Rattle.dual_bounds.specs.declared.answers.LowerBound.{LowerBound}
use Rattle.dual_bounds.specs.declared.answers.UpperBound.{UpperBound}
use Rattle.kept_env.specs.Env.{PlainEnv}
use Rattle.command_words.specs.declared.words.OptimumBound.{OptimumBound}
use Rattle.command_words.specs.declared.words.OptimumBound.TheVariants.{Lower, Upper}
use Rattle.command_words.specs.declared.words.NewNumbers.{NewNumbers}
use Rattle.command_words.specs.declared.words.NewNumbers.TheVariants.{Sides}
use Rattle.edit_words.specs.EditWords.{EntriesAsk, AreRead, AreMisused, HasNoNumber, names_in}
use Rattle.reply_texts.specs.Texts.{arguments_text, no_model_text, number_text, unknown_name_text, sides_text, bound_text, memory_text}
use Rattle.shell_replies.specs.Names.{placed_numbers, names_for, AreThere, IsFirstTwoSided, HaveOneNumber}
use Rattle.shell_replies.specs.Bounds.{IsLowerTold, IsUpperTold}
use Rattle.command_family.specs.State.{ShellState}

-- ---- the model that is asked about

abbrev pub asked_model : NewNumbers → Program → Named → Program
asked_model numbers M named = with_new_numbers M (placed_numbers numbers M named)

-- the numbers are those that stand
abbrev pub ArePresent : NewNumbers → Program → Named → Type 0
ArePresent numbers M named = ArePresentNumbers M (placed_numbers numbers M named)

-- ---- what a reply shows

-- The reply is the bound of the kept tree at the model M, each kept cut derived again there, with its exact cause. No feasible point of M has a
-- lower value in least form than the bound's, and M has none where the reply says so.
pub record TellsLower (S : PlainSearch) (M : Program) (reply : List ℕ) : Type 0 where
  pub bound : LowerBound
  pub is : IsTreeBoundAt M S.cuts S.tree.root bound
  pub holds : IsTrueLowerBound M bound
  pub told : IsLowerTold S.model bound reply

-- The reply is the least value of the kept points that are feasible in M, which is that of a feasible point of M; or there are none.
pub record TellsUpper (S : PlainSearch) (M : Program) (reply : List ℕ) : Type 0 where
  pub bound : UpperBound
  pub is : IsPointBound M S.points bound
  pub holds : IsTrueUpperBound M bound
  pub told : IsUpperTold S.model bound reply

abbrev pub TellsBound : OptimumBound → PlainSearch → Program → List ℕ → Type 0
TellsBound Lower S M reply = TellsLower S M reply
TellsBound Upper S M reply = TellsUpper S M reply

-- at the numbers that stand, after a search that closed every leaf: the value of the point that it found best
abbrev pub IsExact : NewNumbers → PlainSearch → Named → List ℕ → Type 0
IsExact numbers S named reply = ArePresent numbers S.model named → HasNoOpenLeaf S → (x : Point) → IsIncumbent S.model S.points (Some x) → reply ≡ bound_text (Some (value S.model 1 x))

-- the numbers are those that stand, and a search that closed every leaf found x best: so it is right after `optimal` has shown x
pub record IsAtOptimum (numbers : NewNumbers) (S : PlainSearch) (named : Named) (x : Point) : Type 0 where
  pub there : AreThere numbers S.model named
  pub one : HaveOneNumber numbers S.model named
  pub present : ArePresent numbers S.model named
  pub closed : HasNoOpenLeaf S
  pub best : IsIncumbent S.model S.points (Some x)

-- ---- answers

-- the first fault of the line; or the bound; or there was no memory
pub data AnswersBound (which : OptimumBound) (numbers : NewNumbers) (S : PlainSearch) (named : Named) (reply : List ℕ) : Type 0 where
  Unknown : (name : List ℕ) → IsFirstUnknown (names_for numbers S.model) (names_in named) name → reply ≡ unknown_name_text name → AnswersBound which numbers S named reply
  TwoSided : (name : List ℕ) → numbers ≡ Sides → AreThere numbers S.model named → IsFirstTwoSided S.model (names_in named) name → reply ≡ sides_text name → AnswersBound which numbers S named reply
  Told : AreThere numbers S.model named → HaveOneNumber numbers S.model named → TellsBound which S (asked_model numbers S.model named) reply → IsExact numbers S named reply
      → AnswersBound which numbers S named reply
  Wanting : reply ≡ memory_text → AnswersBound which numbers S named reply

-- of the environment's search, if there is one
abbrev pub RepliesToNumbers : OptimumBound → NewNumbers → Option PlainSearch → Named → List ℕ → Type 0
RepliesToNumbers which numbers None named reply = (reply ≡ no_model_text) ⊎ (reply ≡ memory_text)
RepliesToNumbers which numbers (Some S) named reply = AnswersBound which numbers S named reply

-- by what the words behind the command ask for: their own faults come first
abbrev pub RepliesToPairs : OptimumBound → NewNumbers → EntriesAsk → PlainEnv → List ℕ → Type 0
RepliesToPairs which numbers (AreRead named) env reply = RepliesToNumbers which numbers env.search named reply
RepliesToPairs which numbers AreMisused env reply = (reply ≡ arguments_text) ⊎ (reply ≡ memory_text)
RepliesToPairs which numbers (HasNoNumber word) env reply = (reply ≡ number_text word) ⊎ (reply ≡ memory_text)

-- nothing changes
pub record BoundStep (old : ShellState) (which : OptimumBound) (numbers : NewNumbers) (asks : EntriesAsk) (reply : List ℕ) (new : ShellState) : Type 0 where
  pub unchanged : new ≡ old
  pub answer : RepliesToPairs which numbers asks old.env reply
