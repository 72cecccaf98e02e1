-- The commands that bound the best value with other sides or costs: `lbrhs ..`, `lbobj ..`, `ubrhs ..` and `ubobj ..`.
use Rattle.std.specs.Prelude.{◌≡◌, ℕ, List, Some, None}
use Rattle.lp_model.specs.Edits.{Named}
use Rattle.model_edits.specs.Faults.{IsFirstUnknown}
use Rattle.sound_searches.specs.Sound.{PlainSearch}
use Rattle.command_words.specs.declared.words.OptimumBound.{OptimumBound}
use Rattle.command_words.specs.declared.words.NewNumbers.{NewNumbers}
use Rattle.command_words.specs.declared.words.NewNumbers.TheVariants.{Sides}
use Rattle.edit_words.specs.EditWords.{EntriesAsk, AreRead, AreMisused, HasNoNumber, names_in, pairs_asks}
use Rattle.reply_texts.specs.Texts.{arguments_text, no_model_text, number_text, unknown_name_text, sides_text, memory_text}
use Rattle.shell_replies.specs.Names.{names_for, AreThere, IsFirstTwoSided, HaveOneNumber}
use Rattle.command_family.specs.Family.{Family}
use Rattle.command_family.specs.Kinds.{Kind, BoundShown, WrongArguments, NoModel, UnknownName, WrongNumber, BadSides, WantsMemory}
use Rattle.command_family.specs.State.{ShellState}
use Rattle.bound_commands.specs.Bounding.{asked_model, TellsBound, BoundStep}

pub data BoundsAsks : Type 0 where
  -- a bound on the best value that the model has with other sides or costs, which these words behind the command say
  Bound : (which : OptimumBound) (numbers : NewNumbers) (behind : List (List ℕ)) → BoundsAsks

abbrev pub BoundsStep : BoundsAsks → ShellState → List ℕ → ShellState → Type 0
BoundsStep (Bound which numbers behind) old reply new = BoundStep old which numbers (pairs_asks behind) reply new

-- ---- causes

-- names with numbers that the words say, where there is a model, and P of the search that the environment has and of the names with their numbers
pub record BoundRead (old : ShellState) (behind : List (List ℕ)) (P : PlainSearch → Named → Type 0) : Type 0 where
  pub named : Named
  pub search : PlainSearch
  pub reads : pairs_asks behind ≡ AreRead named
  pub present : old.env.search ≡ Some search
  pub is : P search named

-- words behind a command of bounds that are names with numbers
abbrev pub SaysNumbers : EntriesAsk → Type 0
SaysNumbers (AreRead named) = Unit {0}
SaysNumbers AreMisused = ⊥
SaysNumbers (HasNoNumber word) = ⊥

-- what a reply to a command of bounds with these words says for sure
abbrev pub BoundCause : OptimumBound → NewNumbers → List (List ℕ) → Kind → ShellState → List ℕ → Type 0
-- the bound that the kept tree, or the kept points, give of the model with the numbers that the line names: no feasible point of it is better
-- than a lower one, and some feasible point has an upper one
BoundCause which numbers behind BoundShown old reply =
    BoundRead old behind (λ S named. AreThere numbers S.model named × HaveOneNumber numbers S.model named × TellsBound which S (asked_model numbers S.model named) reply)
BoundCause which numbers behind WrongArguments old reply = (pairs_asks behind ≡ AreMisused) × (reply ≡ arguments_text)
BoundCause which numbers behind WrongNumber old reply = (word : List ℕ) × ((pairs_asks behind ≡ HasNoNumber word) × (reply ≡ number_text word))
BoundCause which numbers behind NoModel old reply = SaysNumbers (pairs_asks behind) × ((reply ≡ no_model_text) × (old.env.search ≡ None))
-- the first fault of the line
BoundCause which numbers behind UnknownName old reply =
    (name : List ℕ) × BoundRead old behind (λ S named. IsFirstUnknown (names_for numbers S.model) (names_in named) name × (reply ≡ unknown_name_text name))
BoundCause which numbers behind BadSides old reply =
    (name : List ℕ) × BoundRead old behind (λ S named. (numbers ≡ Sides) × AreThere numbers S.model named × IsFirstTwoSided S.model (names_in named) name × (reply ≡ sides_text name))
BoundCause which numbers behind WantsMemory old reply = reply ≡ memory_text
BoundCause which numbers behind other old reply = ⊥

abbrev pub BoundsCause : BoundsAsks → Kind → ShellState → List ℕ → ShellState → Type 0
BoundsCause (Bound which numbers behind) kind old reply new = BoundCause which numbers behind kind old reply

-- nothing is worked
abbrev pub boundings : Family
boundings = record { Asks = BoundsAsks; Step = BoundsStep; CauseOf = BoundsCause; Works = λ asks. ⊥ }
