-- The headline: what the product promises, reply by reply, in one place. By its first bytes each reply is of one kind; here stands for each kind
-- which commands may be answered so, and that the family which answers them says for sure what its cause for this kind is. Each cause stands
-- once, in specs/Family of the family's crate:
--     SearchCause, FrontCause, BoundCause, FileCause, ChangeCause, CertCause, OwnCause
-- They speak of what the line asks, of the state before and after, and of the reply's bytes.
use Rattle.std.specs.Prelude.{◌≡◌, ◌⊎◌, ℕ, List}
use Rattle.reply_texts.specs.Texts.{memory_text}
use Rattle.command_family.specs.Kinds.{Kind, Optimal, Within, Infeasible, Unbounded, StoppedNodes, StoppedTree, StoppedPivots, StoppedWide, CompleteFront, FrontPart, BoundShown, Done, UnknownCommand, WrongArguments, NoModel, UnknownName, TakenName, WrongNumber, OverLimit, NoBounds, BadSides, NotWhole, NoAnswer, StoreFailed, FileTooLong, FaultyText, FaultySearch, WantsMemory, Is}
use Rattle.command_family.specs.State.{ShellState}
use Rattle.file_commands.specs.Family.{FileCause}
use Rattle.edit_commands.specs.Family.{ChangeCause}
use Rattle.bound_commands.specs.Family.{BoundsCause}
use Rattle.cert_commands.specs.Family.{CertsCause}
use Rattle.search_replies.specs.Family.{SearchCause}
use Rattle.front_commands.specs.Family.{FrontCause}
use Rattle.sym_shell.specs.Own.{OwnCause}
use Rattle.sym_shell.specs.Step.{IsAsked, filing, changing, bounding, certifying, searching, fronting, remaining}

-- ---- what each family says of a kind, where the words ask one of its commands

-- `solve` or `warm`
abbrev pub BySearch : Kind → ShellState → List (List ℕ) → List ℕ → ShellState → Type 0
BySearch kind old words reply new = IsAsked searching words (λ asks. SearchCause asks kind old reply new)

-- `mcsolve`
abbrev pub ByFront : Kind → ShellState → List (List ℕ) → List ℕ → ShellState → Type 0
ByFront kind old words reply new = IsAsked fronting words (λ asks. FrontCause asks kind old reply new)

-- `lbrhs`, `lbobj`, `ubrhs` or `ubobj`
abbrev pub ByBound : Kind → ShellState → List (List ℕ) → List ℕ → ShellState → Type 0
ByBound kind old words reply new = IsAsked bounding words (λ asks. BoundsCause asks kind old reply new)

-- `load`, `write`, `save` or `restore`
abbrev pub ByFile : Kind → ShellState → List (List ℕ) → List ℕ → ShellState → Type 0
ByFile kind old words reply new = IsAsked filing words (λ asks. FileCause asks kind old reply new)

-- `edit` or `trim`
abbrev pub ByChange : Kind → ShellState → List (List ℕ) → List ℕ → ShellState → Type 0
ByChange kind old words reply new = IsAsked changing words (λ asks. ChangeCause asks kind old reply new)

-- `cert`
abbrev pub ByCert : Kind → ShellState → List (List ℕ) → List ℕ → ShellState → Type 0
ByCert kind old words reply new = IsAsked certifying words (λ asks. CertsCause asks kind old reply new)

-- `quit`, no command at all, or words that have none of their command's forms
abbrev pub ByRest : Kind → ShellState → List (List ℕ) → List ℕ → ShellState → Type 0
ByRest kind old words reply new = IsAsked remaining words (λ asks. OwnCause asks kind old reply new)

-- ---- what a reply of each kind says for sure

abbrev pub Promise : Kind → ShellState → List (List ℕ) → List ℕ → ShellState → Type 0
-- The headline: the point that is shown is an optimum of the model that is present, as it was edited, with its value (ShowsOptimumBy), or no
-- feasible point beats it by more than the gap that is shown (ShowsWithinBy); or that
-- model has no feasible point (ShowsEmptinessBy, ShowsNoFront); or its objective has no end (ShowsNoEndBy).
Promise Optimal old words reply new = BySearch Optimal old words reply new
Promise Within old words reply new = BySearch Within old words reply new
Promise Infeasible old words reply new = BySearch Infeasible old words reply new ⊎ ByFront Infeasible old words reply new
Promise Unbounded old words reply new = BySearch Unbounded old words reply new
-- what is known where a search stopped, and why it stopped: no feasible point is better than the bound that is told, and some feasible point has
-- the best value (ShowsStopBy)
Promise StoppedNodes old words reply new = BySearch StoppedNodes old words reply new
Promise StoppedTree old words reply new = BySearch StoppedTree old words reply new
Promise StoppedPivots old words reply new = BySearch StoppedPivots old words reply new
Promise StoppedWide old words reply new = BySearch StoppedWide old words reply new
-- the outcomes that are shown are exactly those of the model that is present, as it was edited, that no feasible outcome dominates, each once, by
-- rising first value (ShowsFront); or each of them is one of those, and why there are no more is told (ShowsStoppedFront, ShowsWideFront)
Promise CompleteFront old words reply new = ByFront CompleteFront old words reply new
Promise FrontPart old words reply new = ByFront FrontPart old words reply new
-- the bound that the kept tree, or the kept points, give of the model with the numbers that the line names: no feasible point of it is better
-- than a lower one, and some feasible point has an upper one (TellsBound)
Promise BoundShown old words reply new = ByBound BoundShown old words reply new
-- The model that the file's text means is present from now on (Loads); or the file has the canonical text of the model that is present
-- (IsModelText), or the text of the search (IsTextOf); or the search that the file's text states is present (RestoresFile). Or the file has a
-- text that states a certificate which the checker accepts for the model that is present (IsHeldText). Or the model that was present is edited,
-- the search follows, and no answer is held (EditsTo); or its tree is trimmed (TrimsTo). Or the script ends.
Promise Done old words reply new = ByFile Done old words reply new ⊎ ByCert Done old words reply new ⊎ ByChange Done old words reply new ⊎ ByRest Done old words reply new
-- the words are none that a command has, or the first that is no number stands in a number's place
Promise UnknownCommand old words reply new = ByRest UnknownCommand old words reply new
Promise WrongArguments old words reply new = ByRest WrongArguments old words reply new ⊎ ByChange WrongArguments old words reply new ⊎ ByBound WrongArguments old words reply new
Promise WrongNumber old words reply new = ByRest WrongNumber old words reply new ⊎ ByChange WrongNumber old words reply new ⊎ ByBound WrongNumber old words reply new
-- no model is present, and the command needs one
Promise NoModel old words reply new =
    BySearch NoModel old words reply new ⊎ ByFile NoModel old words reply new ⊎ ByCert NoModel old words reply new ⊎ ByChange NoModel old words reply new ⊎ ByBound NoModel old words reply new ⊎ ByFront NoModel old words reply new
-- the first fault of an edit (EditBad), or of a line that asks for a bound; or more workers are asked for than there may be (IsCrowd)
Promise UnknownName old words reply new = ByChange UnknownName old words reply new ⊎ ByBound UnknownName old words reply new
Promise TakenName old words reply new = ByChange TakenName old words reply new
Promise OverLimit old words reply new = ByChange OverLimit old words reply new ⊎ BySearch OverLimit old words reply new
Promise NoBounds old words reply new = ByChange NoBounds old words reply new
Promise BadSides old words reply new = ByChange BadSides old words reply new ⊎ ByBound BadSides old words reply new
-- an objective is not whole, and `mcsolve` asks for the outcomes of both (ShowsNotWhole)
Promise NotWhole old words reply new = ByFront NotWhole old words reply new
-- there is a model, and no answer is held
Promise NoAnswer old words reply new = ByCert NoAnswer old words reply new
-- the store has failed, or has no such file; the file, or the text that is to be written, is too long
Promise StoreFailed old words reply new = ByFile StoreFailed old words reply new ⊎ ByCert StoreFailed old words reply new
Promise FileTooLong old words reply new = ByFile FileTooLong old words reply new ⊎ ByCert FileTooLong old words reply new
-- the first fault of the file's text
Promise FaultyText old words reply new = ByFile FaultyText old words reply new
Promise FaultySearch old words reply new = ByFile FaultySearch old words reply new
Promise WantsMemory old words reply new = reply ≡ memory_text

-- whatever kind the reply's bytes are of, that is what it says for sure
pub record Headline (old : ShellState) (words : List (List ℕ)) (reply : List ℕ) (new : ShellState) : Type 0 where
  pub only : (k : Kind) → Is k reply → Promise k old words reply new
