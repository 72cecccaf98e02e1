-- The command that looks for the front of the model: `mcsolve [nodes N] [pivots N]`.
use Rattle.std.specs.Prelude.{◌≡◌, ◌⊎◌, ℕ, List, Some, None}
use Rattle.sound_searches.specs.Sound.{PlainSearch}
use Rattle.tree_search.specs.declared.limits.Limits.{Limits}
use Rattle.front_search.specs.Completeness.{IsFrontEnough}
use Rattle.reply_texts.specs.Texts.{no_model_text, memory_text}
use Rattle.command_family.specs.Family.{Family}
use Rattle.command_family.specs.Kinds.{Kind, CompleteFront, FrontPart, Infeasible, NotWhole, NoModel, WantsMemory}
use Rattle.command_family.specs.State.{ShellState}
use Rattle.front_commands.specs.Answering.{front_limits}
use Rattle.front_commands.specs.Fronts.{ShowsFront, ShowsNoFront, ShowsStoppedFront, ShowsWideFront, ShowsNotWhole, FrontStep, EndsFront}

pub data FrontAsks : Type 0 where
  -- the front of the model that is present, by searches that place so many results together and make so many simplex steps in each relaxation
  McSolve : (nodes pivots : ℕ) → FrontAsks

abbrev pub FrontsStep : FrontAsks → ShellState → List ℕ → ShellState → Type 0
FrontsStep (McSolve nodes pivots) old reply new = FrontStep old nodes pivots reply new

abbrev pub limits_in : FrontAsks → Limits
limits_in (McSolve nodes pivots) = front_limits nodes pivots

-- ---- causes

-- the environment has a search, and P of it and of the limits
pub record FrontAsked (asks : FrontAsks) (old : ShellState) (P : PlainSearch → Limits → Type 0) : Type 0 where
  pub search : PlainSearch
  pub present : old.env.search ≡ Some search
  pub is : P search (limits_in asks)

-- what a reply to `mcsolve` says for sure
abbrev pub FrontCause : FrontAsks → Kind → ShellState → List ℕ → ShellState → Type 0
-- the headline: the outcomes that are shown are exactly the nondominated ones of the model that is present, each once, in order; or each of them
-- is one, and why there are no more; or no point is feasible
FrontCause asks CompleteFront old reply new = FrontAsked asks old (λ S l. ShowsFront S reply new.env)
FrontCause asks FrontPart old reply new = FrontAsked asks old (λ S l. ShowsStoppedFront S l reply new.env ⊎ ShowsWideFront S l reply new.env)
FrontCause asks Infeasible old reply new = FrontAsked asks old (λ S l. ShowsNoFront S l reply new.env)
FrontCause asks NotWhole old reply new = FrontAsked asks old (λ S l. ShowsNotWhole S l reply)
FrontCause asks NoModel old reply new = (reply ≡ no_model_text) × (old.env.search ≡ None)
FrontCause asks WantsMemory old reply new = reply ≡ memory_text
FrontCause asks other old reply new = ⊥

-- where there was no memory, what was held is gone
abbrev pub fronts : Family
fronts = record { Asks = FrontAsks; Step = FrontsStep; CauseOf = FrontCause; Works = λ asks. Unit {0} }

-- ---- how far a search for a front goes

pub record IsFrontComplete (old : ShellState) (reply : List ℕ) (new : ShellState) : Type 0 where
  -- completeness: where the limits are enough for each part that is due when at most n results are placed, the search ends, or has placed more
  pub complete : (S : PlainSearch) (nodes pivots n : ℕ) → FrontStep old nodes pivots reply new → old.env.search ≡ Some S → IsFrontEnough (front_limits nodes pivots) S.model n → EndsFront S (front_limits nodes pivots) n reply new.env
  -- the search that is kept stays, with its tree and its points
  pub beside : (nodes pivots : ℕ) → FrontStep old nodes pivots reply new → new.env.search ≡ old.env.search

abbrev pub FrontCompleteLaw : Type 0
FrontCompleteLaw = (old : ShellState) (reply : List ℕ) (new : ShellState) → IsFrontComplete old reply new
