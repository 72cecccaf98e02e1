-- The commands that search: `solve` from a fresh root, and `warm` from the search that is kept.
use Rattle.std.specs.Prelude.{◌≡◌, ℕ, ◌<◌, ◌≤◌, List, Some, None}
use Rattle.command_words.specs.declared.options.SearchOptions.{SearchOptions}
use Rattle.lp_model.specs.Program.{Program}
use Rattle.sound_searches.specs.Sound.{PlainSearch}
use Rattle.tree_search.specs.Truth.{IsTooSmall}
use Rattle.tree_search.specs.Enough.{IsEnough, IsKeptEnough}
use Rattle.tree_search.specs.Solves.{Solved}
use Rattle.tree_search.specs.declared.limits.Limits.{Limits}
use Rattle.kept_env.specs.Env.{pool_in}
use Rattle.reply_texts.specs.Texts.{no_model_text, limit_text, memory_text}
use Rattle.command_family.specs.Family.{Family}
use Rattle.command_family.specs.Kinds.{Kind, Optimal, Within, Infeasible, Unbounded, StoppedNodes, StoppedTree, StoppedPivots, StoppedWide, NoModel, OverLimit, WantsMemory}
use Rattle.command_family.specs.State.{ShellState}
use Rattle.search_replies.specs.Showing.{Finding, ShowsOptimumBy, ShowsWithinBy, ShowsEmptinessBy, ShowsNoEndBy, ShowsNodeStopBy, ShowsTreeStopBy, ShowsPivotStopBy, ShowsWideStopBy, EndsBy}
use Rattle.search_replies.specs.Workers.{worker_limit}
use Rattle.search_replies.specs.Solve.{limits_of, HasFewNodes, SolveStep}
use Rattle.search_replies.specs.Warming.{WentOn, TellsAgain, TellsWithinAgain, TellsNoEnd, WarmStep}

pub data SearchAsks : Type 0 where
  -- the model that is present, from a fresh root
  Solve : (options : SearchOptions) → SearchAsks
  -- the search that is kept, from where it stands
  Warm : (options : SearchOptions) → SearchAsks

abbrev pub SearchStep : SearchAsks → ShellState → List ℕ → ShellState → Type 0
SearchStep (Solve options) old reply new = SolveStep old options reply new
SearchStep (Warm options) old reply new = WarmStep old options reply new

-- ---- causes

abbrev pub options_in : SearchAsks → SearchOptions
options_in (Solve options) = options
options_in (Warm options) = options

-- more workers are asked for than there may be, of a model that is present
pub record IsCrowd (options : SearchOptions) (old : ShellState) (reply : List ℕ) : Type 0 where
  pub search : PlainSearch
  pub present : old.env.search ≡ Some search
  pub many : worker_limit < options.workers
  pub told : reply ≡ limit_text worker_limit

-- a search with these options, which has its workers, finds the search that the environment has, and P of both
pub record SearchAsked (options : SearchOptions) (old : ShellState) (P : PlainSearch → Limits → Type 0) : Type 0 where
  pub search : PlainSearch
  pub present : old.env.search ≡ Some search
  pub few : options.workers ≤ worker_limit
  pub is : P search (limits_of options)

-- what is said of a search of a model that may go so far, by how it was had, what had been enough for it, and what it means that its tree was too small
abbrev pub OfSearch : Type 1
OfSearch = Finding → (Enough Small : Type 0) → Program → Limits → Type 0

-- `solve` from a fresh root, or `warm` from the search that is kept, and P of it
abbrev pub Searched : SearchAsks → ShellState → ShellState → OfSearch → Type 0
Searched (Solve options) old new P = SearchAsked options old (λ S l. P (Solved S.model l) (IsEnough S.model (pool_in new.env.search) l) (HasFewNodes S.model l) S.model l)
Searched (Warm options) old new P = SearchAsked options old (λ S l. P (WentOn S l) (IsKeptEnough S (pool_in new.env.search) l) (IsTooSmall S l) S.model l)

-- what a reply to `solve` or `warm` says for sure
abbrev pub SearchCause : SearchAsks → Kind → ShellState → List ℕ → ShellState → Type 0
-- the headline: what is shown is an optimum of the model that is present, as it was edited, or within the gap of one; or it has no feasible
-- point, or its objective has no end
SearchCause asks Optimal old reply new = Searched asks old new (λ Found Enough Small M l. ShowsOptimumBy Found M l reply new.env)
SearchCause asks Within old reply new = Searched asks old new (λ Found Enough Small M l. ShowsWithinBy Found M l reply new.env)
SearchCause asks Infeasible old reply new = Searched asks old new (λ Found Enough Small M l. ShowsEmptinessBy Found M l reply new.env)
SearchCause asks Unbounded old reply new = Searched asks old new (λ Found Enough Small M l. ShowsNoEndBy Found M l reply new.env)
-- what is known where a search stopped, and why it stopped
SearchCause asks StoppedNodes old reply new = Searched asks old new (λ Found Enough Small M l. ShowsNodeStopBy Found Enough M l reply new.env)
SearchCause asks StoppedTree old reply new = Searched asks old new (λ Found Enough Small M l. ShowsTreeStopBy Found Enough Small M l reply new.env)
SearchCause asks StoppedPivots old reply new = Searched asks old new (λ Found Enough Small M l. ShowsPivotStopBy Found Enough M l reply new.env)
SearchCause asks StoppedWide old reply new = Searched asks old new (λ Found Enough Small M l. ShowsWideStopBy Found Enough M l reply new.env)
-- why no search was made
SearchCause asks OverLimit old reply new = IsCrowd (options_in asks) old reply
SearchCause asks NoModel old reply new = (reply ≡ no_model_text) × (old.env.search ≡ None)
SearchCause asks WantsMemory old reply new = reply ≡ memory_text
SearchCause asks other old reply new = ⊥

-- where there was no memory, the search may have the results that were placed
abbrev pub searches : Family
searches = record { Asks = SearchAsks; Step = SearchStep; CauseOf = SearchCause; Works = λ asks. Unit {0} }

-- ---- how far a search goes

pub record IsComplete (old : ShellState) (reply : List ℕ) (new : ShellState) : Type 0 where
  -- completeness: a search with enough of all, its cuts in the end counted, ends with an answer
  pub complete : (S : PlainSearch) (options : SearchOptions) → options.workers ≤ worker_limit → SearchStep (Solve options) old reply new → old.env.search ≡ Some S → IsEnough S.model (pool_in new.env.search) (limits_of options)
      → EndsBy (Solved S.model (limits_of options)) S.model (limits_of options) reply new.env
  pub complete_warm : (S : PlainSearch) (options : SearchOptions) → options.workers ≤ worker_limit → SearchStep (Warm options) old reply new → old.env.search ≡ Some S → IsKeptEnough S (pool_in new.env.search) (limits_of options)
      → EndsBy (WentOn S (limits_of options)) S.model (limits_of options) reply new.env
  -- `warm` after a search that closed every leaf places no result
  pub again : (S : PlainSearch) (options : SearchOptions) → options.workers ≤ worker_limit → SearchStep (Warm options) old reply new → old.env.search ≡ Some S → TellsAgain S reply
  -- nor does it with a gap within which the search that is kept is
  pub again_within : (S : PlainSearch) (options : SearchOptions) → options.workers ≤ worker_limit → SearchStep (Warm options) old reply new → old.env.search ≡ Some S → TellsWithinAgain S (limits_of options) reply
  -- where its ray phase finds a ray beside a kept point, the objective has no end, and `warm` places no result
  pub beside_ray : (S : PlainSearch) (options : SearchOptions) → options.workers ≤ worker_limit → SearchStep (Warm options) old reply new → old.env.search ≡ Some S → TellsNoEnd S (limits_of options) reply

-- whatever the state, and whatever was answered
abbrev pub CompleteLaw : Type 0
CompleteLaw = (old : ShellState) (reply : List ℕ) (new : ShellState) → IsComplete old reply new
