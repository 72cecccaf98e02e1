-- What each reply says for sure. Want of memory alone is free: where a cause holds, the reply is its line or `error 90 memory`.
use Rattle.std.specs.Prelude.{◌≡◌, ◌≢◌, ◌⊎◌, ℕ, ◌≤◌, List, Some, IfSome}
use Rattle.command_words.specs.declared.options.SearchOptions.{SearchOptions}
use Rattle.lp_model.specs.Program.{Point, value}
use Rattle.sound_searches.specs.Laws.{HasNoOpenLeaf}
use Rattle.sound_searches.specs.Sound.{PlainSearch}
use Rattle.tree_search.specs.Enough.{IsEnough, IsKeptEnough}
use Rattle.tree_search.specs.Solves.{Solved}
use Rattle.kept_env.specs.Env.{IsEnv, model_of, pool_in}
use Rattle.command_words.specs.Asks.{Asks, Solve, Warm, McSolve, Restore, Bound, asks_of}
use Rattle.command_words.specs.declared.words.OptimumBound.{OptimumBound}
use Rattle.command_words.specs.declared.words.NewNumbers.{NewNumbers}
use Rattle.reply_texts.specs.Texts.{ok_text, bound_text, memory_text}
use Rattle.command_family.specs.Kinds.{Kind, Is, IsError}
use Rattle.command_family.specs.State.{ShellState, HasScriptModel}
use Rattle.bound_commands.specs.Bounding.{IsAtOptimum}
use Rattle.search_replies.specs.Showing.{EndsBy}
use Rattle.search_replies.specs.Workers.{worker_limit}
use Rattle.search_replies.specs.Solve.{limits_of}
use Rattle.search_replies.specs.Warming.{WentOn, TellsAgain, TellsNoEnd, TellsWithinAgain}
use Rattle.front_search.specs.Completeness.{IsFrontEnough}
use Rattle.front_commands.specs.Answering.{front_limits}
use Rattle.front_commands.specs.Fronts.{EndsFront}
use Rattle.sym_shell.specs.Step.{in_family, Step}
use Rattle.bound_commands.specs.Family.{BoundRead}
use Rattle.sym_shell.specs.Headline.{Headline}
use Rattle.sym_shell.specs.Kept.{HasSoundSearch, HasClosedSearch}

-- what a reply of a kind to what is asked says for sure, as the family has it that answers
abbrev pub cause_in : Asks → Kind → ShellState → List ℕ → ShellState → Type 0
cause_in asks kind old reply new = (in_family asks).family.CauseOf (in_family asks).asks kind old reply new

abbrev pub CauseOf : Kind → ShellState → List (List ℕ) → List ℕ → ShellState → Type 0
CauseOf kind old words reply new = cause_in (asks_of words) kind old reply new

pub record HasCauses (old : ShellState) (words : List (List ℕ)) (reply : List ℕ) (new : ShellState) : Type 0 where
  -- each reply is of one of the kinds
  pub kind : Kind
  pub is : Is kind reply
  -- and whatever kind its bytes are of, that kind's cause holds
  pub only : (k : Kind) → Is k reply → CauseOf k old words reply new
  -- which comes, whatever family answers, to what the product promises
  pub headline : Headline old words reply new
  -- completeness, for any number of workers that there may be: a search with enough of all, its cuts in the end counted, ends with an answer
  pub complete : (S : PlainSearch) (options : SearchOptions) → options.workers ≤ worker_limit → asks_of words ≡ Solve options → old.env.search ≡ Some S → IsEnough S.model (pool_in new.env.search) (limits_of options)
      → EndsBy (Solved S.model (limits_of options)) S.model (limits_of options) reply new.env
  pub complete_warm : (S : PlainSearch) (options : SearchOptions) → options.workers ≤ worker_limit → asks_of words ≡ Warm options → old.env.search ≡ Some S → IsKeptEnough S (pool_in new.env.search) (limits_of options)
      → EndsBy (WentOn S (limits_of options)) S.model (limits_of options) reply new.env
  -- `warm` after a search that closed every leaf places no result
  pub again : (S : PlainSearch) (options : SearchOptions) → options.workers ≤ worker_limit → asks_of words ≡ Warm options → old.env.search ≡ Some S → TellsAgain S reply
  -- nor does it with a gap within which the search that is kept is
  pub again_within : (S : PlainSearch) (options : SearchOptions) → options.workers ≤ worker_limit → asks_of words ≡ Warm options → old.env.search ≡ Some S → TellsWithinAgain S (limits_of options) reply
  -- where its ray phase finds a ray beside a kept point, the objective has no end, and `warm` places no result
  pub beside_ray : (S : PlainSearch) (options : SearchOptions) → options.workers ≤ worker_limit → asks_of words ≡ Warm options → old.env.search ≡ Some S → TellsNoEnd S (limits_of options) reply
  -- completeness of `mcsolve`: where the limits are enough for each part that is due when at most n results are placed, it ends with a whole front,
  -- or none, or for want of memory, or it has placed more; and the search that is kept stays, with its tree and its points
  pub complete_front : (S : PlainSearch) (nodes pivots n : ℕ) → asks_of words ≡ McSolve nodes pivots → old.env.search ≡ Some S → IsFrontEnough (front_limits nodes pivots) S.model n
      → EndsFront S (front_limits nodes pivots) n reply new.env
  pub beside_front : (nodes pivots : ℕ) → asks_of words ≡ McSolve nodes pivots → new.env.search ≡ old.env.search
  -- a bound at the sides, or at the costs, that stand is the best value, right after a search has found it and closed every leaf
  pub exact : (which : OptimumBound) (numbers : NewNumbers) (behind : List (List ℕ)) → asks_of words ≡ Bound which numbers behind
      → (x : Point) (read : BoundRead old behind (λ S named. IsAtOptimum numbers S named x)) → (reply ≡ bound_text (Some (value read.search.model 1 x))) ⊎ (reply ≡ memory_text)
  -- a command of bounds changes nothing
  pub bounds : (which : OptimumBound) (numbers : NewNumbers) (behind : List (List ℕ)) → asks_of words ≡ Bound which numbers behind → new ≡ old
  -- every reply but `ok` leaves the model
  pub kept : reply ≢ ok_text → model_of new.env ≡ model_of old.env
  -- an error, but for want of memory, leaves the environment; and so does that, but in `solve`, `warm` and `mcsolve`
  pub refused : (k : Kind) → IsError k → Is k reply → new.env ≡ old.env
  pub wanted : reply ≡ memory_text → ((options : SearchOptions) → asks_of words ≢ Solve options) → ((options : SearchOptions) → asks_of words ≢ Warm options) → ((nodes pivots : ℕ) → asks_of words ≢ McSolve nodes pivots) → new.env ≡ old.env

-- A step, which says what each command may be answered, and what the reply says for sure. Whatever was answered, what the environment has from
-- then on is sound.
pub record IsAnswered (old : ShellState) (words : List (List ℕ)) (reply : List ℕ) (new : ShellState) : Type 0 where
  pub step : Step old words reply new
  pub causes : HasCauses old words reply new
  -- cuts count exactly where they derive, leaves are judged by such cuts, points are feasible
  pub sound : HasSoundSearch new.env
  -- an answer is held only of a search without an open leaf, or of one within a gap, or of one with a point beside a ray, or by a certificate
  -- that the checker accepts
  pub held : IsEnv new.env
  -- the model, if there is one, is one that scripts may have: its names are words, its bounds are near, and it is not widened
  pub script : HasScriptModel new.env
  -- a search without an open leaf that was saved has none after it is restored, so that `warm` places no result then (`again`)
  pub restored : (file : List ℕ) (S : PlainSearch) → asks_of words ≡ Restore file → HasClosedSearch old.files file S → reply ≡ ok_text → IfSome new.env.search HasNoOpenLeaf
