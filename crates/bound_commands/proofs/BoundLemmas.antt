-- What the reply to a command of bounds shows.
use Rattle.std.proofs.Common.{◌≡◌, ◌∷◌, ℕ, List, [], ◌++◌, refl, subst, sym, ap, ◌∙◌, inl, inr, Option, Some, None, Ok, Err, Result}
use Rattle.std.specs.Prelude.{IfOk}
use Rattle.lp_model.specs.Edits.{Named}
use Rattle.lp_model.specs.Program.{Program, value, least_value, in_least_form}
use Rattle.lp_model.proofs.SenseLemmas.{own-least}
use Rattle.sound_searches.specs.Sound.{PlainSearch}
use Rattle.dual_bounds.specs.Laws.{IsTrueLowerBound, IsTrueUpperBound, IsExactLower, IsExactUpper}
use Rattle.dual_bounds.specs.TreeBounds.{IsTreeBoundAt, IsPointBound}
use Rattle.dual_bounds.specs.declared.answers.LowerBound.{LowerBound}
use Rattle.dual_bounds.specs.declared.answers.UpperBound.{UpperBound}
use Rattle.kept_env.specs.Env.{PlainEnv}
use Rattle.command_words.specs.declared.words.OptimumBound.{OptimumBound}
use Rattle.command_words.specs.declared.words.OptimumBound.TheVariants.{Lower, Upper}
use Rattle.command_words.specs.declared.words.NewNumbers.{NewNumbers}
use Rattle.edit_words.specs.EditWords.{EntriesAsk, AreRead, AreMisused, HasNoNumber}
use Rattle.reply_texts.specs.Texts.{bound_text, no_model_text, memory_text}
use Rattle.shell_replies.specs.Names.{AreThere, HaveOneNumber}
use Rattle.shell_replies.specs.Bounds.{ShowsNumber, IsLowerTold, IsUpperTold}
use Rattle.shell_replies.specs.Placing.{name_at, IsUnplaced, IsOnLine, unplaced_text}
use Rattle.shell_replies.specs.declared.placing.Unplaced.{Unplaced}
use Rattle.shell_replies.specs.declared.placing.Unplaced.TheVariants as unplaced
use Rattle.bound_commands.specs.Bounding.{asked_model, ArePresent, AnswersBound, Unknown, TwoSided, Told, Wanting, RepliesToNumbers, RepliesToPairs}
use Rattle.bound_commands.specs.private.Placing.{IsLowerReply, IsUpperReply, IsBestValue, IsBoundReply}

-- a text behind nothing
pub alone : (before after text : List ℕ) → before ≡ [] → after ≡ before ++ text → after ≡ text
alone before after text empty is = is ∙ ap (λ t. t ++ text) empty

-- ---- of a search

-- the number of a bound that is the best value
lower-best : (S : PlainSearch) (bound : LowerBound) (reply : List ℕ) → IsLowerTold S.model bound reply → IsExactLower S bound → IsBestValue S reply
lower-best S bound reply told exact closed x best =
    let shows : ShowsNumber (in_least_form S.model.sense (least_value S.model 1 x)) reply = subst (λ b. IsLowerTold S.model b reply) (exact closed x best) told in
    shows.told ∙ ap (λ w. bound_text (Some w)) (own-least S.model.sense (value S.model 1 x))

upper-best : (S : PlainSearch) (bound : UpperBound) (reply : List ℕ) → IsUpperTold S.model bound reply → IsExactUpper S bound → IsBestValue S reply
upper-best S bound reply told exact closed x best =
    let shows : ShowsNumber (in_least_form S.model.sense (least_value S.model 1 x)) reply = subst (λ b. IsUpperTold S.model b reply) (exact closed x best) told in
    shows.told ∙ ap (λ w. bound_text (Some w)) (own-least S.model.sense (value S.model 1 x))

module _ (S : PlainSearch) (M : Program) (own : Type 0) (reply : List ℕ) where
  pub lower-told : {E : Type 0} (answer : Result LowerBound E) → IfOk answer (λ bound. IsTreeBoundAt M S.cuts S.tree.root bound) → IfOk answer (λ bound. IsTrueLowerBound M bound) → IfOk answer (λ bound. own → IsExactLower S bound)
      → IsLowerReply S.model answer reply → IsBoundReply Lower S M own reply
  lower-told (Ok bound) is holds exact told = inl (record { bound = bound; is = is; holds = holds; told = told }, λ it. lower-best S bound reply told (exact it))
  lower-told (Err e) is holds exact told = inr told

  pub upper-told : {E : Type 0} (answer : Result UpperBound E) → IfOk answer (λ bound. IsPointBound M S.points bound) → IfOk answer (λ bound. IsTrueUpperBound M bound) → IfOk answer (λ bound. own → IsExactUpper S bound)
      → IsUpperReply S.model answer reply → IsBoundReply Upper S M own reply
  upper-told (Ok bound) is holds exact told = inl (record { bound = bound; is = is; holds = holds; told = told }, λ it. upper-best S bound reply told (exact it))
  upper-told (Err e) is holds exact told = inr told

-- ---- of names with numbers

module _ (S : PlainSearch) (which : OptimumBound) (numbers : NewNumbers) (named : Named) (reply : List ℕ) where
  pub numbers-told : AreThere numbers S.model named → HaveOneNumber numbers S.model named → IsBoundReply which S (asked_model numbers S.model named) (ArePresent numbers S.model named) reply → AnswersBound which numbers S named reply
  numbers-told there one (inl told) = Told there one told.0 told.1
  numbers-told there one (inr memory) = Wanting memory

  pub unplaced-told : (u : Unplaced) → IsUnplaced numbers S.model named u → reply ≡ unplaced_text named u → AnswersBound which numbers S named reply
  unplaced-told (unplaced.Unknown k) h told = Unknown (name_at named k) h.1 told
  unplaced-told (unplaced.TwoSided k) h told = TwoSided (name_at named k) h.1 h.2 h.3 told
  unplaced-told unplaced.Memory h told = Wanting told

pub on-line : (numbers : NewNumbers) (M : Program) (named : Named) (u : Unplaced) → IsUnplaced numbers M named u → IsOnLine named u
on-line numbers M named (unplaced.Unknown k) h = h.0
on-line numbers M named (unplaced.TwoSided k) h = h.0
on-line numbers M named unplaced.Memory h = tt

-- ---- of the environment's search, if there is one

pub none-told : (which : OptimumBound) (numbers : NewNumbers) (search : Option PlainSearch) (named : Named) (reply : List ℕ) → search ≡ None → reply ≡ no_model_text → RepliesToNumbers which numbers search named reply
none-told which numbers search named reply none told = subst (λ s. RepliesToNumbers which numbers s named reply) (sym none) (inl told)

pub some-told : (which : OptimumBound) (numbers : NewNumbers) (search : Option PlainSearch) (S : PlainSearch) (named : Named) (reply : List ℕ) → search ≡ Some S → AnswersBound which numbers S named reply
    → RepliesToNumbers which numbers search named reply
some-told which numbers search S named reply present h = subst (λ s. RepliesToNumbers which numbers s named reply) (sym present) h

-- ---- where memory was wanting

numbers-untold : (which : OptimumBound) (numbers : NewNumbers) (search : Option PlainSearch) (named : Named) → RepliesToNumbers which numbers search named memory_text
numbers-untold which numbers None named = inr refl
numbers-untold which numbers (Some S) named = Wanting refl

pub pairs-untold : (which : OptimumBound) (numbers : NewNumbers) (asks : EntriesAsk) (env : PlainEnv) → RepliesToPairs which numbers asks env memory_text
pairs-untold which numbers (AreRead named) env = numbers-untold which numbers env.search named
pairs-untold which numbers AreMisused env = inr refl
pairs-untold which numbers (HasNoNumber word) env = inr refl
