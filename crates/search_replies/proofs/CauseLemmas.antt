-- Each reply to `solve` and `warm` has its cause, and what it leaves.
use Rattle.std.proofs.Common.{◌≡◌, ℕ, ◌<◌, ◌≤◌, arith, List, ◌++◌, refl, sym, subst, ap, ◌∙◌, inl, inr, Option, Some, None}
use Rattle.std.specs.Prelude.{codes, decimal}
use Rattle.std.specs.Option.{option_map}
use Rattle.frac128.specs.Rational.{ℚ}
use Rattle.frac128.specs.Printing.{printed}
use Rattle.command_words.specs.declared.options.SearchOptions.{SearchOptions}
use Rattle.lp_model.specs.Program.{Program, value}
use Rattle.search_answers.specs.declared.answers.Answer.{Answer}
use Rattle.search_answers.specs.declared.answers.Answer.TheVariants.{Memory}
use Rattle.sound_searches.specs.Sound.{PlainSearch}
use Rattle.tree_search.specs.Truth.{IsTooSmall}
use Rattle.tree_search.specs.Enough.{IsEnough, IsKeptEnough}
use Rattle.tree_search.specs.Solves.{Solved, SolvesModel}
use Rattle.tree_search.specs.declared.limits.Limits.{Limits}
use Rattle.kept_env.specs.Env.{model_of, pool_in}
use Rattle.kept_env.specs.declared.held.Held.{Held}
use Rattle.reply_texts.specs.Places.{block_text, step_line}
use Rattle.reply_texts.specs.Texts.{column_lines, known_text}
use Rattle.shell_replies.specs.Shown.{point_shown}
use Rattle.command_family.specs.Family.{HasCause, IsLawfulFamily}
use Rattle.command_family.specs.Kinds.{Kind, Optimal, Within, Infeasible, Unbounded, StoppedNodes, StoppedTree, StoppedPivots, StoppedWide, NoModel, OverLimit, WantsMemory, Is, IsError}
use Rattle.command_family.specs.State.{ShellState}
use Rattle.command_family.specs.Unchanged.{IsRefused}
use Rattle.command_family.proofs.ReplyLemmas.{not_error}
use Rattle.search_replies.specs.Showing.{Finding, TellsBy, ShowsOptimumBy, ShowsWithinBy, ShowsEmptinessBy, ShowsNoEndBy, ShowsNodeStopBy, ShowsTreeStopBy, ShowsPivotStopBy, ShowsWideStopBy, AnswersBy, Optimum, Gap, Emptiness, NoEnd, NodeStop, TreeStop, PivotStop, WideStop, Wanting, EndsBy}
use Rattle.search_replies.specs.Workers.{worker_limit, crowd_text}
use Rattle.search_replies.specs.Solve.{limits_of, HasFewNodes, RepliesToSolve}
use Rattle.search_replies.specs.Warming.{WentOn, RepliesToWarm}
use Rattle.search_replies.specs.Family.{SearchAsks, Solve, Warm, SearchStep, options_in, OfSearch, Searched, searches, CompleteLaw}
use Rattle.search_replies.proofs.ReplyLemmas.{solves-model}

-- what follows the first word of an optimum's first line
abbrev value_tail : ℚ → ℕ → List ℕ
value_tail v n = printed v ++ codes " nodes " ++ decimal n ++ codes "\n"

-- and that of a point within a gap
abbrev within_tail : ℚ → ℚ → ℕ → List ℕ
within_tail g v n = printed g ++ codes " " ++ printed v ++ codes " nodes " ++ decimal n ++ codes "\n"

module _ (old : ShellState) (reply : List ℕ) (new : ShellState) where
  -- the bytes of an answer's reply are of its kind
  shown_kind : (Found : Finding) (Left : PlainSearch → Type 0) (Enough Small : Type 0) (M : Program) (l : Limits) → AnswersBy Found Left Enough Small M l reply new.env → (k : Kind) × (Is k reply × ¬ IsError k)
  shown_kind Found Left Enough Small M l (Optimum s) = (Optimal, ((value_tail (value M 1 (point_shown M reply)) s.results ++ column_lines M.cols (point_shown M reply) ++ codes "end\n", s.told.shown), λ e. e))
  shown_kind Found Left Enough Small M l (Gap s) =
      (Within, ((within_tail s.gap (value M 1 (point_shown M reply)) s.results ++ column_lines M.cols (point_shown M reply) ++ codes "end\n", s.told.shown), λ e. e))
  shown_kind Found Left Enough Small M l (Emptiness s) = (Infeasible, ((codes "nodes " ++ decimal s.results ++ codes "\n", s.told.shown), λ e. e))
  shown_kind Found Left Enough Small M l (NoEnd s) = (Unbounded, ((codes "nodes " ++ decimal s.results ++ codes "\n", s.told.shown), λ e. e))
  shown_kind Found Left Enough Small M l (NodeStop s) = (StoppedNodes, ((known_text l.nodes s.bound s.best, s.told.shown), λ e. e))
  shown_kind Found Left Enough Small M l (TreeStop s) = (StoppedTree, ((known_text s.results s.stop.bound s.stop.best, s.stop.told.shown), λ e. e))
  shown_kind Found Left Enough Small M l (PivotStop s) = (StoppedPivots, ((known_text s.results s.stop.bound s.stop.best ++ block_text M s.place.path s.place.cuts s.place.basis ++ codes "end\n", s.stop.told.shown), λ e. e))
  shown_kind Found Left Enough Small M l (WideStop s) =
      (StoppedWide, ((known_text s.results s.stop.bound s.stop.best ++ block_text M s.place.path s.place.cuts s.place.basis ++ step_line M s.place.step ++ codes "end\n", s.stop.told.shown), λ e. e))
  shown_kind Found Left Enough Small M l (Wanting s) = (WantsMemory, ((codes "memory\n", s.told), λ e. e))

  -- what a search shows has its cause, by the command that asked for it
  shows_cause : (asks : SearchAsks) (Found : Finding) (Left : PlainSearch → Type 0) (Enough Small : Type 0) (M : Program) (l : Limits) → ((P : OfSearch) → P Found Enough Small M l → Searched asks old new P) → AnswersBy Found Left Enough Small M l reply new.env → HasCause searches asks old reply new
  unfolding shown_kind
  shows_cause asks Found Left Enough Small M l asked (Optimum s) = record { kind = Optimal; is = (shown_kind Found Left Enough Small M l (Optimum s)).1.0; cause = asked (λ F E T N k. ShowsOptimumBy F N k reply new.env) s }
  shows_cause asks Found Left Enough Small M l asked (Gap s) = record { kind = Within; is = (shown_kind Found Left Enough Small M l (Gap s)).1.0; cause = asked (λ F E T N k. ShowsWithinBy F N k reply new.env) s }
  shows_cause asks Found Left Enough Small M l asked (Emptiness s) = record { kind = Infeasible; is = (shown_kind Found Left Enough Small M l (Emptiness s)).1.0; cause = asked (λ F E T N k. ShowsEmptinessBy F N k reply new.env) s }
  shows_cause asks Found Left Enough Small M l asked (NoEnd s) = record { kind = Unbounded; is = (shown_kind Found Left Enough Small M l (NoEnd s)).1.0; cause = asked (λ F E T N k. ShowsNoEndBy F N k reply new.env) s }
  shows_cause asks Found Left Enough Small M l asked (NodeStop s) = record { kind = StoppedNodes; is = (shown_kind Found Left Enough Small M l (NodeStop s)).1.0; cause = asked (λ F E T N k. ShowsNodeStopBy F E N k reply new.env) s }
  shows_cause asks Found Left Enough Small M l asked (TreeStop s) = record { kind = StoppedTree; is = (shown_kind Found Left Enough Small M l (TreeStop s)).1.0; cause = asked (λ F E T N k. ShowsTreeStopBy F E T N k reply new.env) s }
  shows_cause asks Found Left Enough Small M l asked (PivotStop s) = record { kind = StoppedPivots; is = (shown_kind Found Left Enough Small M l (PivotStop s)).1.0; cause = asked (λ F E T N k. ShowsPivotStopBy F E N k reply new.env) s }
  shows_cause asks Found Left Enough Small M l asked (WideStop s) = record { kind = StoppedWide; is = (shown_kind Found Left Enough Small M l (WideStop s)).1.0; cause = asked (λ F E T N k. ShowsWideStopBy F E N k reply new.env) s }
  shows_cause asks Found Left Enough Small M l asked (Wanting s) = record { kind = WantsMemory; is = (codes "memory\n", s.told); cause = s.told }

  solve_cause : (options : SearchOptions) → options.workers ≤ worker_limit → (search : Option PlainSearch) → old.env.search ≡ search → RepliesToSolve old.env search (limits_of options) reply new.env → HasCause searches (Solve options) old reply new
  solve_cause options few (Some S) present s =
      shows_cause (Solve options) (Solved S.model (limits_of options)) (SolvesModel S.model (limits_of options) S Memory) (IsEnough S.model (pool_in new.env.search) (limits_of options)) (HasFewNodes S.model (limits_of options)) S.model (limits_of options)
      (λ P is. record { search = S; present = present; few = few; is = is }) s
  solve_cause options few None none s = elim s.0 [
    | inl e ↦ record { kind = NoModel; is = (codes "no model\n", e); cause = (e, none) }
    | inr e ↦ record { kind = WantsMemory; is = (codes "memory\n", e); cause = e }
  ]

  warm_cause : (options : SearchOptions) → options.workers ≤ worker_limit → (search : Option PlainSearch) → old.env.search ≡ search → RepliesToWarm old.env search (limits_of options) reply new.env → HasCause searches (Warm options) old reply new
  warm_cause options few (Some S) present s =
      shows_cause (Warm options) (WentOn S (limits_of options)) (WentOn S (limits_of options) Memory) (IsKeptEnough S (pool_in new.env.search) (limits_of options)) (IsTooSmall S (limits_of options)) S.model (limits_of options)
      (λ P is. record { search = S; present = present; few = few; is = is }) s.0
  warm_cause options few None none s = elim s.0 [
    | inl e ↦ record { kind = NoModel; is = (codes "no model\n", e); cause = (e, none) }
    | inr e ↦ record { kind = WantsMemory; is = (codes "memory\n", e); cause = e }
  ]

  -- more workers than there may be
  crowd_cause : (asks : SearchAsks) → worker_limit < (options_in asks).workers → (search : Option PlainSearch) → old.env.search ≡ search → IsRefused old.env (crowd_text search) reply new.env → HasCause searches asks old reply new
  crowd_cause asks many None none h = elim h.answer [
    | inl e ↦ record { kind = NoModel; is = (codes "no model\n", e); cause = (e, none) }
    | inr e ↦ record { kind = WantsMemory; is = (codes "memory\n", e); cause = e }
  ]
  crowd_cause asks many (Some S) present h = elim h.answer [
    | inl e ↦ record { kind = OverLimit; is = (codes "limit " ++ decimal worker_limit ++ codes "\n", e); cause = record { search = S; present = present; many = many; told = e } }
    | inr e ↦ record { kind = WantsMemory; is = (codes "memory\n", e); cause = e }
  ]

  caused : (asks : SearchAsks) → SearchStep asks old reply new → HasCause searches asks old reply new
  caused (Solve options) h = elim h.answer [
    | inl s ↦ solve_cause options s.0 old.env.search refl s.1
    | inr s ↦ crowd_cause (Solve options) s.0 old.env.search refl s.1
  ]
  caused (Warm options) h = elim h.answer [
    | inl s ↦ warm_cause options s.0 old.env.search refl s.1
    | inr s ↦ crowd_cause (Warm options) s.0 old.env.search refl s.1
  ]

  same-faults : (asks : SearchAsks) → SearchStep asks old reply new → old.faults ≤ new.faults
  same-faults (Solve options) h = subst (λ n. old.faults ≤ n) (sym h.faults) (omega arith)
  same-faults (Warm options) h = subst (λ n. old.faults ≤ n) (sym h.faults) (omega arith)

  -- ---- what stays

  told_model : (Found : Finding) (M : Program) → ((a : Answer) (T : PlainSearch) → Found a T → T.model ≡ M) → (answer : Answer) (held : Held) → TellsBy Found M answer held reply new.env → model_of new.env ≡ Some M
  told_model Found M same answer held t = ap model_of t.env_is ∙ ap Some (same answer t.search t.solved)

  shown_model : (Found : Finding) (Left : PlainSearch → Type 0) (Enough Small : Type 0) (M : Program) (l : Limits) → ((a : Answer) (T : PlainSearch) → Found a T → T.model ≡ M) → ((T : PlainSearch) → Left T → T.model ≡ M)
      → AnswersBy Found Left Enough Small M l reply new.env → model_of new.env ≡ Some M
  shown_model Found Left Enough Small M l same kept (Optimum s) = told_model Found M same _ _ s.told
  shown_model Found Left Enough Small M l same kept (Gap s) = told_model Found M same _ _ s.told
  shown_model Found Left Enough Small M l same kept (Emptiness s) = told_model Found M same _ _ s.told
  shown_model Found Left Enough Small M l same kept (NoEnd s) = told_model Found M same _ _ s.told
  shown_model Found Left Enough Small M l same kept (NodeStop s) = told_model Found M same _ _ s.told
  shown_model Found Left Enough Small M l same kept (TreeStop s) = told_model Found M same _ _ s.stop.told
  shown_model Found Left Enough Small M l same kept (PivotStop s) = told_model Found M same _ _ s.stop.told
  shown_model Found Left Enough Small M l same kept (WideStop s) = told_model Found M same _ _ s.stop.told
  shown_model Found Left Enough Small M l same kept (Wanting s) = ap model_of s.env_is ∙ ap Some (kept s.search s.left)

  solve_keeps : (l : Limits) (search : Option PlainSearch) → old.env.search ≡ search → RepliesToSolve old.env search l reply new.env → model_of new.env ≡ model_of old.env
  solve_keeps l None none h = ap model_of h.1
  solve_keeps l (Some S) present h =
      shown_model (Solved S.model l) (SolvesModel S.model l S Memory) (IsEnough S.model (pool_in new.env.search) l) (HasFewNodes S.model l) S.model l (λ a T s. s.model) (λ T s. solves-model l S Memory T s) h
      ∙ sym (ap (option_map (λ (S : PlainSearch). S.model)) present)

  warm_keeps : (l : Limits) (search : Option PlainSearch) → old.env.search ≡ search → RepliesToWarm old.env search l reply new.env → model_of new.env ≡ model_of old.env
  warm_keeps l None none h = ap model_of h.1
  warm_keeps l (Some S) present h =
      shown_model (WentOn S l) (WentOn S l Memory) (IsKeptEnough S (pool_in new.env.search) l) (IsTooSmall S l) S.model l (λ a T s. s.model) (λ T s. s.model) h.0
      ∙ sym (ap (option_map (λ (S : PlainSearch). S.model)) present)

  keeps : (asks : SearchAsks) → SearchStep asks old reply new → model_of new.env ≡ model_of old.env
  keeps (Solve options) h = elim h.answer [
    | inl s ↦ solve_keeps (limits_of options) old.env.search refl s.1
    | inr s ↦ ap model_of s.1.unchanged
  ]
  keeps (Warm options) h = elim h.answer [
    | inl s ↦ warm_keeps (limits_of options) old.env.search refl s.1
    | inr s ↦ ap model_of s.1.unchanged
  ]

  solve_holds : (l : Limits) (k : Kind) → IsError k → Is k reply → (search : Option PlainSearch) → RepliesToSolve old.env search l reply new.env → new.env ≡ old.env
  solve_holds l k error is None h = h.1
  solve_holds l k error is (Some S) h =
      let shown = shown_kind (Solved S.model l) (SolvesModel S.model l S Memory) (IsEnough S.model (pool_in new.env.search) l) (HasFewNodes S.model l) S.model l h in
      not_error k shown.0 reply error is shown.1.0 shown.1.1

  warm_holds : (l : Limits) (k : Kind) → IsError k → Is k reply → (search : Option PlainSearch) → RepliesToWarm old.env search l reply new.env → new.env ≡ old.env
  warm_holds l k error is None h = h.1
  warm_holds l k error is (Some S) h =
      let shown = shown_kind (WentOn S l) (WentOn S l Memory) (IsKeptEnough S (pool_in new.env.search) l) (IsTooSmall S l) S.model l h.0 in
      not_error k shown.0 reply error is shown.1.0 shown.1.1

  holds : (asks : SearchAsks) → SearchStep asks old reply new → (k : Kind) → IsError k → Is k reply → new.env ≡ old.env
  holds (Solve options) h k error is = elim h.answer [
    | inl s ↦ solve_holds (limits_of options) k error is old.env.search s.1
    | inr s ↦ s.1.unchanged
  ]
  holds (Warm options) h k error is = elim h.answer [
    | inl s ↦ warm_holds (limits_of options) k error is old.env.search s.1
    | inr s ↦ s.1.unchanged
  ]

  -- ---- how far a search goes

  -- a search with enough of all ends with an answer
  finishes : (Found : Finding) (Left : PlainSearch → Type 0) (Enough Small : Type 0) (M : Program) (l : Limits) → Enough → AnswersBy Found Left Enough Small M l reply new.env → EndsBy Found M l reply new.env
  finishes Found Left Enough Small M l enough (Optimum s) = inl s
  finishes Found Left Enough Small M l enough (Gap s) = inr (inl s)
  finishes Found Left Enough Small M l enough (Emptiness s) = inr (inr (inl s))
  finishes Found Left Enough Small M l enough (NoEnd s) = inr (inr (inr (inl s)))
  finishes Found Left Enough Small M l enough (NodeStop s) = absurd (s.short enough)
  finishes Found Left Enough Small M l enough (TreeStop s) = absurd (s.stop.short enough)
  finishes Found Left Enough Small M l enough (PivotStop s) = absurd (s.stop.short enough)
  finishes Found Left Enough Small M l enough (WideStop s) = absurd (s.stop.short enough)
  finishes Found Left Enough Small M l enough (Wanting s) = inr (inr (inr (inr s.told)))

  completes : (S : PlainSearch) (options : SearchOptions) → options.workers ≤ worker_limit → SearchStep (Solve options) old reply new → old.env.search ≡ Some S → IsEnough S.model (pool_in new.env.search) (limits_of options)
      → EndsBy (Solved S.model (limits_of options)) S.model (limits_of options) reply new.env
  completes S options few step present enough =
      let l : Limits = limits_of options in
      elim step.answer [
        | inl s ↦
            finishes (Solved S.model l) (SolvesModel S.model l S Memory) (IsEnough S.model (pool_in new.env.search) l) (HasFewNodes S.model l) S.model l enough (subst (λ m. RepliesToSolve old.env m l reply new.env) present s.1)
        | inr s ↦ let many : worker_limit < options.workers = s.0 in absurd (omega (arith, few, many))
      ]

  warmed : (S : PlainSearch) (options : SearchOptions) → options.workers ≤ worker_limit → SearchStep (Warm options) old reply new → old.env.search ≡ Some S → RepliesToWarm old.env (Some S) (limits_of options) reply new.env
  warmed S options few step present = elim step.answer [
    | inl s ↦ subst (λ m. RepliesToWarm old.env m (limits_of options) reply new.env) present s.1
    | inr s ↦ let many : worker_limit < options.workers = s.0 in absurd (omega (arith, few, many))
  ]

  completes_warm : (S : PlainSearch) (options : SearchOptions) → options.workers ≤ worker_limit → SearchStep (Warm options) old reply new → old.env.search ≡ Some S → IsKeptEnough S (pool_in new.env.search) (limits_of options)
      → EndsBy (WentOn S (limits_of options)) S.model (limits_of options) reply new.env
  completes_warm S options few step present enough =
      let l : Limits = limits_of options in
      finishes (WentOn S l) (WentOn S l Memory) (IsKeptEnough S (pool_in new.env.search) l) (IsTooSmall S l) S.model l enough (warmed S options few step present).0

pub searches-complete : CompleteLaw
searches-complete old reply new = record {
  complete = λ S options few step present enough. completes old reply new S options few step present enough;
  complete_warm = λ S options few step present enough. completes_warm old reply new S options few step present enough;
  again = λ S options few step present. (warmed old reply new S options few step present).1.0;
  again_within = λ S options few step present. (warmed old reply new S options few step present).1.1.1;
  beside_ray = λ S options few step present. (warmed old reply new S options few step present).1.1.0;
}

pub searches-lawful : IsLawfulFamily searches
searches-lawful = record {
  caused = λ asks old reply new h. caused old reply new asks h;
  later = λ asks old reply new h. same-faults old reply new asks h;
  kept = λ asks old reply new h other. keeps old reply new asks h;
  refused = λ asks old reply new h k error is. holds old reply new asks h k error is;
  wanted = λ asks old reply new h wanting other. absurd (other tt);
}
