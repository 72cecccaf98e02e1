-- Each reply to a command of bounds has its cause, and nothing changes.
use Rattle.std.proofs.Common.{◌≡◌, ◌⊎◌, ℕ, ◌≤◌, arith, List, ◌++◌, refl, sym, subst, ap, inl, inr, Option, Some, None}
use Rattle.std.specs.Prelude.{All, Contains, codes, decimal}
use Rattle.frac128.specs.Printing.{printed}
use Rattle.lp_model.specs.Edits.{Named}
use Rattle.lp_model.specs.Program.{Program, Point, value, in_least_form}
use Rattle.sound_searches.specs.Sound.{PlainSearch}
use Rattle.dual_bounds.specs.declared.answers.LowerBound.{LowerBound}
use Rattle.dual_bounds.specs.declared.answers.LowerBound.TheVariants as lower
use Rattle.dual_bounds.specs.declared.answers.UpperBound.{UpperBound}
use Rattle.dual_bounds.specs.declared.answers.UpperBound.TheVariants as upper
use Rattle.kept_env.specs.Env.{model_of}
use Rattle.command_words.specs.declared.words.OptimumBound.{OptimumBound}
use Rattle.command_words.specs.declared.words.OptimumBound.TheVariants.{Lower, Upper}
use Rattle.command_words.specs.declared.words.NewNumbers.{NewNumbers}
use Rattle.edit_words.specs.EditWords.{EntriesAsk, AreRead, AreMisused, HasNoNumber, names_in, pairs_asks}
use Rattle.reply_texts.specs.Places.{step_text}
use Rattle.reply_texts.specs.Texts.{memory_text, bound_text}
use Rattle.shell_replies.specs.Names.{names_for, HasOneNumber, HaveOneNumber}
use Rattle.shell_replies.specs.Bounds.{IsLowerTold, IsUpperTold}
use Rattle.command_family.specs.Family.{HasCause, IsLawfulFamily}
use Rattle.command_family.specs.Kinds.{BoundShown, WrongArguments, NoModel, UnknownName, WrongNumber, BadSides, WantsMemory, Is}
use Rattle.command_family.specs.State.{ShellState}
use Rattle.bound_commands.specs.Bounding.{asked_model, TellsBound, AnswersBound, IsAtOptimum, RepliesToNumbers, RepliesToPairs}
use Rattle.bound_commands.specs.Bounding as bounding
use Rattle.bound_commands.specs.Family.{BoundsAsks, Bound, BoundsStep, SaysNumbers, boundings}
use Rattle.bound_commands.specs.Laws.{UnchangedLaw, BestValueLaw}

module _ (old : ShellState) (reply : List ℕ) (new : ShellState) (which : OptimumBound) (numbers : NewNumbers) (behind : List (List ℕ)) where
  abbrev Caused : Type 0
  Caused = HasCause boundings (Bound which numbers behind) old reply new

  wants : reply ≡ memory_text → Caused
  wants told = record { kind = WantsMemory; is = (codes "memory\n", told); cause = told }

  -- the reply begins as each of this kind does
  lower_shown : (M : Program) (bound : LowerBound) → IsLowerTold M bound reply → Is BoundShown reply
  lower_shown M (lower.Value v) told = (printed (in_least_form M.sense v) ++ codes "\n", told.told)
  lower_shown M lower.NoValue told = (codes "none\n", told)
  lower_shown M lower.Infeasible told = (codes "infeasible\n", told)
  lower_shown M (lower.Wide leaf at_) told = (codes "wide " ++ decimal leaf ++ codes " " ++ step_text M at_ ++ codes "\n", told)

  upper_shown : (M : Program) (bound : UpperBound) → IsUpperTold M bound reply → Is BoundShown reply
  upper_shown M (upper.Value v) told = (printed (in_least_form M.sense v) ++ codes "\n", told.told)
  upper_shown M upper.NoValue told = (codes "none\n", told)

  bound_shown : (w : OptimumBound) (S : PlainSearch) (M : Program) → TellsBound w S M reply → Is BoundShown reply
  bound_shown Lower S M tells = lower_shown S.model tells.bound tells.told
  bound_shown Upper S M tells = upper_shown S.model tells.bound tells.told

  answer_cause : (named : Named) → pairs_asks behind ≡ AreRead named → (S : PlainSearch) → old.env.search ≡ Some S → AnswersBound which numbers S named reply → Caused
  answer_cause named reads S present (bounding.Unknown name first told) = record {
    kind = UnknownName;
    is = (codes "unknown " ++ name ++ codes "\n", told);
    cause = (name, record { named = named; search = S; reads = reads; present = present; is = (first, told) });
  }
  answer_cause named reads S present (bounding.TwoSided name sides there first told) = record {
    kind = BadSides;
    is = (codes "sides " ++ name ++ codes "\n", told);
    cause = (name, record { named = named; search = S; reads = reads; present = present; is = (sides, there, first, told) });
  }
  answer_cause named reads S present (bounding.Told there one tells exact) = record {
    kind = BoundShown;
    is = bound_shown which S (asked_model numbers S.model named) tells;
    cause = record { named = named; search = S; reads = reads; present = present; is = (there, one, tells) };
  }
  answer_cause named reads S present (bounding.Wanting told) = wants told

  numbers_cause : (named : Named) → pairs_asks behind ≡ AreRead named → (search : Option PlainSearch) → old.env.search ≡ search → RepliesToNumbers which numbers search named reply → Caused
  numbers_cause named reads None none h = elim h [
    | inl told ↦ record { kind = NoModel; is = (codes "no model\n", told); cause = (subst SaysNumbers (sym reads) tt, (told, none)) }
    | inr told ↦ wants told
  ]
  numbers_cause named reads (Some S) present h = answer_cause named reads S present h

  pairs_cause : (asks : EntriesAsk) → pairs_asks behind ≡ asks → RepliesToPairs which numbers asks old.env reply → Caused
  pairs_cause (AreRead named) reads h = numbers_cause named reads old.env.search refl h
  pairs_cause AreMisused reads h = elim h [
    | inl told ↦ record { kind = WrongArguments; is = (codes "arguments\n", told); cause = (reads, told) }
    | inr told ↦ wants told
  ]
  pairs_cause (HasNoNumber word) reads h = elim h [
    | inl told ↦ record { kind = WrongNumber; is = (codes "number " ++ word ++ codes "\n", told); cause = (word, (reads, told)) }
    | inr told ↦ wants told
  ]

caused : (asks : BoundsAsks) (old : ShellState) (reply : List ℕ) (new : ShellState) → BoundsStep asks old reply new → HasCause boundings asks old reply new
caused (Bound which numbers behind) old reply new h = pairs_cause old reply new which numbers behind (pairs_asks behind) refl h.answer

pub bounds-unchanged : UnchangedLaw
bounds-unchanged (Bound which numbers behind) old reply new h = h.unchanged

pub bounds-lawful : IsLawfulFamily boundings
bounds-lawful = record {
  caused = caused;
  later = λ asks old reply new h. subst (λ (s : ShellState). old.faults ≤ s.faults) (sym (bounds-unchanged asks old reply new h)) (omega arith);
  kept = λ asks old reply new h other. ap (λ (s : ShellState). model_of s.env) (bounds-unchanged asks old reply new h);
  refused = λ asks old reply new h k error is. ap (λ (s : ShellState). s.env) (bounds-unchanged asks old reply new h);
  wanted = λ asks old reply new h wanting other. ap (λ (s : ShellState). s.env) (bounds-unchanged asks old reply new h);
}

-- ---- right after a search has found the best point

at_optimum : (which : OptimumBound) (numbers : NewNumbers) (S : PlainSearch) (named : Named) (reply : List ℕ) (x : Point) → IsAtOptimum numbers S named x → AnswersBound which numbers S named reply
    → (reply ≡ bound_text (Some (value S.model 1 x))) ⊎ (reply ≡ memory_text)
at_optimum which numbers S named reply x stands (bounding.Unknown name first told) =
    absurd (first.unknown (subst (Contains (names_for numbers S.model)) (sym first.is) (stands.there first.place name first.within)))
at_optimum which numbers S named reply x stands (bounding.TwoSided name sides there first told) =
    let one : All (HasOneNumber S.model) (names_in named) = subst (λ n. HaveOneNumber n S.model named) sides stands.one in
    absurd (first.differ (subst (HasOneNumber S.model) (sym first.is) (one first.place name first.within)))
at_optimum which numbers S named reply x stands (bounding.Told there one tells exact) = inl (exact stands.present stands.closed x stands.best)
at_optimum which numbers S named reply x stands (bounding.Wanting told) = inr told

pub bounds-exact : BestValueLaw
bounds-exact which numbers behind old reply new step x asked =
    let read : RepliesToNumbers which numbers old.env.search asked.named reply = subst (λ a. RepliesToPairs which numbers a old.env reply) asked.reads step.answer in
    at_optimum which numbers asked.search asked.named reply x asked.is (subst (λ m. RepliesToNumbers which numbers m asked.named reply) asked.present read)
