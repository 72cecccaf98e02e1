-- Each reply to `mcsolve` has its cause, and what it leaves.
use Rattle.std.proofs.Common.{◌≡◌, ℕ, ◌≤◌, arith, Bool, true, false, List, ◌++◌, refl, sym, subst, ap, ◌∙◌, inl, inr, Option, Some, None}
use Rattle.std.specs.Prelude.{codes, decimal, drop, nat_le}
use Rattle.std.specs.Option.{option_map}
use Rattle.std.proofs.lemmas.Bool.Decides.{nat_tests}
use Rattle.lp_model.specs.Program.{Program}
use Rattle.sound_searches.specs.Sound.{PlainSearch}
use Rattle.tree_search.specs.declared.limits.Limits.{Limits}
use Rattle.kept_env.specs.Env.{PlainEnv, model_of}
use Rattle.reply_texts.specs.Texts.{not_whole_word}
use Rattle.command_files.specs.Checking.{inner_program}
use Rattle.command_family.specs.Family.{HasCause, IsLawfulFamily}
use Rattle.command_family.specs.Kinds.{Kind, CompleteFront, FrontPart, Infeasible, NoModel, WantsMemory, Is, IsError}
use Rattle.command_family.specs.Kinds as kind
use Rattle.command_family.specs.State.{ShellState}
use Rattle.command_family.proofs.KindLemmas.{one_kind}
use Rattle.front_replies.specs.FrontReplies.{complete_front_text, stopped_front_text, wide_front_text}
use Rattle.front_replies.specs.FrontsShown.{front_shown}
use Rattle.front_search.specs.Completeness.{IsFrontEnough}
use Rattle.front_commands.specs.Answering.{front_limits}
use Rattle.front_commands.specs.Fronts.{AnswersFront, Whole, Empty, Stopped, Wide, NotWhole, Wanting, RepliesToFront, FrontStep, EndsFront}
use Rattle.front_commands.specs.Family.{FrontAsks, McSolve, FrontsStep, fronts, FrontCompleteLaw}

module _ (old : ShellState) (reply : List ℕ) (new : ShellState) where
  -- the bytes of a reply are of its kind; that of an error leaves the environment
  shown_kind : (S : PlainSearch) (l : Limits) → AnswersFront S l old.env reply new.env → (k : Kind) × (Is k reply × (IsError k → new.env ≡ old.env))
  shown_kind S l (Whole s) = (CompleteFront, ((drop 18 (complete_front_text (front_shown reply)), s.told), λ e. absurd e))
  shown_kind S l (Empty s) = (Infeasible, ((codes "nodes " ++ decimal s.results ++ codes "\n", s.told), λ e. absurd e))
  shown_kind S l (Stopped s) = (FrontPart, ((drop 14 (stopped_front_text (inner_program S.model) (front_shown reply) s.part s.why s.results s.bound s.best), s.told), λ e. absurd e))
  shown_kind S l (Wide s) = (FrontPart, ((drop 14 (wide_front_text S.model (front_shown reply) s.part s.place), s.told), λ e. absurd e))
  shown_kind S l (NotWhole s same) = (kind.NotWhole, ((codes "not whole " ++ decimal s.which ++ codes " " ++ not_whole_word S.model s.column ++ codes "\n", s.told), λ e. same))
  shown_kind S l (Wanting told left) = (WantsMemory, ((codes "memory\n", told), λ e. absurd e))

  shows_cause : (nodes pivots : ℕ) (S : PlainSearch) → old.env.search ≡ Some S → AnswersFront S (front_limits nodes pivots) old.env reply new.env → HasCause fronts (McSolve nodes pivots) old reply new
  unfolding shown_kind
  shows_cause nodes pivots S present (Whole s) = record { kind = CompleteFront; is = (shown_kind S (front_limits nodes pivots) (Whole s)).1.0; cause = record { search = S; present = present; is = s } }
  shows_cause nodes pivots S present (Empty s) = record { kind = Infeasible; is = (shown_kind S (front_limits nodes pivots) (Empty s)).1.0; cause = record { search = S; present = present; is = s } }
  shows_cause nodes pivots S present (Stopped s) = record { kind = FrontPart; is = (shown_kind S (front_limits nodes pivots) (Stopped s)).1.0; cause = record { search = S; present = present; is = inl s } }
  shows_cause nodes pivots S present (Wide s) = record { kind = FrontPart; is = (shown_kind S (front_limits nodes pivots) (Wide s)).1.0; cause = record { search = S; present = present; is = inr s } }
  shows_cause nodes pivots S present (NotWhole s same) = record { kind = kind.NotWhole; is = (shown_kind S (front_limits nodes pivots) (NotWhole s same)).1.0; cause = record { search = S; present = present; is = s } }
  shows_cause nodes pivots S present (Wanting told left) = record { kind = WantsMemory; is = (codes "memory\n", told); cause = told }

  front_cause : (nodes pivots : ℕ) (search : Option PlainSearch) → old.env.search ≡ search → RepliesToFront old.env search (front_limits nodes pivots) reply new.env → HasCause fronts (McSolve nodes pivots) old reply new
  front_cause nodes pivots (Some S) present h = shows_cause nodes pivots S present h
  front_cause nodes pivots None none h = elim h.answer [
    | inl e ↦ record { kind = NoModel; is = (codes "no model\n", e); cause = (e, none) }
    | inr e ↦ record { kind = WantsMemory; is = (codes "memory\n", e); cause = e }
  ]

  caused : (asks : FrontAsks) → FrontsStep asks old reply new → HasCause fronts asks old reply new
  caused (McSolve nodes pivots) h = front_cause nodes pivots old.env.search refl h.answer

  same-faults : (asks : FrontAsks) → FrontsStep asks old reply new → old.faults ≤ new.faults
  same-faults (McSolve nodes pivots) h = subst (λ n. old.faults ≤ n) (sym h.faults) (omega arith)

  -- ---- what stays

  shown_model : (S : PlainSearch) (l : Limits) → old.env.search ≡ Some S → AnswersFront S l old.env reply new.env → model_of new.env ≡ model_of old.env
  shown_model S l present (Whole s) = ap model_of s.env_is ∙ sym (ap (option_map (λ (S : PlainSearch). S.model)) present)
  shown_model S l present (Empty s) = ap model_of s.env_is ∙ sym (ap (option_map (λ (S : PlainSearch). S.model)) present)
  shown_model S l present (Stopped s) = ap model_of s.env_is ∙ sym (ap (option_map (λ (S : PlainSearch). S.model)) present)
  shown_model S l present (Wide s) = ap model_of s.env_is ∙ sym (ap (option_map (λ (S : PlainSearch). S.model)) present)
  shown_model S l present (NotWhole s same) = ap model_of same
  shown_model S l present (Wanting told left) = ap model_of left ∙ sym (ap (option_map (λ (S : PlainSearch). S.model)) present)

  replied_model : (l : Limits) (search : Option PlainSearch) → old.env.search ≡ search → RepliesToFront old.env search l reply new.env → model_of new.env ≡ model_of old.env
  replied_model l None none h = ap model_of h.unchanged
  replied_model l (Some S) present h = shown_model S l present h

  keeps : (asks : FrontAsks) → FrontsStep asks old reply new → model_of new.env ≡ model_of old.env
  keeps (McSolve nodes pivots) h = replied_model (front_limits nodes pivots) old.env.search refl h.answer

  replied_holds : (l : Limits) (k : Kind) → IsError k → Is k reply → (search : Option PlainSearch) → RepliesToFront old.env search l reply new.env → new.env ≡ old.env
  replied_holds l k error is None h = h.unchanged
  replied_holds l k error is (Some S) h = let s = shown_kind S l h in s.1.1 (subst IsError (one_kind k s.0 reply is s.1.0) error)

  holds : (asks : FrontAsks) → FrontsStep asks old reply new → (k : Kind) → IsError k → Is k reply → new.env ≡ old.env
  holds (McSolve nodes pivots) h k error is = replied_holds (front_limits nodes pivots) k error is old.env.search h.answer

  -- ---- the search that is kept

  shown_search : (S : PlainSearch) (l : Limits) → old.env.search ≡ Some S → AnswersFront S l old.env reply new.env → new.env.search ≡ old.env.search
  shown_search S l present (Whole s) = ap (λ (env : PlainEnv). env.search) s.env_is ∙ sym present
  shown_search S l present (Empty s) = ap (λ (env : PlainEnv). env.search) s.env_is ∙ sym present
  shown_search S l present (Stopped s) = ap (λ (env : PlainEnv). env.search) s.env_is ∙ sym present
  shown_search S l present (Wide s) = ap (λ (env : PlainEnv). env.search) s.env_is ∙ sym present
  shown_search S l present (NotWhole s same) = ap (λ (env : PlainEnv). env.search) same
  shown_search S l present (Wanting told left) = ap (λ (env : PlainEnv). env.search) left ∙ sym present

  replied_search : (l : Limits) (search : Option PlainSearch) → old.env.search ≡ search → RepliesToFront old.env search l reply new.env → new.env.search ≡ old.env.search
  replied_search l None none h = ap (λ (env : PlainEnv). env.search) h.unchanged
  replied_search l (Some S) present h = shown_search S l present h

  pub stepped_search : (nodes pivots : ℕ) → FrontStep old nodes pivots reply new → new.env.search ≡ old.env.search
  stepped_search nodes pivots h = replied_search (front_limits nodes pivots) old.env.search refl h.answer

pub fronts-lawful : IsLawfulFamily fronts
fronts-lawful = record {
  caused = λ asks old reply new h. caused old reply new asks h;
  later = λ asks old reply new h. same-faults old reply new asks h;
  kept = λ asks old reply new h other. keeps old reply new asks h;
  refused = λ asks old reply new h k error is. holds old reply new asks h k error is;
  wanted = λ asks old reply new h wanting other. absurd (other tt);
}

-- ---- how far a search for a front goes

-- what is enough for some results is enough for fewer
fewer : (l : Limits) (M : Program) (n m : ℕ) → m ≤ n → IsFrontEnough l M n → IsFrontEnough l M m
fewer l M n m few enough = record {
  first_whole = enough.first_whole;
  second_whole = enough.second_whole;
  enough = λ least part at before answer search within solved. enough.enough least part at before answer search (omega (arith, few, within)) solved;
  room = enough.room;
}

ends : (old : ShellState) (reply : List ℕ) (new : ShellState) (S : PlainSearch) (l : Limits) (n : ℕ) → IsFrontEnough l S.model n → AnswersFront S l old.env reply new.env → EndsFront S l n reply new.env
ends old reply new S l n enough (Whole s) = inl s
ends old reply new S l n enough (Empty s) = inr (inl s)
ends old reply new S l n enough (Stopped s) = by (nat_le s.results n) refl
  where
    by : (b : Bool) → nat_le s.results n ≡ b → EndsFront S l n reply new.env
    by true e = absurd (s.short (fewer l S.model n s.results (grind (arith, nat_tests)) enough))
    by false e = inr (inr (inr (s, grind (arith, nat_tests))))
ends old reply new S l n enough (Wide s) = absurd (s.short (fewer l S.model n 0 (omega arith) enough))
ends old reply new S l n enough (NotWhole s same) = absurd (s.short (fewer l S.model n 0 (omega arith) enough))
ends old reply new S l n enough (Wanting told left) = inr (inr (inl told))

pub fronts-complete : FrontCompleteLaw
fronts-complete old reply new = record {
  complete = λ S nodes pivots n step present enough.
      ends old reply new S (front_limits nodes pivots) n enough (subst (λ m. RepliesToFront old.env m (front_limits nodes pivots) reply new.env) present step.answer);
  beside = λ nodes pivots step. stepped_search old reply new nodes pivots step;
}
