-- What the reply to a search for a front shows.
use Rattle.std.proofs.Common.{◌≡◌, ℕ, List, [], ◌∷◌, ◌++◌, sym, ap, ◌∙◌, subst, refl, inl, Option, Some, None, Ok, Err, Result}
use Rattle.std.specs.Prelude.{false, All, IfOk, IfSome, OnOk, OnErr}
use Rattle.std.specs.Option.{option_map}
use Rattle.std.proofs.lemmas.List.Elements.{All-nil, All-cons, All-head, All-tail}
use Rattle.frac128.specs.Range.{IsNarrow}
use Rattle.lp_model.specs.Program.{Program}
use Rattle.sound_searches.specs.Sound.{PlainSearch}
use Rattle.kept_env.specs.Env.{PlainEnv, model_of, with_answer}
use Rattle.kept_env.specs.declared.env.EnvFault.{EnvFault}
use Rattle.kept_env.specs.declared.held.Held.TheVariants as holding
use Rattle.tree_search.specs.declared.limits.Limits.{Limits}
use Rattle.frontier.specs.declared.outcomes.Outcome.{Outcome}
use Rattle.sym_io.specs.Files.{Files}
use Rattle.command_files.specs.Checking.{inner_program}
use Rattle.word_names.specs.ScriptModels.{IsScriptModel}
use Rattle.list_order.specs.Ordered.{IsInOrder}
use Rattle.command_family.specs.State.{shell_state, HasScriptModel, HasOrder}
use Rattle.command_family.proofs.ReplyLemmas.{on_ok_if, always}
use Rattle.front_replies.specs.FrontReplies.{complete_front_text, stopped_front_text, wide_front_text}
use Rattle.front_replies.specs.FrontsShown.{front_shown}
use Rattle.front_replies.specs.Laws.{HasNarrowValues}
use Rattle.front_replies.proofs.ShownLaws.{shown}
use Rattle.front_search.specs.declared.answers.FrontAnswer.{FrontAnswer}
use Rattle.front_search.specs.declared.answers.FrontAnswer.TheVariants as found
use Rattle.front_search.specs.FrontsFound.{IsWholeFront, IsStoppedAt, IsWideAtPart, FindsIn, FindsFront}
use Rattle.front_search.specs.Completeness.{counted_results, HasFrontEnded, IsFrontEnough}
use Rattle.front_commands.specs.Answering.{front_limits, IsLookedFor, IsOfModel, FrontHasRoom, front_answer_text, front_text}
use Rattle.front_commands.specs.Fronts.{AnswersFront, Whole, Empty, Stopped, Wide, NotWhole, Wanting, RepliesToFront, FrontStep}

-- of both as they are
pub both : (P : Result FrontAnswer EnvFault → Option Program → Type 0) (r s : Result FrontAnswer EnvFault) (m n : Option Program) → r ≡ s → m ≡ n → P r m → P s n
both P r s m n same there h = subst (λ o. P o n) same (subst (P r) there h)

narrow-values : (front : List Outcome) → All (λ (o : Outcome). IsNarrow o.f1 × IsNarrow o.f2) front → All HasNarrowValues front
narrow-values [] h = All-nil HasNarrowValues
narrow-values (o ∷ front) h =
    let here = All-head (λ (o : Outcome). IsNarrow o.f1 × IsNarrow o.f2) o front h in
    All-cons HasNarrowValues o front (record { first = here.0; second = here.1 }) (narrow-values front (All-tail (λ (o : Outcome). IsNarrow o.f1 × IsNarrow o.f2) o front h))

-- ---- each answer

answers : (S : PlainSearch) (l : Limits) (old new : PlainEnv) (answer : FrontAnswer) → FindsIn l S old answer new → FrontHasRoom answer → (IsFrontEnough l S.model (counted_results answer) → HasFrontEnded answer)
    → AnswersFront S l old (front_answer_text S.model answer) new
answers S l old new (found.Complete front) h room complete =
    let is : IsWholeFront S.model front h.held = h.found in
    let back : front_shown (complete_front_text front) ≡ front = (shown front (narrow-values front is.narrow) room).complete in
    Whole (record { held = h.held; whole = subst (λ f. IsWholeFront S.model f h.held) (sym back) is; told = ap complete_front_text (sym back); env_is = h.env_is })
answers S l old new (found.Infeasible results) h room complete = Empty (record { results = results; held = h.held; none = h.found; told = refl; env_is = h.env_is })
answers S l old new (found.Stopped front part why results bound best) h room complete =
    let is : IsStoppedAt l S.model front part why results bound best h.held = h.found in
    let text = stopped_front_text (inner_program S.model) front part why results bound best in
    let back : front_shown text ≡ front = (shown front (narrow-values front is.stands.told.narrow) room).stopped (inner_program S.model) part why results bound best in
    Stopped (record {
      part = part;
      why = why;
      results = results;
      bound = bound;
      best = best;
      stopped = subst (λ f. IsStoppedAt l S.model f part why results bound best holding.Nothing) (sym back) (subst (λ held. IsStoppedAt l S.model front part why results bound best held) is.none_held is);
      short = complete;
      told = ap (λ f. stopped_front_text (inner_program S.model) f part why results bound best) (sym back);
      env_is = h.env_is ∙ ap (with_answer S) is.none_held;
    })
answers S l old new (found.NotWhole which col) h room complete = NotWhole (record { which = which; column = col; first = h.0; short = complete; told = refl }) h.1
answers S l old new (found.WideScale front part place) h room complete =
    let is : IsWideAtPart S.model front part place h.held = h.found in
    let back : front_shown (wide_front_text S.model front part place) ≡ front = (shown front (narrow-values front is.stands.told.narrow) room).wide S.model part place in
    Wide (record {
      part = part;
      place = place;
      wide = subst (λ f. IsWideAtPart S.model f part place holding.Nothing) (sym back) (subst (λ held. IsWideAtPart S.model front part place held) is.none_held is);
      short = complete;
      told = ap (λ f. wide_front_text S.model f part place) (sym back);
      env_is = h.env_is ∙ ap (with_answer S) is.none_held;
    })
answers S l old new found.Memory h room complete = Wanting refl (h.env_is ∙ ap (with_answer S) h.found)

-- ---- the search stays

search-stays : (S : PlainSearch) (l : Limits) (old new : PlainEnv) (answer : FrontAnswer) → old.search ≡ Some S → FindsIn l S old answer new → new.search ≡ Some S
search-stays S l old new (found.Complete front) e h = ap (λ (env : PlainEnv). env.search) h.env_is
search-stays S l old new (found.Infeasible results) e h = ap (λ (env : PlainEnv). env.search) h.env_is
search-stays S l old new (found.Stopped front part why results bound best) e h = ap (λ (env : PlainEnv). env.search) h.env_is
search-stays S l old new (found.NotWhole which col) e h = ap (λ (env : PlainEnv). env.search) h.1 ∙ e
search-stays S l old new (found.WideScale front part place) e h = ap (λ (env : PlainEnv). env.search) h.env_is
search-stays S l old new found.Memory e h = ap (λ (env : PlainEnv). env.search) h.env_is

stays : (l : Limits) (old new : PlainEnv) (search : Option PlainSearch) (result : Result FrontAnswer EnvFault) → old.search ≡ search → FindsFront l search old result new → new.search ≡ search
stays l old new None result e h = ap (λ (env : PlainEnv). env.search) h.1 ∙ e
stays l old new (Some S) (Ok answer) e h = search-stays S l old new answer e h
stays l old new (Some S) (Err f) e h = absurd h

pub front-stays : (l : Limits) (old new : PlainEnv) (result : Result FrontAnswer EnvFault) → FindsFront l old.search old result new → new.search ≡ old.search
front-stays l old new result h = stays l old new old.search result refl h

of-model : (l : Limits) (old new : PlainEnv) (search : Option PlainSearch) (result : Result FrontAnswer EnvFault) → old.search ≡ search → FindsFront l search old result new → IsOfModel result (model_of new)
of-model l old new None (Ok answer) e h = absurd (cc)
of-model l old new None (Err f) e h = tt
of-model l old new (Some S) (Ok answer) e h = subst (λ (o : Option PlainSearch). IsOfModel (Ok answer) (option_map (λ (S : PlainSearch). S.model) o)) (sym (search-stays S l old new answer e h)) tt
of-model l old new (Some S) (Err f) e h = absurd h

pub front-of-model : (l : Limits) (old new : PlainEnv) (result : Result FrontAnswer EnvFault) → FindsFront l old.search old result new → IsOfModel result (model_of new)
front-of-model l old new result h = of-model l old new old.search result refl h

-- ---- the reply

replies : (l : Limits) (old new : PlainEnv) (search : Option PlainSearch) (result : Result FrontAnswer EnvFault) → old.search ≡ search → FindsFront l search old result new → IfOk result FrontHasRoom
    → IfOk result (λ answer. IfSome search (λ S. IsFrontEnough l S.model (counted_results answer) → HasFrontEnded answer)) → RepliesToFront old search l (front_text result (model_of new)) new
replies l old new None result e h room complete = record { unchanged = h.1; answer = inl (ap (λ r. front_text r (model_of new)) h.0) }
replies l old new (Some S) (Ok answer) e h room complete =
    subst (λ (o : Option PlainSearch). AnswersFront S l old (front_text (Ok answer) (option_map (λ (S : PlainSearch). S.model) o)) new) (sym (search-stays S l old new answer e h))
    (answers S l old new answer h room complete)
replies l old new (Some S) (Err f) e h room complete = absurd h

looked-for : (l : Limits) (old new : PlainEnv) (result : Result FrontAnswer EnvFault) → IsLookedFor l old result new → IfOk result FrontHasRoom → RepliesToFront old old.search l (front_text result (model_of new)) new
looked-for l old new result h room = replies l old new old.search result refl h.finds room h.complete

module _ {E : Type 0} (last : Result (Unit {0}) E) (l : Limits) (old new : PlainEnv) (result : Result FrontAnswer EnvFault) (looked : IsLookedFor l old result new) (room : IfOk result FrontHasRoom) where
  pub front-told : (before after : List ℕ) → before ≡ [] → IfOk last (λ _. after ≡ before ++ front_text result (model_of new)) → OnOk last (RepliesToFront old old.search l after new)
  front-told before after empty text =
      on_ok_if last
      (λ (e : after ≡ before ++ front_text result (model_of new)). subst (λ t. RepliesToFront old old.search l t new) (sym (e ∙ ap (λ t. t ++ front_text result (model_of new)) empty)) (looked-for l old new result looked room))
      text

  pub front-untold : OnErr last ((bytes : List ℕ) × RepliesToFront old old.search l bytes new)
  front-untold = always last (front_text result (model_of new), looked-for l old new result looked room)

-- ---- for whoever looks for the front

pub is-looked-for : (nodes pivots : ℕ) (l : Limits) → l ≡ front_limits nodes pivots → (old new : PlainEnv) (result : Result FrontAnswer EnvFault) → FindsFront l old.search old result new
    → IfOk result (λ answer. IfSome old.search (λ S. IsFrontEnough l S.model (counted_results answer) → HasFrontEnded answer)) → IsLookedFor (front_limits nodes pivots) old result new
is-looked-for nodes pivots l e old new result finds complete = subst (λ (k : Limits). IsLookedFor k old result new) e (record { finds = finds; complete = complete })

-- a model that scripts may have is not widened
pub script-plain : (model : Option Program) → IfSome model IsScriptModel → IfSome model (λ M. M.wide ≡ false)
script-plain None script = tt
script-plain (Some M) script = script.plain

pub front-script : (l : Limits) (old new : PlainEnv) (result : Result FrontAnswer EnvFault) → FindsFront l old.search old result new → HasScriptModel old → HasScriptModel new
front-script l old new result h script = subst (λ (o : Option PlainSearch). IfSome (option_map (λ (S : PlainSearch). S.model) o) IsScriptModel) (sym (front-stays l old new result h)) script

pub front-order : (l : Limits) (old new : PlainEnv) (result : Result FrontAnswer EnvFault) → FindsFront l old.search old result new → HasOrder old → HasOrder new
front-order l old new result h order = subst (λ (o : Option PlainSearch). IfSome o IsInOrder) (sym (front-stays l old new result h)) order

-- ---- the step

-- what changes the environment alone leaves the files
pub front-step : (old new : PlainEnv) (files : Option Files) (faults : ℕ) (nodes pivots : ℕ) (reply : List ℕ) → RepliesToFront old old.search (front_limits nodes pivots) reply new
    → FrontStep (shell_state old files faults) nodes pivots reply (shell_state new files faults)
front-step old new files faults nodes pivots reply h = record { files = refl; faults = refl; answer = h }
