-- What a solve leaves.
use Rattle.std.proofs.Common.{◌≡◌, ℕ, ◌≤◌, refl, sym, ap, subst, ◌∙◌, arith, inl, inr}
use Rattle.std.specs.Prelude.{Option, Some, None, Ok, Err, IsSome, IfSome}
use Rattle.lp_model.specs.Program.{Program, Point}
use Rattle.lp_model.specs.declared.answers.StopWhy.{StopWhy}
use Rattle.lp_model.specs.declared.answers.StopWhy.TheVariants.{Nodes, Tree, Pivots, Wide}
use Rattle.search_answers.specs.declared.answers.Answer.{Answer}
use Rattle.search_answers.specs.declared.answers.Answer.TheVariants.{Optimal, Within, Infeasible, Unbounded, Stopped, Memory}
use Rattle.sound_searches.specs.Sound.{PlainSearch, IsSound}
use Rattle.kept_env.specs.Env.{PlainEnv, with_answer, pool_in}
use Rattle.kept_env.specs.declared.env.EnvFault.{EnvFault}
use Rattle.kept_env.specs.Worked.{held_by, IsOldest, WorksEnv}
use Rattle.tree_search.specs.declared.limits.Limits.{Limits}
use Rattle.tree_search.specs.Truth.{IsEarlyBy, IsTrueBy, IsTrueAnswer, IsTooSmall, IsTrueOfKept, HasEnded}
use Rattle.tree_search.specs.Warm.{WarmsFrom}
use Rattle.tree_search.specs.Enough.{IsEnough}
use Rattle.tree_search.specs.Solves.{SolvesModel, SolvesFrom, HasRayFrom}
use Rattle.tree_cert.proofs.AcceptedLaws.{incumbent-keepable}
use Rattle.front_solver.specs.Truth.{IsTrueOf, IsStop, shown_claim}
use Rattle.front_env.specs.FrontEnvs.{program_in, IsProvedIn, IsStopBy}
use Rattle.front_env.specs.private.Going.{StopsAfter, IsGoneBy, IsEndedWith, IsGoneOn}
use Rattle.front_env.specs.declared.resuming.GoneOn.{GoneOn}
use Rattle.front_env.specs.declared.resuming.GoneOn.TheVariants as gone

-- ---- what is answered

early_within : (Small : Type 0) (M : Program) (l : Limits) (why : StopWhy) (n : ℕ) → IsEarlyBy Small M l why n → n ≤ l.nodes
early_within Small M l Nodes n h = let e = h.0 in omega (arith, e)
early_within Small M l Tree n h = let e = h.0 in omega (arith, e)
early_within Small M l (Pivots place) n h = h.0
early_within Small M l (Wide at) n h = h.0

-- an optimum is a kept point, so that its test has room
true_within : (Small : Type 0) (S : PlainSearch) (l : Limits) → l.gap ≡ None → (answer : Answer) → IsSound S → IsOldest S answer → IsTrueBy Small S.model l answer → IsTrueOf S.model l.nodes answer
true_within Small S l plain (Optimal v x n) sound oldest h = ((h.0.0, h.0.1, (incumbent-keepable S x oldest.0 sound oldest.1).feasible), h.1.within_limit)
true_within Small S l plain (Within g v x n) sound oldest h = let e : None ≡ Some g = sym plain ∙ h.0.0 in absurd cc
true_within Small S l plain (Infeasible n) sound oldest h = (h.0, h.1.within_limit)
true_within Small S l plain (Unbounded n) sound oldest h = (h.0, h.1.within_limit)
true_within Small S l plain (Stopped why n bound best) sound oldest h = (h.0, early_within Small S.model l why n h.1)
true_within Small S l plain Memory sound oldest h = tt

-- what is shown is true of the search's model, and its tree proves it
proved : (Small : Type 0) (l : Limits) (answer : Answer) (S : PlainSearch) (direction : Option Point) → IsTrueBy Small S.model l answer → IsProvedIn (with_answer S (held_by answer direction)) (shown_claim answer)
proved Small l (Optimal v x n) S direction h = record { held = refl; true_claim = (x, (h.0.0, sym h.0.1)); exact = tt }
proved Small l (Within g v x n) S direction h = tt
proved Small l (Infeasible n) S direction h = record { held = refl; true_claim = h.0; exact = tt }
proved Small l (Unbounded n) S direction h = tt
proved Small l (Stopped why n bound best) S direction h = tt
proved Small l Memory S direction h = tt

-- a stop is not want of memory
stopped_by : (l : Limits) (M : Program) (old S : PlainSearch) (answer : Answer) → SolvesModel M l old answer S → (IsEnough M S.cuts l → HasEnded answer) → IsStop answer → IsStopBy l M answer
stopped_by l M old S answer found enough stop =
    elim found [
      | inl solved ↦ record { search = S; solved = solved; short = λ e. not_ended answer stop (enough e) }
      | inr wants ↦ absurd (subst IsStop wants.wants stop)
    ]
  where
    not_ended : (a : Answer) → IsStop a → HasEnded a → ⊥
    not_ended (Optimal v x n) s h = s
    not_ended (Within g v x n) s h = s
    not_ended (Infeasible n) s h = s
    not_ended (Unbounded n) s h = s
    not_ended (Stopped why n bound best) s h = h
    not_ended Memory s h = s

-- the model stays
same_model : (l : Limits) (old S : PlainSearch) (answer : Answer) → SolvesFrom l old answer S → S.model ≡ old.model
same_model l old S answer found =
    elim found [
      | inl solved ↦ solved.model
      | inr wants ↦ ap (λ (T : PlainSearch). T.model) wants.kept
    ]

-- ---- what is left

-- a search that was solved by these limits
pub record IsSolvedTo (l : Limits) (M : Program) (answer : Answer) (new : PlainEnv) : Type 0 where
  pub loaded : IsSome new.search
  pub program : program_in new.search ≡ M
  pub true_of : IsTrueOf (program_in new.search) l.nodes answer
  pub shown : IsProvedIn new (shown_claim answer)
  pub stopped : IsStop answer → IsStopBy l M answer

pub solved_to : (l : Limits) → l.gap ≡ None → (search : Option PlainSearch) (old new : PlainEnv) (answer : Answer) → IsSome search → WorksEnv (SolvesFrom l) (HasRayFrom l) search old (Ok answer) new → IfSome search (λ S. IsTrueAnswer S.model l answer) →
    IfSome search (λ S. IsEnough S.model (pool_in new.search) l → HasEnded answer) → IfSome new.search IsSound → IsSolvedTo l (program_in search) answer new
solved_to l plain None old new answer some works is enough sound = absurd cc
solved_to l plain (Some S) old new answer some works is enough sound =
    let after = works.search in
    let model = same_model l S after answer works.found in
    let truth : IsTrueAnswer after.model l answer = subst (λ (P : Program). IsTrueAnswer P l answer) (sym model) is in
    subst (IsSolvedTo l S.model answer) (sym works.env_is) (record {
      loaded = refl;
      program = model;
      true_of = true_within _ after l plain answer (subst (λ (e : PlainEnv). IfSome e.search IsSound) works.env_is sound) works.oldest truth;
      shown = proved _ l answer after works.direction truth;
      stopped = stopped_by l S.model S after answer works.found (subst (λ (e : PlainEnv). IsEnough S.model (pool_in e.search) l → HasEnded answer) works.env_is enough);
    })

-- a search that went on by these limits
pub record IsWarmedTo (l : Limits) (M : Program) (answer : Answer) (new : PlainEnv) : Type 0 where
  pub loaded : IsSome new.search
  pub program : program_in new.search ≡ M
  pub true_of : IsTrueOf M l.nodes answer
  pub shown : IsProvedIn new (shown_claim answer)

pub warmed_to : (l : Limits) → l.gap ≡ None → (search : Option PlainSearch) (old new : PlainEnv) (answer : Answer) → IsSome search → WorksEnv (WarmsFrom l) (HasRayFrom l) search old (Ok answer) new → IfSome search (λ S. IsTrueOfKept S l answer) →
    IfSome new.search IsSound → IsWarmedTo l (program_in search) answer new
warmed_to l plain None old new answer some works is sound = absurd cc
warmed_to l plain (Some S) old new answer some works is sound =
    let after = works.search in
    let model = works.found.model in
    let truth : IsTrueBy (IsTooSmall S l) after.model l answer = subst (λ (P : Program). IsTrueBy (IsTooSmall S l) P l answer) (sym model) is in
    let own = subst (λ (e : PlainEnv). IfSome e.search IsSound) works.env_is sound in
    subst (IsWarmedTo l S.model answer) (sym works.env_is) (record {
      loaded = refl;
      program = model;
      true_of = subst (λ (P : Program). IsTrueOf P l.nodes answer) model (true_within _ after l plain answer own works.oldest truth);
      shown = proved _ l answer after works.direction truth;
    })

-- what it comes to
pub gone_to : (l : Limits) (M : Program) (env : PlainEnv) (answer : Answer) (gone : GoneOn) → IsWarmedTo l M answer env → IsGoneBy answer gone → IsGoneOn l M env gone
gone_to l M env answer (gone.Ended told) h by =
    subst (IsEndedWith l M env) (sym by.0) (record { true_of = h.true_of; shown = h.shown; ended = by.1 })
gone_to l M env answer (gone.Stopped results) h by = few answer h.true_of by
  where
    few : (a : Answer) → IsTrueOf M l.nodes a → StopsAfter results a → results ≤ l.nodes
    few (Optimal v x n) is stops = absurd stops
    few (Within g v x n) is stops = absurd stops
    few (Infeasible n) is stops = absurd stops
    few (Unbounded n) is stops = absurd stops
    few (Stopped why n bound best) is stops = let within = is.1 in omega (arith, within, stops)
    few Memory is stops = absurd stops

-- a solve of a model that is there is not refused
pub not_refused : (l : Limits) (search : Option PlainSearch) (old new : PlainEnv) (fault : EnvFault) → IsSome search → WorksEnv (SolvesFrom l) (HasRayFrom l) search old (Err fault) new → ⊥
not_refused l None old new fault some works = absurd cc
not_refused l (Some S) old new fault some works = works

-- nor one that goes on
pub not_refused_warm : (l : Limits) (search : Option PlainSearch) (old new : PlainEnv) (fault : EnvFault) → IsSome search → WorksEnv (WarmsFrom l) (HasRayFrom l) search old (Err fault) new → ⊥
not_refused_warm l None old new fault some works = absurd cc
not_refused_warm l (Some S) old new fault some works = works
