-- What looking for the front of a model answers, in the model's own sense and with its constants, and what is held from then on.
--     IsFrontFound l M answer held       this is so of M, within the limits l
--     FindsFront l S old result new      so of the model of the search S, which stays; without a model there is nothing to look for
-- The parts of a sweep, their inner models and the places of their numbers are those of `wcn_driver`. They stand on the model in least form
-- without constants (`bare_model`), and so do the numbers in a part, the bound and the best value of a stop.
use Rattle.std.specs.Prelude.{◌≡◌, ◌⊎◌, ℕ, ◌≤◌, ◌<ℤ◌, List, All, AllPairs, Option, Some, None, Result, Ok, Err}
use Rattle.frac128.specs.Rational.{ℚ}
use Rattle.frac128.specs.Range.{IsNarrow}
use Rattle.lp_model.specs.Program.{Program, Point, IsEmpty, HasWholeObjective}
use Rattle.lp_model.specs.declared.types.ColId.{ColId}
use Rattle.lp_model.specs.declared.answers.StopWhy.{StopWhy}
use Rattle.search_answers.specs.declared.answers.Answer.{Answer}
use Rattle.search_answers.specs.declared.answers.Answer.TheVariants as solve
use Rattle.model_points.specs.Answers.{IsWholeAnswer}
use Rattle.model_points.specs.Bounds.{IsBound, IsFoundValue}
use Rattle.sound_searches.specs.Sound.{PlainSearch}
use Rattle.cert_text.specs.declared.cert.Cert.{Cert}
use Rattle.frontier.specs.declared.outcomes.Outcome.{Outcome}
use Rattle.frontier.specs.Outcomes.{IsNondominated, HasOutcome, IsFrontier, outcomes_in_own_sense}
use Rattle.inner_models.specs.Inner.{bare_model}
use Rattle.front_text.specs.declared.front.FrontCert.{FrontCert}
use Rattle.front_check.specs.Accepted.{outcomes_of, whole_constant}
use Rattle.kept_env.specs.Env.{PlainEnv, with_answer, IsFrontProved, IsEmptinessProved}
use Rattle.kept_env.specs.declared.env.EnvFault.{EnvFault}
use Rattle.kept_env.specs.declared.env.EnvFault.TheVariants as fault
use Rattle.kept_env.specs.declared.held.Held.{Held}
use Rattle.kept_env.specs.declared.held.Held.TheVariants as holding
use Rattle.tree_search.specs.declared.limits.Limits.{Limits}
use Rattle.wcn_driver.specs.declared.answers.Part.{Part}
use Rattle.wcn_driver.specs.declared.answers.ScalePlace.{ScalePlace}
use Rattle.wcn_driver.specs.Parts.{part_model}
use Rattle.wcn_driver.specs.Answers.{StandsAtPart, StopsAtPart, IsFirstWideScale}
use Rattle.front_env.specs.FrontEnvs.{with_results, IsStopBy}
use Rattle.front_search.specs.declared.answers.FrontAnswer.{FrontAnswer}
use Rattle.front_search.specs.declared.answers.FrontAnswer.TheVariants.{Complete, Infeasible, Stopped, NotWhole, WideScale, Memory}

-- a stop of an inner model, by these limits with at most n results
abbrev pub stops_by : Limits → Program → ℕ → Answer → Type 0
stops_by l P n answer = IsStopBy (with_results l n) P answer

-- ---- outcomes

-- Each is the outcome of a point that no feasible point dominates, each stands once, by rising first value, and a fraction has room for
-- its numbers.
pub record AreNondominated (M : Program) (front : List Outcome) : Type 0 where
  pub rising : AllPairs (λ a b. a.f1 <ℤ b.f1) front
  pub each : All (λ o. (x : Point) × (IsNondominated M x × HasOutcome M x o)) front
  pub narrow : All (λ o. IsNarrow o.f1 × IsNarrow o.f2) front

-- The whole front: its certificate, of these outcomes in least form, is accepted by the checker for the model, and is held.
pub record IsWholeFront (M : Program) (front : List Outcome) (held : Held) : Type 0 where
  pub is : IsFrontier M front
  pub narrow : All (λ o. IsNarrow o.f1 × IsNarrow o.f2) front
  pub cert : FrontCert
  pub holds : held ≡ holding.Front cert
  pub proved : IsFrontProved M cert
  pub outcomes : front ≡ outcomes_in_own_sense M.sense (outcomes_of cert)

-- no point is feasible, by a certificate that the checker accepts for the model, and is held
pub record IsNoFront (l : Limits) (M : Program) (results : ℕ) (held : Held) : Type 0 where
  pub empty : IsEmpty M
  pub first_whole : HasWholeObjective M 1
  pub second_whole : HasWholeObjective M 2
  pub within : results ≤ l.nodes
  pub cert : Cert
  pub holds : held ≡ holding.Infeasible cert
  pub proved : IsEmptinessProved M cert

-- ---- a part that does not end

-- What is told is nondominated; in least form it is what is found where the part is due, whose inner model this is.
pub record IsFoundAtPart (M : Program) (front : List Outcome) (part : Part) : Type 0 where
  pub told : AreNondominated M front
  pub first_whole : HasWholeObjective M 1
  pub second_whole : HasWholeObjective M 2
  pub least : List Outcome
  pub turned : front ≡ outcomes_in_own_sense M.sense least
  pub at : StandsAtPart (bare_model M) (whole_constant M 1) (whole_constant M 2) least part
  pub inner : Program
  pub inner_is : inner ≡ part_model (bare_model M) at.i1 at.i2 part

-- A search of the part's inner model, from a fresh root and by these limits with the results that remain, stopped so, by its cause over that
-- search and its pool; and these limits are not enough for it. Results are those of all parts.
pub record IsStoppedAt (l : Limits) (M : Program) (front : List Outcome) (part : Part) (why : StopWhy) (results : ℕ) (bound best : Option ℚ) (held : Held) : Type 0 where
  pub stands : IsFoundAtPart M front part
  pub stopped : StopsAtPart (stops_by l) stands.inner l.nodes results (λ here. solve.Stopped why here bound best)
  pub bound_holds : IsBound stands.inner bound
  pub best_found : IsFoundValue stands.inner best
  pub none_held : held ≡ holding.Nothing

-- the place is the part's first number without room
pub record IsWideAtPart (M : Program) (front : List Outcome) (part : Part) (place : ScalePlace) (held : Held) : Type 0 where
  pub stands : IsFoundAtPart M front part
  pub wide : IsFirstWideScale (bare_model M) (whole_constant M 1) (whole_constant M 2) stands.at.i1 stands.at.i2 part place
  pub none_held : held ≡ holding.Nothing

-- ---- answers

-- the first objective that is not whole, by its first column that has a cost and is not integer, or whose cost is not whole; `None`: by its
-- constant
abbrev pub IsFirstNotWholeObjective : Program → ℕ → Option ColId → Type 0
IsFirstNotWholeObjective M which col =
    ((which ≡ 1) × IsWholeAnswer M 1 (Err (record { col = col }))) ⊎ ((which ≡ 2) × HasWholeObjective M 1 × IsWholeAnswer M 2 (Err (record { col = col })))

abbrev pub IsFrontFound : Limits → Program → FrontAnswer → Held → Type 0
IsFrontFound l M (Complete front) held = IsWholeFront M front held
IsFrontFound l M (Infeasible results) held = IsNoFront l M results held
IsFrontFound l M (Stopped front part why results bound best) held = IsStoppedAt l M front part why results bound best held
IsFrontFound l M (NotWhole which col) held = ⊥
IsFrontFound l M (WideScale front part place) held = IsWideAtPart M front part place held
IsFrontFound l M Memory held = held ≡ holding.Nothing

-- the search stays, with its tree and its points, and this is held
pub record HasFound (l : Limits) (S : PlainSearch) (answer : FrontAnswer) (new : PlainEnv) : Type 0 where
  pub held : Held
  pub found : IsFrontFound l S.model answer held
  pub env_is : new ≡ with_answer S held

-- an objective that is not whole leaves all, what is held too
abbrev pub FindsIn : Limits → PlainSearch → PlainEnv → FrontAnswer → PlainEnv → Type 0
FindsIn l S old (Complete front) new = HasFound l S (Complete front) new
FindsIn l S old (Infeasible results) new = HasFound l S (Infeasible results) new
FindsIn l S old (Stopped front part why results bound best) new = HasFound l S (Stopped front part why results bound best) new
FindsIn l S old (NotWhole which col) new = IsFirstNotWholeObjective S.model which col × (new ≡ old)
FindsIn l S old (WideScale front part place) new = HasFound l S (WideScale front part place) new
FindsIn l S old Memory new = HasFound l S Memory new

abbrev pub FindsFront : Limits → Option PlainSearch → PlainEnv → Result FrontAnswer EnvFault → PlainEnv → Type 0
FindsFront l None old result new = (result ≡ Err fault.NoModel) × (new ≡ old)
FindsFront l (Some S) old (Ok answer) new = FindsIn l S old answer new
FindsFront l (Some S) old (Err f) new = ⊥
