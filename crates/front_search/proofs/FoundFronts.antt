-- What a sweep of the model in least form answers, told of the model.
use Rattle.std.specs.Prelude.{◌≡◌, ℕ, ◌+◌, ℤ, ◌-◌, ◌≤◌, List, All, Option, Some, None}
use Rattle.std.proofs.Common.{refl, sym, ap, subst, ◌∙◌, arith, inl, inr}
use Rattle.std.proofs.lemmas.List.Elements.{All-weaker}
use Rattle.frac128.specs.Rational.{ℚ}
use Rattle.frac128.specs.Range.{IsNarrow}
use Rattle.lp_model.specs.Program.{Program, Point, HasWholeObjective}
use Rattle.lp_model.specs.declared.types.ColId.{ColId}
use Rattle.lp_model.specs.declared.answers.StopWhy.{StopWhy}
use Rattle.search_answers.specs.declared.answers.Answer.{Answer}
use Rattle.search_answers.specs.declared.answers.Answer.TheVariants as solve
use Rattle.model_points.specs.Answers.{IsFirstNotWhole}
use Rattle.word_names.proofs.ScriptNames.{all-unmapped}
use Rattle.cert_text.specs.declared.cert.Claim.TheVariants as claim
use Rattle.cert_text.specs.declared.cert.Cert.{Cert}
use Rattle.frontier.specs.declared.outcomes.Outcome.{Outcome}
use Rattle.frontier.specs.Outcomes.{IsNondominated, HasLeastOutcome, IsFrontier, outcomes_in_own_sense}
use Rattle.frontier.proofs.OwnSense.{own-frontier}
use Rattle.inner_models.specs.Inner.{bare_model}
use Rattle.inner_models.proofs.BareModels.{bare-first, bare-second}
use Rattle.front_sweeps.specs.Steps.{IsNondominatedOutcome}
use Rattle.front_text.specs.declared.front.FrontCert.{FrontCert}
use Rattle.front_check.specs.Accepted.{outcome_of, whole_constant}
use Rattle.front_check.specs.Verdict.{HasWholeObjectives}
use Rattle.kept_env.specs.declared.held.Held.{Held}
use Rattle.kept_env.specs.declared.held.Held.TheVariants as holding
use Rattle.tree_search.specs.Enough.{IsEnough}
use Rattle.tree_search.specs.Solves.{Solved}
use Rattle.tree_search.specs.declared.limits.Limits.{Limits}
use Rattle.wcn_driver.specs.declared.answers.Part.{Part}
use Rattle.wcn_driver.specs.declared.answers.ScalePlace.{ScalePlace}
use Rattle.wcn_driver.specs.declared.answers.Mc.{Mc}
use Rattle.wcn_driver.specs.declared.answers.Mc.TheVariants as mc
use Rattle.wcn_driver.specs.Parts.{part_model}
use Rattle.wcn_driver.specs.Answers.{StandsAtPart, StopsAtPart, IsMc}
use Rattle.front_env.specs.FrontEnvs.{PlainFrontEnv, program_of, with_results, behind, IsStopBy, IsStopBehind, stops_of}
use Rattle.front_search.specs.declared.answers.FrontAnswer.{FrontAnswer}
use Rattle.front_search.specs.declared.answers.FrontAnswer.TheVariants.{Complete, Infeasible, Stopped, NotWhole, WideScale, Memory}
use Rattle.front_search.specs.FrontsFound.{stops_by, AreNondominated, IsFoundAtPart, IsStoppedAt, IsFirstNotWholeObjective, IsFrontFound}
use Rattle.front_search.specs.Completeness.{counted_results, HasFrontEnded, IsFrontEnough}
use Rattle.front_search.proofs.TurnedLists.{own-narrow, own-told}
use Rattle.front_search.proofs.LeastForm.{least_model, empty-to, nondominated-to, frontier-to, verdict-to}
use Rattle.front_search.proofs.BareCertificates.{emptiness-to}

-- an objective that is whole has no first column that makes it not so
whole-clash : (M : Program) (w : ℕ) (col : Option ColId) → HasWholeObjective M w → ¬ IsFirstNotWhole M w col
whole-clash M w (Some col) whole h = h.2 (whole.costs col.0 h.0)
whole-clash M w None whole h = h.1 whole.constant

module _ (l : Limits) (M : Program) (whole : HasWholeObjectives M) where
  abbrev pub Says : Mc → Type 0
  Says answer = IsMc (stops_by l) (bare_model M) l.nodes (whole_constant M 1) (whole_constant M 2) answer

  pub whole-found : (front own : List Outcome) (cert : FrontCert) → Says (mc.Complete front cert) → own ≡ outcomes_in_own_sense M.sense front → IsFrontFound l M (Complete own) (holding.Front cert)
  whole-found front own cert says turned =
      let least = frontier-to M whole.0 whole.1 front says.0 in
      record {
        is = subst (IsFrontier M) (sym turned) (own-frontier M front least);
        narrow = subst (All (λ (o : Outcome). IsNarrow o.f1 × IsNarrow o.f2)) (sym turned) (own-narrow M.sense front says.3);
        cert = cert;
        holds = refl;
        proved = record {
          accepted = verdict-to M whole.0 whole.1 cert says.1.0;
          whole = says.1.1;
          narrow = all-unmapped outcome_of (λ (o : Outcome). IsNarrow o.f1 × IsNarrow o.f2) cert.outcomes (subst (All (λ (o : Outcome). IsNarrow o.f1 × IsNarrow o.f2)) (sym says.2) says.3);
        };
        outcomes = turned ∙ ap (outcomes_in_own_sense M.sense) (sym says.2);
      }

  pub none-found : (cert : Cert) (results : ℕ) → Says (mc.Infeasible cert results) → IsFrontFound l M (Infeasible results) (holding.Infeasible cert)
  none-found cert results says =
      let claims = sym (claim_is cert says.1.claims) in
      record {
        empty = empty-to M whole.0 whole.1 says.0.0;
        first_whole = whole.0;
        second_whole = whole.1;
        within = says.0.1;
        cert = cert;
        holds = refl;
        proved = record { claims = claims; accepted = emptiness-to M cert claims says.1.accepted; whole = says.1.whole };
      }
    where
      claim_is : (c : Cert) → Some claim.Infeasible ≡ Some c.claim → claim.Infeasible ≡ c.claim
      claim_is c e = cc

  abbrev stands-at : (front own : List Outcome) (part : Part) → StandsAtPart (bare_model M) (whole_constant M 1) (whole_constant M 2) front part → own ≡ outcomes_in_own_sense M.sense front → IsFoundAtPart M own part
  stands-at front own part at turned = record {
    told =
        subst (AreNondominated M) (sym turned)
        (own-told M front at.apart (All-weaker (IsNondominatedOutcome (least_model M whole.0 whole.1)) (λ o. (x : Point) × (IsNondominated M x × HasLeastOutcome M x o)) (nondominated-to M whole.0 whole.1) front at.each) at.narrow);
    first_whole = whole.0;
    second_whole = whole.1;
    least = front;
    turned = turned;
    at = at;
    inner = part_model (bare_model M) at.i1 at.i2 part;
    inner_is = refl;
  }

  pub stop-found : (front own : List Outcome) (part : Part) (why : StopWhy) (results : ℕ) (bound best : Option ℚ) (held : Held) → Says (mc.Stopped front part why results bound best) → own ≡ outcomes_in_own_sense M.sense front → held ≡ holding.Nothing
      → IsFrontFound l M (Stopped own part why results bound best) held
  stop-found front own part why results bound best held says turned none = record {
    stands = stands-at front own part says.0 turned;
    stopped = says.1;
    bound_holds = says.2.0;
    best_found = says.2.1;
    none_held = none;
  }

  pub wide-found : (front own : List Outcome) (part : Part) (place : ScalePlace) (held : Held) → Says (mc.WideScale front part place) → own ≡ outcomes_in_own_sense M.sense front → held ≡ holding.Nothing → IsFrontFound l M (WideScale own part place) held
  wide-found front own part place held says turned none = record { stands = stands-at front own part says.0 turned; wide = says.1; none_held = none }

  pub whole-always : (which : ℕ) (col : Option ColId) → Says (mc.NotWhole which col) → ⊥
  whole-always which col (inl (first, h)) = whole-clash (bare_model M) 1 col (bare-first M whole.0) h
  whole-always which col (inr (second, one, h)) = whole-clash (bare_model M) 2 col (bare-second M whole.1) h

-- ---- stops behind results that a search which was let go had placed

-- the results before the part, and those before it in the part, are together before it
stops-behind : (l : Limits) (P : Program) (nodes results : ℕ) (why : StopWhy) (bound best : Option ℚ) → StopsAtPart (IsStopBehind l) P nodes results (λ here. solve.Stopped why here bound best)
    → StopsAtPart (stops_by l) P nodes results (λ here. solve.Stopped why here bound best)
stops-behind l P nodes results why bound best h = by h.stopped.rest h.stopped.is h.stopped.stop
  where
    more : ℕ
    more = h.stopped.before

    by : (rest : Answer) → solve.Stopped why h.here bound best ≡ behind more rest → IsStopBy (with_results l (nodes - h.before - more)) P rest → StopsAtPart (stops_by l) P nodes results (λ here. solve.Stopped why here bound best)
    by (solve.Optimal v x n) e stop = absurd cc
    by (solve.Within g v x n) e stop = absurd cc
    by (solve.Infeasible n) e stop = absurd cc
    by (solve.Unbounded n) e stop = absurd cc
    by (solve.Stopped same here b t) e stop =
        let why_is : same ≡ why = cc in
        let bound_is : b ≡ bound = cc in
        let best_is : t ≡ best = cc in
        let here_is : h.here ≡ more + here = cc in
        let sum = h.sum in
        let together : nodes - h.before - more ≡ nodes - (h.before + more) = omega arith in
        record {
          before = h.before + more;
          here = here;
          sum = omega arith;
          within = h.within;
          stopped =
              subst (λ (n : ℕ). IsStopBy (with_results l n) P (solve.Stopped why here bound best)) together
              (subst (λ (w : StopWhy). IsStopBy (with_results l (nodes - h.before - more)) P (solve.Stopped w here bound best)) why_is
              (subst (λ (u : Option ℚ). IsStopBy (with_results l (nodes - h.before - more)) P (solve.Stopped same here u best)) bound_is
              (subst (λ (u : Option ℚ). IsStopBy (with_results l (nodes - h.before - more)) P (solve.Stopped same here b u)) best_is stop)));
        }
    by solve.Memory e stop = absurd cc

mc-behind : (l : Limits) (N : Program) (nodes : ℕ) (c d : ℤ) (answer : Mc) → IsMc (IsStopBehind l) N nodes c d answer → IsMc (stops_by l) N nodes c d answer
mc-behind l N nodes c d (mc.Complete front cert) h = h
mc-behind l N nodes c d (mc.Infeasible cert results) h = h
mc-behind l N nodes c d (mc.Stopped front part why results bound best) h = (h.0, stops-behind l (part_model N h.0.i1 h.0.i2 part) nodes results why bound best h.1, h.2)
mc-behind l N nodes c d (mc.NotWhole which col) h = h
mc-behind l N nodes c d (mc.WideScale front part place) h = h
mc-behind l N nodes c d mc.Memory h = h

-- what a sweep by these limits, over the model in least form, answers
pub swept : (l : Limits) (M : Program) (e : PlainFrontEnv) (first second : ℤ) (answer : Mc) → e.limits ≡ l → program_of e ≡ bare_model M → first ≡ whole_constant M 1 → second ≡ whole_constant M 2
    → IsMc (stops_of e) (program_of e) l.nodes first second answer → IsMc (stops_by l) (bare_model M) l.nodes (whole_constant M 1) (whole_constant M 2) answer
swept l M e first second answer limits_is program_is first_is second_is says =
    subst (λ k. IsMc (stops_by l) (bare_model M) l.nodes (whole_constant M 1) k answer) second_is
    (subst (λ k. IsMc (stops_by l) (bare_model M) l.nodes k second answer) first_is
    (subst (λ P. IsMc (stops_by l) P l.nodes first second answer) program_is
    (mc-behind l (program_of e) l.nodes first second answer (subst (λ m. IsMc (IsStopBehind m) (program_of e) l.nodes first second answer) limits_is says))))

-- ---- completeness

not-whole-ended : (l : Limits) (M : Program) (results which : ℕ) (col : Option ColId) → IsFrontEnough l M results → IsFirstNotWholeObjective M which col → ⊥
not-whole-ended l M results which col enough (inl (first, h)) = whole-clash M 1 col enough.first_whole h
not-whole-ended l M results which col enough (inr (second, one, h)) = whole-clash M 2 col enough.second_whole h

stop-ended : (l : Limits) (M : Program) (front : List Outcome) (part : Part) (why : StopWhy) (results : ℕ) (bound best : Option ℚ) (held : Held) → IsFrontEnough l M results → IsStoppedAt l M front part why results bound best held → ⊥
stop-ended l M front part why results bound best held enough h =
    let stands = h.stands in
    let at = stands.at in
    let before = h.stopped.before in
    let sum = h.stopped.sum in
    let stop = h.stopped.stopped in
    let answer = solve.Stopped why h.stopped.here bound best in
    let limits = with_results l (l.nodes - before) in
    let few : before ≤ results = omega arith in
    let P = part_model (bare_model M) at.i1 at.i2 part in
    let solved : Solved P limits answer stop.search = subst (λ N. Solved N limits answer stop.search) stands.inner_is stop.solved in
    stop.short (subst (λ N. IsEnough N stop.search.cuts limits) (sym stands.inner_is) (enough.enough stands.least part at before answer stop.search few solved))

pub found-ended : (l : Limits) (M : Program) (answer : FrontAnswer) (held : Held) → IsFrontFound l M answer held → IsFrontEnough l M (counted_results answer) → HasFrontEnded answer
found-ended l M (Complete front) held found enough = tt
found-ended l M (Infeasible results) held found enough = tt
found-ended l M (Stopped front part why results bound best) held found enough = stop-ended l M front part why results bound best held enough found
found-ended l M (NotWhole which col) held found enough = found
found-ended l M (WideScale front part place) held found enough = enough.room found.stands.least part found.stands.at place found.wide
found-ended l M Memory held found enough = tt
