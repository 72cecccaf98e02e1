-- What is written of a solved environment is what `bench` prints.
use Rattle.std.specs.Prelude.{IfSome}
use Rattle.std.proofs.Common.{◌≡◌, ◌∙◌, ℕ, false, true, List, [], ◌++◌, sym, subst, ap, inl, inr, Option, Some, None, Ok, Err, Result}
use Rattle.lp_model.specs.Program.{Program, Point}
use Rattle.search_answers.specs.declared.answers.Answer.{Answer}
use Rattle.search_answers.specs.declared.answers.Answer.TheVariants.{Optimal, Within, Infeasible, Unbounded, Stopped, Memory}
use Rattle.sound_searches.specs.Sound.{PlainSearch}
use Rattle.tree_search.specs.Enough.{IsEnough}
use Rattle.tree_search.specs.Solves.{Solved, SolvesFrom, HasRayFor, HasRayFrom}
use Rattle.tree_search.specs.Truth.{IsTrueAnswer, HasEnded}
use Rattle.kept_env.specs.Env.{PlainEnv, Holds, model_of, pool_in}
use Rattle.kept_env.specs.Worked.{Worked, WorksEnv, held_by}
use Rattle.kept_env.specs.declared.env.EnvFault.{EnvFault}
use Rattle.search_replies.specs.Solve.{IsSolvedEnv}
use Rattle.bench_replies.specs.Benches.{IsCertified, IsBenchOf, bench_limits, cert_line, head_line, is_finished}
use Rattle.bench_replies.specs.private.Telling.{WritesAll, WritesCert, WritesLines, WritesOf, is_wanting}

-- what is held of an answer is what is certified of it
cert-told : (M : Program) (pivots : ℕ) (S : PlainSearch) (answer : Answer) (ray : Option Point) (old new : List ℕ) → HasRayFor M pivots answer ray → is_wanting answer ≡ false → WritesCert (Some S) (held_by answer ray) old new
    → (new ≡ old ++ cert_line (is_finished answer)) × IsCertified S answer
cert-told M pivots S (Optimal v x n) ray old new has wanted h = h
cert-told M pivots S (Within g v x n) ray old new has wanted h = h
cert-told M pivots S (Infeasible n) ray old new has wanted h = h
cert-told M pivots S (Unbounded n) (Some d) old new has wanted h = (h.0, (d, h.1.0, h.1.1))
cert-told M pivots S (Unbounded n) None old new has wanted h = absurd (has tt)
cert-told M pivots S (Stopped why n bound best) ray old new has wanted h = (h, tt)
cert-told M pivots S Memory ray old new has wanted h = absurd (cc)

wanting : (answer : Answer) → answer ≡ Memory → is_wanting answer ≡ true
wanting answer e = ap is_wanting e

-- of the search that was loaded
module _ (M : Program) (rows cols nodes : ℕ) (S : PlainSearch) (model : S.model ≡ M) (answer : Answer) (new : PlainEnv) where
  worked : Worked (SolvesFrom (bench_limits nodes) S) (HasRayFrom (bench_limits nodes) S) answer new → IsTrueAnswer S.model (bench_limits nodes) answer → (IsEnough S.model (pool_in new.search) (bench_limits nodes) → HasEnded answer)
      → (after : List ℕ) → WritesOf rows cols (model_of new) new answer [] after → IsBenchOf M rows cols nodes after
  worked w holds complete after written = elim w.found [
    | inl solved ↦
        let T = w.search in
        let there : model_of new ≡ Some M = ap model_of w.env_is ∙ ap Some (solved.model ∙ model) in
        let all : WritesAll rows cols M new answer [] after = subst (λ m. WritesOf rows cols m new answer [] after) there written in
        let front : List ℕ = ([] ++ head_line rows cols) ++ all.line in
        let cert =
        cert-told S.model (bench_limits nodes).pivots T answer w.direction front after w.has_ray all.wanted
        (subst (λ (env : PlainEnv). WritesCert env.search env.held (([] ++ head_line rows cols) ++ all.line) after) w.env_is all.cert) in
        record {
          answer = answer;
          search = T;
          solved = subst (λ m. Solved m (bench_limits nodes) answer T) model solved;
          true_answer = subst (λ m. IsTrueAnswer m (bench_limits nodes) answer) model holds;
          complete = λ enough.
              complete (subst (λ (env : PlainEnv). IsEnough S.model (pool_in env.search) (bench_limits nodes)) (sym w.env_is) (subst (λ m. IsEnough m T.cuts (bench_limits nodes)) (sym model) enough));
          certified = cert.1;
          line = all.line;
          first = all.first;
          told = cert.0;
        }
    | inr wants ↦
        let there : model_of new ≡ Some w.search.model = ap model_of w.env_is in
        let all = subst (λ m. WritesOf rows cols m new answer [] after) there written in
        let clash : true ≡ false = sym (wanting answer wants.wants) ∙ all.wanted in
        absurd (cc)
  ]

pub benched : (M : Program) (rows cols nodes : ℕ) (old new : PlainEnv) (r : Result Answer EnvFault) → Holds M old → IsSolvedEnv (bench_limits nodes) old r new → (before after : List ℕ) → before ≡ [] → WritesLines rows cols new r before after
    → IsBenchOf M rows cols nodes after
benched M rows cols nodes old new (Err f) holds solved before after empty written = absurd written
benched M rows cols nodes old new (Ok answer) holds solved before after empty written =
    let S = holds.search in
    let works : Worked (SolvesFrom (bench_limits nodes) S) (HasRayFrom (bench_limits nodes) S) answer new = subst (λ o. WorksEnv (SolvesFrom (bench_limits nodes)) (HasRayFrom (bench_limits nodes)) o old (Ok answer) new) holds.search_is solved.solves in
    let is_true : IsTrueAnswer S.model (bench_limits nodes) answer = subst (λ o. IfSome o (λ T. IsTrueAnswer T.model (bench_limits nodes) answer)) holds.search_is solved.true_answer in
    let complete : IsEnough S.model (pool_in new.search) (bench_limits nodes) → HasEnded answer = subst (λ o. IfSome o (λ T. IsEnough T.model (pool_in new.search) (bench_limits nodes) → HasEnded answer)) holds.search_is solved.complete in
    worked M rows cols nodes S holds.fresh.model answer new works is_true complete after (subst (λ t. WritesOf rows cols (model_of new) new answer t after) empty written)
