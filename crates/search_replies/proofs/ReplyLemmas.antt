-- What the reply to a search shows.
use Rattle.std.proofs.Common.{◌≡◌, ◌⊎◌, ℕ, ◌+◌, ◌<◌, ◌≤◌, ◌^◌, arith, List, [], ◌++◌, refl, subst, sym, ap, ◌∙◌, inl, inr, ⊎_elim, Option, Some, None, Ok, Err, Result}
use Rattle.std.specs.Prelude.{◌*◌, ◌-◌, max, OnOk, OnErr, IfOk, IfSome, length}
use Rattle.std.specs.Option.{option_map}
use Rattle.frac128.specs.Rational.{ℚ}
use Rattle.frac128.specs.Range.{Fits}
use Rattle.sym_io.specs.Files.{Files}
use Rattle.command_words.specs.declared.options.SearchOptions.{SearchOptions}
use Rattle.lp_model.specs.Lawful.{IsLawful}
use Rattle.lp_model.specs.Program.{Program, Point, IsOptimum, IsWithinGap, value}
use Rattle.lp_model.specs.declared.answers.StopWhy.TheVariants.{Nodes, Tree, Pivots, Wide}
use Rattle.search_answers.specs.declared.answers.Answer.{Answer}
use Rattle.search_answers.specs.declared.answers.Answer.TheVariants.{Optimal, Within, Infeasible, Unbounded, Stopped, Memory}
use Rattle.model_points.specs.Rays.{IsUnbounded}
use Rattle.word_names.specs.WordNames.{HasWordNames}
use Rattle.word_names.specs.ScriptModels.{IsScriptModel}
use Rattle.word_names.proofs.ScriptNames.{script-words}
use Rattle.lp_model.specs.Limits.{node_limit}
use Rattle.branch_tree.specs.Numbered.{IsNumbered}
use Rattle.list_order.specs.Ordered.{IsInOrder}
use Rattle.search_order.proofs.SearchOrder.{search-order}
use Rattle.ray_phase.proofs.BeginningLemmas.{is_ray}
use Rattle.branch_tree.specs.Changes.{first_tree}
use Rattle.search_counting.specs.Work.{whole_points, cap_of, HasRoomFor}
use Rattle.search_counting.proofs.FreshLemmas.{first-roomy}
use Rattle.search_parts.specs.Points.{IsIncumbent}
use Rattle.sound_searches.specs.Calls.{search_with_limit}
use Rattle.sound_searches.specs.Sound.{PlainSearch}
use Rattle.tree_search.specs.Enough.{IsEnough, IsKeptEnough}
use Rattle.tree_search.specs.Solves.{Solved, SolvesModel, SolvesFrom, HasRayFor, HasRayFrom}
use Rattle.tree_search.specs.Truth.{IsCount, IsTrueBy, IsTrueAnswer, IsTrueOfKept, HasEnded, IsTooSmall}
use Rattle.tree_search.specs.Warm.{Warms, WarmsFrom, PlacesNoResult}
use Rattle.tree_search.specs.declared.limits.Limits.{Limits}
use Rattle.kept_env.specs.Env.{PlainEnv, model_of, pool_in}
use Rattle.kept_env.specs.Worked.{Worked, WorksEnv, held_by, IsOldest}
use Rattle.kept_env.specs.declared.env.EnvFault.{EnvFault}
use Rattle.reply_texts.specs.Reports.{AnswerIsShaped, AnswerHasRoom}
use Rattle.reply_texts.specs.Texts.{optimal_text, within_text, stopped_nodes_text, answer_text, no_model_text}
use Rattle.shell_replies.specs.Shown.{point_shown}
use Rattle.shell_replies.proofs.ShownBack.{point-shown, value-shown, point-within, gap-within, value-within}
use Rattle.command_family.specs.State.{shell_state, HasScriptModel, HasOrder}
use Rattle.command_family.proofs.ReplyLemmas.{on_ok_if, always}
use Rattle.search_replies.specs.Answering.{IsAnswerOf, IsTellable, search_text}
use Rattle.search_replies.specs.Showing.{Finding, ShowsNoEndBy, AnswersBy, Optimum, Gap, Emptiness, NoEnd, NodeStop, TreeStop, PivotStop, WideStop, Wanting}
use Rattle.search_replies.specs.Workers.{Staffed}
use Rattle.search_replies.specs.Solve.{limits_of, IsSolvedEnv, HasFewNodes, AnswersSolve, RepliesToSolve, SolveStep}
use Rattle.search_replies.proofs.WithinLemmas.{Reached, solved-within, warmed-within}
use Rattle.search_replies.specs.Warming.{IsWarmed, WentOn, TellsAgain, TellsWithinAgain, TellsNoEnd, AnswersWarm, RepliesToWarm, WarmStep}

-- ---- whatever search was had

-- how the search T was had that shows an answer, and what the environment is from then on
record Has (Found : Finding) (Left : PlainSearch → Type 0) (M : Program) (l : Limits) (answer : Answer) (env : PlainEnv) : Type 0 where
  search : PlainSearch
  found : ¬ (answer ≡ Memory) → Found answer search
  left : answer ≡ Memory → Left search
  model : search.model ≡ M
  oldest : IsOldest search answer
  direction : Option Point
  has_ray : HasRayFor M l.pivots answer direction
  env_is : env ≡ record { search = Some search; held = held_by answer direction }
  -- within a gap a leaf is open, and all leaves are within it
  reached : (g v : ℚ) (x : Point) (n : ℕ) → answer ≡ Within g v x n → Reached g search

-- that the objective has no end is held with the ray
no-end : (Found : Finding) (M : Program) (l : Limits) (n : ℕ) (new : PlainEnv) (T : PlainSearch) (direction : Option Point) → IsUnbounded M → IsCount M l n → Found (Unbounded n) T → HasRayFor M l.pivots (Unbounded n) direction
    → new ≡ record { search = Some T; held = held_by (Unbounded n) direction } → ShowsNoEndBy Found M l (answer_text M (Unbounded n)) new
no-end Found M l n new T None unbounded count solved has is = absurd (has tt)
no-end Found M l n new T (Some d) unbounded count solved has is = record {
  unbounded = unbounded;
  results = n;
  direction = d;
  is_ray = is_ray M l.pivots d has;
  found = has;
  told = record { search = T; solved = solved; env_is = is; shown = refl };
  count = count;
}

module _ (Found : Finding) (Left : PlainSearch → Type 0) (Enough Small : Type 0) (M : Program) (l : Limits) (lawful : IsLawful M) (plain : HasWordNames M) where
  answers : (answer : Answer) (new : PlainEnv) → AnswerHasRoom answer → IsTrueBy Small M l answer → (Enough → HasEnded answer) → Has Found Left M l answer new → AnswersBy Found Left Enough Small M l (answer_text M answer) new
  answers (Optimal v x n) new room is complete s =
      let text : List ℕ = optimal_text M x n in
      let worth : v ≡ value M 1 x = is.0.1 in
      let fits : Fits (value M 1 x) = subst Fits worth room.0 in
      let shape : length x ≡ length M.cols = is.0.0.feasible.shape in
      let back : point_shown M text ≡ x = point-shown M x n room.1.1 shape plain lawful.columns_distinct room.1.0 fits in
      let found : Found (Optimal v x n) s.search = s.found (λ e. cc) in
      Optimum (record {
        optimum = subst (λ y. IsOptimum M y) (sym back) is.0.0;
        worth = value-shown M x n room.1.1 shape plain lawful.columns_distinct room.1.0 fits ∙ ap (λ y. Some (value M 1 y)) (sym back);
        results = n;
        told = record {
          search = s.search;
          solved = subst (λ y. Found (Optimal (value M 1 y) y n) s.search) (sym back) (subst (λ w. Found (Optimal w x n) s.search) worth found);
          env_is = s.env_is;
          shown = ap (λ y. optimal_text M y n) (sym back);
        };
        oldest = subst (λ N. IsIncumbent N s.search.points (Some (point_shown M text))) s.model (subst (λ y. IsIncumbent s.search.model s.search.points (Some y)) (sym back) s.oldest);
        count = is.1;
      })
  answers (Within g v x n) new room is complete s =
      let text : List ℕ = within_text M g x n in
      let worth : v ≡ value M 1 x = is.0.1.1 in
      let fits : Fits (value M 1 x) = subst Fits worth room.1.0 in
      let shape : length x ≡ length M.cols = is.0.1.0.feasible.shape in
      let back : point_shown M text ≡ x = point-within M g x n room.1.1.1 shape plain lawful.columns_distinct room.0 room.1.1.0 fits in
      let found : Found (Within g v x n) s.search = s.found (λ e. cc) in
      let reached = s.reached g v x n refl in
      Gap (record {
        gap = g;
        asked = is.0.0;
        gap_is = gap-within M g x n room.1.1.1 plain room.0 room.1.1.0 fits;
        within = subst (λ y. IsWithinGap M g y) (sym back) is.0.1.0;
        worth = value-within M g x n room.1.1.1 plain room.0 room.1.1.0 fits ∙ ap (λ y. Some (value M 1 y)) (sym back);
        results = n;
        told = record {
          search = s.search;
          solved = subst (λ y. Found (Within g (value M 1 y) y n) s.search) (sym back) (subst (λ w. Found (Within g w x n) s.search) worth found);
          env_is = s.env_is;
          shown = ap (λ y. within_text M g y n) (sym back);
        };
        oldest = subst (λ N. IsIncumbent N s.search.points (Some (point_shown M text))) s.model (subst (λ y. IsIncumbent s.search.model s.search.points (Some y)) (sym back) s.oldest);
        left = reached.0;
        leaves = reached.1;
        within_limit = is.1.0;
        below_cap = is.1.1;
      })
  answers (Infeasible n) new room is complete s = Emptiness (record {
    empty = is.0;
    results = n;
    told = record { search = s.search; solved = s.found (λ e. cc); env_is = s.env_is; shown = refl };
    count = is.1;
  })
  answers (Unbounded n) new room is complete s = NoEnd (no-end Found M l n new s.search s.direction is.0 is.1 (s.found (λ e. cc)) s.has_ray s.env_is)
  answers (Stopped Nodes n bound best) new room is complete s =
      let all : n ≡ l.nodes = is.1.0 in
      let found : Found (Stopped Nodes n bound best) s.search = s.found (λ e. cc) in
      NodeStop (record {
        bound = bound;
        best = best;
        holds = is.0.0;
        found = is.0.1;
        told = record {
          search = s.search;
          solved = subst (λ k. Found (Stopped Nodes k bound best) s.search) all found;
          env_is = s.env_is;
          shown = ap (λ k. stopped_nodes_text k bound best) all;
        };
        below_cap = subst (λ k. k < cap_of M) all is.1.1;
        short = complete;
      })
  answers (Stopped Tree n bound best) new room is complete s = TreeStop (record {
    results = n;
    stop = record {
      bound = bound;
      best = best;
      holds = is.0.0;
      found = is.0.1;
      told = record { search = s.search; solved = s.found (λ e. cc); env_is = s.env_is; shown = refl };
      below_cap = is.1.1.0;
      short = complete;
    };
    within_limit = is.1.0;
    small = is.1.1.1;
  })
  answers (Stopped (Pivots place) n bound best) new room is complete s = PivotStop (record {
    results = n;
    place = place;
    stop = record {
      bound = bound;
      best = best;
      holds = is.0.0;
      found = is.0.1;
      told = record { search = s.search; solved = s.found (λ e. cc); env_is = s.env_is; shown = refl };
      below_cap = is.1.1;
      short = complete;
    };
    within_limit = is.1.0;
  })
  answers (Stopped (Wide at_) n bound best) new room is complete s = WideStop (record {
    results = n;
    place = at_;
    stop = record {
      bound = bound;
      best = best;
      holds = is.0.0;
      found = is.0.1;
      told = record { search = s.search; solved = s.found (λ e. cc); env_is = s.env_is; shown = refl };
      below_cap = is.1.1;
      short = complete;
    };
    within_limit = is.1.0;
  })
  answers Memory new room is complete s = Wanting (record { told = refl; search = s.search; left = s.left refl; env_is = s.env_is })

-- ---- a search from a fresh root

-- a solve leaves the model
pub solves-model : (l : Limits) (old : PlainSearch) (answer : Answer) (S : PlainSearch) → SolvesModel old.model l old answer S → S.model ≡ old.model
solves-model l old answer S (inl s) = s.model
solves-model l old answer S (inr wants) = ap (λ (S : PlainSearch). S.model) wants.kept

-- something but want of memory was found
found : (l : Limits) (old : PlainSearch) (answer : Answer) (S : PlainSearch) → SolvesModel old.model l old answer S → ¬ (answer ≡ Memory) → Solved old.model l answer S
found l old answer S (inl s) other = s
found l old answer S (inr wants) other = absurd (other wants.wants)

solves-has : (l : Limits) (old : PlainSearch) (answer : Answer) (new : PlainEnv) → Worked (SolvesFrom l old) (HasRayFrom l old) answer new → Has (Solved old.model l) (SolvesModel old.model l old Memory) old.model l answer new
solves-has l old answer new s = record {
  search = s.search;
  found = found l old answer s.search s.found;
  left = λ wants. subst (λ a. SolvesModel old.model l old a s.search) wants s.found;
  model = solves-model l old answer s.search s.found;
  oldest = s.oldest;
  direction = s.direction;
  has_ray = s.has_ray;
  env_is = s.env_is;
  reached = λ g v x n is. solved-within g v x n old.model l old s.search (subst (λ a. SolvesModel old.model l old a s.search) is s.found);
}

-- a new tree without room for the most splits may have fewer nodes than the most results
small-nodes : (M : Program) (l : Limits) → l.tree ≤ 2 ^ 63 → (¬ HasRoomFor (whole_points M - 1) (first_tree l.tree)) → HasFewNodes M l
small-nodes M l few small = less l.tree (cap_of M) (λ within. small (first-roomy M l.tree within (left (whole_points M) within)))
  where
    less : (a b : ℕ) → (b ≤ a → ⊥) → a < b
    less a b h = grind arith

    left : (p : ℕ) → max 1 (2 * p - 1) ≤ l.tree → 1 + 3 * (p - 1) < 2 ^ 64
    left p h = omega (arith, h, few)

-- so it is told
true-small : (M : Program) (l : Limits) → l.tree ≤ 2 ^ 63 → (answer : Answer) → IsTrueAnswer M l answer → IsTrueBy (HasFewNodes M l) M l answer
true-small M l few (Optimal v x n) is = is
true-small M l few (Within g v x n) is = is
true-small M l few (Infeasible n) is = is
true-small M l few (Unbounded n) is = is
true-small M l few (Stopped Nodes n bound best) is = is
true-small M l few (Stopped Tree n bound best) is = (is.0, (is.1.0, (is.1.1.0, small-nodes M l few is.1.1.1)))
true-small M l few (Stopped (Pivots place) n bound best) is = is
true-small M l few (Stopped (Wide at_) n bound best) is = is
true-small M l few Memory is = tt

-- an optimum has a number for each column, and its value
true-shaped : (Small : Type 0) (M : Program) (l : Limits) (answer : Answer) → IsTrueBy Small M l answer → AnswerIsShaped M answer
true-shaped Small M l (Optimal v x n) is = (is.0.0.feasible.shape, is.0.1)
true-shaped Small M l (Within g v x n) is = (is.0.1.0.feasible.shape, is.0.1.1)
true-shaped Small M l (Infeasible n) is = tt
true-shaped Small M l (Unbounded n) is = tt
true-shaped Small M l (Stopped why n bound best) is = tt
true-shaped Small M l Memory is = tt

-- ---- a search that went on

warms-has : (l : Limits) (old : PlainSearch) (answer : Answer) (new : PlainEnv) → Worked (WarmsFrom l old) (HasRayFrom l old) answer new → Has (WentOn old l) (WentOn old l Memory) old.model l answer new
warms-has l old answer new s =
    let went : WentOn old l answer s.search = record { warms = s.found.warms; model = s.found.model; extends = s.found.extends } in
    record {
      search = s.search;
      found = λ other. went;
      left = λ wants. subst (λ a. WentOn old l a s.search) wants went;
      model = s.found.model;
      oldest = s.oldest;
      direction = s.direction;
      has_ray = s.has_ray;
      env_is = s.env_is;
      reached = λ g v x n is. warmed-within g v x n l (search_with_limit old l.tree) s.search (subst (λ a. Warms l (search_with_limit old l.tree) a s.search) is s.found.warms);
    }

-- ---- the model stays

has-model : (Found : Finding) (Left : PlainSearch → Type 0) (M : Program) (l : Limits) (answer : Answer) (new : PlainEnv) → Has Found Left M l answer new → model_of new ≡ Some M
has-model Found Left M l answer new s = ap model_of s.env_is ∙ ap Some s.model

model-script : (old new : PlainEnv) (S : PlainSearch) → old.search ≡ Some S → model_of new ≡ Some S.model → HasScriptModel old → HasScriptModel new
model-script old new S some same script = subst (λ (m : Option Program). IfSome m IsScriptModel) (ap (option_map (λ (S : PlainSearch). S.model)) some ∙ sym same) script

plain-names : (new : PlainEnv) (M : Program) → model_of new ≡ Some M → HasScriptModel new → HasWordNames M
plain-names new M is script = script-words M (subst (λ (m : Option Program). IfSome m IsScriptModel) is script)

-- ---- with what the environment's call says

-- the text as far as it was written
telling : {E : Type 0} (text : List ℕ) (Q : List ℕ → Type 0) → Q text → (written : Result (Unit {0}) E) (before after : List ℕ) → before ≡ [] → IfOk written (λ _. after ≡ before ++ text) → OnOk written (Q after)
telling text Q shown written before after empty is = on_ok_if written (λ e. subst Q (sym (e ∙ ap (λ t. t ++ text) empty)) shown) is

-- the clauses of the call that solved, and of the one that went on
pub is-solved : (options : SearchOptions) (l : Limits) → l ≡ limits_of options → (old new : PlainEnv) (r : Result Answer EnvFault) → WorksEnv (SolvesFrom l) (HasRayFrom l) old.search old r new
    → IfOk r (λ a. IfSome old.search (λ S. IsTrueAnswer S.model l a)) → IfOk r (λ a. IfSome old.search (λ S. IsEnough S.model (pool_in new.search) l → HasEnded a)) → IsSolvedEnv (limits_of options) old r new
is-solved options l is old new r solves holds complete = subst (λ k. IsSolvedEnv k old r new) is (record { solves = solves; true_answer = holds; complete = complete })

pub is-warmed : (options : SearchOptions) (l : Limits) → l ≡ limits_of options → (old new : PlainEnv) (r : Result Answer EnvFault) → WorksEnv (WarmsFrom l) (HasRayFrom l) old.search old r new
    → IfOk r (λ a. IfSome old.search (λ S. IsTrueOfKept S l a)) → IfOk r (λ a. IfSome old.search (λ S. IsKeptEnough S (pool_in new.search) l → HasEnded a)) → IsWarmed (limits_of options) old r new
is-warmed options l is old new r warms holds complete = subst (λ k. IsWarmed k old r new) is (record { warms = warms; true_answer = holds; complete = complete })

-- what was answered is of the model that is there
module _ (l : Limits) (old new : PlainEnv) (r : Result Answer EnvFault) (solved : IsSolvedEnv l old r new) where
  pub solved-shaped : IsAnswerOf r (model_of new)
  solved-shaped = by r old.search solved.solves solved.true_answer
    where
      by : (o : Result Answer EnvFault) (search : Option PlainSearch) → WorksEnv (SolvesFrom l) (HasRayFrom l) search old o new → IfOk o (λ a. IfSome search (λ S. IsTrueAnswer S.model l a)) → IsAnswerOf o (model_of new)
      by (Err f) search h t = tt
      by (Ok answer) None h t = let clash = h.0 in absurd (cc)
      by (Ok answer) (Some S) h t =
          subst (IsAnswerOf (Ok answer)) (sym (has-model (Solved S.model l) (SolvesModel S.model l S Memory) S.model l answer new (solves-has l S answer new h))) (true-shaped (¬ HasRoomFor (whole_points S.model - 1) (first_tree l.tree)) S.model l answer t)

module _ (l : Limits) (old new : PlainEnv) (r : Result Answer EnvFault) (warmed : IsWarmed l old r new) where
  pub warmed-shaped : IsAnswerOf r (model_of new)
  warmed-shaped = by r old.search warmed.warms warmed.true_answer
    where
      by : (o : Result Answer EnvFault) (search : Option PlainSearch) → WorksEnv (WarmsFrom l) (HasRayFrom l) search old o new → IfOk o (λ a. IfSome search (λ S. IsTrueOfKept S l a)) → IsAnswerOf o (model_of new)
      by (Err f) search h t = tt
      by (Ok answer) None h t = let clash = h.0 in absurd (cc)
      by (Ok answer) (Some S) h t =
          subst (IsAnswerOf (Ok answer)) (sym (has-model (WentOn S l) (WentOn S l Memory) S.model l answer new (warms-has l S answer new h))) (true-shaped (IsTooSmall S l) S.model l answer t)

pub few-nodes : (options : SearchOptions) → (limits_of options).tree ≤ 2 ^ 63
few-nodes options = omega arith

module _ (l : Limits) (few : l.tree ≤ 2 ^ 63) (old new : PlainEnv) (r : Result Answer EnvFault) (solved : IsSolvedEnv l old r new) (script : HasScriptModel old) where
  shows : (answer : Answer) (M : Program) → r ≡ Ok answer → model_of new ≡ Some M → IsLawful M → AnswerHasRoom answer → RepliesToSolve old old.search l (answer_text M answer) new
  shows answer M ok present lawful room =
      by old.search refl (subst (λ o. WorksEnv (SolvesFrom l) (HasRayFrom l) old.search old o new) ok solved.solves) (subst (λ o. IfOk o (λ a. IfSome old.search (λ S. IsTrueAnswer S.model l a))) ok solved.true_answer)
      (subst (λ o. IfOk o (λ a. IfSome old.search (λ S. IsEnough S.model (pool_in new.search) l → HasEnded a))) ok solved.complete)
    where
      by : (search : Option PlainSearch) → old.search ≡ search → WorksEnv (SolvesFrom l) (HasRayFrom l) search old (Ok answer) new → IfSome search (λ S. IsTrueAnswer S.model l answer) → IfSome search (λ S. IsEnough S.model (pool_in new.search) l → HasEnded answer)
          → RepliesToSolve old search l (answer_text M answer) new
      by None none h t e = let clash = h.0 in absurd (cc)
      by (Some S) some h t e =
          let has = solves-has l S answer new h in
          let stays : model_of new ≡ Some S.model = has-model (Solved S.model l) (SolvesModel S.model l S Memory) S.model l answer new has in
          let same : S.model ≡ M = cc in
          let plain : HasWordNames S.model = plain-names new S.model stays (model-script old new S some stays script) in
          subst (λ N. AnswersSolve S l (answer_text N answer) new) same
          (answers (Solved S.model l) (SolvesModel S.model l S Memory) (IsEnough S.model (pool_in new.search) l) (HasFewNodes S.model l) S.model l (subst IsLawful (sym same) lawful) plain answer new room (true-small S.model l few answer t) e has)

  none-shown : (fault : EnvFault) (reply : List ℕ) → r ≡ Err fault → reply ≡ no_model_text → RepliesToSolve old old.search l reply new
  none-shown fault reply fails e = by old.search (subst (λ o. WorksEnv (SolvesFrom l) (HasRayFrom l) old.search old o new) fails solved.solves)
    where
      by : (search : Option PlainSearch) → WorksEnv (SolvesFrom l) (HasRayFrom l) search old (Err fault) new → RepliesToSolve old search l reply new
      by None h = (inl e, h.1)
      by (Some S) h = absurd h

  solve-whole : IsTellable r (model_of new) → RepliesToSolve old old.search l (search_text r (model_of new)) new
  solve-whole sure = by r (model_of new) refl refl sure
    where
      by : (o : Result Answer EnvFault) (m : Option Program) → r ≡ o → model_of new ≡ m → IsTellable o m → RepliesToSolve old old.search l (search_text o m) new
      by (Ok answer) None ok none s = absurd s
      by (Ok answer) (Some M) ok present s = shows answer M ok present s.0 s.1
      by (Err f) m fails present s = none-shown f no_model_text fails refl

  -- with as much of the text as was written
  pub solve-told : {E : Type 0} (written : Result (Unit {0}) E) (before after : List ℕ) → before ≡ [] → IsTellable r (model_of new) → IfOk written (λ _. after ≡ before ++ search_text r (model_of new))
      → OnOk written (RepliesToSolve old old.search l after new)
  solve-told written before after empty sure text =
      telling (search_text r (model_of new)) (λ t. RepliesToSolve old old.search l t new) (solve-whole sure) written before after empty text

  pub solve-untold : {E : Type 0} (written : Result (Unit {0}) E) → IsTellable r (model_of new) → OnErr written ((bytes : List ℕ) × RepliesToSolve old old.search l bytes new)
  solve-untold written sure = always written (search_text r (model_of new), solve-whole sure)

  pub solve-script : HasScriptModel new
  solve-script = by r old.search refl solved.solves
    where
      by : (o : Result Answer EnvFault) (search : Option PlainSearch) → old.search ≡ search → WorksEnv (SolvesFrom l) (HasRayFrom l) search old o new → HasScriptModel new
      by o None none h = subst HasScriptModel (sym h.1) script
      by (Ok answer) (Some S) some h = model-script old new S some (has-model (Solved S.model l) (SolvesModel S.model l S Memory) S.model l answer new (solves-has l S answer new h)) script
      by (Err f) (Some S) some h = absurd h

-- nothing is placed where memory was wanting either
no-result : {A : Type 0} (answer : Answer) → (answer ≡ Memory) ⊎ (PlacesNoResult answer × A) → PlacesNoResult answer
no-result answer (inl wants) = subst PlacesNoResult (sym wants) tt
no-result answer (inr none) = none.0

module _ (l : Limits) (old new : PlainEnv) (r : Result Answer EnvFault) (warmed : IsWarmed l old r new) (script : HasScriptModel old) where
  warm-shows : (answer : Answer) (M : Program) → r ≡ Ok answer → model_of new ≡ Some M → IsLawful M → AnswerHasRoom answer → RepliesToWarm old old.search l (answer_text M answer) new
  warm-shows answer M ok present lawful room =
      by old.search refl (subst (λ o. WorksEnv (WarmsFrom l) (HasRayFrom l) old.search old o new) ok warmed.warms) (subst (λ o. IfOk o (λ a. IfSome old.search (λ S. IsTrueOfKept S l a))) ok warmed.true_answer)
      (subst (λ o. IfOk o (λ a. IfSome old.search (λ S. IsKeptEnough S (pool_in new.search) l → HasEnded a))) ok warmed.complete)
    where
      by : (search : Option PlainSearch) → old.search ≡ search → WorksEnv (WarmsFrom l) (HasRayFrom l) search old (Ok answer) new → IfSome search (λ S. IsTrueOfKept S l answer) → IfSome search (λ S. IsKeptEnough S (pool_in new.search) l → HasEnded answer)
          → RepliesToWarm old search l (answer_text M answer) new
      by None none h t e = let clash = h.0 in absurd (cc)
      by (Some S) some h t e =
          let has = warms-has l S answer new h in
          let stays : model_of new ≡ Some S.model = has-model (WentOn S l) (WentOn S l Memory) S.model l answer new has in
          let same : S.model ≡ M = cc in
          let plain : HasWordNames S.model = plain-names new S.model stays (model-script old new S some stays script) in
          let again : TellsAgain S (answer_text S.model answer) = λ none. (answer, ((h.found.again none).0, refl)) in
          let no_end : TellsNoEnd S l (answer_text S.model answer) = λ kept ray. ⊎_elim (λ e. inl (ap (answer_text S.model) e)) (λ e. inr (ap (answer_text S.model) e)) (h.found.beside kept ray) in
          let gap_again : TellsWithinAgain S l (answer_text S.model answer) = λ g asked left leaves. (answer, (no-result answer (h.found.within g asked left leaves), refl)) in
          subst (λ N. AnswersWarm S l (answer_text N answer) new × (TellsAgain S (answer_text N answer) × (TellsNoEnd S l (answer_text N answer) × TellsWithinAgain S l (answer_text N answer)))) same
          (answers (WentOn S l) (WentOn S l Memory) (IsKeptEnough S (pool_in new.search) l) (IsTooSmall S l) S.model l (subst IsLawful (sym same) lawful) plain answer new room t e has, (again, (no_end, gap_again)))

  none-warmed : (fault : EnvFault) (reply : List ℕ) → r ≡ Err fault → reply ≡ no_model_text → RepliesToWarm old old.search l reply new
  none-warmed fault reply fails e = by old.search (subst (λ o. WorksEnv (WarmsFrom l) (HasRayFrom l) old.search old o new) fails warmed.warms)
    where
      by : (search : Option PlainSearch) → WorksEnv (WarmsFrom l) (HasRayFrom l) search old (Err fault) new → RepliesToWarm old search l reply new
      by None h = (inl e, h.1)
      by (Some S) h = absurd h

  warm-whole : IsTellable r (model_of new) → RepliesToWarm old old.search l (search_text r (model_of new)) new
  warm-whole sure = by r (model_of new) refl refl sure
    where
      by : (o : Result Answer EnvFault) (m : Option Program) → r ≡ o → model_of new ≡ m → IsTellable o m → RepliesToWarm old old.search l (search_text o m) new
      by (Ok answer) None ok none s = absurd s
      by (Ok answer) (Some M) ok present s = warm-shows answer M ok present s.0 s.1
      by (Err f) m fails present s = none-warmed f no_model_text fails refl

  pub warm-told : {E : Type 0} (written : Result (Unit {0}) E) (before after : List ℕ) → before ≡ [] → IsTellable r (model_of new) → IfOk written (λ _. after ≡ before ++ search_text r (model_of new))
      → OnOk written (RepliesToWarm old old.search l after new)
  warm-told written before after empty sure text =
      telling (search_text r (model_of new)) (λ t. RepliesToWarm old old.search l t new) (warm-whole sure) written before after empty text

  pub warm-untold : {E : Type 0} (written : Result (Unit {0}) E) → IsTellable r (model_of new) → OnErr written ((bytes : List ℕ) × RepliesToWarm old old.search l bytes new)
  warm-untold written sure = always written (search_text r (model_of new), warm-whole sure)

  pub warm-script : HasScriptModel new
  warm-script = by r old.search refl warmed.warms
    where
      by : (o : Result Answer EnvFault) (search : Option PlainSearch) → old.search ≡ search → WorksEnv (WarmsFrom l) (HasRayFrom l) search old o new → HasScriptModel new
      by o None none h = subst HasScriptModel (sym h.1) script
      by (Ok answer) (Some S) some h = model-script old new S some (has-model (WentOn S l) (WentOn S l Memory) S.model l answer new (warms-has l S answer new h)) script
      by (Err f) (Some S) some h = absurd h

-- ---- the files stay

pub solve-step : (old new : PlainEnv) (files : Option Files) (faults : ℕ) (options : SearchOptions) (reply : List ℕ) → Staffed options.workers (RepliesToSolve old old.search (limits_of options) reply new) old reply new → SolveStep (shell_state old files faults) options reply (shell_state new files faults)
solve-step old new files faults options reply solves = record { files = refl; faults = refl; answer = solves }

pub warm-step : (old new : PlainEnv) (files : Option Files) (faults : ℕ) (options : SearchOptions) (reply : List ℕ) → Staffed options.workers (RepliesToWarm old old.search (limits_of options) reply new) old reply new → WarmStep (shell_state old files faults) options reply (shell_state new files faults)
warm-step old new files faults options reply warms = record { files = refl; faults = refl; answer = warms }

-- ---- the lists of the search stay in order

module _ (l : Limits) (few : l.tree ≤ node_limit) (old new : PlainEnv) (r : Result Answer EnvFault) (order : HasOrder old) where
  pub solve-order : IsSolvedEnv l old r new → HasOrder new
  solve-order solved = by r old.search refl solved.solves
    where
      by : (o : Result Answer EnvFault) (search : Option PlainSearch) → old.search ≡ search → WorksEnv (SolvesFrom l) (HasRayFrom l) search old o new → HasOrder new
      by o None none h = subst HasOrder (sym h.1) order
      by (Ok answer) (Some S) some h = subst HasOrder (sym h.env_is) (search-order.solves S.model l S answer h.search h.found few (subst (λ (o : Option PlainSearch). IfSome o IsInOrder) some order))
      by (Err f) (Some S) some h = absurd h

  pub warm-order : IsWarmed l old r new → IfSome old.search (λ S. IsNumbered S.tree) → HasOrder new
  warm-order warmed numbered = by r old.search refl warmed.warms
    where
      by : (o : Result Answer EnvFault) (search : Option PlainSearch) → old.search ≡ search → WorksEnv (WarmsFrom l) (HasRayFrom l) search old o new → HasOrder new
      by o None none h = subst HasOrder (sym h.1) order
      by (Ok answer) (Some S) some h =
          subst HasOrder (sym h.env_is)
          (search-order.warms l S answer h.search h.found few (subst (λ (o : Option PlainSearch). IfSome o (λ T. IsNumbered T.tree)) some numbered) (subst (λ (o : Option PlainSearch). IfSome o IsInOrder) some order))
      by (Err f) (Some S) some h = absurd h
