-- The states of a relaxation, and the slack state.
use Rattle.std.specs.Prelude.{◌≡◌, ℕ, zero, suc, ◌+◌, ◌<◌, ltb, if◌then◌else◌, Bool, true, false, [], ◌∷◌, pos, List, get_or, length, Option, Some, None, IsSome}
use Rattle.std.proofs.Common.{refl, sym, ap, ap₂, subst, ◌∙◌, arith, ⊎_elim}
use Rattle.std.proofs.lemmas.Bool.{cases_eq, cases_lt, lt-ltb, le-ltb}
use Rattle.std.proofs.lemmas.List.{get_or_past}
use Rattle.frac128.specs.Rational.{ℚ, int, ◌+ℚ◌, ◌*ℚ◌}
use Rattle.frac128.specs.RationalRing.{ring, reads_ℚ}
use Rattle.frac128.specs.Sums.{sum_below}
use Rattle.checked_sum.proofs.SumLaws.{sum_below-same}
use Rattle.lp_model.specs.Program.{cost, in_least_form}
use Rattle.lp_model.specs.Formulations.{Formulation}
use Rattle.lp_model.specs.Regions.{Path}
use Rattle.table_entries.specs.declared.stand.Stand.{Stand}
use Rattle.table_entries.specs.declared.stand.Stand.TheVariants.{Low, High, Free}
use Rattle.table_entries.specs.Bases.{Lists}
use Rattle.table_entries.specs.Relaxation.{Relaxation, Agree, slack_table, reduced_cost}
use Rattle.table_entries.specs.States.{IsFree, Separates, LawfulAt, sign, reduced_parts}
use Rattle.table_entries.specs.Directions.{direction_side}
use Rattle.table_entries.proofs.SumBelowLaws.{if_same, if_other, sum_below-zero}
use Rattle.table_entries.proofs.Pivot.{IsTable-slack}
use Rattle.table_entries.proofs.Arranged.{IsArranged-slack}
use Rattle.table_entries.proofs.OneTable.{IsTable-agree, IsArranged-agree, agree_turned}
use Rattle.table_entries.proofs.ReducedCosts.{reduced_alone-nonbasic}
use Rattle.row_tableau.specs.declared.relax.Relax.{Relax}
use Rattle.row_tableau.specs.declared.relax.RelaxKind.{RelaxKind}
use Rattle.row_tableau.specs.declared.relax.RelaxKind.TheVariants.{Plain, CostsZero, Directions}
use Rattle.row_tableau.specs.Activities.{activity_count, activity_coefficient}
use Rattle.row_tableau.specs.Relaxations.{form_of, plain, of_kind, relaxation_of}
use Rattle.row_tableau.specs.Dense.{IsTableauOf}
use Rattle.basic_solution.specs.Held.{Held, HasShape, IsSided, IsLawfulHeld, relaxation, parts, state, table, variables, own_cost}
use Rattle.row_tableau.specs.Tilts.{tilt_of, order_of, tilted_cost, parts_of, KeepsFree}
use Rattle.basic_solution.specs.Slack.{IsStateOfRelax, IsSlackState, CanStand, IsPlaced}
use Rattle.basic_solution.specs.private.Slack.{IsMisplaced, IsRestood}
use Rattle.basic_solution.proofs.SignLemmas.{stands_of, can_of}
use Rattle.table_entries.proofs.Signs.{asked_once, asked_same}
use Rattle.row_tableau.proofs.OrderLemmas.{separated}
use Rattle.row_tableau.proofs.TiltLemmas.{tilted, listed_there}
use Rattle.basic_solution.proofs.PartLemmas.{part_is}
use Rattle.basic_solution.proofs.ExchangeLemmas.{reduced_agree}

kind_columns : (kind : RelaxKind) (p : Relaxation) → (of_kind kind p).columns ≡ p.columns
kind_columns Plain p = refl
kind_columns CostsZero p = refl
kind_columns Directions p = refl

kind_activities : (kind : RelaxKind) (p : Relaxation) → (of_kind kind p).activities ≡ p.activities
kind_activities Plain p = refl
kind_activities CostsZero p = refl
kind_activities Directions p = refl

-- the activities have no costs
activity_free : (kind : RelaxKind) (F : Formulation) (path : Path) (i : ℕ) → (of_kind kind (plain F path)).cost (length F.model.cols + i) ≡ int (pos 0)
activity_free Plain F path i = ap (λ b. if b then in_least_form F.model.sense (cost F.model 1 (length F.model.cols + i)) else int (pos 0)) (le-ltb (length F.model.cols + i) (length F.model.cols) (omega arith))
activity_free CostsZero F path i = refl
activity_free Directions F path i = ap (λ b. if b then in_least_form F.model.sense (cost F.model 1 (length F.model.cols + i)) else int (pos 0)) (le-ltb (length F.model.cols + i) (length F.model.cols) (omega arith))

-- ---- a state of a relaxation

module _ (relax : Relax) (s : Held) (is : IsStateOfRelax relax s) where
  abbrev F : Formulation
  F = form_of relax

  pub columns_is : s.tableau.columns ≡ length F.model.cols
  columns_is = is.tableau.columns ∙ kind_columns relax.kind (plain F relax.region.now)

  pub activities_is : s.tableau.activities ≡ activity_count F
  activities_is = is.tableau.activities ∙ kind_activities relax.kind (plain F relax.region.now)

  pub count_is : variables s ≡ length F.model.cols + activity_count F
  count_is = λ i. columns_is i + activities_is i

  abbrev tilt : ℕ → Stand
  tilt = tilt_of relax.kind F

  tilt_same : (own v : ℕ) → v < variables s → own_cost s own v ≡ tilted_cost tilt own v
  tilt_same own v w = ⊎_elim
      (λ e. subst (λ u. own_cost s u v ≡ tilted_cost tilt u v) e (if_same v (sign (get_or s.tilt v Free)) (int (pos 0)) ∙ ap sign (is.tilt v w) ∙ sym (if_same v (sign (tilt v)) (int (pos 0)))))
      (λ other. if_other v own (sign (get_or s.tilt own Free)) (int (pos 0)) other ∙ sym (if_other v own (sign (tilt own)) (int (pos 0)) other))
      (cases_eq v own)

  -- its perturbed costs are the relaxation's
  pub parts_same : (q v : ℕ) → v < variables s → parts s q v ≡ parts_of relax.kind F relax.region.now q v
  parts_same zero v w = is.cost v w
  parts_same (suc q) v w =
      ap (λ o. if ltb q (length o) then own_cost s (get_or o q 0) v else int (pos 0)) is.order
      ∙ ap (λ x. if ltb q (length (order_of relax.kind F)) then x else int (pos 0)) (tilt_same (get_or (order_of relax.kind F) q 0) v w)

  module _ (shape : HasShape s) where
    -- a variable with a side is there
    sided_there : (v : ℕ) → ¬ (IsFree (relaxation s) v) → v < variables s
    sided_there v some = ⊎_elim (λ h. h)
        (λ past. absurd (some (get_or_past s.low v None (let e = shape.low_length in omega (arith, e, past)), get_or_past s.high v None (let e = shape.high_length in omega (arith, e, past)))))
        (cases_lt v (variables s))

    pub separates_state : KeepsFree F.model relax.region.now → Separates (relaxation s) (parts s)
    separates_state keeps = separated (relaxation s) (parts s) s.order (λ v. get_or s.tilt v Free) (λ q w v. sym (part_is s q w v)) has
      where
        has : (v : ℕ) → ¬ (IsFree (relaxation s) v) → Lists s.order v × (¬ (get_or s.tilt v Free ≡ Free))
        has v some =
            let w = sided_there v some in
            let t = tilted F relax.region.now keeps relax.kind v (subst (λ n. v < n) count_is w) (λ free. some (is.low v w ∙ free.0, is.high v w ∙ free.1)) in
            (subst (λ o. Lists o v) (sym is.order) t.0, λ e. t.1 (sym (is.tilt v w) ∙ e))

-- ---- where places stand

pub kept_placed : (s : Held) → IsSided s → ((k : ℕ) → k < s.tableau.columns → IsPlaced s k (get_or s.stands k Free)) → IsLawfulHeld s
kept_placed s sided placed = record {
  shape = sided.shape;
  separates = sided.separates;
  good = record {
    table = sided.table.table;
    arranged = sided.table.arranged;
    lawful = record { stands = λ k w. stands_of (relaxation s) ((table s).nonbasic k) (get_or s.stands k Free) (placed k w).can; lawful = λ k w. (placed k w).asked };
  };
}

pub placed_kept : (s : Held) → IsLawfulHeld s → (k : ℕ) → k < s.tableau.columns → IsPlaced s k (get_or s.stands k Free)
placed_kept s kept k w = record { asked = kept.good.lawful.lawful k w; can = can_of (relaxation s) ((table s).nonbasic k) (get_or s.stands k Free) ((state s).at k) (kept.good.lawful.stands k w) }

-- a variable with a side is asked for one
pub sided_asked : (s : Held) → IsSided s → (k : ℕ) → k < s.tableau.columns → ¬ (IsFree (relaxation s) ((table s).nonbasic k)) → ¬ (LawfulAt Free (reduced_parts (relaxation s) (parts s) (table s) k))
sided_asked s sided k w some none =
    let v = (table s).nonbasic k in
    let own = sided.separates.own_part v in
    sided.separates.own_some v some
    (sym (reduced_alone-nonbasic (relaxation s) (table s) sided.table.arranged (parts s own) k k w w (λ u other. sided.separates.own_alone v u some other)) ∙ none own)

pub restood_sided : (s : Held) (stands : List Stand) → length stands ≡ s.tableau.columns → IsSided s → IsSided (record s { stands = stands })
restood_sided s stands size sided = record {
  shape = record {
    low_length = sided.shape.low_length;
    high_length = sided.shape.high_length;
    cost_length = sided.shape.cost_length;
    tilt_length = sided.shape.tilt_length;
    order_there = sided.shape.order_there;
    stands_length = size;
  };
  separates = sided.separates;
  table = sided.table;
}

pub restood_of : (relax : Relax) (s t : Held) → IsRestood s t → IsStateOfRelax relax s → IsStateOfRelax relax t
restood_of relax s t e is =
    subst (IsStateOfRelax relax) (sym e) (record { form = is.form; tableau = is.tableau; rows = is.rows; low = is.low; high = is.high; cost = is.cost; tilt = is.tilt; order = is.order })

-- ---- the slack state

pub restood_slack : (relax : Relax) (s t : Held) → IsRestood s t → IsSlackState relax s → IsSlackState relax t
restood_slack relax s t e at =
    record { is = restood_of relax s t e at.is; slack = subst (λ u. Agree u.tableau.columns u.tableau.activities (table u) (slack_table (relaxation u))) (sym e) at.slack }

module _ (relax : Relax) (s : Held) (at : IsSlackState relax s) where
  abbrev path : Path
  path = relax.region.now

  abbrev N : Formulation
  N = form_of relax

  pub sided_slack : HasShape s → KeepsFree N.model path → IsSided s
  sided_slack shape keeps = record {
    shape = shape;
    separates = separates_state relax s at.is shape keeps;
    table = record {
      table = IsTable-agree (relaxation s) (slack_table (relaxation s)) (table s) (agree_turned at.slack) (IsTable-slack (relaxation s));
      arranged = IsArranged-agree (relaxation s) (slack_table (relaxation s)) (table s) (agree_turned at.slack) (IsArranged-slack (relaxation s));
    };
  }

  no_cost : (i : ℕ) → i < s.tableau.activities → (relaxation s).cost ((table s).basic i) ≡ int (pos 0)
  no_cost i w =
      ap (relaxation s).cost (at.slack.basic i w)
      ∙ at.is.cost (s.tableau.columns + i) (omega (arith, w))
      ∙ ap (λ n. (relaxation_of relax).cost (n + i)) (columns_is relax s at.is) ∙ activity_free relax.kind N path i

  -- its reduced costs are the costs
  pub cost_at_slack : (k : ℕ) → k < s.tableau.columns → (relaxation s).cost ((table s).nonbasic k) ≡ reduced_cost (relaxation s) (table s) (relaxation s).cost k
  cost_at_slack k w = sym
      (ap (λ t. (relaxation s).cost ((table s).nonbasic k) +ℚ t)
      (sum_below-zero s.tableau.activities _ (λ i v. ap (λ t. t *ℚ (table s).entry i k) (no_cost i v) ∙ ring ((table s).entry i k ∷ []) (search reads_ℚ) tt))
      ∙ ring ((relaxation s).cost ((table s).nonbasic k) ∷ []) (search reads_ℚ) tt)

  -- the parts of its reduced costs are those of the relaxation
  reduced_slack : (k q : ℕ) → k < s.tableau.columns
      → reduced_parts (relaxation s) (parts s) (table s) k q ≡ parts_of relax.kind N path q k +ℚ sum_below (activity_count N) (λ i. parts_of relax.kind N path q (length N.model.cols + i) *ℚ activity_coefficient N i k)
  reduced_slack k q w =
      sym (reduced_agree (relaxation s) (parts s q) (slack_table (relaxation s)) (table s) at.slack k w)
      ∙ ap₂ ◌+ℚ◌ (parts_same relax s at.is q k (omega (arith, w)))
      (sum_below-same s.tableau.activities _ (λ i. parts_of relax.kind N path q (s.tableau.columns + i) *ℚ activity_coefficient N i k)
      (λ i v. ap₂ ◌*ℚ◌ (parts_same relax s at.is q (s.tableau.columns + i) (omega (arith, v))) (ap (λ m. activity_coefficient m i k) at.is.form))
      ∙ (λ j. sum_below (activities_is relax s at.is j) (λ i. parts_of relax.kind N path q (columns_is relax s at.is j + i) *ℚ activity_coefficient N i k)))

  pub nonbasic_slack : (k : ℕ) → k < s.tableau.columns → (table s).nonbasic k ≡ k
  nonbasic_slack k w = at.slack.nonbasic k w

  pub low_slack : (k : ℕ) → k < s.tableau.columns → (relaxation s).low ((table s).nonbasic k) ≡ (relaxation_of relax).low k
  low_slack k w = ap (relaxation s).low (nonbasic_slack k w) ∙ at.is.low k (omega (arith, w))

  pub high_slack : (k : ℕ) → k < s.tableau.columns → (relaxation s).high ((table s).nonbasic k) ≡ (relaxation_of relax).high k
  high_slack k w = ap (relaxation s).high (nonbasic_slack k w) ∙ at.is.high k (omega (arith, w))

-- where a variable cannot stand no slack state is lawful
pub none_kept : (relax : Relax) (s t : Held) → IsSlackState relax s → IsSlackState relax t → (k : ℕ) → k < s.tableau.columns → IsMisplaced s k → ¬ IsLawfulHeld t
none_kept relax s t s_at t_at k w wrong kept =
    let v : k < t.tableau.columns = subst (λ n. k < n) (columns_is relax s s_at.is ∙ sym (columns_is relax t t_at.is)) w in
    let placed = placed_kept t kept k v in
    let same = asked_once (reduced_parts (relaxation s) (parts s) (table s) k) (get_or t.stands k Free) wrong.stand
    (asked_same (reduced_parts (relaxation t) (parts t) (table t) k) (reduced_parts (relaxation s) (parts s) (table s) k) (get_or t.stands k Free)
    (λ q. reduced_slack relax t t_at k q v ∙ sym (reduced_slack relax s s_at k q w)) placed.asked) wrong.asked in
    wrong.cannot
    (subst (λ X. X)
    (λ i. CanStand (same i) ((low_slack relax t t_at k v ∙ sym (low_slack relax s s_at k w)) i) ((high_slack relax t t_at k v ∙ sym (high_slack relax s s_at k w)) i))
    placed.can)

-- ---- the directions

direction_some : (b : Bool) (bound : ℚ) (o : Option ℚ) → b ≡ true → IsSome (direction_side b bound o)
direction_some b bound (Some x) e = refl
direction_some b bound None e = subst (λ c. IsSome (if c then Some bound else None)) (sym e) refl

some_not_none : (o : Option ℚ) → IsSome o → ¬ (o ≡ None)
some_not_none (Some x) h e = cc
some_not_none None h e = absurd (let f : false ≡ true = h in cc)

module _ (relax : Relax) (kind : relax.kind ≡ Directions) (s : Held) (at : IsSlackState relax s) (sided : IsSided s) (k : ℕ) (w : k < s.tableau.columns) where
  column : ltb k (length relax.model.now.cols) ≡ true
  column = lt-ltb k (length relax.model.now.cols) (subst (λ n. k < n) (columns_is relax s at.is) w)

  low_there : IsSome ((relaxation s).low ((table s).nonbasic k))
  low_there = subst IsSome
      (sym (low_slack relax s at k w ∙ ap (λ d. (of_kind d (plain (form_of relax) relax.region.now)).low k) kind))
      (direction_some (ltb k (length relax.model.now.cols)) _ ((plain (form_of relax) relax.region.now).low k) column)

  high_there : IsSome ((relaxation s).high ((table s).nonbasic k))
  high_there = subst IsSome
      (sym (high_slack relax s at k w ∙ ap (λ d. (of_kind d (plain (form_of relax) relax.region.now)).high k) kind))
      (direction_some (ltb k (length relax.model.now.cols)) _ ((plain (form_of relax) relax.region.now).high k) column)

  -- each column has both sides, and is asked for one
  pub never_misplaced : ¬ (IsMisplaced s k)
  never_misplaced wrong = go wrong.stand wrong.asked wrong.cannot
    where
      go : (stand : Stand) → LawfulAt stand (reduced_parts (relaxation s) (parts s) (table s) k) → ¬ (¬ CanStand stand ((relaxation s).low ((table s).nonbasic k)) ((relaxation s).high ((table s).nonbasic k)))
      go Low asked cannot = cannot low_there
      go High asked cannot = cannot high_there
      go Free asked cannot = sided_asked s sided k w (λ free. some_not_none _ low_there free.0) asked

-- ---- from the lists that were read off a relaxation

module _ (relax : Relax) (s : Held) (form : s.form ≡ form_of relax)
    (columns : s.tableau.columns ≡ length relax.model.now.cols) (activities : s.tableau.activities ≡ activity_count (form_of relax)) (rows : s.tableau.rows ≡ length relax.model.now.rows)
    (tableau : IsTableauOf (relaxation_of relax) s.tableau) (slack : Agree (length relax.model.now.cols) (activity_count (form_of relax)) (table s) (slack_table (plain (form_of relax) relax.region.now)))
    (low_length : length s.low ≡ length relax.model.now.cols + activity_count (form_of relax)) (low : (v : ℕ) → v < length relax.model.now.cols + activity_count (form_of relax) → get_or s.low v None ≡ (relaxation_of relax).low v)
    (high_length : length s.high ≡ length relax.model.now.cols + activity_count (form_of relax)) (high : (v : ℕ) → v < length relax.model.now.cols + activity_count (form_of relax) → get_or s.high v None ≡ (relaxation_of relax).high v)
    (cost_length : length s.cost ≡ length relax.model.now.cols + activity_count (form_of relax)) (costs : (v : ℕ) → v < length relax.model.now.cols + activity_count (form_of relax) → get_or s.cost v (int (pos 0)) ≡ (relaxation_of relax).cost v)
    (tilt_length : length s.tilt ≡ length relax.model.now.cols + activity_count (form_of relax)) (tilts : (v : ℕ) → v < length relax.model.now.cols + activity_count (form_of relax) → get_or s.tilt v Free ≡ tilt_of relax.kind (form_of relax) v)
    (order : s.order ≡ order_of relax.kind (form_of relax)) (stands_length : length s.stands ≡ length relax.model.now.cols) where
  same_count : variables s ≡ length relax.model.now.cols + activity_count (form_of relax)
  same_count = λ i. columns i + activities i

  there : (v : ℕ) → v < variables s → v < length relax.model.now.cols + activity_count (form_of relax)
  there v q = subst (λ n. v < n) same_count q

  pub slack_state : IsSlackState relax s
  slack_state = record {
    is = record {
      form = form;
      tableau = tableau;
      rows = rows;
      low = λ v q. low v (there v q);
      high = λ v q. high v (there v q);
      cost = λ v q. costs v (there v q);
      tilt = λ v q. tilts v (there v q);
      order = order;
    };
    slack = record {
      basic = λ i q. slack.basic i (subst (λ n. i < n) activities q) ∙ ap (λ n. n + i) (sym columns);
      nonbasic = λ k q. slack.nonbasic k (subst (λ n. k < n) columns q);
      entry = λ i k p q. slack.entry i k (subst (λ n. i < n) activities p) (subst (λ n. k < n) columns q) ∙ ap (λ m. activity_coefficient m i k) (sym form);
    };
  }

  slack_shape : HasShape s
  slack_shape = record {
    low_length = low_length ∙ sym same_count;
    high_length = high_length ∙ sym same_count;
    cost_length = cost_length ∙ sym same_count;
    tilt_length = tilt_length ∙ sym same_count;
    order_there = λ q w. subst (λ n. get_or s.order q 0 < n) (sym same_count) (listed_there (form_of relax) relax.region.now relax.kind (get_or s.order q 0) (subst (λ o. Lists o (get_or s.order q 0)) order (q, w, refl)));
    stands_length = stands_length ∙ sym columns;
  }

  pub slack_sided : KeepsFree relax.model.now relax.region.now → IsSided s
  slack_sided keeps = sided_slack relax s slack_state slack_shape keeps
