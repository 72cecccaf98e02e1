-- The lists of a state's basis, and of the slack basis in every region.
use Rattle.std.specs.Prelude.{◌≡◌, ℕ, ◌<◌, if◌then◌else◌, Bool, true, false, List, [], get_or, length, Option, Some, None, IsSome}
use Rattle.std.specs.Option.{option_map}
use Rattle.std.proofs.Common.{refl, sym, ap, subst, ◌∙◌, arith, ⊎_elim}
use Rattle.std.proofs.lemmas.Bool.{cases_lt, false≢true}
use Rattle.frac128.specs.Rational.{ℚ, int, ceil, floor}
use Rattle.lp_model.specs.Program.{Program, lower, upper, is_integer}
use Rattle.lp_model.specs.Formulations.{Formulation, without_cuts}
use Rattle.lp_model.specs.Regions.{Path, region_low, region_high}
use Rattle.lp_model.specs.declared.types.Basis.{Basis}
use Rattle.lp_model.specs.declared.types.Var.{Var}
use Rattle.table_entries.specs.declared.stand.Stand.{Stand}
use Rattle.table_entries.specs.declared.stand.Stand.TheVariants.{Low, High, Free}
use Rattle.table_entries.specs.Relaxation.{Relaxation, Table, IsArranged}
use Rattle.table_entries.specs.Bases.{Found, listed, Lists, IsNamedBy}
use Rattle.table_entries.specs.States.{State, IsGood, IsFree}
use Rattle.table_entries.specs.Directions.{stand_number}
use Rattle.table_entries.proofs.BringIn.{basic_within, nonbasic_within, all_found}
use Rattle.row_tableau.specs.declared.relax.Relax.{Relax}
use Rattle.row_tableau.specs.declared.relax.RelaxKind.TheVariants.{Plain}
use Rattle.row_tableau.specs.Activities.{activity_count, activity_low, activity_high}
use Rattle.row_tableau.specs.Relaxations.{form_of, plain, of_kind, relaxation_of}
use Rattle.row_tableau.specs.Variables.{numbers}
use Rattle.basic_solution.specs.Held.{Held, IsLawfulHeld, relaxation, state, table}
use Rattle.row_tableau.specs.Dense.{IsTableauOf}
use Rattle.row_tableau.specs.Tilts.{model_low, model_high, has_side, is_sided, tilt_of, order_of, parts_of, KeepsFree}
use Rattle.basic_solution.specs.Slack.{IsStateOfRelax, IsSlackState, CanStand}
use Rattle.basic_solution.specs.Lists.{AreRising, IsBasisOf}
use Rattle.basic_solution.specs.ListedStates.{IsStandBy, IsLawfulBasis}
use Rattle.dual_simplex.specs.SlackBases.{IsRootOf, IsLawfulSlackBasis}
use Rattle.dual_simplex.specs.Laws.{StandsAt}
use Rattle.basic_solution.proofs.SignLemmas.{stands_of, can_of}
use Rattle.row_tableau.proofs.TiltLemmas.{by_column, by_activity, free_in_region}
use Rattle.basic_solution.proofs.SlackLemmas.{columns_is, activities_is}
use Rattle.basic_solution.proofs.ListedLemmas.{numbers_same}
use Rattle.dual_simplex.proofs.ContinueLemmas.{There, low_there, high_there}
use Rattle.dual_simplex.proofs.OneStateLemmas.{good_of, lawful_list}

-- ---- a list of all basic variables

module _ (n : ℕ) (list : List ℕ) (d : Table) (basic_once : (i j : ℕ) → i < n → j < n → d.basic i ≡ d.basic j → i ≡ j)
    (once : (s t : ℕ) → s < length list → t < length list → listed list s ≡ listed list t → s ≡ t)
    (names : (t : ℕ) → t < length list → Found n d.basic (listed list t)) (basics : (i : ℕ) → i < n → Lists list (d.basic i)) where
  not_longer : n < length list → ⊥
  not_longer more =
      let f = names n more in
      let g = all_found n (listed list) d.basic (λ s t a b e. once s t (omega (arith, a, more)) (omega (arith, b, more)) e) basic_once (λ t w. names t (omega (arith, w, more))) f.0 f.1 in
      let same = once n g.0 more (let w = g.1 in omega (arith, w, more)) (f.2 ∙ g.2) in
      let w = g.1 in
      absurd (omega (arith, w, same))

  not_shorter : length list < n → ⊥
  not_shorter less =
      let f = basics (length list) less in
      let g = all_found (length list) d.basic (listed list) (λ s t a b e. basic_once s t (omega (arith, a, less)) (omega (arith, b, less)) e) once (λ t w. basics t (omega (arith, w, less))) f.0 f.1 in
      let w = g.1 in
      let same = basic_once (length list) g.0 less (omega (arith, w, less)) (f.2 ∙ g.2) in
      absurd (omega (arith, w, same))

  pub named_by_all : IsNamedBy n list d
  named_by_all = record {
    size = ⊎_elim (λ less. absurd (not_shorter less)) (λ more. ⊎_elim (λ w. absurd (not_longer w)) (λ w. omega (arith, w, more)) (cases_lt n (length list))) (cases_lt (length list) n);
    once = once;
    basics = basics;
    names = names;
  }

pub rising_once : {P : ℕ → Type 0} {n : ℕ} (list : List ℕ) → AreRising P n list → (s t : ℕ) → s < length list → t < length list → listed list s ≡ listed list t → s ≡ t
rising_once list r s t a b e = ⊎_elim
    (λ less. let w = r.rises s t less b in absurd (omega (arith, w, e)))
    (λ more. ⊎_elim (λ w. let v = r.rises t s w a in absurd (omega (arith, v, e))) (λ w. omega (arith, w, more)) (cases_lt t s))
    (cases_lt s t)

-- ---- the lists of a state

module _ (s : Held) (arranged : IsArranged (relaxation s) (table s)) (basis : Basis) (lists : IsBasisOf s basis) where
  pub lists_named : IsNamedBy s.tableau.activities (numbers s.tableau basis.basic) (table s)
  lists_named = named_by_all s.tableau.activities (numbers s.tableau basis.basic) (table s) arranged.basic_once (rising_once (numbers s.tableau basis.basic) lists.basic) lists.basic.holds
      (λ i w. lists.basic.all ((table s).basic i) (basic_within (relaxation s) (table s) arranged i w) (i, w, refl))

  -- where a variable is listed high it stands so
  pub high_stands : (k : ℕ) → k < s.tableau.columns → Lists (numbers s.tableau basis.high) ((table s).nonbasic k) → get_or s.stands k Free ≡ High
  high_stands k w (t, within, is) =
      let h = lists.high.holds t within in
      let same : h.0 ≡ k = arranged.nonbasic_once h.0 k h.1.0 w (h.1.1.0 ∙ sym is) in
      subst (λ m. get_or s.stands m Free ≡ High) same h.1.1.1

  pub lists_stand : (p : Relaxation) (k : ℕ) → k < s.tableau.columns → CanStand (get_or s.stands k Free) (p.low ((table s).nonbasic k)) (p.high ((table s).nonbasic k))
      → IsStandBy p (numbers s.tableau basis.high) ((table s).nonbasic k) (get_or s.stands k Free)
  lists_stand p k w can = go (get_or s.stands k Free) refl can
    where
      none_some : (o : Option ℚ) → IsSome o → ¬ (o ≡ None)
      none_some (Some x) h e = cc
      none_some None h e = absurd (let f : false ≡ true = h in cc)

      go : (stand : Stand) → get_or s.stands k Free ≡ stand → CanStand stand (p.low ((table s).nonbasic k)) (p.high ((table s).nonbasic k)) → IsStandBy p (numbers s.tableau basis.high) ((table s).nonbasic k) stand
      go Low e h = ((λ l. let high = high_stands k w l in cc), (λ free. none_some (p.low ((table s).nonbasic k)) h free.0))
      go High e h = lists.high.all ((table s).nonbasic k) (nonbasic_within (relaxation s) (table s) arranged k w) (k, (w, (refl, e)))
      go Free e h = ((λ l. let high = high_stands k w l in cc), h)

-- ---- a side of a region without changes is one of the model

mapped_back : (f : ℚ → ℚ) (o : Option ℚ) → There (option_map f o) → There o
mapped_back f (Some x) h = (x, refl)
mapped_back f None (x, e) = absurd cc

either_back : (b : Bool) (f : ℚ → ℚ) (o : Option ℚ) → There (if b then option_map f o else o) → There o
either_back true f o h = mapped_back f o h
either_back false f o h = h

some_there : (o : Option ℚ) → IsSome o → There o
some_there (Some x) h = (x, refl)
some_there None h = absurd (false≢true h)

there_some : (o : Option ℚ) → There o → IsSome o
there_some o (x, e) = subst (λ p. IsSome p) (sym e) refl

not_there : (o : Option ℚ) → ¬ There o → o ≡ None
not_there (Some x) h = absurd (h (x, refl))
not_there None h = refl

gone_there : (o : Option ℚ) → o ≡ None → ¬ There o
gone_there o e (x, f) = cc

module _ (F : Formulation) where
  abbrev root : Relaxation
  root = plain F []

  low_back : (v : ℕ) → There (root.low v) → There (model_low F v)
  low_back v h = ⊎_elim
      (λ w. subst There (sym (by_column (length F.model.cols) (lower F.model) (activity_low F) v w)) (either_back (is_integer F.model v) (λ l. int (ceil l)) (lower F.model v) (subst There (by_column (length F.model.cols) (region_low F.model []) (activity_low F) v w) h)))
      (λ w. subst There (sym (by_activity (length F.model.cols) (lower F.model) (activity_low F) v w)) (subst There (by_activity (length F.model.cols) (region_low F.model []) (activity_low F) v w) h))
      (cases_lt v (length F.model.cols))

  high_back : (v : ℕ) → There (root.high v) → There (model_high F v)
  high_back v h = ⊎_elim
      (λ w. subst There (sym (by_column (length F.model.cols) (upper F.model) (activity_high F) v w)) (either_back (is_integer F.model v) (λ l. int (floor l)) (upper F.model v) (subst There (by_column (length F.model.cols) (region_high F.model []) (activity_high F) v w) h)))
      (λ w. subst There (sym (by_activity (length F.model.cols) (upper F.model) (activity_high F) v w)) (subst There (by_activity (length F.model.cols) (region_high F.model []) (activity_high F) v w) h))
      (cases_lt v (length F.model.cols))

  module _ (path : Path) (keeps : KeepsFree F.model path) where
    unsided_root : (v : ℕ) → IsFree root v → is_sided F v ≡ false
    unsided_root v free =
        let lo = not_there (model_low F v) (λ h. gone_there (root.low v) free.0 (low_there F [] v h)) in
        let hi = not_there (model_high F v) (λ h. gone_there (root.high v) free.1 (high_there F [] v h)) in
        subst (λ X. X) (λ i. has_side (sym lo i) (sym hi i) ≡ false) refl

    -- a side stays in the region
    can_region : (v : ℕ) (stand : Stand) → CanStand stand (root.low v) (root.high v) → CanStand stand ((plain F path).low v) ((plain F path).high v)
    can_region v Low h = there_some ((plain F path).low v) (low_there F path v (low_back v (some_there (root.low v) h)))
    can_region v High h = there_some ((plain F path).high v) (high_there F path v (high_back v (some_there (root.high v) h)))
    can_region v Free h = free_in_region F path keeps v (unsided_root v h)

    abbrev restood_in : State → State
    restood_in st = record { table = st.table; stand = st.stand; at = λ k. stand_number (st.stand k) ((plain F path).low (st.table.nonbasic k)) ((plain F path).high (st.table.nonbasic k)) }

    pub can_there : (st : State) → IsGood root (parts_of Plain F []) st → (k : ℕ) → k < length F.model.cols → CanStand (st.stand k) ((plain F path).low (st.table.nonbasic k)) ((plain F path).high (st.table.nonbasic k))
    can_there st good k w = can_region (st.table.nonbasic k) (st.stand k) (can_of root (st.table.nonbasic k) (st.stand k) (st.at k) (good.lawful.stands k w))

    -- and a good state is one of the region
    pub good_in : (st : State) → IsGood root (parts_of Plain F []) st → IsGood (plain F path) (parts_of Plain F path) (restood_in st)
    good_in st good = record {
      table = record { holds = good.table.holds; suffices = good.table.suffices };
      arranged = record { basic_once = good.arranged.basic_once; nonbasic_once = good.arranged.nonbasic_once; apart = good.arranged.apart; sums = good.arranged.sums };
      lawful = record {
        stands = λ k w. stands_of (plain F path) (st.table.nonbasic k) (st.stand k) (can_there st good k w);
        lawful = good.lawful.lawful;
      };
    }

-- ---- the slack basis

-- two states of relaxations of one model number the variables alike
numbers_alike : (a b : Relax) (s t : Held) → IsStateOfRelax a s → IsStateOfRelax b t → form_of a ≡ form_of b → (list : List Var) → numbers s.tableau list ≡ numbers t.tableau list
numbers_alike a b s t s_is t_is same list = numbers_same s.tableau t.tableau
    (columns_is a s s_is ∙ ap (λ F. length F.model.cols) same ∙ sym (columns_is b t t_is))
    (s_is.rows ∙ ap (λ F. length F.model.rows) same ∙ sym t_is.rows)
    (activities_is a s s_is ∙ ap activity_count same ∙ sym (activities_is b t t_is))
    list

module _ (F : Formulation) (start : Relax) (s : Held) (is : IsStateOfRelax start s) (form : form_of start ≡ F) (kind : start.kind ≡ Plain) (region : start.region.now ≡ []) (kept : IsLawfulHeld s) (basis : Basis) (lists : IsBasisOf s basis) where
  good_root : IsGood (plain F []) (parts_of Plain F []) (state s)
  good_root = subst (λ X. X) (λ i. IsGood (of_kind (kind i) (plain (form i) (region i))) (parts_of (kind i) (form i) (region i)) (state s)) (good_of start s is kept)

  columns_here : s.tableau.columns ≡ length F.model.cols
  columns_here = columns_is start s is ∙ ap (λ N. length N.model.cols) form

  activities_here : s.tableau.activities ≡ activity_count F
  activities_here = activities_is start s is ∙ ap activity_count form

  module _ (relax : Relax) (same : form_of relax ≡ F) (plain_kind : relax.kind ≡ Plain) (keeps : KeepsFree F.model relax.region.now) where
    abbrev path : Path
    path = relax.region.now

    abbrev there_state : State
    there_state = restood_in F path keeps (state s)

    relaxation_is : plain F path ≡ relaxation_of relax
    relaxation_is = λ i. of_kind (sym plain_kind i) (plain (sym same i) path)

    good_there : IsGood (relaxation_of relax) (parts_of relax.kind (form_of relax) path) there_state
    good_there = subst (λ X. X) (λ i. IsGood (relaxation_is i) (parts_of (sym plain_kind i) (sym same i) path) there_state) (good_in F path keeps (state s) good_root)

    alike : (t : Held) → IsStateOfRelax relax t → (list : List Var) → numbers s.tableau list ≡ numbers t.tableau list
    alike t t_is list = numbers_alike start relax s t is t_is (form ∙ sym same) list

    stands_there : StandsAt relax basis there_state
    stands_there = record {
      named = λ t t_is. subst (λ X. X)
          (λ i. IsNamedBy ((activities_here ∙ ap (λ p. p.activities) relaxation_is) i) (alike t t_is basis.basic i) (table s))
          (lists_named s kept.good.arranged basis lists);
      stands = λ t t_is k w.
          let here : k < length F.model.cols = subst (λ n. k < n) (ap (λ p. p.columns) (sym relaxation_is)) w in
          subst (λ X. X)
          (λ i. IsStandBy (relaxation_is i) (alike t t_is basis.high i) ((table s).nonbasic k) (get_or s.stands k Free))
          (lists_stand s kept.good.arranged basis lists (plain F path) k (subst (λ n. k < n) (sym columns_here) here) (can_there F path keeps (state s) good_root k here));
    }

    pub slack_lawful : IsLawfulBasis relax basis
    slack_lawful = lawful_list relax basis there_state good_there stands_there

pub lawful_slack : (M : Program) (root : Relax) (s : Held) (basis : Basis) → IsSlackState root s → IsRootOf M root → IsLawfulHeld s → IsBasisOf s basis → IsLawfulSlackBasis M basis
lawful_slack M root s basis slack root_is kept lists = record {
  root = root;
  root_is = root_is;
  state = s;
  slack = slack;
  kept = kept;
  lists = lists;
  lawful = λ relax same plain_kind keeps. slack_lawful (without_cuts M) root s slack.is root_is.form root_is.kind root_is.region kept basis lists relax same plain_kind keeps;
}

-- a model has one relaxation in the whole region
pub same_root : (M : Program) (a b : Relax) → IsRootOf M a → IsRootOf M b → (s : Held) → IsSlackState a s → IsSlackState b s
same_root M a b a_is b_is s at = record {
  is = record {
    form = at.is.form ∙ m;
    tableau = subst (λ p. IsTableauOf p s.tableau) relaxations at.is.tableau;
    rows = at.is.rows ∙ ap (λ F. length F.model.rows) m;
    low = λ v w. at.is.low v w ∙ ap (λ p. p.low v) relaxations;
    high = λ v w. at.is.high v w ∙ ap (λ p. p.high v) relaxations;
    cost = λ v w. at.is.cost v w ∙ ap (λ p. p.cost v) relaxations;
    tilt = λ v w. at.is.tilt v w ∙ (λ i. tilt_of (k i) (m i) v);
    order = at.is.order ∙ (λ i. order_of (k i) (m i));
  };
  slack = at.slack;
}
  where
    m : form_of a ≡ form_of b
    m = a_is.form ∙ sym b_is.form

    k : a.kind ≡ b.kind
    k = a_is.kind ∙ sym b_is.kind

    r : a.region.now ≡ b.region.now
    r = a_is.region ∙ sym b_is.region

    relaxations : relaxation_of a ≡ relaxation_of b
    relaxations = λ i. of_kind (k i) (plain (m i) (r i))
