-- A list that names nothing that is touched has the same answers in models and cuts that are alike.
-- Idea: the multiplier of a row that is touched is 0 then; a cut that counts in one list alone has weight 0 in both, since the
-- list does not name it; and a column that is touched makes no step in either.
use Rattle.std.specs.Prelude.{◌≡◌, ◌⊎◌, ◌↔◌, ℕ, ◌<◌, ◌≤◌, Bool, true, false, if◌then◌else◌, not, nat_eq, List, [], ◌∷◌, length, pos, Option, None, Result}
use Rattle.std.specs.Option.{option_map}
use Rattle.std.proofs.Common.{refl, sym, ap, subst, ◌∙◌, inl, inr, arith, true≢false}
use Rattle.std.proofs.lemmas.Bool.{eqb-true, and_parts}
use Rattle.frac128.specs.Rational.{ℚ, int, floor, ceil}
use Rattle.lp_model.specs.Program.{Program, in_least_form}
use Rattle.lp_model.specs.Regions.{Path, low_along, high_along, region_low, region_high, IsCrossed}
use Rattle.lp_model.specs.Cuts.{is_live}
use Rattle.lp_model.specs.Formulations.{formulation}
use Rattle.lp_model.specs.declared.types.ColId.{ColId}
use Rattle.lp_model.specs.declared.types.CutRow.{CutRow}
use Rattle.lp_model.specs.declared.types.Var.{Var}
use Rattle.lp_model.specs.declared.types.Var.TheVariants.{Col, Row, Cut}
use Rattle.lp_model.specs.declared.types.WideStep.{WideStep}
use Rattle.leaf_dual.specs.declared.dual.LagValue.{LagValue}
use Rattle.leaf_dual.specs.Dual.{Multipliers, multiplier, is_row_variable, is_cut, cut_multiplier, cut_weight, least_constant, least_cost}
use Rattle.leaf_dual.specs.Answers.{IsDualAnswer, IsLagAnswer, IsFarkasAnswer}
use Rattle.leaf_dual.proofs.CutLemmas.{weight-live, weight-dead}
use Rattle.spared_leaves.specs.declared.touched.Touched.{Touched}
use Rattle.spared_leaves.specs.declared.touched.Touched.TheVariants.{Nothing, OneRow, RowSides, OneCost, OneColumn}
use Rattle.spared_leaves.specs.Touched.{leaves_row, leaves_entries, cost_touched, column_touched, is_apart, leaves_cost, leaves_column, leaves_cut, leaves_variable, leaves_list}
use Rattle.spared_leaves.specs.Alike.{IsSameRange, IsSameCut, AreAlikeBut, AreAlikeCuts}
use Rattle.spared_leaves.specs.Laws.{LikeAnswersLaw, LikeRegionsLaw, LikeLagTotalsLaw, LikeFarkasTotalsLaw, LikeCostTotalsLaw}
use Rattle.spared_leaves.specs.Questions.{IsQuietColumn, IsSameColumn, IsLikeQuestion}
use Rattle.spared_leaves.specs.Spared.{IsQuietLag, IsQuietFarkas, HasInEach, IsCrossedIn, KeepsCrossing, KeepsShort}
use Rattle.leaf_totals.specs.Keeping.{list_question}
use Rattle.leaf_totals.specs.Likeness.{AreLikeTo, question_with}
use Rattle.leaf_totals.proofs.BackLemmas.{on_to_third}
use Rattle.leaf_totals.proofs.CostLemmas.{other_costs}
use Rattle.spared_leaves.proofs.LikeTotals.{like_totals}
use Rattle.spared_leaves.proofs.LikeShort.{like_short}
use Rattle.spared_leaves.proofs.LikeQuestions.{question-back, lacks-like, answer-like}

-- ---- what a list does not name

module _ (t : Touched) (cuts others : List CutRow) where
  row-none : (mult : Multipliers) (i : ℕ) → leaves_list t cuts others mult ≡ true → leaves_row t i ≡ false → multiplier mult i ≡ int (pos 0)
  row-none [] i left touched = refl
  row-none (m ∷ ms) i left touched =
      by m.0 ((and_parts (leaves_variable t cuts others m.0) (leaves_list t cuts others ms) left).0) (row-none ms i ((and_parts (leaves_variable t cuts others m.0) (leaves_list t cuts others ms) left).1) touched)
    where
      here : (p : ℕ) (b : Bool) → nat_eq p i ≡ b → leaves_row t p ≡ true → multiplier ms i ≡ int (pos 0) → (if b then m.1 else multiplier ms i) ≡ int (pos 0)
      here p true e kept rest = absurd (true≢false (sym kept ∙ ap (leaves_row t) (eqb-true p i e) ∙ touched))
      here p false e kept rest = rest

      by : (v : Var) → leaves_variable t cuts others v ≡ true → multiplier ms i ≡ int (pos 0) → (if is_row_variable v i then m.1 else multiplier ms i) ≡ int (pos 0)
      by (Col col) kept rest = rest
      by (Row row) kept rest = here row.0 (nat_eq row.0 i) refl kept rest
      by (Cut cut) kept rest = rest

  cut-none : (mult : Multipliers) (k : ℕ) → leaves_list t cuts others mult ≡ true → leaves_cut cuts others k ≡ false → cut_multiplier mult k ≡ int (pos 0)
  cut-none [] k left turned = refl
  cut-none (m ∷ ms) k left turned =
      by m.0 ((and_parts (leaves_variable t cuts others m.0) (leaves_list t cuts others ms) left).0) (cut-none ms k ((and_parts (leaves_variable t cuts others m.0) (leaves_list t cuts others ms) left).1) turned)
    where
      here : (p : ℕ) (b : Bool) → nat_eq p k ≡ b → leaves_cut cuts others p ≡ true → cut_multiplier ms k ≡ int (pos 0) → (if b then m.1 else cut_multiplier ms k) ≡ int (pos 0)
      here p true e kept rest = absurd (true≢false (sym kept ∙ ap (leaves_cut cuts others) (eqb-true p k e) ∙ turned))
      here p false e kept rest = rest

      by : (v : Var) → leaves_variable t cuts others v ≡ true → cut_multiplier ms k ≡ int (pos 0) → (if is_cut v k then m.1 else cut_multiplier ms k) ≡ int (pos 0)
      by (Col col) kept rest = rest
      by (Row row) kept rest = rest
      by (Cut cut) kept rest = here cut.0 (nat_eq cut.0 k) refl kept rest

-- ---- what of a column is not touched

-- where its cost is not, no more of it is
column-left : (t : Touched) (j : ℕ) → leaves_cost t j ≡ true → leaves_column t j ≡ true
column-left Nothing j left = refl
column-left (OneRow row) j left = refl
column-left (RowSides row) j left = refl
column-left (OneCost col) j left = refl
column-left (OneColumn col) j left = left

-- where a row is not touched, its coefficients are not
entries-left : (t : Touched) (i : ℕ) → leaves_row t i ≡ true → leaves_entries t i ≡ true
entries-left Nothing i left = refl
entries-left (OneRow row) i left = left
entries-left (RowSides row) i left = refl
entries-left (OneCost col) i left = refl
entries-left (OneColumn col) i left = refl

module _ (t : Touched) (M N : Program) (alike : AreAlikeBut t M N) where
  pub constant-alike : least_constant M ≡ least_constant N
  constant-alike = λ i. in_least_form (alike.sense i) (alike.constant_is i)

  pub costs-alike : (j : ℕ) → leaves_cost t j ≡ true → least_cost M j ≡ least_cost N j
  costs-alike j left = λ i. in_least_form (alike.sense i) (alike.cost_is j left i)

module _ (M N : Program) (j : ℕ) (same : IsSameRange M N j) (path : Path) where
  low-alike : region_low M path j ≡ region_low N path j
  low-alike = λ i. low_along path j (if same.integer i then option_map (λ l. int (ceil l)) (same.low i) else same.low i)

  high-alike : region_high M path j ≡ region_high N path j
  high-alike = λ i. high_along path j (if same.integer i then option_map (λ h. int (floor h)) (same.up i) else same.up i)

  crossed-alike : IsCrossedIn path M j ↔ IsCrossedIn path N j
  crossed-alike = (
    (λ (below, crossed). (same.there.0 below, subst (λ P. P) (λ i. IsCrossed (low-alike i) (high-alike i)) crossed)),
    (λ (below, crossed). (same.there.1 below, subst (λ P. P) (λ i. IsCrossed (sym low-alike i) (sym high-alike i)) crossed)),
  )

crossed-each : (t : Touched) (M N : Program) (path : Path) → AreAlikeBut t M N → KeepsCrossing path (column_touched t) M N → (j : ℕ) → IsCrossedIn path M j ↔ IsCrossedIn path N j
crossed-each t M N path alike keeps j = by (leaves_column t j) refl
  where
    by : (b : Bool) → leaves_column t j ≡ b → IsCrossedIn path M j ↔ IsCrossedIn path N j
    by true left = crossed-alike M N j (alike.columns j left) path
    by false touched = keeps j touched

pub like_regions : LikeRegionsLaw
like_regions t M N path alike keeps = ((λ (j, crossed). (j, (crossed-each t M N path alike keeps j).0 crossed)), (λ (j, crossed). (j, (crossed-each t M N path alike keeps j).1 crossed)))

-- ---- the answers

module _ (t : Touched) (M N : Program) (cuts others : List CutRow) (alike : AreAlikeBut t M N) (alike_cuts : AreAlikeCuts cuts others) (path : Path) (mult : Multipliers) (left : leaves_list t cuts others mult ≡ true) where
  weight-same : (k : ℕ) → cut_weight cuts mult k ≡ cut_weight others mult k
  weight-same k = by (is_live cuts k) (is_live others k) refl refl
    where
      by : (a b : Bool) → is_live cuts k ≡ a → is_live others k ≡ b → (if a then cut_multiplier mult k else int (pos 0)) ≡ (if b then cut_multiplier mult k else int (pos 0))
      by true true e f = refl
      by true false e f = cut-none t cuts others mult k left (λ i. if e i then f i else not (f i))
      by false true e f = sym (cut-none t cuts others mult k left (λ i. if e i then f i else not (f i)))
      by false false e f = refl

  pub weights : ◌≡◌ {A = ℕ → ℚ} (cut_weight cuts mult) (cut_weight others mult)
  weights = λ i k. weight-same k i

  rows-left : (i : ℕ) → (multiplier mult i ≡ int (pos 0)) ⊎ (leaves_row t i ≡ true)
  rows-left i = by (leaves_row t i) refl
    where
      by : (b : Bool) → leaves_row t i ≡ b → (multiplier mult i ≡ int (pos 0)) ⊎ (leaves_row t i ≡ true)
      by true e = inr e
      by false e = inl (row-none t cuts others mult i left e)

  cuts-alike : (k : ℕ) → (cut_weight cuts mult k ≡ int (pos 0)) ⊎ IsSameCut cuts others k
  cuts-alike k = by (is_live cuts k) (is_live others k) refl refl
    where
      by : (a b : Bool) → is_live cuts k ≡ a → is_live others k ≡ b → (cut_weight cuts mult k ≡ int (pos 0)) ⊎ IsSameCut cuts others k
      by true true e f = inr (alike_cuts k e f)
      by true false e f = inl (weight-live cuts mult k e ∙ cut-none t cuts others mult k left (λ i. if e i then f i else not (f i)))
      by false b e f = inl (weight-dead cuts mult k e)

  module _ (c d : ℕ → ℚ) (col : Option ColId) (costs_are : (j : ℕ) → is_apart col j ≡ true → c j ≡ d j) (columns_left : (j : ℕ) → is_apart col j ≡ true → leaves_column t j ≡ true)
      (quiet : (j : ℕ) → is_apart col j ≡ false
      → (j < length M.cols → IsQuietColumn (formulation M cuts) path (multiplier mult) (cut_weight cuts mult) c j) × (j < length N.cols → IsQuietColumn (formulation N others) path (multiplier mult) (cut_weight cuts mult) d j)) where
    pub same-column : (j : ℕ) → is_apart col j ≡ true → IsSameColumn M N path cuts others (multiplier mult) (cut_weight cuts mult) c d j
    same-column j apart = record {
      there = (alike.columns j (columns_left j apart)).there;
      cost_is = costs_are j apart;
      low = low-alike M N j (alike.columns j (columns_left j apart)) path;
      high = high-alike M N j (alike.columns j (columns_left j apart)) path;
      entry = λ i. elim (rows-left i) [ inl none ↦ inl none | inr kept ↦ inr (alike.entry i j (entries-left t i kept) (columns_left j apart), (alike.rows i kept).there) ];
      cut_entry = λ k. elim (cuts-alike k) [ inl none ↦ inl none | inr same ↦ inr (same.entry j, same.there) ];
    }

    column-like : (j : ℕ) (b : Bool) → is_apart col j ≡ b
        → IsSameColumn M N path cuts others (multiplier mult) (cut_weight cuts mult) c d j
        ⊎ ((j < length M.cols → IsQuietColumn (formulation M cuts) path (multiplier mult) (cut_weight cuts mult) c j) × (j < length N.cols → IsQuietColumn (formulation N others) path (multiplier mult) (cut_weight cuts mult) d j))
    column-like j true apart = inl (same-column j apart)
    column-like j false touched = inr (quiet j touched)

    pub question : IsLikeQuestion M N path cuts others (multiplier mult) (cut_weight cuts mult) c d
    question = record {
      rows_are = λ i. elim (rows-left i) [ inl none ↦ inl none | inr kept ↦ inr (alike.rows i kept) ];
      cuts_are = λ k. elim (cuts-alike k) [ inl none ↦ inl none | inr same ↦ inr (record { there = same.there; high = same.high }) ];
      columns_are = λ j. column-like j (is_apart col j) refl;
    }

    asked-back : IsLikeQuestion N M path others cuts (multiplier mult) (cut_weight cuts mult) d c
    asked-back = question-back M N path cuts others (multiplier mult) (cut_weight cuts mult) c d question

    totals-to : (c₀ : ℚ) → length M.cols ≤ length N.cols → AreLikeTo (length M.cols) (question_with (formulation M cuts) path (multiplier mult) (cut_weight cuts mult) c₀ c) (question_with (formulation N others) path (multiplier mult) (cut_weight cuts mult) c₀ d)
    totals-to c₀ more = like_totals M N path cuts others (multiplier mult) (cut_weight cuts mult) c d c₀ question more

    short-to : (c₀ : ℚ) → KeepsShort (formulation M cuts) (formulation N others) (question_with (formulation M cuts) path (multiplier mult) (cut_weight cuts mult) c₀ c) (question_with (formulation N others) path (multiplier mult) (cut_weight cuts mult) c₀ d)
    short-to c₀ = like_short M N path cuts others (multiplier mult) (cut_weight cuts mult) c d c₀ question

    module _ (c₀ : ℚ) (r : Result LagValue WideStep) where
      answer-to : IsDualAnswer (formulation M cuts) path (multiplier mult) (cut_weight cuts mult) c₀ c r → IsDualAnswer (formulation N others) path (multiplier mult) (cut_weight cuts mult) c₀ d r
      answer-to = answer-like M N path cuts others (multiplier mult) (cut_weight cuts mult) c d c₀ question (lacks-like N M path others cuts (multiplier mult) (cut_weight cuts mult) d c c₀ asked-back) r

      answer-from : IsDualAnswer (formulation N others) path (multiplier mult) (cut_weight cuts mult) c₀ d r → IsDualAnswer (formulation M cuts) path (multiplier mult) (cut_weight cuts mult) c₀ c r
      answer-from = answer-like N M path others cuts (multiplier mult) (cut_weight cuts mult) d c c₀ asked-back (lacks-like M N path cuts others (multiplier mult) (cut_weight cuts mult) c d c₀ question) r

  -- what the other's own weights say, said of these
  quiet-here : (c d : ℕ → ℚ) (j : ℕ)
      → (j < length M.cols → IsQuietColumn (formulation M cuts) path (multiplier mult) (cut_weight cuts mult) c j) × (j < length N.cols → IsQuietColumn (formulation N others) path (multiplier mult) (cut_weight others mult) d j)
      → (j < length M.cols → IsQuietColumn (formulation M cuts) path (multiplier mult) (cut_weight cuts mult) c j) × (j < length N.cols → IsQuietColumn (formulation N others) path (multiplier mult) (cut_weight cuts mult) d j)
  quiet-here c d j (own, other) = (own, λ below. subst (λ (w : ℕ → ℚ). IsQuietColumn (formulation N others) path (multiplier mult) w d j) (sym weights) (other below))

  module _ (quiet : HasInEach (IsQuietLag path mult) (cost_touched t) (formulation M cuts) (formulation N others)) (r : Result LagValue WideStep) where
    lag-is : ◌≡◌ {A = Type 0} (IsDualAnswer (formulation N others) path (multiplier mult) (cut_weight cuts mult) (least_constant M) (least_cost N) r) (IsLagAnswer (formulation N others) path mult r)
    lag-is = λ i. IsDualAnswer (formulation N others) path (multiplier mult) (weights i) (constant-alike t M N alike i) (least_cost N) r

    quiet-lag : (j : ℕ) → is_apart (cost_touched t) j ≡ false
        → (j < length M.cols → IsQuietColumn (formulation M cuts) path (multiplier mult) (cut_weight cuts mult) (least_cost M) j)
        × (j < length N.cols → IsQuietColumn (formulation N others) path (multiplier mult) (cut_weight cuts mult) (least_cost N) j)
    quiet-lag j touched = quiet-here (least_cost M) (least_cost N) j (quiet j touched)

    lag-alike : IsLagAnswer (formulation M cuts) path mult r ↔ IsLagAnswer (formulation N others) path mult r
    lag-alike = (
      (λ h. subst (λ P. P) lag-is (answer-to (least_cost M) (least_cost N) (cost_touched t) (costs-alike t M N alike) (column-left t) quiet-lag (least_constant M) r h)),
      (λ h. answer-from (least_cost M) (least_cost N) (cost_touched t) (costs-alike t M N alike) (column-left t) quiet-lag (least_constant M) r (subst (λ P. P) (sym lag-is) h)),
    )

  -- what is kept of the totals
  lag-totals : HasInEach (IsQuietLag path mult) (cost_touched t) (formulation M cuts) (formulation N others) → length M.cols ≤ length N.cols → AreLikeTo (length M.cols) (list_question (formulation M cuts) path mult true) (list_question (formulation N others) path mult true)
  lag-totals quiet more =
      subst (λ P. P) (λ i. AreLikeTo (length M.cols) (question_with (formulation M cuts) path (multiplier mult) (cut_weight cuts mult) (least_constant M) (least_cost M)) (question_with (formulation N others) path (multiplier mult) (weights i) (constant-alike t M N alike i) (least_cost N)))
      (totals-to (least_cost M) (least_cost N) (cost_touched t) (costs-alike t M N alike) (column-left t) (λ j touched. quiet-here (least_cost M) (least_cost N) j (quiet j touched)) (least_constant M) more)

  -- and whether all terms are known to be short
  pub lag-short : HasInEach (IsQuietLag path mult) (cost_touched t) (formulation M cuts) (formulation N others) → KeepsShort (formulation M cuts) (formulation N others) (list_question (formulation M cuts) path mult true) (list_question (formulation N others) path mult true)
  lag-short quiet =
      subst (λ P. P) (λ i. KeepsShort (formulation M cuts) (formulation N others) (question_with (formulation M cuts) path (multiplier mult) (cut_weight cuts mult) (least_constant M) (least_cost M)) (question_with (formulation N others) path (multiplier mult) (weights i) (constant-alike t M N alike i) (least_cost N)))
      (short-to (least_cost M) (least_cost N) (cost_touched t) (costs-alike t M N alike) (column-left t) (λ j touched. quiet-here (least_cost M) (least_cost N) j (quiet j touched)) (least_constant M))

  pub farkas-short : HasInEach (IsQuietFarkas path mult) (column_touched t) (formulation M cuts) (formulation N others) → KeepsShort (formulation M cuts) (formulation N others) (list_question (formulation M cuts) path mult false) (list_question (formulation N others) path mult false)
  farkas-short quiet =
      subst (λ P. P) (λ i. KeepsShort (formulation M cuts) (formulation N others) (question_with (formulation M cuts) path (multiplier mult) (cut_weight cuts mult) (int (pos 0)) (λ j. int (pos 0))) (question_with (formulation N others) path (multiplier mult) (weights i) (int (pos 0)) (λ j. int (pos 0))))
      (short-to (λ j. int (pos 0)) (λ j. int (pos 0)) (column_touched t) (λ j left. refl) (λ j left. left) (λ j touched. quiet-here (λ k. int (pos 0)) (λ k. int (pos 0)) j (quiet j touched)) (int (pos 0)))

  farkas-totals : HasInEach (IsQuietFarkas path mult) (column_touched t) (formulation M cuts) (formulation N others) → length M.cols ≤ length N.cols → AreLikeTo (length M.cols) (list_question (formulation M cuts) path mult false) (list_question (formulation N others) path mult false)
  farkas-totals quiet more =
      subst (λ P. P) (λ i. AreLikeTo (length M.cols) (question_with (formulation M cuts) path (multiplier mult) (cut_weight cuts mult) (int (pos 0)) (λ j. int (pos 0))) (question_with (formulation N others) path (multiplier mult) (weights i) (int (pos 0)) (λ j. int (pos 0))))
      (totals-to (λ j. int (pos 0)) (λ j. int (pos 0)) (column_touched t) (λ j left. refl) (λ j left. left) (λ j touched. quiet-here (λ k. int (pos 0)) (λ k. int (pos 0)) j (quiet j touched)) (int (pos 0)) more)

  -- before a column, where no more than costs are touched, and none before that column
  cost-totals : (p : ℕ) → ((j : ℕ) → leaves_column t j ≡ true) → ((j : ℕ) → j < p → leaves_cost t j ≡ true) → p ≤ length M.cols → length M.cols ≤ length N.cols
      → AreLikeTo p (list_question (formulation M cuts) path mult true) (list_question (formulation N others) path mult true)
  cost-totals p columns_left before within more =
      let same = other_costs (formulation M cuts) path (multiplier mult) (cut_weight cuts mult) (least_constant M) (least_cost M) (least_cost N) p within (λ j below. costs-alike t M N alike j (before j below)) in
      let on = totals-to (least_cost N) (least_cost N) None (λ j apart. refl) (λ j apart. columns_left j) (λ j touched. absurd (true≢false touched)) (least_constant M) more in
      subst (λ P. P) (λ i. AreLikeTo p (question_with (formulation M cuts) path (multiplier mult) (cut_weight cuts mult) (least_constant M) (least_cost M)) (question_with (formulation N others) path (multiplier mult) (weights i) (constant-alike t M N alike i) (least_cost N)))
      (on_to_third p (length M.cols) (question_with (formulation M cuts) path (multiplier mult) (cut_weight cuts mult) (least_constant M) (least_cost M)) (question_with (formulation M cuts) path (multiplier mult) (cut_weight cuts mult) (least_constant M) (least_cost N))
      (question_with (formulation N others) path (multiplier mult) (cut_weight cuts mult) (least_constant M) (least_cost N)) within same on)

  module _ (quiet : HasInEach (IsQuietFarkas path mult) (column_touched t) (formulation M cuts) (formulation N others)) (r : Result LagValue WideStep) where
    farkas-is : ◌≡◌ {A = Type 0} (IsDualAnswer (formulation N others) path (multiplier mult) (cut_weight cuts mult) (int (pos 0)) (λ j. int (pos 0)) r) (IsFarkasAnswer (formulation N others) path mult r)
    farkas-is = λ i. IsDualAnswer (formulation N others) path (multiplier mult) (weights i) (int (pos 0)) (λ j. int (pos 0)) r

    quiet-farkas : (j : ℕ) → is_apart (column_touched t) j ≡ false
        → (j < length M.cols → IsQuietColumn (formulation M cuts) path (multiplier mult) (cut_weight cuts mult) (λ k. int (pos 0)) j)
        × (j < length N.cols → IsQuietColumn (formulation N others) path (multiplier mult) (cut_weight cuts mult) (λ k. int (pos 0)) j)
    quiet-farkas j touched = quiet-here (λ k. int (pos 0)) (λ k. int (pos 0)) j (quiet j touched)

    farkas-alike : IsFarkasAnswer (formulation M cuts) path mult r ↔ IsFarkasAnswer (formulation N others) path mult r
    farkas-alike = (
      (λ h. subst (λ P. P) farkas-is (answer-to (λ j. int (pos 0)) (λ j. int (pos 0)) (column_touched t) (λ j left. refl) (λ j left. left) quiet-farkas (int (pos 0)) r h)),
      (λ h. answer-from (λ j. int (pos 0)) (λ j. int (pos 0)) (column_touched t) (λ j left. refl) (λ j left. left) quiet-farkas (int (pos 0)) r (subst (λ P. P) (sym farkas-is) h)),
    )

pub like_answers : LikeAnswersLaw
like_answers t M N cuts others alike alike_cuts path mult left r = (
  (λ quiet. lag-alike t M N cuts others alike alike_cuts path mult left quiet r),
  (λ quiet. farkas-alike t M N cuts others alike alike_cuts path mult left quiet r),
)

pub like_lag_totals : LikeLagTotalsLaw
like_lag_totals t M N cuts others alike alike_cuts path mult left = lag-totals t M N cuts others alike alike_cuts path mult left

pub like_farkas_totals : LikeFarkasTotalsLaw
like_farkas_totals t M N cuts others alike alike_cuts path mult left = farkas-totals t M N cuts others alike alike_cuts path mult left

-- place j is not that of the column
apart-below : (col : ColId) (j : ℕ) → j < col.0 → not (nat_eq col.0 j) ≡ true
apart-below col j below = by (nat_eq col.0 j) refl
  where
    by : (b : Bool) → nat_eq col.0 j ≡ b → not b ≡ true
    by true e = let same : col.0 ≡ j = eqb-true col.0 j e in absurd (omega (arith, same, below))
    by false e = refl

pub like_cost_totals : LikeCostTotalsLaw
like_cost_totals col M N cuts others alike alike_cuts path mult left within more =
    cost-totals (OneCost col) M N cuts others alike alike_cuts path mult left col.0 (λ j. refl) (λ j below. apart-below col j below) within more
