-- A start leads to one state, or to one state with one first step without room.
use Rattle.std.specs.Prelude.{◌≡◌, ◌⊎◌, ℕ, ◌+◌, ◌<◌, Bool, true, false, List, get_or, length, Option, Some, None, Result, Ok, Err}
use Rattle.std.specs.Option.{IsSomeAnd}
use Rattle.std.proofs.Common.{refl, sym, ap, subst, ◌∙◌, inl, inr}
use Rattle.std.proofs.lemmas.Bool.{cases_order}
use Rattle.row_tableau.specs.Activities.{activity_coefficient}
use Rattle.lp_model.specs.WideSteps.{TablePlace, Pivot, Point, Cost, RatioCost, Ratio, table_place}
use Rattle.lp_model.specs.declared.types.Basis.{Basis}
use Rattle.lp_model.specs.declared.types.Var.{Var}
use Rattle.lp_model.specs.declared.types.WideStep.{WideStep}
use Rattle.table_entries.specs.declared.stand.Stand.TheVariants.{Free}
use Rattle.table_entries.specs.Relaxation.{Relaxation, Table, IsArranged, Agree}
use Rattle.table_entries.specs.Bases.{listed, IsNamedBy, BringsIn, IsStuck, IsOnOpenWay}
use Rattle.table_entries.specs.Steps.{ExchangeFits}
use Rattle.table_entries.proofs.OneTable.{agree_turned}
use Rattle.row_tableau.specs.declared.relax.Relax.{Relax}
use Rattle.row_tableau.specs.Relaxations.{relaxation_of}
use Rattle.row_tableau.specs.Dense.{Dense, table_of}
use Rattle.row_tableau.specs.Variables.{numbers}
use Rattle.row_tableau.specs.Answers.{IsProper, IsPivotPlace, IsWidePivot}
use Rattle.row_tableau.proofs.EntryLemmas.{proper_from_basis}
use Rattle.basic_solution.specs.Held.{Held, IsSided, relaxation, table, variables}
use Rattle.basic_solution.specs.Numbers.{CostsFit, IsWideCost}
use Rattle.basic_solution.specs.Slack.{IsStateOfRelax, IsSlackState}
use Rattle.basic_solution.specs.ListedStates.{IsStandBy, StandsAsListed, StandsNowhere, IsExchangePlace, IsUnlawfulAt, IsWidePlacing, IsLawfulAnswer, IsStoodAt, LeadsOn}
use Rattle.basic_solution.proofs.ListedLemmas.{numbers_same}
use Rattle.dual_simplex.specs.Starts.{IsReached, IsLeftBehind, IsStarted, IsWideStart}
use Rattle.dual_simplex.proofs.OneStateLemmas.{stand_same, stand_once}
use Rattle.dual_simplex.proofs.NameLemmas.{one_cost, one_pivot, cost_not_wide, pivot_not_wide}
use Rattle.dual_simplex.proofs.HeldLemmas.{lows_are, highs_are, held_one}
use Rattle.dual_simplex.proofs.WayLemmas.{brings_agree, stuck_agree, brings_once, stuck_not_brings, named_not_brings, named_not_stuck, Closed, named_closed, stuck_closed, wide_closed, ends_agree}

-- ---- whether the state at a list is lawful

module _ (s : Held) (sided : IsSided s) where
  -- a place whose variable stands elsewhere, and one whose reduced cost has a step without room, are not both first
  unlawful_not_wide : (place : ℕ) (step : WideStep) → IsUnlawfulAt s place → ¬ IsWidePlacing s step
  unlawful_not_wide place step u w =
      elim (cases_order place w.place) [
        | inl same ↦ cost_not_wide s sided w.place step (λ within. subst (λ k. CostsFit s k (variables s)) same u.fits) w.wide
        | inr apart ↦ elim apart [ inl less ↦ u.elsewhere (w.before place less).1 | inr more ↦ cost_not_wide s sided w.place step (λ within. (u.before w.place more).0) w.wide ]
      ]

  placing_one : (e f : WideStep) → IsWidePlacing s e → IsWidePlacing s f → e ≡ f
  placing_one e f h g =
      elim (cases_order h.place g.place) [
        | inl same ↦ one_cost s sided g.place e f (subst (λ k. IsWideCost s k e) same h.wide) g.wide
        | inr apart ↦ elim apart [
          | inl less ↦ absurd (cost_not_wide s sided h.place e (λ within. (g.before h.place less).0) h.wide)
          | inr more ↦ absurd (cost_not_wide s sided g.place f (λ within. (h.before g.place more).0) g.wide)
        ]
      ]

  lawful_one : (r q : Result Bool WideStep) → IsLawfulAnswer s r → IsLawfulAnswer s q → r ≡ q
  lawful_one (Ok true) (Ok true) h g = refl
  lawful_one (Ok true) (Ok false) h g = absurd (g.0 h.0)
  lawful_one (Ok true) (Err e) h g = absurd (cost_not_wide s sided g.place e (λ within. h.1 g.place within) g.wide)
  lawful_one (Ok false) (Ok true) h g = absurd (h.0 g.0)
  lawful_one (Ok false) (Ok false) h g = refl
  lawful_one (Ok false) (Err e) h g = absurd (unlawful_not_wide h.1.0 e h.1.1 g)
  lawful_one (Err e) (Ok true) h g = absurd (cost_not_wide s sided h.place e (λ within. g.1 h.place within) h.wide)
  lawful_one (Err e) (Ok false) h g = absurd (unlawful_not_wide g.1.0 e g.1.1 h)
  lawful_one (Err e) (Err f) h g = ap Err (placing_one e f h g)

-- ---- how bringing a list in from z ends at c, in the numbers of x

proper_there : (t u : Dense) (l k : List ℕ) → t.columns ≡ u.columns → t.activities ≡ u.activities → l ≡ k → IsProper t l → IsProper u k
proper_there t u l k columns activities same h = record {
  size = ap length (sym same) ∙ h.size ∙ activities;
  there = λ j q. subst (λ X. X) (λ i. listed (same i) j < columns i + activities i) (h.there j (subst (λ n. j < length n) (sym same) q));
  once = λ i j q w e. h.once i j (subst (λ n. i < length n) (sym same) q) (subst (λ n. j < length n) (sym same) w) (subst (λ n. listed n i ≡ listed n j) (sym same) e);
}

pub data StoodAs (relax : Relax) (list : Basis) (x z c : Held) (r : Result Bool WideStep) : Type 0 where
  as_improper : r ≡ Ok false → ¬ IsProper x.tableau (numbers x.tableau list.basic) → c.tableau ≡ z.tableau → StoodAs relax list x z c r
  as_stuck : r ≡ Ok false → IsProper x.tableau (numbers x.tableau list.basic) → IsStuck (relaxation_of relax).columns (relaxation_of relax).activities (numbers x.tableau list.basic) (table c) → StoodAs relax list x z c r
  as_stopped : (e : WideStep) → r ≡ Err e → StandsNowhere c → IsProper x.tableau (numbers x.tableau list.basic) → (row place : ℕ)
      → BringsIn (relaxation_of relax).columns (relaxation_of relax).activities (numbers x.tableau list.basic) (table c) row place → IsWidePivot c.tableau row place e → StoodAs relax list x z c r
  as_named : StandsAsListed list c → IsLawfulAnswer c r → StoodAs relax list x z c r

module _ (relax : Relax) (list : Basis) (x : Held) (x_is : IsStateOfRelax relax x) where
  abbrev p : Relaxation
  p = relaxation_of relax

  abbrev L : List ℕ
  L = numbers x.tableau list.basic

  same_numbers : (c : Held) → IsStateOfRelax relax c → (l : List Var) → numbers c.tableau l ≡ numbers x.tableau l
  same_numbers c is l = numbers_same c.tableau x.tableau (is.tableau.columns ∙ sym x_is.tableau.columns) (is.rows ∙ sym x_is.rows) (is.tableau.activities ∙ sym x_is.tableau.activities) l

  proper_here : (c : Held) → IsStateOfRelax relax c → IsProper c.tableau (numbers c.tableau list.basic) → IsProper x.tableau L
  proper_here c is h = proper_there c.tableau x.tableau (numbers c.tableau list.basic) L (is.tableau.columns ∙ sym x_is.tableau.columns) (is.tableau.activities ∙ sym x_is.tableau.activities) (same_numbers c is list.basic) h

  proper_back : (c : Held) → IsStateOfRelax relax c → IsProper x.tableau L → IsProper c.tableau (numbers c.tableau list.basic)
  proper_back c is h = proper_there x.tableau c.tableau L (numbers c.tableau list.basic) (x_is.tableau.columns ∙ sym is.tableau.columns) (x_is.tableau.activities ∙ sym is.tableau.activities) (sym (same_numbers c is list.basic)) h

  named_here : (c : Held) → IsStateOfRelax relax c → StandsAsListed list c → IsNamedBy p.activities L (table c)
  named_here c is at = subst (λ X. X) (λ i. IsNamedBy (is.tableau.activities i) (same_numbers c is list.basic i) (table c)) at.named

  named_proper : (c : Held) → IsStateOfRelax relax c → StandsAsListed list c → IsProper x.tableau L
  named_proper c is at = proper_there c.tableau x.tableau L L (is.tableau.columns ∙ sym x_is.tableau.columns) (is.tableau.activities ∙ sym x_is.tableau.activities) refl
      (proper_from_basis p c.tableau L is.tableau (table c, is.tableau.is, named_here c is at))

  way_here : (z c : Held) → IsStateOfRelax relax z → LeadsOn list z c → IsOnOpenWay p.columns p.activities L (table z) (table c)
  way_here z c is way = subst (λ X. X) (λ i. IsOnOpenWay (is.tableau.columns i) (is.tableau.activities i) (same_numbers z is list.basic i) (table z) (table c)) way

  module _ (z c : Held) (z_is : IsStateOfRelax relax z) (c_is : IsStateOfRelax relax c) where
    stopped_as : (e : WideStep) (o : Option TablePlace) → table_place e ≡ o → StandsNowhere c → IsSomeAnd o (IsExchangePlace list c) → StoodAs relax list x z c (Err e)
    stopped_as e None is nowhere h = absurd h
    stopped_as e (Some (Pivot r v i k)) is nowhere h =
        as_stopped e refl nowhere (proper_here c c_is h.0) h.1.0 h.1.1.0
        (subst (λ X. X) (λ t. BringsIn (c_is.tableau.columns t) (c_is.tableau.activities t) (same_numbers c c_is list.basic t) (table c) h.1.0 h.1.1.0) h.1.1.1.0)
        (subst (λ o. IsSomeAnd o (IsPivotPlace c.tableau h.1.0 h.1.1.0)) (sym is) h.1.1.1.1)
    stopped_as e (Some (Point b k)) is nowhere h = absurd h
    stopped_as e (Some (Cost k b)) is nowhere h = absurd h
    stopped_as e (Some (RatioCost r k)) is nowhere h = absurd h
    stopped_as e (Some (Ratio r k v)) is nowhere h = absurd h

    stood_as : (r : Result Bool WideStep) → IsStoodAt z list r c → StoodAs relax list x z c r
    stood_as (Ok true) h = as_named h.0 h.1
    stood_as (Ok false) (inl (inl h)) = as_improper refl (λ proper. h.0 (proper_back z z_is proper)) h.1
    stood_as (Ok false) (inl (inr h)) = as_stuck refl (proper_here z z_is h.0)
        (subst (λ X. X) (λ t. IsStuck (z_is.tableau.columns t) (z_is.tableau.activities t) (same_numbers z z_is list.basic t) (table c)) h.1)
    stood_as (Ok false) (inr h) = as_named h.0 h.1
    stood_as (Err e) (inl h) = stopped_as e (table_place e) refl h.0 h.1
    stood_as (Err e) (inr h) = as_named h.0 h.1

-- ---- two ends are one

pub record IsOneStand (relax : Relax) (a b : Held) (r q : Result Bool WideStep) : Type 0 where
  pub answer : r ≡ q
  pub agree : Agree (relaxation_of relax).columns (relaxation_of relax).activities (table a) (table b)
  pub same : ¬ (r ≡ Ok false) → a ≡ b

module _ (relax : Relax) (list : Basis) (x y a b : Held) (x_is : IsStateOfRelax relax x) (y_is : IsStateOfRelax relax y) (start : Agree (relaxation_of relax).columns (relaxation_of relax).activities (table x) (table y))
    (a_at : IsReached relax a) (b_at : IsReached relax b) (a_way : LeadsOn list x a) (b_way : LeadsOn list y b) where
  abbrev rel : Relaxation
  rel = relaxation_of relax

  abbrev names : List ℕ
  names = numbers x.tableau list.basic

  abbrev IsEnd : Table → Type 0
  IsEnd d = Closed rel names d

  a_is : IsArranged rel (table a)
  a_is = a_at.is.tableau.is.arranged

  b_is : IsArranged rel (table b)
  b_is = b_at.is.tableau.is.arranged

  tables : IsEnd (table a) → IsEnd (table b) → Agree rel.columns rel.activities (table a) (table b)
  tables f g = ends_agree rel names (table x) (table y) (table a) (table b) x_is.tableau.is.arranged start (way_here relax list x x_is x a x_is a_way) (way_here relax list x x_is y b y_is b_way) f g

  a_named : StandsAsListed list a → IsNamedBy rel.activities names (table a)
  a_named at = named_here relax list x x_is a a_at.is at

  b_named : StandsAsListed list b → IsNamedBy rel.activities names (table b)
  b_named at = named_here relax list x x_is b b_at.is at

  wide_not_fits : (c : Held) → IsReached relax c → (row place : ℕ) (e : WideStep) → IsWidePivot c.tableau row place e → ¬ ExchangeFits rel.columns rel.activities (table c) row place
  wide_not_fits c at row place e wide fits = pivot_not_wide c at.sided row place e (subst (λ X. X) (λ i. ExchangeFits (sym at.is.tableau.columns i) (sym at.is.tableau.activities i) (table c) row place) fits) wide

  columns_are : a.tableau.columns ≡ b.tableau.columns
  columns_are = a_at.is.tableau.columns ∙ sym b_at.is.tableau.columns

  -- what stands at one list stands alike
  listed_alike : StandsAsListed list a → StandsAsListed list b → Agree rel.columns rel.activities (table a) (table b) → (k : ℕ) → k < a.tableau.columns → get_or a.stands k Free ≡ get_or b.stands k Free
  listed_alike at also agree k q =
      let v = (table a).nonbasic k in
      let place : (table b).nonbasic k ≡ v = sym (agree.nonbasic k (subst (λ n. k < n) a_at.is.tableau.columns q)) in
      let high : numbers b.tableau list.high ≡ numbers a.tableau list.high = same_numbers relax list a a_at.is b b_at.is list.high in
      let lows = lows_are relax a b a_at.is b_at.is a_at.sided.shape b_at.sided.shape in
      let highs = highs_are relax a b a_at.is b_at.is a_at.sided.shape b_at.sided.shape in
      let there = subst (λ X. X) (λ i. IsStandBy (relaxation b) (high i) (place i) (get_or b.stands k Free)) (also.stands k (subst (λ n. k < n) columns_are q)) in
      stand_once (relaxation a) (numbers a.tableau list.high) v (get_or a.stands k Free) (get_or b.stands k Free) (at.stands k q)
      (stand_same (relaxation b) (relaxation a) (numbers a.tableau list.high) v (get_or b.stands k Free) (λ i. get_or (sym lows i) v None) (λ i. get_or (sym highs i) v None) there)

  named_alike : StandsAsListed list a → StandsAsListed list b → a ≡ b
  named_alike at also =
      let agree = tables (named_closed rel names (table a) (a_named at)) (named_closed rel names (table b) (b_named also)) in
      held_one relax a b a_at b_at agree (listed_alike at also agree)

  module _ (r q : Result Bool WideStep) where
    stopped_one : (e f : WideStep) → r ≡ Err e → q ≡ Err f → StandsNowhere a → StandsNowhere b → (row place other also : ℕ)
        → BringsIn rel.columns rel.activities names (table a) row place → BringsIn rel.columns rel.activities names (table b) other also → IsWidePivot a.tableau row place e → IsWidePivot b.tableau other also f → IsOneStand relax a b r q
    stopped_one e f r_is q_is nowhere none row place other also goes brings wide first =
        let agree : Agree rel.columns rel.activities (table a) (table b) = tables (wide_closed rel names (table a) a_is row place goes (wide_not_fits a a_at row place e wide)) (wide_closed rel names (table b) b_is other also brings (wide_not_fits b b_at other also f first)) in
        let same : a ≡ b = held_one relax a b a_at b_at agree (λ k w. nowhere k w ∙ sym (none k (subst (λ n. k < n) columns_are w))) in
        let once : (row ≡ other) × (place ≡ also) = brings_once rel names (table b) b_is row place other also (brings_agree names rel.columns rel.activities (table a) (table b) agree row place goes) brings in
        let steps : e ≡ f = one_pivot b b_at.sided other also e f (subst (λ X. X) (λ i. IsWidePivot (same i).tableau (once.0 i) (once.1 i) e) wide) first in
        record { answer = r_is ∙ ap Err steps ∙ sym q_is; agree = agree; same = λ _. same }

    ends_one : StoodAs relax list x x a r → StoodAs relax list x y b q → IsOneStand relax a b r q
    ends_one (as_improper r_is not here) (as_improper q_is _ there) =
        record { answer = r_is ∙ sym q_is; agree = subst (λ X. X) (λ i. Agree rel.columns rel.activities (table_of (sym here i)) (table_of (sym there i))) start; same = λ other. absurd (other r_is) }
    ends_one (as_improper _ not _) (as_stuck _ proper _) = absurd (not proper)
    ends_one (as_improper _ not _) (as_stopped f _ _ proper _ _ _ _) = absurd (not proper)
    ends_one (as_improper _ not _) (as_named also _) = absurd (not (named_proper relax list x x_is b b_at.is also))
    ends_one (as_stuck _ proper _) (as_improper _ not _) = absurd (not proper)
    ends_one (as_stuck r_is _ here) (as_stuck q_is _ there) =
        record { answer = r_is ∙ sym q_is; agree = tables (stuck_closed rel names (table a) a_is here) (stuck_closed rel names (table b) b_is there); same = λ other. absurd (other r_is) }
    ends_one (as_stuck _ _ here) (as_stopped f _ _ _ other also brings first) =
        let agree = tables (stuck_closed rel names (table a) a_is here) (wide_closed rel names (table b) b_is other also brings (wide_not_fits b b_at other also f first)) in
        absurd (stuck_not_brings rel names (table b) b_is (stuck_agree names rel.columns rel.activities (table a) (table b) agree here) other also brings)
    ends_one (as_stuck _ _ here) (as_named also _) =
        let agree = tables (stuck_closed rel names (table a) a_is here) (named_closed rel names (table b) (b_named also)) in
        absurd (named_not_stuck rel names (table b) (b_named also) (stuck_agree names rel.columns rel.activities (table a) (table b) agree here))
    ends_one (as_stopped e _ _ proper _ _ _ _) (as_improper _ not _) = absurd (not proper)
    ends_one (as_stopped e _ _ _ row place goes wide) (as_stuck _ _ there) =
        let agree = tables (wide_closed rel names (table a) a_is row place goes (wide_not_fits a a_at row place e wide)) (stuck_closed rel names (table b) b_is there) in
        absurd (stuck_not_brings rel names (table b) b_is there row place (brings_agree names rel.columns rel.activities (table a) (table b) agree row place goes))
    ends_one (as_stopped e r_is nowhere _ row place goes wide) (as_stopped f q_is none _ other also brings first) = stopped_one e f r_is q_is nowhere none row place other also goes brings wide first
    ends_one (as_stopped e _ _ _ row place goes wide) (as_named also _) =
        let agree = tables (wide_closed rel names (table a) a_is row place goes (wide_not_fits a a_at row place e wide)) (named_closed rel names (table b) (b_named also)) in
        absurd (named_not_brings rel names (table b) (b_named also) row place (brings_agree names rel.columns rel.activities (table a) (table b) agree row place goes))
    ends_one (as_named at _) (as_improper _ not _) = absurd (not (named_proper relax list x x_is a a_at.is at))
    ends_one (as_named at _) (as_stuck _ _ there) =
        let agree = tables (named_closed rel names (table a) (a_named at)) (stuck_closed rel names (table b) b_is there) in
        absurd (named_not_stuck rel names (table a) (a_named at) (stuck_agree names rel.columns rel.activities (table b) (table a) (agree_turned agree) there))
    ends_one (as_named at _) (as_stopped f _ _ _ other also brings first) =
        let agree = tables (named_closed rel names (table a) (a_named at)) (wide_closed rel names (table b) b_is other also brings (wide_not_fits b b_at other also f first)) in
        absurd (named_not_brings rel names (table a) (a_named at) other also (brings_agree names rel.columns rel.activities (table b) (table a) (agree_turned agree) other also brings))
    ends_one (as_named at h) (as_named also g) =
        let same : a ≡ b = named_alike at also in
        record {
          answer = lawful_one b b_at.sided r q (subst (λ c. IsLawfulAnswer c r) same h) g;
          agree = tables (named_closed rel names (table a) (a_named at)) (named_closed rel names (table b) (b_named also));
          same = λ _. same;
        }

    stood_one : IsStoodAt x list r a → IsStoodAt y list q b → IsOneStand relax a b r q
    stood_one h g = ends_one (stood_as relax list x x_is x a x_is a_at.is r h) (stood_as relax list x x_is y b y_is b_at.is q g)

-- ---- starts

abbrev Answer : Type 0
Answer = Result Bool WideStep

true_not_false : (r : Answer) → r ≡ Ok true → ¬ (r ≡ Ok false)
true_not_false r e f = cc

err_not_ok : (e : WideStep) (b : Bool) (r : Answer) → r ≡ Err e → ¬ (r ≡ Ok b)
err_not_ok e b r h g = cc

err_once : (e f : WideStep) (r : Answer) → r ≡ Err e → r ≡ Err f → e ≡ f
err_once e f r h g = cc

-- the slack basis has one table
pub slack_agree : (relax : Relax) (x y : Held) → IsSlackState relax x → IsSlackState relax y → Agree (relaxation_of relax).columns (relaxation_of relax).activities (table x) (table y)
slack_agree relax x y a b =
    let columns : x.tableau.columns ≡ y.tableau.columns = a.is.tableau.columns ∙ sym b.is.tableau.columns in
    let form : x.form ≡ y.form = a.is.form ∙ sym b.is.form in
    record {
      basic = λ i q. a.slack.basic i (subst (λ n. i < n) (sym a.is.tableau.activities) q) ∙ ap (λ n. n + i) columns ∙ sym (b.slack.basic i (subst (λ n. i < n) (sym b.is.tableau.activities) q));
      nonbasic = λ k q. a.slack.nonbasic k (subst (λ n. k < n) (sym a.is.tableau.columns) q) ∙ sym (b.slack.nonbasic k (subst (λ n. k < n) (sym b.is.tableau.columns) q));
      entry = λ i k q w. a.slack.entry i k (subst (λ n. i < n) (sym a.is.tableau.activities) q) (subst (λ n. k < n) (sym a.is.tableau.columns) w) ∙ ap (λ F. activity_coefficient F i k) form
          ∙ sym (b.slack.entry i k (subst (λ n. i < n) (sym b.is.tableau.activities) q) (subst (λ n. k < n) (sym b.is.tableau.columns) w));
    }

module _ (relax : Relax) (list first : Basis) where
  -- the list leads to the state, or the first one does from where the list is left
  abbrev Leads : Held → Result Bool WideStep → Held → Type 0
  Leads slack r s = (LeadsOn list slack s × IsStoodAt slack list r s) ⊎ ((mid : Held) × (IsLeftBehind relax list slack mid × (LeadsOn first mid s × IsStoodAt mid first r s)))

  pub record IsOneStart (s t : Held) (r q : Result Bool WideStep) : Type 0 where
    pub answer : r ≡ q
    pub state : s ≡ t

  module _ (x y s t : Held) (x_slack : IsSlackState relax x) (y_slack : IsSlackState relax y) (s_at : IsReached relax s) (t_at : IsReached relax t) (r q : Result Bool WideStep) (r_not : ¬ (r ≡ Ok false)) (q_not : ¬ (q ≡ Ok false)) where
    leads_one : Leads x r s → Leads y q t → IsOneStart s t r q
    leads_one (inl (way, stood)) (inl (way', stood')) =
        let one = stood_one relax list x y s t x_slack.is y_slack.is (slack_agree relax x y x_slack y_slack) s_at t_at way way' r q stood stood' in
        record { answer = one.answer; state = one.same r_not }
    leads_one (inl (way, stood)) (inr (mid, (behind, _))) =
        absurd (r_not (stood_one relax list x y s mid x_slack.is y_slack.is (slack_agree relax x y x_slack y_slack) s_at behind.reached way behind.way r (Ok false) stood behind.left).answer)
    leads_one (inr (mid, (behind, _))) (inl (way', stood')) =
        absurd (q_not (sym (stood_one relax list x y mid t x_slack.is y_slack.is (slack_agree relax x y x_slack y_slack) behind.reached t_at behind.way way' (Ok false) q behind.left stood').answer))
    leads_one (inr (mid, (behind, (way, stood)))) (inr (mid', (behind', (way', stood')))) =
        let left = stood_one relax list x y mid mid' x_slack.is y_slack.is (slack_agree relax x y x_slack y_slack) behind.reached behind'.reached behind.way behind'.way (Ok false) (Ok false) behind.left behind'.left in
        let one = stood_one relax first mid mid' s t behind.reached.is behind'.reached.is left.agree s_at t_at way way' r q stood stood' in
        record { answer = one.answer; state = one.same r_not }

  pub started_one : (s t : Held) → IsStarted relax list first s → IsStarted relax list first t → s ≡ t
  started_one s t a b = (leads_one a.slack b.slack s t a.slack_is b.slack_is a.reached b.reached (Ok true) (Ok true) (true_not_false (Ok true) refl) (true_not_false (Ok true) refl) a.at b.at).state

  pub start_not_wide : (s : Held) (step : WideStep) (basis : Basis) → IsStarted relax list first s → ¬ IsWideStart relax list first step basis
  start_not_wide s step basis a b =
      err_not_ok step true (Err step) refl (sym (leads_one a.slack b.slack s b.state a.slack_is b.slack_is a.reached b.reached (Ok true) (Err step) (true_not_false (Ok true) refl) (err_not_ok step false (Err step) refl) a.at b.at).answer)

  pub record IsOneStop (e f : WideStep) (s t : Held) : Type 0 where
    pub step : e ≡ f
    pub state : s ≡ t

  pub wide_start_one : (e f : WideStep) (basis other : Basis) → (a : IsWideStart relax list first e basis) → (b : IsWideStart relax list first f other) → IsOneStop e f a.state b.state
  wide_start_one e f basis other a b =
      let one = leads_one a.slack b.slack a.state b.state a.slack_is b.slack_is a.reached b.reached (Err e) (Err f) (err_not_ok e false (Err e) refl) (err_not_ok f false (Err f) refl) a.at b.at in
      record { step = err_once e f (Err e) refl one.answer; state = one.state }
