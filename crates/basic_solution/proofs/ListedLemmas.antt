-- States that keep what a relaxation gives, and lists that are brought in.
use Rattle.std.specs.Prelude.{◌≡◌, ℕ, ◌+◌, ◌<◌, ◌≤◌, ltb, if◌then◌else◌, Bool, true, false, List, map, get_or, length, replicate, pos, Option, Some, None, Result, Ok, Err}
use Rattle.std.specs.Option.{IsSomeAnd}
use Rattle.std.proofs.Common.{refl, sym, ap, subst, ◌∙◌, inr, ⊎_elim}
use Rattle.std.proofs.lemmas.Bool.{cases_lt}
use Rattle.std.proofs.lemmas.List.{get_or_past, get_or-replicate, length-replicate}
use Rattle.frac128.specs.Rational.{int}
use Rattle.row_tableau.specs.Activities.{activity_coefficient}
use Rattle.lp_model.specs.declared.types.Var.{Var}
use Rattle.lp_model.specs.declared.types.Var.TheVariants.{Col, Row, Cut}
use Rattle.lp_model.specs.declared.types.Basis.{Basis}
use Rattle.lp_model.specs.declared.types.WideStep.{WideStep}
use Rattle.lp_model.specs.WideSteps.{TablePlace, Pivot, Point, Cost, RatioCost, Ratio, table_place}
use Rattle.table_entries.specs.declared.stand.Stand.TheVariants.{Free}
use Rattle.table_entries.specs.Bases.{IsTableOf, IsNamedBy, BringsIn, listed}
use Rattle.table_entries.specs.States.{Separates}
use Rattle.row_tableau.specs.declared.relax.Relax.{Relax}
use Rattle.row_tableau.specs.Relaxations.{relaxation_of}
use Rattle.row_tableau.specs.Dense.{Dense}
use Rattle.row_tableau.specs.Variables.{variable_number, numbers}
use Rattle.row_tableau.specs.Answers.{IsPivotPlace, IsProper, IsBroughtIn}
use Rattle.basic_solution.specs.Held.{Held, IsSided, relaxation, parts, table, variables}
use Rattle.basic_solution.specs.Slack.{IsStateOfRelax}
use Rattle.basic_solution.specs.private.Slack.{IsRestood}
use Rattle.basic_solution.specs.ListedStates.{IsStandBy, StandBy, StandsAsListed, StandsNowhere, Keeps, IsExchangePlace, IsWideExchange, IsLawfulAnswer, IsStoodAt, LeadsOn}
use Rattle.basic_solution.specs.private.ListedStates.{IsBroughtTo}

-- ---- the same relaxation

module _ (s t : Held) (keeps : Keeps s t) where
  -- the state after, of the lists before
  abbrev pub held_on : Held
  held_on = record { form = s.form; low = s.low; high = s.high; cost = s.cost; tilt = s.tilt; order = s.order; tableau = t.tableau; stands = t.stands }

  pub held_on_is : held_on ≡ t
  held_on_is = λ i. record {
    form = sym keeps.form i;
    low = sym keeps.low i;
    high = sym keeps.high i;
    cost = sym keeps.cost i;
    tilt = sym keeps.tilt i;
    order = sym keeps.order i;
    tableau = t.tableau;
    stands = t.stands;
  }

  held_relaxation : relaxation s ≡ relaxation held_on
  held_relaxation = λ i. record {
    columns = sym keeps.columns i;
    activities = sym keeps.activities i;
    coefficient = activity_coefficient s.form;
    low = λ v. get_or s.low v None;
    high = λ v. get_or s.high v None;
    cost = λ v. get_or s.cost v (int (pos 0));
  }

  held_variables : variables s ≡ variables held_on
  held_variables = λ i. sym keeps.columns i + sym keeps.activities i

  back : (v : ℕ) → v < variables held_on → v < variables s
  back v w = subst (λ n. v < n) (sym held_variables) w

  held_table : IsSided s → IsTableOf (relaxation held_on) (table held_on)
  held_table sided = let h = keeps.basis (relaxation s) (record { columns = refl; activities = refl; is = sided.table }) in subst (λ r. IsTableOf r (table t)) held_relaxation h.is

  pub sided_on : IsSided s → length t.stands ≡ t.tableau.columns → IsSided held_on
  sided_on sided size = record {
    shape = record {
      low_length = sided.shape.low_length ∙ held_variables;
      high_length = sided.shape.high_length ∙ held_variables;
      cost_length = sided.shape.cost_length ∙ held_variables;
      tilt_length = sided.shape.tilt_length ∙ held_variables;
      order_there = λ q w. subst (λ n. get_or s.order q 0 < n) held_variables (sided.shape.order_there q w);
      stands_length = size;
    };
    separates = subst (λ r. Separates r (parts s)) held_relaxation sided.separates;
    table = held_table sided;
  }

  pub keeps_of : (relax : Relax) → IsStateOfRelax relax s → IsStateOfRelax relax t
  keeps_of relax is = subst (IsStateOfRelax relax) held_on_is (record {
    form = is.form;
    tableau = keeps.basis (relaxation_of relax) is.tableau;
    rows = keeps.rows ∙ is.rows;
    low = λ v w. is.low v (back v w);
    high = λ v w. is.high v (back v w);
    cost = λ v w. is.cost v (back v w);
    tilt = λ v w. is.tilt v (back v w);
    order = is.order;
  })

pub keeps_restood : (s t : Held) → IsRestood s t → Keeps s t
keeps_restood s t e = subst (Keeps s) (sym e) (record {
  form = refl;
  low = refl;
  high = refl;
  cost = refl;
  tilt = refl;
  order = refl;
  columns = refl;
  rows = refl;
  activities = refl;
  basis = λ p h. h;
})

pub keeps_trans : (s t u : Held) → Keeps s t → Keeps t u → Keeps s u
keeps_trans s t u a b = record {
  form = b.form ∙ a.form;
  low = b.low ∙ a.low;
  high = b.high ∙ a.high;
  cost = b.cost ∙ a.cost;
  tilt = b.tilt ∙ a.tilt;
  order = b.order ∙ a.order;
  columns = b.columns ∙ a.columns;
  rows = b.rows ∙ a.rows;
  activities = b.activities ∙ a.activities;
  basis = λ p h. b.basis p (a.basis p h);
}

pub nowhere_on : (s t : Held) → t.tableau.columns ≡ s.tableau.columns → t.stands ≡ s.stands → StandsNowhere s → StandsNowhere t
nowhere_on s t columns stands h = λ k w. subst (λ l. get_or l k Free ≡ Free) (sym stands) (h k (subst (λ n. k < n) columns w))

pub none_stand : (n k : ℕ) → get_or (replicate n Free) k Free ≡ Free
none_stand n k = ⊎_elim (get_or-replicate n k Free Free) (λ past. get_or_past (replicate n Free) k Free (subst (λ m. m ≤ k) (sym (length-replicate n Free)) past)) (cases_lt k n)

-- ---- numbers of variables

number_same : (t u : Dense) → t.columns ≡ u.columns → t.rows ≡ u.rows → t.activities ≡ u.activities → (v : Var) → variable_number t v ≡ variable_number u v
number_same t u a b c (Col col) = λ i. if ltb col.0 (a i) then col.0 else a i + c i
number_same t u a b c (Row row) = λ i. if ltb row.0 (b i) then a i + row.0 else a i + c i
number_same t u a b c (Cut cut) = λ i. if ltb (b i + cut.0) (c i) then a i + (b i + cut.0) else a i + c i

pub numbers_same : (t u : Dense) → t.columns ≡ u.columns → t.rows ≡ u.rows → t.activities ≡ u.activities → (list : List Var) → numbers t list ≡ numbers u list
numbers_same t u a b c list = ap (λ f. map f list) (λ i v. number_same t u a b c v i)

-- ---- bringing a list in

module _ (s t : Held) (keeps : Keeps s t) (list : Basis) where
  same_numbers : numbers s.tableau list.basic ≡ numbers t.tableau list.basic
  same_numbers = numbers_same s.tableau t.tableau (sym keeps.columns) (sym keeps.rows) (sym keeps.activities) list.basic

  pub brought_named : IsBroughtIn s.tableau (numbers s.tableau list.basic) (Ok true) t.tableau → IsBroughtTo s list (Ok true) t
  brought_named h = subst (λ X. X) (λ i. IsNamedBy (sym keeps.activities i) (same_numbers i) (table t)) h

  pub brought : (b : Bool) → IsBroughtIn s.tableau (numbers s.tableau list.basic) (Ok b) t.tableau → IsBroughtTo s list (Ok b) t
  brought true h = brought_named h
  brought false h = h

  proper_on : IsProper s.tableau (numbers s.tableau list.basic) → IsProper t.tableau (numbers t.tableau list.basic)
  proper_on h = subst (IsProper t.tableau) same_numbers (record {
    size = h.size ∙ sym keeps.activities;
    there = λ k q. subst (λ n. listed (numbers s.tableau list.basic) k < n) (λ i. sym keeps.columns i + sym keeps.activities i) (h.there k q);
    once = h.once;
  })

  -- the exchange that comes next by the lists of the one state comes next by those of the other
  exchange_place : (o : Option TablePlace) → IsProper t.tableau (numbers t.tableau list.basic) → (row at : ℕ) → BringsIn s.tableau.columns s.tableau.activities (numbers s.tableau list.basic) (table t) row at → IsSomeAnd o (IsPivotPlace t.tableau row at) → IsSomeAnd o (IsExchangePlace list t)
  exchange_place None proper row at brings h = absurd h
  exchange_place (Some (Pivot r v i k)) proper row at brings h =
      (proper, (row, (at, (subst (λ X. X) (λ n. BringsIn (sym keeps.columns n) (sym keeps.activities n) (same_numbers n) (table t) row at) brings, h))))
  exchange_place (Some (Point b k)) proper row at brings h = absurd h
  exchange_place (Some (Cost k b)) proper row at brings h = absurd h
  exchange_place (Some (RatioCost r k)) proper row at brings h = absurd h
  exchange_place (Some (Ratio r k v)) proper row at brings h = absurd h

  pub brought_wide : (e : WideStep) → IsBroughtIn s.tableau (numbers s.tableau list.basic) (Err e) t.tableau → IsWideExchange list t e
  brought_wide e h = exchange_place (table_place e) (proper_on h.0) h.1.0 h.1.1.0 h.1.1.1.0 h.1.1.1.1

-- ---- standing by a list

pub restood_stand : (high : List Var) (s t : Held) → IsRestood s t → (k : ℕ) → IsStandBy (relaxation s) (numbers s.tableau high) ((table s).nonbasic k) (get_or t.stands k Free) → StandBy (numbers t.tableau high) t k
restood_stand high s t e k h = subst (λ u. IsStandBy (relaxation u) (numbers u.tableau high) ((table u).nonbasic k) (get_or t.stands k Free)) (sym e) h

pub at_list : (list : Basis) (s t : Held) → IsRestood s t → IsBroughtTo s list (Ok true) s → ((k : ℕ) → k < t.tableau.columns → StandBy (numbers t.tableau list.high) t k) → StandsAsListed list t
at_list list s t e named stands = record { named = subst (λ u. IsNamedBy u.tableau.activities (numbers u.tableau list.basic) (table u)) (sym e) named; stands = stands }

pub leads_restood : (list : Basis) (s a b c : Held) → IsRestood s a → LeadsOn list a b → IsRestood b c → LeadsOn list s c
leads_restood list s a b c e way f =
    let first : LeadsOn list s b = subst (λ u. LeadsOn list u b) e way in
    subst (λ u. LeadsOn list s u) (sym f) first

-- ---- lawful or not

pub lawful_stood : (list : Basis) (s after : Held) → StandsAsListed list after → (r : Result Bool WideStep) → IsLawfulAnswer after r → IsStoodAt s list r after
lawful_stood list s after at (Ok true) h = (at, h)
lawful_stood list s after at (Ok false) h = inr (at, h)
lawful_stood list s after at (Err e) h = inr (at, h)
