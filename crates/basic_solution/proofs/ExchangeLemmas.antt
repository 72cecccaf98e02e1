-- The state after an exchange.
use Rattle.std.specs.Prelude.{◌≡◌, ◌≢◌, pos, ℕ, ◌+◌, ◌<◌, get_or, set, None}
use Rattle.std.proofs.Common.{sym, ap, ap₂, subst, ◌∙◌}
use Rattle.std.proofs.lemmas.List.{length-set}
use Rattle.row_tableau.specs.Activities.{activity_coefficient}
use Rattle.row_tableau.specs.Dense.{Dense}
use Rattle.frac128.specs.Rational.{ℚ, int, ◌+ℚ◌, ◌*ℚ◌}
use Rattle.checked_sum.proofs.SumLaws.{sum_below-same}
use Rattle.table_entries.specs.declared.stand.Stand.{Stand}
use Rattle.table_entries.specs.Relaxation.{Relaxation, Table, Agree, reduced_cost}
use Rattle.table_entries.specs.States.{Separates}
use Rattle.table_entries.specs.Bases.{IsTableOf}
use Rattle.table_entries.proofs.OneTable.{IsTableOf-after}
use Rattle.basic_solution.specs.Held.{Held, HasShape, IsSided, IsLawfulHeld, relaxation, parts, table, variables}
use Rattle.basic_solution.specs.Exchanges.{IsMove}

module _ (p : Relaxation) (c : ℕ → ℚ) (d e : Table) (a : Agree p.columns p.activities e d) (k : ℕ) (k_within : k < p.columns) where
  pub reduced_agree : reduced_cost p d c k ≡ reduced_cost p e c k
  reduced_agree = sym (ap₂ ◌+ℚ◌ (ap c (a.nonbasic k k_within)) (sum_below-same p.activities _ _ (λ i q. ap₂ ◌*ℚ◌ (ap c (a.basic i q)) (a.entry i k q k_within))))

-- the same relaxation and costs with the tableau that stands after it
module _ (s after : Held) (shape : HasShape s) (row : ℕ) (side : Stand) (place : ℕ) (move : IsMove s after row side place) where
  abbrev pub made : Held
  made = record { form = s.form; low = s.low; high = s.high; cost = s.cost; tilt = s.tilt; order = s.order; tableau = after.tableau; stands = set s.stands place side }

  pub made_is : made ≡ after
  made_is = λ i. record {
    form = sym move.form i;
    low = sym move.low i;
    high = sym move.high i;
    cost = sym move.cost i;
    tilt = sym move.tilt i;
    order = sym move.order i;
    tableau = after.tableau;
    stands = sym move.stands i;
  }

  pub made_relaxation : relaxation s ≡ relaxation made
  made_relaxation = λ i. record {
    columns = sym move.columns i;
    activities = sym move.activities i;
    coefficient = activity_coefficient s.form;
    low = λ v. get_or s.low v None;
    high = λ v. get_or s.high v None;
    cost = λ v. get_or s.cost v (int (pos 0));
  }

  made_variables : variables s ≡ variables made
  made_variables = λ i. sym move.columns i + sym move.activities i

  pub made_shape : HasShape made
  made_shape = record {
    low_length = shape.low_length ∙ made_variables;
    high_length = shape.high_length ∙ made_variables;
    cost_length = shape.cost_length ∙ made_variables;
    tilt_length = shape.tilt_length ∙ made_variables;
    order_there = λ q w. subst (λ n. get_or s.order q 0 < n) made_variables (shape.order_there q w);
    stands_length = length-set s.stands place side ∙ shape.stands_length ∙ sym move.columns;
  }

-- the table after an exchange is one of a basis
pub sided_after : (s after : Held) → IsSided s → (row : ℕ) (side : Stand) (place : ℕ) → row < s.tableau.activities → place < s.tableau.columns → (table s).entry row place ≢ int (pos 0) → IsMove s after row side place → IsSided after
sided_after s after sided row side place row_within place_within some move =
    subst IsSided (made_is s after sided.shape row side place move)
    (record {
      shape = made_shape s after sided.shape row side place move;
      separates = subst (λ r. Separates r (parts s)) (made_relaxation s after sided.shape row side place move) sided.separates;
      table = subst (λ r. IsTableOf r (table after)) (made_relaxation s after sided.shape row side place move) (IsTableOf-after (relaxation s) (table s) (table after) row place row_within place_within some move.exchanged sided.table);
    })

pub sided_of : (s : Held) → IsLawfulHeld s → IsSided s
sided_of s kept = record { shape = kept.shape; separates = kept.separates; table = record { table = kept.good.table; arranged = kept.good.arranged } }

-- the move of a state is that of the same state
pub moved_at : (before s after : Held) → before ≡ s → (row : ℕ) (side : Stand) (place : ℕ) → IsMove before after row side place → IsMove s after row side place
moved_at before s after is row side place h = subst (λ u. IsMove u after row side place) is h

-- the state with an equal tableau
pub same_tableau : (s : Held) (t : Dense) → t ≡ s.tableau → (record s { tableau = t }) ≡ s
same_tableau s t is = let placed : Dense → Held = λ d. record s { tableau = d } in ap placed is
