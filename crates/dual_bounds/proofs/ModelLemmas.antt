-- Models with other sides or costs are lawful, and with the numbers that there are they are the model itself.
use Rattle.std.specs.Prelude.{◌≡◌, ◌≢◌, ℕ, zero, suc, ◌<◌, false, IsTrue, List, [], ◌∷◌, length, pos, All, AllPairs, Option, Some, None}
use Rattle.std.specs.Option.{option_map}
use Rattle.std.proofs.Common.{refl, sym, ap, subst}
use Rattle.std.proofs.lemmas.List.Elements.{All-weaker}
use Rattle.frac128.specs.Rational.{ℚ, int}
use Rattle.frac128.specs.Range.{Fits}
use Rattle.lp_model.specs.Elements.{of_element, changed_at}
use Rattle.lp_model.specs.Program.{Program, cost, low_side, high_side, is_integer}
use Rattle.lp_model.specs.Lawful.{IsRange, IsLawfulColumn, AreWithinLimits, entry_count, IsLawful}
use Rattle.lp_model.specs.declared.types.RowId.{RowId}
use Rattle.lp_model.specs.declared.types.Row.{Row}
use Rattle.lp_model.specs.declared.types.ColId.{ColId}
use Rattle.lp_model.specs.declared.types.Col.{Col}
use Rattle.dual_bounds.specs.NewNumbers.{with_side, with_cost, row_index, col_index, with_new_sides, with_new_costs, AreNewSides, AreNewCosts, IsSideNow}
use Rattle.dual_bounds.specs.Laws.{PresentNumbersLaw}
use Rattle.dual_bounds.specs.declared.new_numbers.OtherNumbers.TheVariants.{Sides, Costs}
use Rattle.dual_bounds.proofs.ChangedLists.{All-unmap, length-changed_all, map-changed_all, sum_by-changed_all, of_element-changed_all, All-changed_all, changed_all-same}
use Rattle.dual_bounds.proofs.RangeLemmas.{row-ranged}

-- ---- what is named is there

pub sides-there : (M : Program) (rows : List Row) (sides : List (RowId × ℚ)) → rows ≡ M.rows → AreNewSides M sides → All (λ (e : RowId × ℚ). e.0.0 < length rows) sides
sides-there M rows sides same new =
    subst (λ (rs : List Row). All (λ (e : RowId × ℚ). e.0.0 < length rs) sides) (sym same) (All-unmap (λ k. k < length M.rows) (λ (e : RowId × ℚ). e.0.0) sides new.named.there)

pub costs-there : (M : Program) (cols : List Col) (costs : List (ColId × ℚ)) → cols ≡ M.cols → AreNewCosts M costs → All (λ (e : ColId × ℚ). e.0.0 < length cols) costs
costs-there M cols costs same new =
    subst (λ (cs : List Col). All (λ (e : ColId × ℚ). e.0.0 < length cs) costs) (sym same) (All-unmap (λ k. k < length M.cols) (λ (e : ColId × ℚ). e.0.0) costs new.there)

-- ---- lawful models

pub sides-lawful : (M : Program) (sides : List (RowId × ℚ)) → IsLawful M → All (λ (e : RowId × ℚ). Fits e.1) sides → IsLawful (with_new_sides M sides)
sides-lawful M sides lawful fits =
    let rows = length-changed_all row_index with_side sides M.rows in
    record {
      constants = lawful.constants;
      ranges = All-changed_all row_index with_side (λ (r : Row). IsRange r.lo r.hi) Fits row-ranged sides M.rows fits lawful.ranges;
      columns = subst (λ n. All (IsLawfulColumn n) M.cols) (sym rows) lawful.columns;
      rows_distinct = subst (λ l. AllPairs (λ a b. a ≢ b) (M.obj ∷ M.obj2 ∷ l)) (sym (map-changed_all row_index with_side (λ (r : Row). r.name) (λ v r. refl) sides M.rows)) lawful.rows_distinct;
      columns_distinct = lawful.columns_distinct;
      limits = subst (λ n. AreWithinLimits M.wide n (length M.cols) (entry_count M)) (sym rows) lawful.limits;
    }

cost-lawful : (n : ℕ) (v : ℚ) (c : Col) → Unit {0} → IsLawfulColumn n c → IsLawfulColumn n (with_cost v c)
cost-lawful n v c u h = record { bounded = h.bounded; entries = h.entries }

pub costs-lawful : (M : Program) (costs : List (ColId × ℚ)) → IsLawful M → IsLawful (with_new_costs M costs)
costs-lawful M costs lawful =
    let cols = length-changed_all col_index with_cost costs M.cols in
    let entries = sum_by-changed_all col_index with_cost (λ (c : Col). length c.rows) (λ v c. refl) costs M.cols in
    record {
      constants = lawful.constants;
      ranges = lawful.ranges;
      columns = All-changed_all col_index with_cost (IsLawfulColumn (length M.rows)) (λ v. Unit {0}) (cost-lawful (length M.rows)) costs M.cols (λ k d below. tt) lawful.columns;
      rows_distinct = lawful.rows_distinct;
      columns_distinct = subst (AllPairs (λ a b. a ≢ b)) (sym (map-changed_all col_index with_cost (λ (c : Col). c.name) (λ v c. refl) costs M.cols)) lawful.columns_distinct;
      limits = subst (λ P. P) (sym (λ i. AreWithinLimits M.wide (length M.rows) (cols i) (entries i))) lawful.limits;
    }

-- ---- the columns stay what they are

pub costs-integer : (M : Program) (costs : List (ColId × ℚ)) (j : ℕ) → (j < length M.cols) × IsTrue (is_integer M j) → (j < length (with_new_costs M costs).cols) × IsTrue (is_integer (with_new_costs M costs) j)
costs-integer M costs j h = (
  subst (λ n. j < n) (sym (length-changed_all col_index with_cost costs M.cols)) h.0,
  subst IsTrue (sym (of_element-changed_all col_index with_cost false (λ (c : Col). c.int) (λ v c. refl) costs M.cols j)) h.1,
)

-- ---- the numbers that there are

side-same : (side : Option ℚ) (v : ℚ) → IsSideNow side v → option_map (λ _. v) side ≡ side
side-same None v h = refl
side-same (Some s) v h = ap Some (sym h)

rows-same : (v : ℚ) (rows : List Row) (k : ℕ) → IsSideNow (of_element None (λ (r : Row). r.lo) rows k) v → IsSideNow (of_element None (λ (r : Row). r.hi) rows k) v → changed_at (with_side v) rows k ≡ rows
rows-same v [] k lo hi = refl
rows-same v (r ∷ rows) zero lo hi = λ i. record r { lo = side-same r.lo v lo i; hi = side-same r.hi v hi i } ∷ rows
rows-same v (r ∷ rows) (suc k) lo hi = ap (λ l. r ∷ l) (rows-same v rows k lo hi)

cols-same : (v : ℚ) (cols : List Col) (k : ℕ) → of_element (int (pos 0)) (λ (c : Col). c.cost) cols k ≡ v → changed_at (with_cost v) cols k ≡ cols
cols-same v [] k e = refl
cols-same v (c ∷ cols) zero e = λ i. record c { cost = sym e i } ∷ cols
cols-same v (c ∷ cols) (suc k) e = ap (λ l. c ∷ l) (cols-same v cols k e)

pub numbers-present : PresentNumbersLaw
numbers-present M (Sides sides) now =
    ap (λ (rows : List Row). record M { rows = rows }) (changed_all-same row_index with_side sides M.rows
    (All-weaker (λ (e : RowId × ℚ). IsSideNow (low_side M e.0.0) e.1 × IsSideNow (high_side M e.0.0) e.1) (λ (e : RowId × ℚ). changed_at (with_side e.1) M.rows e.0.0 ≡ M.rows)
    (λ e h. rows-same e.1 M.rows e.0.0 h.0 h.1) sides now))
numbers-present M (Costs costs) now =
    ap (λ (cols : List Col). record M { cols = cols }) (changed_all-same col_index with_cost costs M.cols
    (All-weaker (λ (e : ColId × ℚ). cost M 1 e.0.0 ≡ e.1) (λ (e : ColId × ℚ). changed_at (with_cost e.1) M.cols e.0.0 ≡ M.cols)
    (λ e h. cols-same e.1 M.cols e.0.0 h) costs now))
