-- States of the dual simplex method: a basis with sides, its perturbed reduced costs and its key.
use Rattle.std.specs.Prelude.{◌≡◌, ◌≢◌, ◌⊎◌, ℕ, zero, suc, ◌<◌, ◌≤◌, pos, negsuc, Some, None, if◌then◌else◌, ◌==◌, ◌&&◌, is_none}
use Rattle.frac128.specs.Rational.{ℚ, int, ◌-ℚ◌, ◌*ℚ◌, ◌/ℚ◌, neg_ℚ, ◌<ℚ◌}
use Rattle.frac128.specs.Sums.{sum_below}
use Rattle.table_entries.specs.declared.stand.Stand.{Stand}
use Rattle.table_entries.specs.declared.stand.Stand.TheVariants.{Low, High, Free}
use Rattle.table_entries.specs.Relaxation.{Relaxation, Table, IsTable, IsArranged, pivoted, reduced_cost, row_weights}

-- ---- numbers with parts, compared part by part

-- the first part that is not 0 is above 0
pub record IsPositive (f : ℕ → ℚ) : Type 0 where
  pub first : ℕ
  pub before : (q : ℕ) → q < first → f q ≡ int (pos 0)
  pub above : int (pos 0) <ℚ f first

abbrev pub IsLess : (ℕ → ℚ) → (ℕ → ℚ) → Type 0
IsLess f g = IsPositive (λ q. g q -ℚ f q)

abbrev pub IsSame : (ℕ → ℚ) → (ℕ → ℚ) → Type 0
IsSame f g = (q : ℕ) → f q ≡ g q

-- ---- costs with parts: part q of the cost of v

-- the costs, then for each variable a part in which it alone has a cost, its tilt: the part after rank v
abbrev pub perturbed : Relaxation → (ℕ → ℚ) → (ℕ → ℕ) → ℕ → ℕ → ℚ
perturbed p tilt rank zero v = p.cost v
perturbed p tilt rank (suc q) v = if rank v == q then tilt v else int (pos 0)

abbrev pub IsFree : Relaxation → ℕ → Type 0
IsFree p v = (p.low v ≡ None) × (p.high v ≡ None)

-- each variable with a side has a part in which it alone has a cost
pub record Separates (p : Relaxation) (parts : ℕ → ℕ → ℚ) : Type 0 where
  pub own_part : ℕ → ℕ
  pub own_some : (v : ℕ) → ¬ (IsFree p v) → parts (own_part v) v ≢ int (pos 0)
  pub own_alone : (v u : ℕ) → ¬ (IsFree p v) → ¬ (u ≡ v) → parts (own_part v) u ≡ int (pos 0)

-- ---- states

abbrev pub sign : Stand → ℚ
sign Low = int (pos 1)
sign High = int (negsuc 0)
sign Free = int (pos 0)

-- a basis, and by place where its nonbasic variables stand and the numbers that they have there
pub record State : Type 0 where
  pub table : Table
  pub stand : ℕ → Stand
  pub at : ℕ → ℚ

abbrev pub Standing : Relaxation → ℕ → Stand → ℚ → Type 0
Standing p v Low x = p.low v ≡ Some x
Standing p v High x = p.high v ≡ Some x
Standing p v Free x = (p.low v ≡ None) × (p.high v ≡ None) × (x ≡ int (pos 0))

abbrev pub LawfulAt : Stand → (ℕ → ℚ) → Type 0
LawfulAt Low f = IsPositive f
LawfulAt High f = IsPositive (λ q. neg_ℚ (f q))
LawfulAt Free f = (q : ℕ) → f q ≡ int (pos 0)

-- the parts of the reduced cost of place k
abbrev pub reduced_parts : Relaxation → (ℕ → ℕ → ℚ) → Table → ℕ → ℕ → ℚ
reduced_parts p parts d k q = reduced_cost p d (parts q) k

pub record IsDualFeasible (p : Relaxation) (parts : ℕ → ℕ → ℚ) (st : State) : Type 0 where
  pub stands : (k : ℕ) → k < p.columns → Standing p (st.table.nonbasic k) (st.stand k) (st.at k)
  pub lawful : (k : ℕ) → k < p.columns → LawfulAt (st.stand k) (reduced_parts p parts st.table k)

-- a lawful state at the table of a basis
pub record IsGood (p : Relaxation) (parts : ℕ → ℕ → ℚ) (st : State) : Type 0 where
  pub table : IsTable p st.table
  pub arranged : IsArranged p st.table
  pub lawful : IsDualFeasible p parts st

-- the value of the basic variable of row r
abbrev pub basic_value : Relaxation → State → ℕ → ℚ
basic_value p st r = sum_below p.columns (λ k. st.table.entry r k *ℚ st.at k)

-- the number of basic variables without sides, then the parts of the sum of perturbed reduced cost times number
abbrev pub key : Relaxation → (ℕ → ℕ → ℚ) → State → ℕ → ℚ
key p parts st zero = sum_below p.activities (λ i. if is_none (p.low (st.table.basic i)) && is_none (p.high (st.table.basic i)) then int (pos 1) else int (pos 0))
key p parts st (suc q) = sum_below p.columns (λ k. reduced_cost p st.table (parts q) k *ℚ st.at k)

-- ---- steps

-- the basic variable of row r is outside that side, which is at b
abbrev pub IsOutside : Relaxation → State → ℕ → Stand → ℚ → Type 0
IsOutside p st r Low b = (p.low (st.table.basic r) ≡ Some b) × (basic_value p st r <ℚ b)
IsOutside p st r High b = (p.high (st.table.basic r) ≡ Some b) × (b <ℚ basic_value p st r)
IsOutside p st r Free b = ⊥

-- a variable that stands so and has the entry t in the row moves a variable back that is outside that side
abbrev pub MayEnter : Stand → Stand → ℚ → Type 0
MayEnter side Low t = int (pos 0) <ℚ sign side *ℚ (sign Low *ℚ t)
MayEnter side High t = int (pos 0) <ℚ sign side *ℚ (sign High *ℚ t)
MayEnter side Free t = t ≢ int (pos 0)

-- the parts of the reduced cost of place k by its entry in row r, which in a lawful state have the sign of the side: this is their magnitude
abbrev pub ratio : Relaxation → (ℕ → ℕ → ℚ) → State → ℕ → Stand → ℕ → ℕ → ℚ
ratio p parts st r side k q = sign side *ℚ (reduced_cost p st.table (parts q) k /ℚ st.table.entry r k)

-- place s may enter, and no other that may has a lesser ratio, nor the same with an earlier variable
pub record Enters (p : Relaxation) (parts : ℕ → ℕ → ℚ) (st : State) (r : ℕ) (side : Stand) (s : ℕ) : Type 0 where
  pub within : s < p.columns
  pub may : MayEnter side (st.stand s) (st.table.entry r s)
  pub least : (k : ℕ) → k < p.columns → MayEnter side (st.stand k) (st.table.entry r k)
      → IsLess (ratio p parts st r side s) (ratio p parts st r side k) ⊎ (IsSame (ratio p parts st r side s) (ratio p parts st r side k) × (st.table.nonbasic s ≤ st.table.nonbasic k))

-- the variable of row r leaves for that side, which is at b, and that of place s enters
abbrev pub stepped : State → ℕ → ℕ → Stand → ℚ → State
stepped st r s side b = record {
  table = pivoted st.table r s;
  stand = λ k. if k == s then side else st.stand k;
  at = λ k. if k == s then b else st.at k;
}

-- the first basic variable that is outside a side leaves for it, and one that enters by the rule takes its place
pub record IsStep (p : Relaxation) (parts : ℕ → ℕ → ℚ) (st after : State) : Type 0 where
  pub row : ℕ
  pub row_within : row < p.activities
  pub side : Stand
  pub bound : ℚ
  pub outside : IsOutside p st row side bound
  pub first : (i : ℕ) (s : Stand) (b : ℚ) → i < p.activities → IsOutside p st i s b → st.table.basic row ≤ st.table.basic i
  pub place : ℕ
  pub enters : Enters p parts st row side place
  pub is : after ≡ stepped st row place side bound

-- the Farkas multipliers of a row whose basic variable is outside that side
abbrev pub farkas_weights : Relaxation → State → ℕ → Stand → ℕ → ℚ
farkas_weights p st r side v = sign side *ℚ row_weights p st.table r v

-- the same basis with the same numbers at its nonbasic variables, in any order of rows and places
pub record SameState (p : Relaxation) (st other : State) : Type 0 where
  pub basics : (i : ℕ) → i < p.activities → (j : ℕ) × (j < p.activities) × (st.table.basic i ≡ other.table.basic j)
  pub basics_back : (j : ℕ) → j < p.activities → (i : ℕ) × (i < p.activities) × (other.table.basic j ≡ st.table.basic i)
  pub numbers : (k l : ℕ) → k < p.columns → l < p.columns → st.table.nonbasic k ≡ other.table.nonbasic l → st.at k ≡ other.at l
