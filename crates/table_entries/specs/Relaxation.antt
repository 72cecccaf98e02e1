-- Relaxations, tables of their bases, and the exchange of two variables.
-- Variables are numbers: the columns from 0, then the activities.
use Rattle.std.specs.Prelude.{◌≡◌, ℕ, ◌+◌, ◌<◌, pos, Option, Some, if◌then◌else◌, ◌==◌}
use Rattle.frac128.specs.Rational.{ℚ, int, ◌+ℚ◌, ◌-ℚ◌, ◌*ℚ◌, ◌/ℚ◌, neg_ℚ, inverse, ◌<ℚ◌, ◌≤ℚ◌}
use Rattle.frac128.specs.Sums.{sum_below}

pub record Relaxation : Type 0 where
  pub columns : ℕ
  pub activities : ℕ
  -- by activity and column
  pub coefficient : ℕ → ℕ → ℚ
  -- by variable
  pub low : ℕ → Option ℚ
  pub high : ℕ → Option ℚ
  pub cost : ℕ → ℚ

-- numbers for all variables in which each activity is what its row says
abbrev pub Solves : Relaxation → (ℕ → ℚ) → Type 0
Solves p x = (i : ℕ) → i < p.activities → x (p.columns + i) ≡ sum_below p.columns (λ j. p.coefficient i j *ℚ x j)

-- which variables are basic, by row, which are not, by place, and the entries by row and place
pub record Table : Type 0 where
  pub basic : ℕ → ℕ
  pub nonbasic : ℕ → ℕ
  pub entry : ℕ → ℕ → ℚ

-- the row of a table at numbers for all variables
abbrev pub row_value : Relaxation → Table → (ℕ → ℚ) → ℕ → ℚ
row_value p d x i = sum_below p.columns (λ k. d.entry i k *ℚ x (d.nonbasic k))

abbrev pub Rows : Relaxation → Table → (ℕ → ℚ) → Type 0
Rows p d x = (i : ℕ) → i < p.activities → x (d.basic i) ≡ row_value p d x i

-- the rows of the table say the same of the variables as the relaxation's
pub record IsTable (p : Relaxation) (d : Table) : Type 0 where
  pub holds : (x : ℕ → ℚ) → Solves p x → Rows p d x
  pub suffices : (x : ℕ → ℚ) → Rows p d x → Solves p x

-- the columns and activities are parted among the rows and places, each once
pub record IsArranged (p : Relaxation) (d : Table) : Type 0 where
  pub basic_once : (i j : ℕ) → i < p.activities → j < p.activities → d.basic i ≡ d.basic j → i ≡ j
  pub nonbasic_once : (k l : ℕ) → k < p.columns → l < p.columns → d.nonbasic k ≡ d.nonbasic l → k ≡ l
  pub apart : (i k : ℕ) → i < p.activities → k < p.columns → ¬ (d.basic i ≡ d.nonbasic k)
  pub sums : (f : ℕ → ℚ) → sum_below (p.columns + p.activities) f ≡ sum_below p.activities (λ i. f (d.basic i)) +ℚ sum_below p.columns (λ k. f (d.nonbasic k))

-- two tables that say the same of each row and place
pub record Agree (columns activities : ℕ) (d e : Table) : Type 0 where
  pub basic : (i : ℕ) → i < activities → d.basic i ≡ e.basic i
  pub nonbasic : (k : ℕ) → k < columns → d.nonbasic k ≡ e.nonbasic k
  pub entry : (i k : ℕ) → i < activities → k < columns → d.entry i k ≡ e.entry i k

-- the slack basis: the activities
abbrev pub slack_table : Relaxation → Table
slack_table p = record { basic = λ i. p.columns + i; nonbasic = λ k. k; entry = p.coefficient }

abbrev pub updated : (ℕ → ℕ) → ℕ → ℕ → ℕ → ℕ
updated f at total_cost k = if k == at then total_cost else f k

-- the entries after the variable of row r leaves and that of place s enters
abbrev pub pivoted_entry : (ℕ → ℕ → ℚ) → ℕ → ℕ → ℕ → ℕ → ℚ
pivoted_entry t r s i k =
    if i == r
    then (if k == s then inverse (t r s) else neg_ℚ (t r k /ℚ t r s))
    else (if k == s then t i s /ℚ t r s else t i k -ℚ t i s *ℚ (t r k /ℚ t r s))

abbrev pub pivoted : Table → ℕ → ℕ → Table
pivoted d r s = record {
  basic = updated d.basic r (d.nonbasic s);
  nonbasic = updated d.nonbasic s (d.basic r);
  entry = pivoted_entry d.entry r s;
}

-- the reduced cost of place k by the costs c: its variable's cost, and what that of the basic ones comes to in its column
abbrev pub reduced_cost : Relaxation → Table → (ℕ → ℚ) → ℕ → ℚ
reduced_cost p d c k = c (d.nonbasic k) +ℚ sum_below p.activities (λ i. c (d.basic i) *ℚ d.entry i k)

-- the numbers for variables that are b i at the basic variable of row i and c k at the nonbasic one of place k
abbrev pub assigned : Relaxation → Table → (ℕ → ℚ) → (ℕ → ℚ) → ℕ → ℚ
assigned p d b c v =
    sum_below p.activities (λ i. if v == d.basic i then b i else int (pos 0)) +ℚ sum_below p.columns (λ k. if v == d.nonbasic k then c k else int (pos 0))

-- the point at which the nonbasic variables have the numbers c
abbrev pub point : Relaxation → Table → (ℕ → ℚ) → ℕ → ℚ
point p d c = assigned p d (λ i. sum_below p.columns (λ k. d.entry i k *ℚ c k)) c

-- the sum of cost times number over all variables
abbrev pub total_cost : Relaxation → (ℕ → ℚ) → (ℕ → ℚ) → ℚ
total_cost p c x = sum_below (p.columns + p.activities) (λ v. c v *ℚ x v)

-- the multipliers of a basis, by variable: those of the activities are the reduced costs of those that are not basic, those of the columns what is left of their costs
abbrev pub multipliers : Relaxation → Table → (ℕ → ℚ) → ℕ → ℚ
multipliers p d c = assigned p d (λ i. int (pos 0)) (reduced_cost p d c)

-- what the row of r says, as weights of all variables that give 0 at every solution
abbrev pub row_weights : Relaxation → Table → ℕ → ℕ → ℚ
row_weights p d r = assigned p d (λ i. if i == r then int (pos 1) else int (pos 0)) (λ k. neg_ℚ (d.entry r k))

-- what the weights y of the activities leave of the cost of column j
abbrev pub left_of : Relaxation → (ℕ → ℚ) → (ℕ → ℚ) → ℕ → ℚ
left_of p c y j = c j -ℚ sum_below p.activities (λ i. y (p.columns + i) *ℚ p.coefficient i j)

-- the total of the weights y at the sides that their signs ask for is z: each of these sides is there
pub record IsLag (p : Relaxation) (y : ℕ → ℚ) (z : ℚ) : Type 0 where
  pub side : ℕ → ℚ
  pub lower : (v : ℕ) → v < p.columns + p.activities → int (pos 0) <ℚ y v → p.low v ≡ Some (side v)
  pub upper : (v : ℕ) → v < p.columns + p.activities → y v <ℚ int (pos 0) → p.high v ≡ Some (side v)
  pub total : z ≡ sum_below (p.columns + p.activities) (λ v. y v *ℚ side v)

-- numbers for all variables that are within their sides
pub record IsWithin (p : Relaxation) (x : ℕ → ℚ) : Type 0 where
  pub low : (v : ℕ) (b : ℚ) → v < p.columns + p.activities → p.low v ≡ Some b → b ≤ℚ x v
  pub high : (v : ℕ) (b : ℚ) → v < p.columns + p.activities → p.high v ≡ Some b → x v ≤ℚ b

-- no variable has its low side above its high one
abbrev pub HasNoCrossedSides : Relaxation → Type 0
HasNoCrossedSides p = (v : ℕ) (a b : ℚ) → p.low v ≡ Some a → p.high v ≡ Some b → a ≤ℚ b
