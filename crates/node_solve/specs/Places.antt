-- The cuts of a relaxation beside those of a pool: the relaxation has the first that count, and names each by its place among
-- them; what is kept of a leaf names it by its place in the pool.
use Rattle.std.specs.Prelude.{ℕ, zero, suc, if◌then◌else◌, List, [], ◌∷◌, ◌++◌, ◌<◌, get_or, map, All}
use Rattle.frac128.specs.Rational.{ℚ}
use Rattle.kept_cuts.specs.Places.{index_among}
use Rattle.lp_model.specs.Limits.{pool_limit}
use Rattle.lp_model.specs.declared.types.CutRow.{CutRow}
use Rattle.lp_model.specs.declared.types.Var.{Var}
use Rattle.lp_model.specs.declared.types.Var.TheVariants.{Col, Row, Cut}
use Rattle.lp_model.specs.declared.types.Basis.{Basis}
use Rattle.leaf_dual.specs.Dual.{Multipliers}
use Rattle.branch_tree.specs.declared.node.NodeResult.{NodeResult}
use Rattle.branch_tree.specs.declared.node.NodeResult.TheVariants.{Close, Split, PointAndClose, Keep}

-- ---- the first cuts that count, at most n, and their places, the first cut of the list having place k

abbrev pub live_cuts : ℕ → List CutRow → List CutRow
live_cuts zero cuts = []
live_cuts (suc n) [] = []
live_cuts (suc n) (c ∷ cuts) = if c.live then c ∷ live_cuts n cuts else live_cuts (suc n) cuts

abbrev pub live_places : ℕ → ℕ → List CutRow → List ℕ
live_places zero k cuts = []
live_places (suc n) k [] = []
live_places (suc n) k (c ∷ cuts) = if c.live then k ∷ live_places n (suc k) cuts else live_places (suc n) (suc k) cuts

-- places of a pool with at most 10,000 cuts
abbrev pub ArePoolPlaces : List ℕ → Type 0
ArePoolPlaces places = All (λ p. p < pool_limit) places

-- ---- names

-- a variable of a pool, in the relaxation whose cuts have these places
abbrev pub var_in_relaxation : List ℕ → Var → Var
var_in_relaxation places (Col col) = Col col
var_in_relaxation places (Row row) = Row row
var_in_relaxation places (Cut cut) = Cut (record { 0 = index_among cut.0 places })

-- and back
abbrev pub var_in_pool : List ℕ → Var → Var
var_in_pool places (Col col) = Col col
var_in_pool places (Row row) = Row row
var_in_pool places (Cut cut) = Cut (record { 0 = get_or places cut.0 0 })

abbrev pub basis_in_relaxation : List ℕ → Basis → Basis
basis_in_relaxation places b = record { basic = map (var_in_relaxation places) b.basic; high = map (var_in_relaxation places) b.high }

abbrev pub basis_in_pool : List ℕ → Basis → Basis
basis_in_pool places b = record { basic = map (var_in_pool places) b.basic; high = map (var_in_pool places) b.high }

abbrev pub mult_in_pool : List ℕ → Multipliers → Multipliers
mult_in_pool places mult = map (λ (m : Var × ℚ). (var_in_pool places m.0, m.1)) mult

abbrev pub result_in_pool : List ℕ → NodeResult → NodeResult
result_in_pool places (Close mult farkas basis) = Close (mult_in_pool places mult) (mult_in_pool places farkas) (basis_in_pool places basis)
result_in_pool places (Split col v mult basis) = Split col v (mult_in_pool places mult) (basis_in_pool places basis)
result_in_pool places (PointAndClose point mult basis) = PointAndClose point (mult_in_pool places mult) (basis_in_pool places basis)
result_in_pool places (Keep point basis) = Keep point (basis_in_pool places basis)

-- ---- bases with further cuts

-- the activities of so many cuts, from the one at k on
abbrev pub cut_variables : ℕ → ℕ → List Var
cut_variables k zero = []
cut_variables k (suc n) = Cut (record { 0 = k }) ∷ cut_variables (suc k) n

-- the basis with those basic besides
abbrev pub with_cut_variables : Basis → ℕ → ℕ → Basis
with_cut_variables b k n = record { basic = b.basic ++ cut_variables k n; high = b.high }
