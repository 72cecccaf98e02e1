-- A leaf in whole numbers: those of its rows' multipliers and its cuts' weights over one denominator, where the next weight is,
-- what is left of the first columns' costs, and which of the first columns the region names.
use Rattle.std.specs.Prelude.{◌≡◌, ◌<◌, ℕ, ℤ, Bool, false, nat_eq, List, length, get_or, All}
use Rattle.frac128.specs.LowestTerms.{quotient_of}
use Rattle.lp_model.specs.Regions.{Path}
use Rattle.leaf_dual.specs.declared.leaf.Leaf.{Leaf}
use Rattle.leaf_dual.specs.declared.whole_leaf.WholeLeaf.{WholeLeaf}
use Rattle.leaf_dual.specs.Dual.{column_reduced_cost}
use Rattle.leaf_dual.specs.Answers.{EntriesFit}
use Rattle.leaf_dual.specs.Parts.{leaf_formulation, costs, weights, cut_weights}
use Rattle.whole_sums.specs.Wholes.{IsShort, IsDenominator, whole_number_at}
use Rattle.leaf_dual.specs.Wholes.{AreNumbersOver, AreNexts}

-- a number over d is what is left of column j's cost, and each step of that has room
abbrev pub IsCostLeft : Leaf → ℤ → ℕ → ℤ → Type 0
IsCostLeft leaf d j n =
    EntriesFit (leaf_formulation leaf) (weights leaf) (cut_weights leaf) (costs leaf) j × (quotient_of n d ≡ column_reduced_cost (leaf_formulation leaf) (weights leaf) (cut_weights leaf) (costs leaf) j)

-- of the first so many columns the numbers are
abbrev pub AreCostsLeft : Leaf → ℤ → List ℤ → ℕ → Type 0
AreCostsLeft leaf d numbers count = (j : ℕ) → j < count → IsShort (whole_number_at numbers j) × IsCostLeft leaf d j (whole_number_at numbers j)

-- no change of the path is of column j
abbrev pub NamesNoColumn : Path → ℕ → Type 0
NamesNoColumn path j = All (λ c. nat_eq c.col.0 j ≡ false) path

-- each column that the path names is marked, as far as there are marks
abbrev pub AreNamedMarked : Path → List Bool → Type 0
AreNamedMarked path marks = (j : ℕ) → j < length marks → get_or marks j false ≡ false → NamesNoColumn path j

pub record IsWholeLeaf (whole : WholeLeaf) : Type 0 where
  pub denominator : IsDenominator whole.denominator
  pub rows : AreNumbersOver whole.denominator (weights whole.leaf) whole.rows.now
  pub cuts : AreNumbersOver whole.denominator (cut_weights whole.leaf) whole.cuts.now
  pub next : AreNexts whole.cuts.now whole.next.now whole.known
  pub left : AreCostsLeft whole.leaf whole.denominator whole.costs_left.now whole.costs_known
  pub named : AreNamedMarked whole.leaf.region.now whole.named.now
