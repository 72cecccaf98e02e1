-- What an edit spares of a leaf: whether its region is empty, the answers of its two lists, and what is kept of their totals.
use Rattle.std.specs.Prelude.{◌≡◌, ◌↔◌, ℕ, ◌/◌, ◌<◌, ◌≤◌, ℤ, true, false, length, pos, Option, Some, None, Result}
use Rattle.frac128.specs.Rational.{int}
use Rattle.lp_model.specs.Program.{Program}
use Rattle.lp_model.specs.Regions.{Path, region_low, region_high, IsCrossed, IsEmptyRegion}
use Rattle.lp_model.specs.Formulations.{Formulation}
use Rattle.lp_model.specs.declared.types.ColId.{ColId}
use Rattle.lp_model.specs.declared.types.WideStep.{WideStep}
use Rattle.leaf_dual.specs.declared.dual.LagValue.{LagValue}
use Rattle.leaf_dual.specs.Dual.{Multipliers, multiplier, cut_weight, least_cost}
use Rattle.leaf_dual.specs.Answers.{IsLagAnswer, IsFarkasAnswer}
use Rattle.leaf_totals.specs.declared.keeping.LeafTotals.{LeafTotals}
use Rattle.leaf_totals.specs.Keeping.{Question, list_question, IsSumOfShortTerms}
use Rattle.leaf_totals.specs.Likeness.{AreLikeTo}
use Rattle.spared_leaves.specs.Touched.{is_apart}
use Rattle.spared_leaves.specs.Questions.{IsQuietColumn}

-- column j makes no step under the list, with the model's costs and with none
abbrev pub IsQuietLag : Path → Multipliers → Formulation → ℕ → Type 0
IsQuietLag path mult F j = IsQuietColumn F path (multiplier mult) (cut_weight F.cuts mult) (least_cost F.model) j

abbrev pub IsQuietFarkas : Path → Multipliers → Formulation → ℕ → Type 0
IsQuietFarkas path mult F j = IsQuietColumn F path (multiplier mult) (cut_weight F.cuts mult) (λ k. int (pos 0)) j

-- Q of the column, if one is given, in each of the two formulations that has it
abbrev pub HasInEach : (Formulation → ℕ → Type 0) → Option ColId → Formulation → Formulation → Type 0
HasInEach Q col F G = (j : ℕ) → is_apart col j ≡ false → (j < length F.model.cols → Q F j) × (j < length G.model.cols → Q G j)

-- the column, if one is given, has no number in both regions or in neither
abbrev pub IsCrossedIn : Path → Program → ℕ → Type 0
IsCrossedIn path M j = (j < length M.cols) × IsCrossed (region_low M path j) (region_high M path j)

abbrev pub KeepsCrossing : Path → Option ColId → Program → Program → Type 0
KeepsCrossing path col M N = (j : ℕ) → is_apart col j ≡ false → IsCrossedIn path M j ↔ IsCrossedIn path N j

-- neither has the column, if one is given
abbrev pub IsAbsent : Option ColId → Program → Program → Type 0
IsAbsent None M N = Unit {0}
IsAbsent (Some col) M N = (length M.cols ≤ col.0) × (length N.cols ≤ col.0)

-- a number whose terms are known to be short stays one, where there is no further block of columns
abbrev pub KeepsShort : Formulation → Formulation → Question → Question → Type 0
KeepsShort F G q r = length F.model.cols ≤ length G.model.cols → length F.model.cols / 64 ≡ length G.model.cols / 64 → (t : LeafTotals) (over : ℤ) → IsSumOfShortTerms q t over → IsSumOfShortTerms r t over

-- the same in both
pub record IsSpared (F G : Formulation) (path : Path) (mult farkas : Multipliers) : Type 0 where
  pub empty : IsEmptyRegion F.model path ↔ IsEmptyRegion G.model path
  pub lag : (r : Result LagValue WideStep) → IsLagAnswer F path mult r ↔ IsLagAnswer G path mult r
  pub refuting : (r : Result LagValue WideStep) → IsFarkasAnswer F path farkas r ↔ IsFarkasAnswer G path farkas r
  pub lag_totals : length F.model.cols ≤ length G.model.cols → AreLikeTo (length F.model.cols) (list_question F path mult true) (list_question G path mult true)
  pub farkas_totals : length F.model.cols ≤ length G.model.cols → AreLikeTo (length F.model.cols) (list_question F path farkas false) (list_question G path farkas false)
  pub lag_short : KeepsShort F G (list_question F path mult true) (list_question G path mult true)
  pub farkas_short : KeepsShort F G (list_question F path farkas false) (list_question G path farkas false)
