-- No feasible point has a value below a number against which all leaves close.
use Rattle.std.specs.Prelude.{[], Some}
use Rattle.frac128.specs.Rational.{ℚ, ◌≤ℚ◌}
use Rattle.lp_model.specs.Program.{Point, IsFeasible, least_value}
use Rattle.lp_model.specs.Regions.{InRegion}
use Rattle.branch_tree.proofs.TreeLemmas.{point_in_one_leaf, leaf_with_both}
use Rattle.leaf_judging.specs.Closing.{ClosesBy}
use Rattle.sound_searches.specs.Sound.{PlainSearch, formulation_of, IsSound}
use Rattle.sound_searches.proofs.ClosedTree.{valid-sound, number-bound}
use Rattle.search_gaps.specs.Within.{AllClose}

pub within-bound : (S : PlainSearch) (t : ℚ) → IsSound S → AllClose S t → (y : Point) → IsFeasible S.model y → t ≤ℚ least_value S.model 1 y
within-bound S t sound close y feasible =
    let one = point_in_one_leaf S.model S.tree.root y sound.tree.lawful feasible in
    let both = leaf_with_both (λ path l. InRegion path y) (λ path l. ClosesBy (formulation_of S) (Some t) path l.kept) [] S.tree.root close one in
    let closes = both.1.1.1 in
    number-bound (formulation_of S) (valid-sound S sound) y feasible both.0 both.1.1.0 (Some t) both.1.0.kept.mult both.1.0.kept.farkas closes.0 closes.1.0 closes.1.1
