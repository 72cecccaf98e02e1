-- How many terms an edit adds to the totals that are kept of leaves, all leaves together: each bound is a sum over the leaves. Places count from 0.
--     SecondCostTakes e taken        an edit of a second cost adds none
--     CostTakes S e taken            one of the cost of the column at place j of n adds at most n - j + 63 times the number of leaves
--     SidesTake S e new taken        one of a row's sides adds at most all terms of both lists for each leaf a list of which names the row, or a cut
--                                    that began or ceased to count, and nothing for another leaf
use Rattle.std.specs.Prelude.{◌≡◌, ◌≤◌, ◌+◌, ◌-◌, ◌*◌, ℕ, Bool, ◌&&◌, if◌then◌else◌, List, [], ◌∷◌, length}
use Rattle.lp_model.specs.Edits.{col_place, row_place}
use Rattle.lp_model.specs.declared.types.Edit.{Edit}
use Rattle.lp_model.specs.declared.types.Edit.TheVariants.{SetCost, SetCost2, SetRow}
use Rattle.branch_tree.specs.Leaves.{leaf_count, region_leaves}
use Rattle.branch_tree.specs.declared.node.RegionLeaf.{RegionLeaf}
use Rattle.spared_leaves.specs.declared.touched.Touched.TheVariants.{OneRow}
use Rattle.spared_leaves.specs.Touched.{leaves_list}
use Rattle.sound_searches.specs.Sound.{PlainSearch}

-- the terms of a number: rows, cuts, columns
abbrev pub all_terms : PlainSearch → ℕ
all_terms S = length S.model.rows + (length S.cuts + length S.model.cols)

-- neither list of the leaf names the row at the place, nor a cut that counts in one of the searches alone
abbrev pub leaves_both : PlainSearch → ℕ → PlainSearch → RegionLeaf → Bool
leaves_both S row new l = leaves_list (OneRow (record { 0 = row })) S.cuts new.cuts l.kept.mult && leaves_list (OneRow (record { 0 = row })) S.cuts new.cuts l.kept.farkas

abbrev pub sides_steps : PlainSearch → ℕ → PlainSearch → List RegionLeaf → ℕ
sides_steps S row new [] = 0
sides_steps S row new (l ∷ leaves) = (if leaves_both S row new l then 0 else 2 * all_terms new) + sides_steps S row new leaves

-- ---- the bounds

abbrev pub SecondCostTakes : Edit → ℕ → Type 0
SecondCostTakes (SetCost2 col v) taken = taken ≡ 0
SecondCostTakes e taken = Unit {0}

abbrev pub CostTakes : PlainSearch → Edit → ℕ → Type 0
CostTakes S (SetCost col v) taken = taken ≤ leaf_count S.tree.root * (length S.model.cols - col_place S.model col + 63)
CostTakes S e taken = Unit {0}

abbrev pub SidesTake : PlainSearch → Edit → PlainSearch → ℕ → Type 0
SidesTake S (SetRow row lo hi) new taken = taken ≤ sides_steps S (row_place S.model row) new (region_leaves [] S.tree.root)
SidesTake S e new taken = Unit {0}
