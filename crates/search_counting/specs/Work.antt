-- How many results a search can still place.
--     whole_points M       how many whole points the integer columns have within their bounds
--     cap_of M             the most results of a search of a model
--     work M path t        the most results of a search from a tree: for each open leaf one for each of its points, and one for each split before it
--     splits M path t      the most splits among them
--     HasRoomFor n T       the tree T has room for n more splits
--     Lowers S S'          there is less to place
use Rattle.std.specs.Prelude.{◌≡◌, ℕ, ◌+◌, ◌*◌, ◌-◌, ◌^◌, ◌<◌, ◌≤◌, max, if◌then◌else◌, List, [], ◌∷◌}
use Rattle.lp_model.specs.Program.{Program}
use Rattle.lp_model.specs.Regions.{Path}
use Rattle.lp_model.specs.declared.types.Col.{Col}
use Rattle.branch_tree.specs.Tree.{Leaf, Split, left_path, right_path, node_count, split_count}
use Rattle.branch_tree.specs.Plain.{Plain}
use Rattle.branch_tree.specs.Numbered.{NumberedTree}
use Rattle.branch_tree.specs.declared.node.LeafState.{LeafState}
use Rattle.branch_tree.specs.declared.node.LeafState.TheVariants.{IsOpen, IsClosed}
use Rattle.sound_searches.specs.Sound.{PlainSearch}
use Rattle.search_counting.specs.Points.{points, numbers_within}

-- the numbers of an integer column, and one of any other
abbrev pub factor : Col → ℕ
factor c = if c.int then numbers_within c.lo c.up else 1

abbrev pub whole_points_of : List Col → ℕ
whole_points_of [] = 1
whole_points_of (c ∷ cs) = factor c * whole_points_of cs

abbrev pub whole_points : Program → ℕ
whole_points M = whole_points_of M.cols

-- one result for each point and one for each split, and one where there is no point
abbrev pub results_for : ℕ → ℕ
results_for n = max 1 (2 * n - 1)

abbrev pub cap_of : Program → ℕ
cap_of M = results_for (whole_points M)

-- ---- what is left to do in a tree

-- f of how many points an open leaf has
abbrev pub if_open : (ℕ → ℕ) → LeafState → ℕ → ℕ
if_open f IsOpen n = f n
if_open f IsClosed n = 0

abbrev pub sum_open : (ℕ → ℕ) → Program → Path → Plain → ℕ
sum_open f M path (Leaf l) = if_open f l.kept.state (points M path)
sum_open f M path (Split kept j v left right) = sum_open f M (left_path path j v) left + sum_open f M (right_path path j v) right

abbrev pub work : Program → Path → Plain → ℕ
work M path t = sum_open (λ n. 2 * n - 1) M path t

abbrev pub splits : Program → Path → Plain → ℕ
splits M path t = sum_open (λ n. n - 1) M path t

-- each split takes two nodes and two ids, and one id more is left for it, for its collapse
pub record HasRoomFor (n : ℕ) (T : NumberedTree) : Type 0 where
  pub nodes : node_count T.root + 2 * n ≤ T.limit
  pub ids : T.last + split_count T.root + 3 * n < 2 ^ 64

-- ---- searches

-- how many results the search can still place, and how many of them are splits
abbrev pub work_of : PlainSearch → ℕ
work_of S = work S.model [] S.tree.root

abbrev pub splits_of : PlainSearch → ℕ
splits_of S = splits S.model [] S.tree.root

-- the tree has room for each split that can still come
abbrev pub IsRoomy : PlainSearch → Type 0
IsRoomy S = HasRoomFor (splits_of S) S.tree

-- there is less to place, and where there was room for each split there still is
pub record Lowers (old new : PlainSearch) : Type 0 where
  pub model : new.model ≡ old.model
  pub work : work_of new + 1 ≤ work_of old
  pub room : IsRoomy old → IsRoomy new
