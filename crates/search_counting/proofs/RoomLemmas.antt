-- The tree's room after a change: where there was room for each split that could come, there still is.
use Rattle.std.specs.Prelude.{◌≡◌, ℕ, ◌+◌, ◌*◌, ◌^◌, ◌<◌, ◌≤◌}
use Rattle.std.proofs.Common.{arith}
use Rattle.branch_tree.specs.Tree.{node_count, split_count}
use Rattle.branch_tree.specs.Numbered.{NumberedTree}
use Rattle.branch_tree.specs.Changes.{HasRoom}
use Rattle.branch_tree.proofs.CountLemmas.{nodes-splits}
use Rattle.search_counting.specs.Work.{HasRoomFor}

-- k splits were made, and so many fewer can come
pub room-after : (T U : NumberedTree) (n m k : ℕ) → U.limit ≡ T.limit → U.last ≡ T.last + 2 * k → split_count U.root ≡ split_count T.root + k → m + k ≤ n → HasRoomFor n T → HasRoomFor m U
room-after T U n m k limit last splits fewer h =
    let t : node_count T.root ≡ split_count T.root + split_count T.root + 1 = nodes-splits T.root in
    let u : node_count U.root ≡ split_count U.root + split_count U.root + 1 = nodes-splits U.root in
    let nodes : node_count T.root + 2 * n ≤ T.limit = h.nodes in
    let ids : T.last + split_count T.root + 3 * n < 2 ^ 64 = h.ids in
    record { nodes = omega (arith, nodes, limit, splits, fewer, t, u); ids = omega (arith, ids, last, splits, fewer) }

-- fewer splits fit too
pub room-fewer : (T : NumberedTree) (n m : ℕ) → m ≤ n → HasRoomFor n T → HasRoomFor m T
room-fewer T n m fewer h =
    let nodes : node_count T.root + 2 * n ≤ T.limit = h.nodes in
    let ids : T.last + split_count T.root + 3 * n < 2 ^ 64 = h.ids in
    record { nodes = omega (arith, nodes, fewer); ids = omega (arith, ids, fewer) }

-- where one split can come, a leaf can be split now
pub room-now : (T : NumberedTree) (n : ℕ) → 1 ≤ n → HasRoomFor n T → HasRoom T
room-now T n some h =
    let nodes : node_count T.root + 2 * n ≤ T.limit = h.nodes in
    let ids : T.last + split_count T.root + 3 * n < 2 ^ 64 = h.ids in
    record { nodes = omega (arith, nodes, some); ids = omega (arith, ids, some) }
