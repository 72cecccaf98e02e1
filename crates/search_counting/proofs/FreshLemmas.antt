-- New searches, and how many nodes are enough for them.
use Rattle.std.specs.Prelude.{◌≡◌, ℕ, ◌+◌, ◌*◌, ◌-◌, ◌^◌, ◌<◌, ◌≤◌, max}
use Rattle.std.proofs.Common.{sym, subst, arith}
use Rattle.lp_model.specs.Program.{Program}
use Rattle.lp_model.specs.Lawful.{IsLawful}
use Rattle.branch_tree.specs.Tree.{node_count, split_count}
use Rattle.branch_tree.specs.Leaves.{with_states}
use Rattle.branch_tree.specs.Changes.{first_tree, with_leaf_states}
use Rattle.branch_tree.proofs.CountLemmas.{nodes-splits}
use Rattle.branch_tree.proofs.StateLemmas.{split_count-states}
use Rattle.sound_searches.specs.Calls.{IsFresh}
use Rattle.sound_searches.specs.Sound.{PlainSearch, IsSound}
use Rattle.search_counting.specs.Work.{whole_points, cap_of, HasRoomFor, splits_of, IsRoomy}
use Rattle.search_counting.proofs.RoomLemmas.{room-fewer}
use Rattle.search_counting.proofs.CapLemmas.{splits-cap}

pub first-roomy : (M : Program) (nodes : ℕ) → cap_of M ≤ nodes → 1 + 3 * (whole_points M - 1) < 2 ^ 64 → HasRoomFor (whole_points M - 1) (first_tree nodes)
first-roomy M nodes within left = record { nodes = nodes_fit (whole_points M) within; ids = ids_fit (whole_points M) left }
  where
    nodes_fit : (p : ℕ) → max 1 (2 * p - 1) ≤ nodes → 1 + 2 * (p - 1) ≤ nodes
    nodes_fit p h = omega (arith, h)

    ids_fit : (p : ℕ) → 1 + 3 * (p - 1) < 2 ^ 64 → 1 + 0 + 3 * (p - 1) < 2 ^ 64
    ids_fit p h = omega (arith, h)

-- the judging of its leaf takes no room
fresh-room : (M : Program) (nodes n : ℕ) (S : PlainSearch) → IsFresh M nodes S → HasRoomFor n (first_tree nodes) → HasRoomFor n S.tree
fresh-room M nodes n S fresh h =
    let splits : split_count (with_states fresh.tree.states (first_tree nodes).root) ≡ 0 = split_count-states fresh.tree.states (first_tree nodes).root in
    let count : node_count (with_states fresh.tree.states (first_tree nodes).root) ≡ split_count (with_states fresh.tree.states (first_tree nodes).root) + split_count (with_states fresh.tree.states (first_tree nodes).root) + 1 =
    nodes-splits (with_states fresh.tree.states (first_tree nodes).root) in
    let room : HasRoomFor n (with_leaf_states (first_tree nodes) fresh.tree.states) = record {
      nodes = nodes_fit (node_count (with_states fresh.tree.states (first_tree nodes).root)) (split_count (with_states fresh.tree.states (first_tree nodes).root)) splits count h.nodes;
      ids = ids_fit (split_count (with_states fresh.tree.states (first_tree nodes).root)) splits h.ids;
    } in
    subst (HasRoomFor n) (sym fresh.tree.tree) room
  where
    nodes_fit : (c s : ℕ) → s ≡ 0 → c ≡ s + s + 1 → 1 + 2 * n ≤ nodes → c + 2 * n ≤ nodes
    nodes_fit c s e f h = omega (arith, e, f, h)

    ids_fit : (s : ℕ) → s ≡ 0 → 1 + 0 + 3 * n < 2 ^ 64 → 1 + s + 3 * n < 2 ^ 64
    ids_fit s e h = omega (arith, e, h)

pub fresh-roomy : (M : Program) (nodes : ℕ) (S : PlainSearch) → IsFresh M nodes S → cap_of M ≤ nodes → 1 + 3 * (whole_points M - 1) < 2 ^ 64 → HasRoomFor (whole_points M - 1) S.tree
fresh-roomy M nodes S fresh within left = fresh-room M nodes (whole_points M - 1) S fresh (first-roomy M nodes within left)

-- a new search whose tree has no room for all splits began without it
pub fresh-small : (M : Program) (nodes : ℕ) (S : PlainSearch) → IsFresh M nodes S → IsSound S → IsLawful M → (¬ IsRoomy S) → ¬ HasRoomFor (whole_points M - 1) (first_tree nodes)
fresh-small M nodes S fresh sound lawful unroomy first =
    let room : HasRoomFor (whole_points S.model - 1) S.tree = subst (λ P. HasRoomFor (whole_points P - 1) S.tree) (sym fresh.model) (fresh-room M nodes (whole_points M - 1) S fresh first) in
    unroomy (room-fewer S.tree (whole_points S.model - 1) (splits_of S) (splits-cap S.model S.tree.root (subst IsLawful (sym fresh.model) lawful) sound.tree.lawful) room)
