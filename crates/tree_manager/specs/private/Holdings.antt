-- What the calls need that let go of leaves.
--     OthersOpen S id held      each leaf that is held, but that with the id, is open
use Rattle.std.specs.Prelude.{◌≡◌, ◌≢◌, ℕ, true, List, Option, Some}
use Rattle.sound_searches.specs.Sound.{PlainSearch}
use Rattle.tree_manager.specs.Managers.{HoldsLeaf, has_open}

-- a leaf that is held, other than that with the id, is open
abbrev pub IsOtherOpen : PlainSearch → ℕ → Option ℕ → Type 0
IsOtherOpen S id holding = (k : ℕ) → holding ≡ Some k → k ≢ id → has_open S k ≡ true

abbrev pub OthersOpen : PlainSearch → ℕ → List (Option ℕ) → Type 0
OthersOpen S id held = (w k : ℕ) → HoldsLeaf held w k → k ≢ id → has_open S k ≡ true
