-- What the calls of a search keep in order.
use Rattle.std.specs.Prelude.{ℕ, ◌≤◌, List}
use Rattle.lp_model.specs.Edits.{EditFits}
use Rattle.lp_model.specs.Program.{Program}
use Rattle.lp_model.specs.declared.types.Derivation.{Derivation}
use Rattle.lp_model.specs.declared.types.Edit.{Edit}
use Rattle.lp_model.specs.Limits.{node_limit}
use Rattle.branch_tree.specs.Numbered.{IsNumbered}
use Rattle.branch_tree.specs.declared.node.NodeResult.{NodeResult}
use Rattle.sound_searches.specs.declared.taken.Taken.{Taken}
use Rattle.sound_searches.specs.Calls.{IsFresh, search_with_limit}
use Rattle.sound_searches.specs.Edited.{Follows}
use Rattle.sound_searches.specs.Placing.{Takes}
use Rattle.sound_searches.specs.Pool.{AddsCuts}
use Rattle.sound_searches.specs.Sound.{PlainSearch}
use Rattle.sound_searches.specs.Trimmed.{Trims}
use Rattle.list_order.specs.Order.{IsResultInOrder}
use Rattle.list_order.specs.Ordered.{AreCutsInOrder, IsInOrder}

-- a fresh search is in order; and so is one that is, with another limit that a search may have
pub record FreshOrderLaw : Type 0 where
  pub fresh : (M : Program) (limit : ℕ) (S : PlainSearch) → IsFresh M limit S → limit ≤ node_limit → IsInOrder S
  pub limited : (S : PlainSearch) (limit : ℕ) → limit ≤ node_limit → IsInOrder S → IsInOrder (search_with_limit S limit)

-- one that takes a result in order stays so: what it splits has room, since no leaf has another's id
abbrev pub PlaceOrderLaw : Type 0
PlaceOrderLaw = (S : PlainSearch) (id : ℕ) (result : NodeResult) (new : PlainSearch) (taken : Taken) → Takes S id result new taken → IsResultInOrder result → IsNumbered S.tree → IsInOrder S → IsInOrder new

-- and one that adds cuts in order
abbrev pub PoolOrderLaw : Type 0
PoolOrderLaw = (S : PlainSearch) (found : List Derivation) (new : PlainSearch) → AddsCuts S found new → AreCutsInOrder S.model found → IsInOrder S → IsInOrder new

-- one that follows an edit: entries go, and greater places fall by as many
abbrev pub EditOrderLaw : Type 0
EditOrderLaw = (S : PlainSearch) (e : Edit) (new : PlainSearch) → EditFits S.model e → Follows S e new → IsInOrder S → IsInOrder new

-- one that is trimmed: the lists of a split become those of a leaf
abbrev pub TrimOrderLaw : Type 0
TrimOrderLaw = (S : PlainSearch) (depth : ℕ) (new : PlainSearch) → Trims S depth new → IsInOrder S → IsInOrder new
