-- What contracts of private functions alone cite, beside specs/Queued.
use Rattle.std.specs.Prelude.{◌⊎◌, [], ◌∷◌, List}
use Rattle.std.specs.List.{AllZip}
use Rattle.lp_model.specs.Formulations.{Formulation}
use Rattle.branch_tree.specs.Plain.{LeafKept}
use Rattle.branch_tree.specs.Leaves.{region_leaf, with_state}
use Rattle.branch_tree.specs.declared.node.LeafState.{LeafState}
use Rattle.branch_tree.specs.declared.node.RegionLeaf.{RegionLeaf}
use Rattle.leaf_judging.specs.declared.choosing.Candidate.{Candidate}
use Rattle.leaf_judging.specs.declared.queue.LeafQueue.{LeafQueue}
use Rattle.leaf_judging.specs.Choosing.{IsCandidate}
use Rattle.leaf_judging.specs.Queued.{Has, IsQueued}

-- the leaf with this state
abbrev pub leaf_in : LeafState → RegionLeaf → LeafKept
leaf_in s l = record { id = l.id; kept = with_state s l.kept }

-- R of some of the pairs
abbrev pub SomeZip : {A B : Type 0} → (A → B → Type 0) → List A → List B → Type 0
SomeZip R [] ys = ⊥
SomeZip R (x ∷ xs) [] = ⊥
SomeZip R (x ∷ xs) (y ∷ ys) = R x y ⊎ SomeZip R xs ys

-- the queue has the leaves that are open with these states, and nothing else
pub record AreQueued (F : Formulation) (leaves : List RegionLeaf) (states : List LeafState) (queue : LeafQueue) : Type 0 where
  pub each : AllZip (λ l s. IsQueued F queue l.region (leaf_in s l)) leaves states
  pub only : (c : Candidate) → Has queue c → SomeZip (λ l s. IsCandidate F (region_leaf (l.region, leaf_in s l)) c) leaves states
