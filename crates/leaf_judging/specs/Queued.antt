-- The open leaves in the order in which they are worked.
use Rattle.std.specs.Prelude.{◌≡◌, ◌⊎◌, ◌↔◌, ℕ, [], IsTrue, Option, Some, None}
use Rattle.std.specs.List.{list_any}
use Rattle.std.specs.Option.{option_cmp}
use Rattle.std.specs.Ordering.{ordering_then, nat_cmp, is_eq}
use Rattle.std.specs.declared.cmp.Ordering.{Ordering}
use Rattle.frac128.specs.Rational.{ℚ, rational_cmp}
use Rattle.lp_model.specs.Regions.{Path}
use Rattle.lp_model.specs.Formulations.{Formulation}
use Rattle.branch_tree.specs.Tree.{Tree, Leaf, Split, left_path, right_path, EachLeaf}
use Rattle.branch_tree.specs.Plain.{LeafKept, Plain}
use Rattle.branch_tree.specs.Leaves.{region_leaf}
use Rattle.branch_tree.specs.declared.node.LeafState.TheVariants.{IsOpen, IsClosed}
use Rattle.branch_tree.specs.declared.node.LeafState.{LeafState}
use Rattle.branch_tree.specs.declared.node.LeafData.{LeafData}
use Rattle.leaf_judging.specs.declared.choosing.Candidate.{Candidate}
use Rattle.leaf_judging.specs.declared.queue.LeafQueue.{LeafQueue}
use Rattle.leaf_judging.specs.declared.closing.LeafNumber.{LeafNumber}
use Rattle.leaf_judging.specs.Closing.{IsNumber}
use Rattle.leaf_judging.specs.Choosing.{finite_number, GoesFirst, IsCandidate}

-- ---- queues

-- the lesser number first, none before all, of equals the lesser id
abbrev pub candidate_cmp : Candidate → Candidate → Ordering
candidate_cmp c d = ordering_then (option_cmp rational_cmp c.leaf_number d.leaf_number) (nat_cmp c.id d.id)

-- the candidate is in the queue
unfoldable pub Has : LeafQueue → Candidate → Type 0
Has queue c = IsTrue (list_any (λ d. is_eq (candidate_cmp c d)) queue.candidates.keys)

abbrev pub HasNone : LeafQueue → Type 0
HasNone queue = (c : Candidate) → ¬ Has queue c

-- it is in the queue, and goes no later than each that is
abbrev pub IsFrontOf : LeafQueue → Candidate → Type 0
IsFrontOf queue c = Has queue c × ((d : Candidate) → Has queue d → GoesFirst c.leaf_number c.id d.leaf_number d.id)

abbrev pub IsThat : Option Candidate → Candidate → Type 0
IsThat None c = ⊥
IsThat (Some d) c = c ≡ d

-- the new queue has what the old one has, and d, if it is given
abbrev pub Adds : LeafQueue → Option Candidate → LeafQueue → Type 0
Adds old d new = (c : Candidate) → Has new c ↔ (Has old c ⊎ IsThat d c)

abbrev pub AddsBoth : LeafQueue → Option Candidate → Option Candidate → LeafQueue → Type 0
AddsBoth old d e new = (c : Candidate) → Has new c ↔ (Has old c ⊎ (IsThat d c ⊎ IsThat e c))

-- the new queue has what the old one has, but for d
abbrev pub Removes : LeafQueue → Option Candidate → LeafQueue → Type 0
Removes old d new = (c : Candidate) → Has new c ↔ (Has old c × (¬ IsThat d c))

abbrev pub RemovesBoth : LeafQueue → Option Candidate → Option Candidate → LeafQueue → Type 0
RemovesBoth old d e new = (c : Candidate) → Has new c ↔ (Has old c × ((¬ IsThat d c) × (¬ IsThat e c)))

abbrev pub IsSameQueue : LeafQueue → LeafQueue → Type 0
IsSameQueue old new = (c : Candidate) → Has new c ↔ Has old c

-- the candidate, if it is given, is not in the queue
abbrev pub IsNew : LeafQueue → Option Candidate → Type 0
IsNew queue d = (c : Candidate) → Has queue c → ¬ IsThat d c

-- ---- the queue of a tree

-- P of some leaf and its path
abbrev pub SomeLeaf : {S L : Type 0} → (Path → L → Type 0) → Path → Tree S L → Type 0
SomeLeaf P path (Leaf kept) = P path kept
SomeLeaf P path (Split kept j v left right) = SomeLeaf P (left_path path j v) left ⊎ SomeLeaf P (right_path path j v) right

abbrev pub IsQueued : Formulation → LeafQueue → Path → LeafKept → Type 0
IsQueued F queue p l = (l.kept.state ≡ IsClosed) ⊎ ((c : Candidate) × (IsCandidate F (region_leaf (p, l)) c × Has queue c))

-- the queue has the open leaves, and nothing else
pub record IsQueueOf (F : Formulation) (t : Plain) (queue : LeafQueue) : Type 0 where
  pub each : EachLeaf (IsQueued F queue) [] t
  pub only : (c : Candidate) → Has queue c → SomeLeaf (λ p l. IsCandidate F (region_leaf (p, l)) c) [] t

-- ---- one leaf

-- the number of a leaf with this path and these data, if it has one
abbrev pub IsFiniteNumber : Formulation → Path → LeafData → Option ℚ → Type 0
IsFiniteNumber F path kept r = (n : LeafNumber) × (IsNumber F path kept.mult kept.farkas n × (r ≡ finite_number n))

-- each leaf with the id has this number
abbrev pub HasFiniteNumber : Formulation → Plain → Candidate → Type 0
HasFiniteNumber F t c = EachLeaf (λ p l. l.id ≡ c.id → IsFiniteNumber F p l.kept c.leaf_number) [] t

-- each leaf with the id has these multipliers
abbrev pub HasMultipliers : ℕ → LeafData → Plain → Type 0
HasMultipliers id kept t = EachLeaf (λ p l. l.id ≡ id → (l.kept.mult ≡ kept.mult) × (l.kept.farkas ≡ kept.farkas)) [] t

-- each leaf with the id is in this state
abbrev pub HasState : ℕ → LeafState → Plain → Type 0
HasState id state t = EachLeaf (λ p l. l.id ≡ id → l.kept.state ≡ state) [] t

-- the leaf with this id, path and data, if it is open
abbrev pub IsChildCandidate : Formulation → Path → LeafKept → Option Candidate → Type 0
IsChildCandidate F path l None = l.kept.state ≡ IsClosed
IsChildCandidate F path l (Some c) = IsCandidate F (region_leaf (path, l)) c

abbrev pub candidate_of : LeafState → Option ℚ → ℕ → Option Candidate
candidate_of IsOpen r id = Some (record { leaf_number = r; id = id })
candidate_of IsClosed r id = None
