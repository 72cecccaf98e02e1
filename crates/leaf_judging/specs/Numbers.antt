-- The numbers of leaves, which are kept by their ids, and what a walk over a tree makes of them.
use Rattle.std.specs.Prelude.{◌≡◌, ◌≢◌, ℕ, [], ◌∷◌, ◌++◌, Option, Some, box_value}
use Rattle.std.specs.BTreeMap.{get}
use Rattle.std.specs.Option.{option_map}
use Rattle.std.specs.Ordering.{nat_cmp}
use Rattle.lp_model.specs.Regions.{Path}
use Rattle.lp_model.specs.Formulations.{Formulation}
use Rattle.branch_tree.specs.Tree.{EachLeaf}
use Rattle.branch_tree.specs.Plain.{LeafKept, Plain}
use Rattle.branch_tree.specs.declared.node.LeafState.{LeafState}
use Rattle.branch_tree.specs.declared.node.RegionLeaf.{RegionLeaf}
use Rattle.leaf_judging.specs.declared.closing.LeafNumber.{LeafNumber}
use Rattle.leaf_judging.specs.declared.entry.LeafEntry.{LeafEntry}
use Rattle.leaf_judging.specs.declared.numbers.LeafNumbers.{LeafNumbers}
use Rattle.leaf_judging.specs.declared.judging.Marking.{Marking}
use Rattle.leaf_judging.specs.Closing.{NumberCloses, StateSays}
use Rattle.leaf_judging.specs.Totals.{IsLeafEntry}
use Rattle.leaf_judging.specs.Choosing.{finite_number}
use Rattle.leaf_judging.specs.Queued.{Adds, candidate_of}

-- the number that is kept under an id, with the totals of its lists
unfoldable pub kept_entry : LeafNumbers → ℕ → Option LeafEntry
kept_entry numbers id = option_map box_value (get nat_cmp numbers.kept id)

-- and the number alone
abbrev pub kept_number : LeafNumbers → ℕ → Option LeafNumber
kept_number numbers id = option_map (λ (e : LeafEntry). e.number) (kept_entry numbers id)

-- under the id the new ones have e, and under each other what the old ones have
abbrev pub PutsEntry : LeafNumbers → ℕ → LeafEntry → LeafNumbers → Type 0
PutsEntry old id e new = (kept_entry new id ≡ Some e) × ((i : ℕ) → i ≢ id → kept_entry new i ≡ kept_entry old i)

-- under each other id the new ones have what the old ones have
abbrev pub KeepsOtherNumbers : LeafNumbers → ℕ → LeafNumbers → Type 0
KeepsOtherNumbers old id new = (i : ℕ) → i ≢ id → kept_entry new i ≡ kept_entry old i

-- under each id but two
abbrev pub KeepsOtherTwo : LeafNumbers → ℕ → ℕ → LeafNumbers → Type 0
KeepsOtherTwo old first second new = (i : ℕ) → i ≢ first → i ≢ second → kept_entry new i ≡ kept_entry old i

abbrev pub HasBoth : LeafNumbers → ℕ → LeafEntry → ℕ → LeafEntry → Type 0
HasBoth numbers first left second right = (kept_entry numbers first ≡ Some left) × (kept_entry numbers second ≡ Some right)

-- ---- the numbers of a tree

-- a leaf's number is kept under its id, with its totals
abbrev pub HasKept : Formulation → LeafNumbers → Path → LeafKept → Type 0
HasKept F numbers path l = (e : LeafEntry) × ((kept_entry numbers l.id ≡ Some e) × IsLeafEntry F path l.kept e)

-- that of each leaf is
abbrev pub AreNumbersOf : Formulation → Plain → LeafNumbers → Type 0
AreNumbersOf F t numbers = EachLeaf (HasKept F numbers) [] t

-- ---- one leaf of a walk

-- its state by the number that is kept goes behind the others, and it goes into the queue where it is open
pub record MarksLeaf (old : Marking) (l : RegionLeaf) (new : Marking) : Type 0 where
  pub same : new.against ≡ old.against
  pub number : LeafNumber
  pub number_is : (n : LeafNumber) → kept_number old.against.numbers.now l.id ≡ Some n → number ≡ n
  pub state : LeafState
  pub says : StateSays state (NumberCloses old.against.model.now old.against.target.now number)
  pub states_are : new.states.items ≡ old.states.items ++ state ∷ []
  pub queue_is : Adds old.queue (candidate_of state (finite_number number) l.id) new.queue
