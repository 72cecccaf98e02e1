-- The events of a manager, each with its answer.
--     Gives P w answer Q             the worker asks for a job
--     TakesBack P w id done taken Q  the worker hands in a result for the leaf with the id, whoever holds it
--     Happens P e Q                  the event e leads from the manager P to Q
--     IsHistory P es Q               one event after the other
-- A result may be late, repeated or forged: none of these says anything of where it comes from.
use Rattle.std.specs.Prelude.{◌≡◌, ◌⊎◌, ℕ, List, [], ◌∷◌, get_or, set, Option, Some, None}
use Rattle.lp_model.specs.declared.types.Edit.{Edit}
use Rattle.lp_model.specs.declared.types.Derivation.{Derivation}
use Rattle.branch_tree.specs.Numbered.{IsNumbered}
use Rattle.branch_tree.specs.declared.node.Job.{Job}
use Rattle.branch_tree.specs.declared.node.NodeResult.{NodeResult}
use Rattle.sound_searches.specs.declared.taken.Taken.{Taken}
use Rattle.sound_searches.specs.Sound.{IsSound}
use Rattle.sound_searches.specs.Jobs.{IsJobOf}
use Rattle.sound_searches.specs.Placing.{Takes}
use Rattle.sound_searches.specs.Pool.{AddsCut}
use Rattle.sound_searches.specs.Edited.{Follows}
use Rattle.sound_searches.specs.Trimmed.{Trims}
use Rattle.sound_searches.specs.Free.{IsNextFree}
use Rattle.tree_manager.specs.Managers.{PlainManager, HoldsLeaf, held_on, with_holding}

-- ---- hand-outs

-- an idle worker gets the job of the leaf that goes first of those that nobody holds, and holds it
pub record GivesJob (P : PlainManager) (w : ℕ) (job : Job) (Q : PlainManager) : Type 0 where
  pub idle : get_or P.held w None ≡ None
  pub next : IsNextFree P.search P.held (Some job.id)
  pub job_is : IsJobOf P.search job.id job
  pub new_is : Q ≡ with_holding P w (Some job.id)

-- the worker holds a leaf already, or each open leaf is held
abbrev pub GivesNone : PlainManager → ℕ → PlainManager → Type 0
GivesNone P w Q = (Q ≡ P) × (((id : ℕ) × HoldsLeaf P.held w id) ⊎ IsNextFree P.search P.held None)

abbrev pub Gives : PlainManager → ℕ → Option Job → PlainManager → Type 0
Gives P w None Q = GivesNone P w Q
Gives P w (Some job) Q = GivesJob P w job Q

-- ---- results

-- the search takes the result as it is; then the worker holds nothing, and of the others those go on holding whose leaves are open
pub record TakesBack (P : PlainManager) (w id : ℕ) (done : NodeResult) (taken : Taken) (Q : PlainManager) : Type 0 where
  pub takes : Takes P.search id done Q.search taken
  pub held_is : Q.held ≡ held_on Q.search (set P.held w None)

-- ---- changes of the search

-- leaves that are not open any more are held by nobody, and those that are stay held
pub record HoldsOn (P Q : PlainManager) : Type 0 where
  pub held_is : Q.held ≡ held_on Q.search P.held

abbrev pub EditsModel : PlainManager → Edit → PlainManager → Type 0
EditsModel P e Q = Follows P.search e Q.search × HoldsOn P Q

abbrev pub TrimsTree : PlainManager → ℕ → PlainManager → Type 0
TrimsTree P depth Q = Trims P.search depth Q.search × HoldsOn P Q

-- a further cut leaves each leaf
abbrev pub AddsCutTo : PlainManager → Derivation → PlainManager → Type 0
AddsCutTo P d Q = AddsCut P.search d Q.search × (Q.held ≡ P.held)

-- ---- events

pub data Event : Type 0 where
  Give : (w : ℕ) (answer : Option Job) → Event
  Take : (w id : ℕ) (done : NodeResult) (taken : Taken) → Event
  Lose : (w : ℕ) → Event
  EditBy : (e : Edit) → Event
  Trim : (depth : ℕ) → Event
  AddCut : (d : Derivation) → Event

abbrev pub Does : PlainManager → Event → PlainManager → Type 0
Does P (Give w answer) Q = Gives P w answer Q
Does P (Take w id done taken) Q = TakesBack P w id done taken Q
Does P (Lose w) Q = Q ≡ with_holding P w None
Does P (EditBy e) Q = EditsModel P e Q
Does P (Trim depth) Q = TrimsTree P depth Q
Does P (AddCut d) Q = AddsCutTo P d Q

-- the search after it is one of the type, which is sound
pub record Happens (P : PlainManager) (e : Event) (Q : PlainManager) : Type 0 where
  pub does : Does P e Q
  pub sound : IsSound Q.search
  pub numbered : IsNumbered Q.search.tree

abbrev pub IsHistory : PlainManager → List Event → PlainManager → Type 0
IsHistory P [] Q = Q ≡ P
IsHistory P (e ∷ es) Q = (R : PlainManager) × (Happens P e R × IsHistory R es Q)
