-- Which fault an edit is refused with.
--     EditBad M e f     f is the first fault of the edit, in the order unknown name, taken name, limit, missing bound, sides
use Rattle.std.specs.Prelude.{◌≡◌, ◌⊎◌, ℕ, ◌<◌, ◌≤◌, Bool, List, length, get_or, take, All, Contains}
use Rattle.lp_model.specs.Program.{Program}
use Rattle.lp_model.specs.Lawful.{entry_count}
use Rattle.lp_model.specs.Limits.{row_limit, col_limit, entry_limit}
use Rattle.lp_model.specs.Edits.{edited, subject, HasSubject, names_beside, known_names, IsBounded, HasRange, AreKnown, IsNameTaken, KeepsLimits, EditFits}
use Rattle.lp_model.specs.declared.types.Edit.{Edit}
use Rattle.model_edits.specs.declared.faults.EditFault.{EditFault}
use Rattle.model_edits.specs.declared.faults.EditFault.TheVariants.{NoSuch, Duplicate, Limit, IntegerUnbounded, Ranged, Memory}

-- the first of the names that is none of the known ones
pub record IsFirstUnknown (known names : List (List ℕ)) (name : List ℕ) : Type 0 where
  pub place : ℕ
  pub within : place < length names
  pub is : name ≡ get_or names place name
  pub before : All (Contains known) (take place names)
  pub unknown : ¬ Contains known name

-- n is the limit of the first count that passes its own
abbrev pub PassesLimit : Bool → ℕ → ℕ → ℕ → ℕ → Type 0
PassesLimit wide rows columns entries n =
    ((row_limit wide < rows) × (n ≡ row_limit wide))
    ⊎ ((rows ≤ row_limit wide) × (((col_limit wide < columns) × (n ≡ col_limit wide))
    ⊎ ((columns ≤ col_limit wide) × (entry_limit wide < entries) × (n ≡ entry_limit wide))))

-- the name of the first row or column that is not there: the one that the edit changes, then those beside its entries
abbrev pub IsNoSuch : Program → Edit → List ℕ → Type 0
IsNoSuch M e name = ((¬ HasSubject M e) × (name ≡ subject e)) ⊎ (HasSubject M e × IsFirstUnknown (known_names M e) (names_beside e) name)

-- what is wrong with the edit, nothing before it in the order being wrong
abbrev pub EditBad : Program → Edit → EditFault → Type 0
EditBad M e (NoSuch name) = IsNoSuch M e name
EditBad M e (Duplicate name) = AreKnown M e × IsNameTaken M e × (name ≡ subject e)
EditBad M e (Limit n) = AreKnown M e × (¬ IsNameTaken M e) × PassesLimit M.wide (length (edited M e).rows) (length (edited M e).cols) (entry_count (edited M e)) n
EditBad M e (IntegerUnbounded name) = AreKnown M e × (¬ IsNameTaken M e) × KeepsLimits M e × (¬ IsBounded M e) × (name ≡ subject e)
EditBad M e (Ranged name) = AreKnown M e × (¬ IsNameTaken M e) × KeepsLimits M e × IsBounded M e × (¬ HasRange M e) × (name ≡ subject e)
EditBad M e Memory = ⊥

-- the edit is refused for want of memory, or with its first fault
abbrev pub IsEditFault : Program → Edit → EditFault → Type 0
IsEditFault M e f = (f ≡ Memory) ⊎ EditBad M e f

-- an edit that fits is refused for want of memory alone
abbrev pub FittingLaw : Type 0
FittingLaw = (M : Program) (e : Edit) (f : EditFault) → EditFits M e → IsEditFault M e f → f ≡ Memory
