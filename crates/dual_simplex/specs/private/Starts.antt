-- What contracts of private functions alone cite, beside specs/Starts.
use Rattle.std.specs.Prelude.{◌≡◌, ◌⊎◌, Bool, true, false, Result, Ok, Err}
use Rattle.lp_model.specs.declared.types.Basis.{Basis}
use Rattle.lp_model.specs.declared.types.WideStep.{WideStep}
use Rattle.row_tableau.specs.Dense.{HasFullLists}
use Rattle.basic_solution.specs.Held.{Held, IsSided}
use Rattle.basic_solution.specs.Lists.{IsBasisOf}
use Rattle.dual_simplex.specs.declared.start.StartFault.{StartFault}
use Rattle.dual_simplex.specs.declared.start.StartFault.TheVariants.{Wide, Memory}
use Rattle.basic_solution.specs.ListedStates.{Keeps, IsStoodAt, LeadsOn}

-- the fault has the basis of the state, or there was no memory
abbrev pub IsFaultAt : Held → WideStep → StartFault → Type 0
IsFaultAt s step (Wide named basis) = IsBasisOf s basis × (named ≡ step)
IsFaultAt s step Memory = Unit {0}

-- standing at a list led from one state to the other, with this answer
pub record HasStoodAt (list : Basis) (s : Held) (result : Result Bool WideStep) (after : Held) : Type 0 where
  pub kept : Keeps s after
  pub way : LeadsOn list s after
  pub answer : IsStoodAt s list result after

-- the list was left at this state
pub record IsLeftThere (list : Basis) (s mid : Held) : Type 0 where
  pub stood : HasStoodAt list s (Ok false) mid
  pub sided : IsSided mid
  pub full : HasFullLists mid.tableau

-- the state stands at the list, or at the first one from where the list was left
abbrev pub StandsAtEither : Basis → Basis → Held → Held → Type 0
StandsAtEither list first s after = HasStoodAt list s (Ok true) after ⊎ ((mid : Held) × (IsLeftThere list s mid × ((stood : Bool) × HasStoodAt first mid (Ok stood) after)))

-- the step has no room on one of these ways
abbrev pub IsRefusedAtEither : Basis → Basis → Held → WideStep → Held → Type 0
IsRefusedAtEither list first s step after = HasStoodAt list s (Err step) after ⊎ ((mid : Held) × (IsLeftThere list s mid × HasStoodAt first mid (Err step) after))
