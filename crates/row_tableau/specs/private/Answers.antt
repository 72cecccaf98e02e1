-- What contracts of private functions alone cite, beside specs/Answers.
use Rattle.std.specs.Prelude.{◌≡◌, ◌⊎◌, ℕ, ◌<◌, ◌≤◌, Bool, true, false, List, Option, Some, None, Result, Ok, Err}
use Rattle.lp_model.specs.declared.types.WideStep.{WideStep}
use Rattle.table_entries.specs.Relaxation.{Agree, pivoted}
use Rattle.table_entries.specs.Bases.{Found, MayLeave}
use Rattle.table_entries.specs.Steps.{ExchangeFits}
use Rattle.row_tableau.specs.Dense.{Dense, table_of}
use Rattle.row_tableau.specs.Answers.{IsBasic, IsWidePivot}

abbrev pub IsNonbasic : Dense → ℕ → Type 0
IsNonbasic t v = Found t.columns (table_of t).nonbasic v

-- v is not basic, and enters at the place for the first basic variable that may leave
pub record EntersAt (t : Dense) (list : List ℕ) (v row place : ℕ) : Type 0 where
  pub place_within : place < t.columns
  pub is : (table_of t).nonbasic place ≡ v
  pub not_basic : ¬ IsBasic t v
  pub row_within : row < t.activities
  pub leaves : MayLeave list (table_of t) place row
  pub first : (i : ℕ) → i < t.activities → MayLeave list (table_of t) place i → (table_of t).basic row ≤ (table_of t).basic i

-- v is not basic, and no basic variable may leave for it
pub record IsBarred (t : Dense) (list : List ℕ) (v place : ℕ) : Type 0 where
  pub place_within : place < t.columns
  pub is : (table_of t).nonbasic place ≡ v
  pub not_basic : ¬ IsBasic t v
  pub none : (i : ℕ) → i < t.activities → ¬ (MayLeave list (table_of t) place i)

-- one variable of a list is brought in, where it is not basic
abbrev pub IsOneEntered : Dense → List ℕ → ℕ → Result Bool WideStep → Dense → Type 0
IsOneEntered t list v (Ok true) after =
    (IsBasic t v × (after ≡ t))
    ⊎ ((row : ℕ) × ((place : ℕ) × (EntersAt t list v row place × ExchangeFits t.columns t.activities (table_of t) row place × Agree t.columns t.activities (table_of after) (pivoted (table_of t) row place))))
IsOneEntered t list v (Ok false) after = (after ≡ t) × ((place : ℕ) × IsBarred t list v place)
IsOneEntered t list v (Err e) after = (after ≡ t) × ((row : ℕ) × ((place : ℕ) × (EntersAt t list v row place × IsWidePivot t row place e)))

-- of the first n rows that may leave, the one whose basic variable comes first; None where none of them may
abbrev pub IsFirstLeaving : Dense → List ℕ → ℕ → ℕ → Option ℕ → Type 0
IsFirstLeaving t list place n None = (i : ℕ) → i < n → ¬ (MayLeave list (table_of t) place i)
IsFirstLeaving t list place n (Some row) = (row < n) × MayLeave list (table_of t) place row × ((i : ℕ) → i < n → MayLeave list (table_of t) place i → (table_of t).basic row ≤ (table_of t).basic i)
