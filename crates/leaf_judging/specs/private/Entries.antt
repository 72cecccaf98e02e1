-- What contracts of private functions alone cite, beside specs/Totals: parts of an entry.
use Rattle.std.specs.Prelude.{◌≡◌, ◌≢◌, ℕ, false, true, List, [], ◌∷◌, Ok, Err}
use Rattle.lp_model.specs.Regions.{Path}
use Rattle.lp_model.specs.Formulations.{Formulation, formulation}
use Rattle.lp_model.specs.Program.{Program}
use Rattle.lp_model.specs.declared.types.CutRow.{CutRow}
use Rattle.leaf_dual.specs.Dual.{Multipliers}
use Rattle.leaf_dual.specs.Answers.{IsLagAnswer}
use Rattle.leaf_dual.specs.ShortTerms.{AreFewTerms}
use Rattle.leaf_totals.specs.declared.keeping.LeafTotals.{LeafTotals}
use Rattle.leaf_totals.specs.Keeping.{list_question, HasSideOfRow, AreTrueTotals, AreComplete, AreCutTo}
use Rattle.leaf_totals.specs.Moving.{IsMovedSide}
use Rattle.leaf_judging.specs.declared.closing.LeafNumber.{LeafNumber}
use Rattle.leaf_judging.specs.declared.closing.LeafNumber.TheVariants.{Empty, Lag, Wide}
use Rattle.leaf_judging.specs.declared.entry.LeafEntry.{LeafEntry}
use Rattle.leaf_judging.specs.Totals.{AreListTotals}

-- the totals of Farkas multipliers, if there are any, can be gone on with; and then they are complete
abbrev pub CanRefute : Formulation → Path → Multipliers → LeafTotals → Type 0
CanRefute F path [] t = Unit {0}
CanRefute F path (m ∷ ms) t = AreListTotals F path (m ∷ ms) false t

abbrev pub HasRefuted : Formulation → Path → Multipliers → LeafTotals → Type 0
HasRefuted F path [] t = Unit {0}
HasRefuted F path (m ∷ ms) t = AreListTotals F path (m ∷ ms) false t × AreComplete (list_question F path (m ∷ ms) false) t

-- the number that the multipliers say
abbrev pub IsLagNumber : Formulation → Path → Multipliers → LeafNumber → Type 0
IsLagNumber F path mult Empty = ⊥
IsLagNumber F path mult (Lag v) = IsLagAnswer F path mult (Ok v)
IsLagNumber F path mult (Wide step) = IsLagAnswer F path mult (Err step)

-- that number is put down, with complete totals, and all else stays
pub record IsRenumbered (F : Formulation) (path : Path) (mult : Multipliers) (old new : LeafEntry) : Type 0 where
  pub number : IsLagNumber F path mult new.number
  pub lag : AreListTotals F path mult true new.lag
  pub complete : AreComplete (list_question F path mult true) new.lag
  pub farkas : new.farkas ≡ old.farkas

-- an empty one stays so, and what is kept of its totals is dropped
pub record StaysEmpty (old new : LeafEntry) : Type 0 where
  pub number : new.number ≡ Empty
  pub lag : AreCutTo 0 old.lag new.lag
  pub farkas : new.farkas ≡ old.farkas

-- the totals of the multipliers and their number, where the side of row i that they take is another one, with whatever cuts, in whatever region
abbrev pub MovesLag : ℕ → Program → Program → Multipliers → LeafEntry → LeafEntry → Type 0
MovesLag i M N mult old new =
    (cuts others : List CutRow) (path : Path) → (HasSideOfRow (list_question (formulation N others) path mult true) i → IsMovedSide i (list_question (formulation M cuts) path mult true) (list_question (formulation N others) path mult true))
    → AreFewTerms (formulation N others) → AreTrueTotals (list_question (formulation M cuts) path mult true) old.lag
    → IsLagNumber (formulation N others) path mult new.number × (AreTrueTotals (list_question (formulation N others) path mult true) new.lag × AreComplete (list_question (formulation N others) path mult true) new.lag)

pub record MovesSide (i : ℕ) (M N : Program) (mult : Multipliers) (old new : LeafEntry) : Type 0 where
  pub empty : old.number ≡ Empty → StaysEmpty old new
  pub other : old.number ≢ Empty → MovesLag i M N mult old new
  pub farkas : new.farkas ≡ old.farkas
  pub room : new.lag.totals.room ≡ old.lag.totals.room

pub record GoesOnFrom (F : Formulation) (path : Path) (mult : Multipliers) (old new : LeafEntry) : Type 0 where
  pub empty : old.number ≡ Empty → StaysEmpty old new
  pub other : old.number ≢ Empty → IsRenumbered F path mult old new
