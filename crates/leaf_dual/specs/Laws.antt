-- What the numbers prove of the points of a region, where no feasible point breaks a cut that counts; and that an answer is
-- the number, and the only one.
use Rattle.std.specs.Prelude.{◌↔◌, ◌≡◌, Bool, IsTrue, Result, Ok, ◌++◌, ◌∷◌, [], ℕ, length, All}
use Rattle.frac128.specs.Rational.{ℚ, ◌≤ℚ◌}
use Rattle.lp_model.specs.Program.{Point, least_value, IsFeasible, HasWholeObjective}
use Rattle.lp_model.specs.Regions.{Path, InRegion}
use Rattle.lp_model.specs.declared.types.CutRow.{CutRow}
use Rattle.lp_model.specs.Formulations.{Formulation, IsValid, formulation}
use Rattle.lp_model.specs.declared.types.WideStep.{WideStep}
use Rattle.leaf_dual.specs.declared.dual.LagValue.{LagValue}
use Rattle.leaf_dual.specs.Dual.{Multipliers, lag, farkas, IsLowerBound, IsPositiveNumber, Reaches, is_cut}
use Rattle.leaf_dual.specs.Answers.{IsLagAnswer, IsFarkasAnswer}

-- `lag` is no higher than the least form's value of any feasible point in the region
abbrev pub WeakDuality : Type 0
WeakDuality = (F : Formulation) (path : Path) (mult : Multipliers) (x : Point) → IsValid F → IsFeasible F.model x → InRegion path x → IsLowerBound (lag F path mult) (least_value F.model 1 x)

-- `farkas` above 0 means that no feasible point is in the region
abbrev pub FarkasLaw : Type 0
FarkasLaw = (F : Formulation) (path : Path) (mult : Multipliers) (x : Point) → IsValid F → IsPositiveNumber (farkas F path mult) → IsFeasible F.model x → ¬ InRegion path x

-- no feasible point of a leaf that closes against t has a value below t, where the flag is set for a whole objective alone
abbrev pub ClosesLaw : Type 0
ClosesLaw =
    (F : Formulation) (path : Path) (mult : Multipliers) (t : ℚ) (whole : Bool) (x : Point) → IsValid F → (IsTrue whole → HasWholeObjective F.model 1) → Reaches (lag F path mult) t whole → IsFeasible F.model x →
    InRegion path x → t ≤ℚ least_value F.model 1 x

-- an answer that names no step is the number
abbrev pub AnswerLaw : Type 0
AnswerLaw =
    (F : Formulation) (path : Path) (mult : Multipliers) (v : LagValue) → (IsLagAnswer F path mult (Ok v) → v ≡ lag F path mult) × (IsFarkasAnswer F path mult (Ok v) → v ≡ farkas F path mult)

-- no multiplier is of cut k
abbrev pub NamesNoCut : Multipliers → ℕ → Type 0
NamesNoCut mult k = All (λ m. ¬ IsTrue (is_cut m.0 k)) mult

-- a further cut that no multiplier is of leaves the answers, to the first step without room
abbrev pub FurtherCutLaw : Type 0
FurtherCutLaw =
    (F : Formulation) (c : CutRow) (path : Path) (mult : Multipliers) → NamesNoCut mult (length F.cuts) → (r : Result LagValue WideStep) →
    (IsLagAnswer F path mult r ↔ IsLagAnswer (formulation F.model (F.cuts ++ c ∷ [])) path mult r) × (IsFarkasAnswer F path mult r ↔ IsFarkasAnswer (formulation F.model (F.cuts ++ c ∷ [])) path mult r)

-- two answers of one question are one
abbrev pub OneAnswerLaw : Type 0
OneAnswerLaw =
    (F : Formulation) (path : Path) (mult : Multipliers) (r s : Result LagValue WideStep) →
    (IsLagAnswer F path mult r → IsLagAnswer F path mult s → r ≡ s) × (IsFarkasAnswer F path mult r → IsFarkasAnswer F path mult s → r ≡ s)
