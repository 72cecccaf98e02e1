-- States at a list of basic variables, and where bringing it in leads.
use Rattle.std.specs.Prelude.{◌≡◌, ◌⊎◌, ℕ, ◌<◌, Bool, true, false, List, get_or, Result, Ok, Err}
use Rattle.std.specs.Option.{IsSomeAnd}
use Rattle.lp_model.specs.WideSteps.{TablePlace, Pivot, table_place}
use Rattle.lp_model.specs.declared.types.Basis.{Basis}
use Rattle.lp_model.specs.declared.types.WideStep.{WideStep}
use Rattle.table_entries.specs.declared.stand.Stand.{Stand}
use Rattle.table_entries.specs.declared.stand.Stand.TheVariants.{Low, High, Free}
use Rattle.table_entries.specs.Relaxation.{Relaxation}
use Rattle.table_entries.specs.Bases.{Lists, IsNamedBy, IsNonsingular, BringsIn, IsOnOpenWay}
use Rattle.table_entries.specs.States.{IsFree}
use Rattle.row_tableau.specs.declared.relax.Relax.{Relax}
use Rattle.row_tableau.specs.Relaxations.{relaxation_of}
use Rattle.row_tableau.specs.Dense.{IsTableauOf}
use Rattle.row_tableau.specs.Variables.{numbers}
use Rattle.row_tableau.specs.Answers.{IsPivotNamed, IsProper, IsLeftOff}
use Rattle.basic_solution.specs.Held.{Held, IsSided, IsLawfulHeld, relaxation, table, variables}
use Rattle.basic_solution.specs.Numbers.{CostsFit, IsWideCost}
use Rattle.basic_solution.specs.Slack.{IsStateOfRelax, IsPlaced}

-- a variable that is not basic stands high where the list names it, and else low, or at 0 where it has no side
abbrev pub IsStandBy : Relaxation → List ℕ → ℕ → Stand → Type 0
IsStandBy p high v High = Lists high v
IsStandBy p high v Low = (¬ Lists high v) × (¬ IsFree p v)
IsStandBy p high v Free = (¬ Lists high v) × IsFree p v

abbrev pub StandBy : List ℕ → Held → ℕ → Type 0
StandBy high s k = IsStandBy (relaxation s) high ((table s).nonbasic k) (get_or s.stands k Free)

-- the basic variables are those of the list, and the others stand as it says
pub record StandsAsListed (list : Basis) (s : Held) : Type 0 where
  pub named : IsNamedBy s.tableau.activities (numbers s.tableau list.basic) (table s)
  pub stands : (k : ℕ) → k < s.tableau.columns → StandBy (numbers s.tableau list.high) s k

-- the list is a basis, and the states of the relaxation that stand at it are lawful
pub record IsLawfulBasis (relax : Relax) (list : Basis) : Type 0 where
  pub basis : (s : Held) → IsStateOfRelax relax s → IsNonsingular (relaxation_of relax) (numbers s.tableau list.basic)
  pub lawful : (s : Held) → IsSided s → IsStateOfRelax relax s → StandsAsListed list s → IsLawfulHeld s

-- ---- one list

-- the same but for the tableau, which is of the same relaxations, and for where the nonbasic variables stand
pub record Keeps (s after : Held) : Type 0 where
  pub form : after.form ≡ s.form
  pub low : after.low ≡ s.low
  pub high : after.high ≡ s.high
  pub cost : after.cost ≡ s.cost
  pub tilt : after.tilt ≡ s.tilt
  pub order : after.order ≡ s.order
  pub columns : after.tableau.columns ≡ s.tableau.columns
  pub rows : after.tableau.rows ≡ s.tableau.rows
  pub activities : after.tableau.activities ≡ s.tableau.activities
  pub basis : (p : Relaxation) → IsTableauOf p s.tableau → IsTableauOf p after.tableau

-- no variable stands at a side
abbrev pub StandsNowhere : Held → Type 0
StandsNowhere s = (k : ℕ) → k < s.tableau.columns → get_or s.stands k Free ≡ Free

abbrev pub IsExchangePlace : Basis → Held → TablePlace → Type 0
IsExchangePlace list s (Pivot r v i k) =
    IsProper s.tableau (numbers s.tableau list.basic)
    × ((row : ℕ) × ((place : ℕ) × (BringsIn s.tableau.columns s.tableau.activities (numbers s.tableau list.basic) (table s) row place × IsPivotNamed s.tableau row place r v i k)))
IsExchangePlace list s other = ⊥

-- the list is proper, and bringing it in makes this exchange next, the first step of which without room is this one
abbrev pub IsWideExchange : Basis → Held → WideStep → Type 0
IsWideExchange list s step = IsSomeAnd (table_place step) (IsExchangePlace list s)

-- the variables of the first n places stand where their reduced costs ask them to, each term of which has room
abbrev pub ArePlaced : Held → ℕ → Type 0
ArePlaced s n = (k : ℕ) → k < n → CostsFit s k (variables s) × IsPlaced s k (get_or s.stands k Free)

-- the variable of a place does not, whose reduced cost has room, and those of the places before it do
pub record IsUnlawfulAt (s : Held) (place : ℕ) : Type 0 where
  pub within : place < s.tableau.columns
  pub before : ArePlaced s place
  pub fits : CostsFit s place (variables s)
  pub elsewhere : ¬ IsPlaced s place (get_or s.stands place Free)

-- the step is the first without room in the reduced cost of a place, and the variables of the places before it stand where theirs ask them to
pub record IsWidePlacing (s : Held) (step : WideStep) : Type 0 where
  pub place : ℕ
  pub within : place < s.tableau.columns
  pub before : ArePlaced s place
  pub wide : IsWideCost s place step

-- whether each variable stands where its reduced cost asks it to, place by place up to the first that does not
abbrev pub IsLawfulAnswer : Held → Result Bool WideStep → Type 0
IsLawfulAnswer s (Ok true) = IsLawfulHeld s × ((k : ℕ) → k < s.tableau.columns → CostsFit s k (variables s))
IsLawfulAnswer s (Ok false) = (¬ IsLawfulHeld s) × ((place : ℕ) × IsUnlawfulAt s place)
IsLawfulAnswer s (Err e) = IsWidePlacing s e

-- the step of an exchange, where no variable counts as standing high, or of a reduced cost at the list
abbrev pub IsListRefused : Basis → Held → WideStep → Type 0
IsListRefused list s e = (StandsNowhere s × IsWideExchange list s e) ⊎ (StandsAsListed list s × IsWidePlacing s e)

-- where a list is left: bringing it in is left off there, or its state is there and is not lawful
abbrev pub IsLeftAt : Basis → Held → Held → Type 0
IsLeftAt list s after = IsLeftOff s.tableau (numbers s.tableau list.basic) after.tableau ⊎ (StandsAsListed list after × IsLawfulAnswer after (Ok false))

-- what comes of standing at a list: true where the state is lawful
abbrev pub IsStoodAt : Held → Basis → Result Bool WideStep → Held → Type 0
IsStoodAt s list (Ok true) after = StandsAsListed list after × IsLawfulAnswer after (Ok true)
IsStoodAt s list (Ok false) after = IsLeftAt list s after
IsStoodAt s list (Err e) after = IsListRefused list after e

-- exchanges that bring the list in, each step of which has room, lead from one table to the other
abbrev pub LeadsOn : Basis → Held → Held → Type 0
LeadsOn list s after = IsOnOpenWay s.tableau.columns s.tableau.activities (numbers s.tableau list.basic) (table s) (table after)
