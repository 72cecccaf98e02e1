-- The rounds of the work on a leaf. In a round the relaxation with its cuts is solved; while its optimum is fractional, and there
-- are rounds and room left, cuts that the optimum violates are added, and the next round begins at the basis that was reached,
-- with the activities of the new cuts.
--     MakesRounds W n r        n rounds were made with new cuts, and r is the next one
--     IsWorked W worked        what the work answers: a result, with the rounds and the run that led to it; or where the run of
--                              the last round stopped
use Rattle.std.specs.Prelude.{◌≡◌, ◌⊎◌, ℕ, zero, suc, ◌+◌, ◌-◌, ◌<◌, List, [], ◌∷◌, ◌++◌, length, get_or, drop, IsTrue, Option, Some, None}
use Rattle.lp_model.specs.Limits.{pool_limit}
use Rattle.lp_model.specs.Program.{Program, Point}
use Rattle.lp_model.specs.Formulations.{Formulation, formulation}
use Rattle.lp_model.specs.declared.types.CutRow.{CutRow}
use Rattle.lp_model.specs.declared.types.Derivation.{Derivation}
use Rattle.lp_model.specs.declared.types.Basis.{Basis}
use Rattle.cover_cuts.specs.Cuts.{IsCutOf}
use Rattle.cut_find.specs.Separation.{IsSeparation}
use Rattle.leaf_dual.specs.Dual.{Multipliers}
use Rattle.branch_tree.specs.declared.node.Job.{Job}
use Rattle.branch_tree.specs.declared.node.NodeResult.{NodeResult}
use Rattle.basic_solution.specs.Held.{Held}
use Rattle.basic_solution.specs.Lists.{IsBasisOf}
use Rattle.dual_simplex.specs.Answers.{HasLeaving}
use Rattle.dual_simplex.specs.Solves.{IsLpOptimum}
use Rattle.node_solve.specs.Runs.{IsSimplexRun}
use Rattle.node_solve.specs.Works.{IsWholeAt, IsDone, IsAllowedBy, IsRunWide, IsOfLeaf}
use Rattle.node_solve.specs.Places.{live_cuts, live_places, basis_in_relaxation, result_in_pool, with_cut_variables}
use Rattle.node_solve.specs.declared.working.Worked.{Worked}
use Rattle.node_solve.specs.declared.working.Worked.TheVariants.{Done, Pivots, Wide, Memory}

-- ---- what is worked, and its limits

pub record Work : Type 0 where
  pub model : Program
  pub pool : List CutRow
  pub job : Job
  pub first : Basis
  pub rounds : ℕ
  pub pivots : ℕ

-- ---- rounds

-- the cuts of a round's relaxation, their places in the pool, those that were added to it, and where its run begins
pub record Round : Type 0 where
  pub cuts : List CutRow
  pub places : List ℕ
  pub added : List Derivation
  pub list : Basis

-- the first round has the first 200 cuts that count, and begins at the basis that the leaf keeps
abbrev pub first_round : Work → Round
first_round W = record {
  cuts = live_cuts 200 W.pool;
  places = live_places 200 0 W.pool;
  added = [];
  list = basis_in_relaxation (live_places 200 0 W.pool) W.job.basis;
}

-- where that is not lawful it begins at the first basis, with the activities of the cuts
abbrev pub first_in : Work → Round → Basis
first_in W r = with_cut_variables W.first 0 (length r.cuts)

abbrev pub form_in : Work → Round → Formulation
form_in W r = formulation W.model r.cuts

-- n moves of the round's run lead to the state
abbrev pub RunsTo : Work → Round → ℕ → Held → Type 0
RunsTo W r n s = IsSimplexRun (form_in W r) W.job.region r.list (first_in W r) n s

-- ---- cuts that are added

-- a cut of the list has this row
abbrev pub HasRowOf : List CutRow → CutRow → Type 0
HasRowOf cuts c = (k : ℕ) × ((k < length cuts) × (((get_or cuts k c).terms ≡ c.terms) × ((get_or cuts k c).hi ≡ c.hi)))

-- it counts, no cut of the relaxation has its row, fewer than 200 are there, and the pool with those that were added has fewer than 10,000
pub record IsAddable (W : Work) (r : Round) (c : CutRow) : Type 0 where
  pub live : IsTrue c.live
  pub other : ¬ HasRowOf r.cuts c
  pub room : length r.cuts < 200
  pub pool_room : length W.pool + length r.added < pool_limit

abbrev pub round_with : Work → Round → CutRow → Round
round_with W r c = record { cuts = r.cuts ++ c ∷ []; places = r.places ++ (length W.pool + length r.added) ∷ []; added = r.added ++ c.from ∷ []; list = r.list }

-- the cut of the derivation is added, where it may be
abbrev pub AddsOne : Work → Round → Derivation → Round → Type 0
AddsOne W r d after = (c : CutRow) × ((c.from ≡ d) × (IsCutOf W.model c × ((IsAddable W r c × (after ≡ round_with W r c)) ⊎ ((¬ IsAddable W r c) × (after ≡ r)))))

-- one after the other
abbrev pub AddsAll : Work → Round → List Derivation → Round → Type 0
AddsAll W r [] after = after ≡ r
AddsAll W r (d ∷ ds) after = (mid : Round) × (AddsOne W r d mid × AddsAll W mid ds after)

-- of the first 20 covers that the point violates
abbrev pub AddsCovers : Work → Round → Point → Round → Type 0
AddsCovers W r x after = (ds : List Derivation) × (IsSeparation W.model x 20 ds × AddsAll W r ds after)

-- ---- from round to round

-- another round may be made at an optimum
pub record MayGoOn (W : Work) (made : ℕ) (r : Round) (x : Point) : Type 0 where
  pub fractional : ¬ IsWholeAt W.model x
  pub fewer : made < W.rounds
  pub room : length r.cuts < 200

-- no further round is made at an optimum: it may not be, or no cut is new
abbrev pub IsLastAt : Work → ℕ → Round → Point → Type 0
IsLastAt W made r x = (¬ MayGoOn W made r x) ⊎ AddsCovers W r x r

-- the round's run ends in an optimum, cuts are added there, and the next round begins at its basis with their activities
pub record MakesRound (W : Work) (made : ℕ) (r next : Round) : Type 0 where
  pub moves : ℕ
  pub state : Held
  pub run : RunsTo W r moves state
  pub allowed : IsAllowedBy W.pivots moves state
  pub point : Point
  pub mult : Multipliers
  pub optimum : IsLpOptimum state point mult
  pub basis : Basis
  pub basis_is : IsBasisOf state basis
  pub may : MayGoOn W made r point
  pub after : Round
  pub separates : AddsCovers W r point after
  pub more : length r.cuts < length after.cuts
  pub next_is : next ≡ record after { list = with_cut_variables basis (length r.cuts) (length after.cuts - length r.cuts) }

abbrev pub MakesRounds : Work → ℕ → Round → Type 0
MakesRounds W zero r = r ≡ first_round W
MakesRounds W (suc n) r = (before : Round) × (MakesRounds W n before × MakesRound W n before r)

-- nor at the state, wherever it is an optimum
abbrev pub EndsRounds : Work → ℕ → Round → Held → Type 0
EndsRounds W made r s = (x : Point) (mult : Multipliers) → IsLpOptimum s x mult → IsLastAt W made r x

-- those that were added, as cuts
abbrev pub new_cuts : Work → Round → List CutRow
new_cuts W r = drop (length (live_cuts 200 W.pool)) r.cuts

-- ---- the work

-- the result by the names of the pool, with those cuts behind it that were added
pub record IsDoneAfter (W : Work) (made : ℕ) (r : Round) (result : NodeResult) (found : List Derivation) : Type 0 where
  pub moves : ℕ
  pub state : Held
  pub run : RunsTo W r moves state
  pub allowed : IsAllowedBy W.pivots moves state
  pub last : EndsRounds W made r state
  pub own_result : NodeResult
  pub done : IsDone (form_in W r) W.job.region W.job.target state own_result
  pub result_is : result ≡ result_in_pool r.places own_result
  pub found_are : found ≡ r.added

-- as many moves as the limit allows lead to a state with a basic variable outside a side, whose basis this is in the relaxation
pub record IsPivotsAfter (W : Work) (r : Round) (basis : Basis) (found : List Derivation) : Type 0 where
  pub state : Held
  pub run : RunsTo W r W.pivots state
  pub leaving : HasLeaving state
  pub basis_is : IsBasisOf state basis
  pub found_are : found ≡ r.added

-- the result and the cuts, where there is one
abbrev pub done_of : Worked → Option (NodeResult × List Derivation)
done_of (Done result found) = Some (result, found.items)
done_of (Pivots basis found) = None
done_of (Wide at found) = None
done_of Memory = None

abbrev pub IsWorked : Work → Worked → Type 0
IsWorked W (Done result found) = (made : ℕ) × ((r : Round) × (MakesRounds W made r × IsDoneAfter W made r result found.items))
IsWorked W (Pivots basis found) = (made : ℕ) × ((r : Round) × (MakesRounds W made r × IsPivotsAfter W r basis found.items))
IsWorked W (Wide at found) =
    (made : ℕ) × ((r : Round) × (MakesRounds W made r × (IsOfLeaf W.job.region r.cuts at × (IsRunWide (form_in W r) W.job.region r.list (first_in W r) W.pivots (EndsRounds W made r) at.basis at.step × (found.items ≡ r.added)))))
IsWorked W Memory = Unit {0}
