-- What the code of the work holds: a task and its rounds.
use Rattle.std.specs.Prelude.{◌≡◌, ◌≤◌, ◌+◌, IsTrue, length, All, Result, Ok, Err}
use Rattle.std.specs.declared.alloc.AllocError.{AllocError}
use Rattle.lp_model.specs.Limits.{pool_limit}
use Rattle.lp_model.specs.Regions.{AreNarrow, IsEmptyRegion}
use Rattle.cover_cuts.specs.Cuts.{IsPoolOf}
use Rattle.dual_simplex.specs.SlackBases.{IsRootBasis}
use Rattle.dual_simplex.specs.declared.solve.Lp.{Lp}
use Rattle.dual_simplex.specs.declared.solve.Lp.TheVariants as lp
use Rattle.dual_simplex.specs.declared.start.StartFault.{StartFault}
use Rattle.dual_simplex.specs.declared.start.StartFault.TheVariants as fault
use Rattle.node_solve.specs.Runs.{NamesIntegers}
use Rattle.node_solve.specs.Places.{ArePoolPlaces}
use Rattle.node_solve.specs.Rounds.{Work, Round}
use Rattle.node_solve.specs.declared.rounds.Task.{Task}
use Rattle.node_solve.specs.declared.rounds.Round.{Round as HeldRound}
use Rattle.node_solve.specs.declared.rounds.Solved.{Solved}
use Rattle.node_solve.specs.declared.rounds.Solved.TheVariants as solved

abbrev pub task_work : Task → Work
task_work t = record { model = t.model.now; pool = t.pool.now; job = t.job.now; first = t.first.now; rounds = t.rounds; pivots = t.pivots }

abbrev pub round_of : HeldRound → Round
round_of r = record { cuts = r.cuts; places = r.places.items; added = r.added.items; list = r.list }

-- what a round comes to where its run ends so
abbrev pub run_end : Result Lp AllocError → Solved
run_end (Ok (lp.Optimal point mult basis)) = solved.Optimal point mult basis
run_end (Ok (lp.Infeasible farkas mult basis)) = solved.Infeasible farkas mult basis
run_end (Ok (lp.Pivots basis)) = solved.Pivots basis
run_end (Ok (lp.Wide step basis)) = solved.Wide step basis
run_end (Err error) = solved.Memory

-- what a round comes to where its run cannot start
abbrev pub unstarted : StartFault → Solved
unstarted (fault.Wide step basis) = solved.Wide step basis
unstarted fault.Memory = solved.Memory

-- a leaf's relaxation can be worked
pub record IsTask (t : Task) : Type 0 where
  pub narrow : AreNarrow t.job.now.region
  pub path : NamesIntegers t.model.now t.job.now.region
  pub some : ¬ IsEmptyRegion t.model.now t.job.now.region
  pub first : IsRootBasis t.model.now t.first.now
  pub pool : IsPoolOf t.model.now t.pool.now

-- the cuts of a round are cuts of the model that count, each has its place, and there are at most 200
pub record IsKeptRound (W : Work) (r : HeldRound) : Type 0 where
  pub are : IsPoolOf W.model r.cuts
  pub live : All (λ c. IsTrue c.live) r.cuts
  pub few : length r.cuts ≤ 200
  pub each : length r.places.items ≡ length r.cuts
  pub there : ArePoolPlaces r.places.items
  pub room : length W.pool + length r.added.items ≤ pool_limit
