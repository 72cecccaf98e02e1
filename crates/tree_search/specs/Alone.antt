-- What one worker does that has no other beside it: each turn hands the leaf out that goes first, and the next one works it in the same search.
--     IsNextJob S job                         the job of the open leaf that goes first
--     PlacesAlone ways first pivots n S S'    n results, one after the other, each of the leaf that goes first then
--     OneWorkerLaw                            so with one worker these are the results that turns place, whatever the seed is
use Rattle.std.specs.Prelude.{◌≡◌, ℕ, zero, suc, Option, Some}
use Rattle.frac128.specs.Rational.{ℚ}
use Rattle.lp_model.specs.declared.types.Basis.{Basis}
use Rattle.branch_tree.specs.declared.node.Job.{Job}
use Rattle.sound_searches.specs.Calls.{IsNext}
use Rattle.sound_searches.specs.Jobs.{IsJobOf}
use Rattle.sound_searches.specs.Sound.{PlainSearch}
use Rattle.tree_search.specs.Steps.{Places}
use Rattle.tree_search.specs.Turns.{ActsOn, Goes}
use Rattle.tree_search.specs.declared.searching.Ways.{Ways}

pub record IsNextJob (S : PlainSearch) (job : Job) : Type 0 where
  pub next : IsNext S (Some job.id)
  pub job_is : IsJobOf S job.id job

abbrev pub PlacesAlone : Ways → Basis → ℕ → ℕ → PlainSearch → PlainSearch → Type 0
PlacesAlone ways first pivots zero old new = new ≡ old
PlacesAlone ways first pivots (suc n) old new = (mid : PlainSearch) × (PlacesAlone ways first pivots n old mid × ((p : Places ways first pivots mid new) × IsNextJob mid p.job))

pub record OneWorkerLaw : Type 0 where
  -- what was placed
  pub places : (ways : Ways) (first : Basis) (pivots seed n : ℕ) (gap : Option ℚ) (old new : PlainSearch) → Goes ways first pivots (record { workers = 1; seed = seed; gap = gap }) n old new → PlacesAlone ways first pivots n old new
  -- whose turn it is then, if it works a job
  pub turn : (ways : Ways) (first : Basis) (pivots seed n : ℕ) (gap : Option ℚ) (old new : PlainSearch) (goes : Goes ways first pivots (record { workers = 1; seed = seed; gap = gap }) n old new) (job : Job) → ActsOn goes.crew job → IsNextJob new job
