-- What the work on a leaf begins from.
use Rattle.std.specs.Prelude.{◌≡◌, ℕ, Option, Some, None}
use Rattle.branch_tree.specs.declared.node.LeafData.{LeafData}
use Rattle.branch_tree.specs.declared.node.LeafState.TheVariants.{IsOpen}
use Rattle.branch_tree.specs.declared.node.Job.{Job}
use Rattle.search_parts.specs.Points.{target}
use Rattle.sound_searches.specs.Calls.{IsLeafAt}
use Rattle.sound_searches.specs.Placing.{IsStale}
use Rattle.sound_searches.specs.Sound.{PlainSearch}

-- the job has the region of the open leaf with the id, what it keeps, and the least value of the kept points
pub record IsJobOf (S : PlainSearch) (id : ℕ) (job : Job) : Type 0 where
  pub id_is : job.id ≡ id
  pub kept : LeafData
  pub leaf : IsLeafAt S.tree.root id job.region kept
  pub state : kept.state ≡ IsOpen
  pub mult_is : job.mult ≡ kept.mult
  pub basis_is : job.basis ≡ kept.basis
  pub target_is : job.target ≡ target S.model S.points

-- None: no open leaf has the id
abbrev pub IsJobAnswer : PlainSearch → ℕ → Option Job → Type 0
IsJobAnswer S id None = IsStale S id
IsJobAnswer S id (Some job) = IsJobOf S id job
