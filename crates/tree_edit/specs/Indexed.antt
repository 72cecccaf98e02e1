-- What each search keeps beside its model, its tree and its points.
use Rattle.std.specs.Prelude.{◌≡◌, List, map}
use Rattle.frac128.specs.Rational.{ℚ}
use Rattle.lp_model.specs.Program.{least_value}
use Rattle.leaf_judging.specs.declared.numbers.LeafNumbers.{LeafNumbers}
use Rattle.leaf_judging.specs.declared.queue.LeafQueue.{LeafQueue}
use Rattle.leaf_judging.specs.Queued.{IsQueueOf}
use Rattle.leaf_judging.specs.Numbers.{AreNumbersOf}
use Rattle.sound_searches.specs.Sound.{PlainSearch, IsSound, formulation_of}

-- the values of the points stand beside them, each leaf's number under its id, and the open leaves in the queue
pub record IsIndexed (S : PlainSearch) (values : List ℚ) (numbers : LeafNumbers) (queue : LeafQueue) : Type 0 where
  pub sound : IsSound S
  pub values_are : values ≡ map (least_value S.model 1) S.points
  pub numbers_are : AreNumbersOf (formulation_of S) S.tree.root numbers
  pub queue_is : IsQueueOf (formulation_of S) S.tree.root queue
