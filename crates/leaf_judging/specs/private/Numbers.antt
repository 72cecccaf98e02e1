-- What contracts of private functions alone cite, beside specs/Numbers.
use Rattle.std.specs.Prelude.{◌≡◌, ℕ, Some}
use Rattle.leaf_judging.specs.declared.closing.LeafNumber.{LeafNumber}
use Rattle.leaf_judging.specs.declared.numbers.LeafNumbers.{LeafNumbers}
use Rattle.leaf_judging.specs.declared.judging.Against.{Against}
use Rattle.leaf_judging.specs.declared.judging.Mark.{Mark}
use Rattle.leaf_judging.specs.Closing.{NumberCloses, StateSays}
use Rattle.leaf_judging.specs.Choosing.{finite_number}
use Rattle.leaf_judging.specs.Queued.{candidate_of}
use Rattle.leaf_judging.specs.Numbers.{kept_entry, kept_number}

abbrev pub AreSameNumbers : LeafNumbers → LeafNumbers → Type 0
AreSameNumbers old new = (i : ℕ) → kept_entry new i ≡ kept_entry old i

-- its state by the number that is kept, and the leaf as a candidate where it is open
pub record IsLeafMark (against : Against) (id : ℕ) (mark : Mark) : Type 0 where
  pub number : LeafNumber
  pub number_is : (n : LeafNumber) → kept_number against.numbers.now id ≡ Some n → number ≡ n
  pub says : StateSays mark.state (NumberCloses against.model.now against.target.now number)
  pub candidate_is : mark.candidate ≡ candidate_of mark.state (finite_number number) id
