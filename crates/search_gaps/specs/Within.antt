-- Searches whose leaves are all within a gap of the best kept point: each closes against its value less the gap.
--     IsGapTarget S g t       t is the best kept point's value in least form less g, each number on the way having room
--     AllClose S t            every leaf closes against t, whatever it is marked
--     AreLeavesWithin S g     so against that target; where no point is kept, or the difference has no room, no leaf is within
use Rattle.std.specs.Prelude.{◌≡◌, [], Some}
use Rattle.frac128.specs.Rational.{ℚ, ◌-ℚ◌, neg_ℚ}
use Rattle.frac128.specs.Range.{SumFits}
use Rattle.lp_model.specs.Program.{Program}
use Rattle.leaf_dual.specs.Dual.{ReachesIn}
use Rattle.leaf_dual.specs.declared.dual.LagValue.TheVariants.{Num}
use Rattle.branch_tree.specs.Tree.{EachLeaf}
use Rattle.leaf_judging.specs.declared.choosing.Candidate.{Candidate}
use Rattle.leaf_judging.specs.Closing.{ClosesBy}
use Rattle.search_parts.specs.Points.{target}
use Rattle.sound_searches.specs.Sound.{PlainSearch, formulation_of}

pub record IsGapTarget (S : PlainSearch) (g t : ℚ) : Type 0 where
  pub best : ℚ
  pub best_is : target S.model S.points ≡ Some best
  pub fits : SumFits best (neg_ℚ g)
  pub is : t ≡ best -ℚ g

abbrev pub AllClose : PlainSearch → ℚ → Type 0
AllClose S t = EachLeaf (λ path l. ClosesBy (formulation_of S) (Some t) path l.kept) [] S.tree.root

pub record AreLeavesWithin (S : PlainSearch) (g : ℚ) : Type 0 where
  pub against : ℚ
  pub is : IsGapTarget S g against
  pub close : AllClose S against

-- the open leaf has a number, which reaches t
abbrev pub CandidateReaches : Program → ℚ → Candidate → Type 0
CandidateReaches M t c = (q : ℚ) × ((c.leaf_number ≡ Some q) × ReachesIn M (Num q) t)
