-- What it shows that all leaves of a search close against a target, and which leaf decides it.
use Rattle.std.specs.Prelude.{◌↔◌, [], pos, Some}
use Rattle.frac128.specs.Rational.{ℚ, int, ◌≤ℚ◌}
use Rattle.lp_model.specs.Program.{Point, IsFeasible, least_value}
use Rattle.branch_tree.specs.Leaves.{region_leaves}
use Rattle.leaf_judging.specs.declared.choosing.Candidate.{Candidate}
use Rattle.leaf_judging.specs.Choosing.{IsFirstCandidate}
use Rattle.sound_searches.specs.Sound.{PlainSearch, formulation_of, IsSound}
use Rattle.search_gaps.specs.Within.{IsGapTarget, AllClose, CandidateReaches}

-- no feasible point has a value below the target
abbrev pub WithinLaw : Type 0
WithinLaw = (S : PlainSearch) (t : ℚ) → IsSound S → AllClose S t → (y : Point) → IsFeasible S.model y → t ≤ℚ least_value S.model 1 y

-- As long as a leaf is open, the one that goes first decides for all leaves, closed ones among them: each closes against the target of a gap
-- exactly where its number reaches it. A closed leaf whose number is below the best value was rounded up to it, and so its number is above
-- that of each open leaf, rounded up.
abbrev pub FirstOpenLaw : Type 0
FirstOpenLaw =
    (S : PlainSearch) (g t : ℚ) (c : Candidate) → IsSound S → int (pos 0) ≤ℚ g → IsGapTarget S g t → IsFirstCandidate (formulation_of S) (region_leaves [] S.tree.root) (Some c) →
    AllClose S t ↔ CandidateReaches S.model t c
