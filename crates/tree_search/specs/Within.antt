-- When a search is done within a gap.
--     IsGapLimit gap               a gap, if one is given, is at least 0
--     IsGapReached ways gap S      a gap is given, no ray was found, a leaf is open, and every leaf, open or closed, is within the gap of the best kept point
use Rattle.std.specs.Prelude.{pos, Option, Some, None}
use Rattle.frac128.specs.Rational.{ℚ, int, ◌≤ℚ◌}
use Rattle.sound_searches.specs.Sound.{PlainSearch}
use Rattle.search_gaps.specs.Within.{AreLeavesWithin}
use Rattle.tree_search.specs.Steps.{HasOpenLeaf}
use Rattle.tree_search.specs.declared.searching.Ways.{Ways}
use Rattle.tree_search.specs.declared.searching.Ways.TheVariants.{Own, Rays}

abbrev pub IsGapLimit : Option ℚ → Type 0
IsGapLimit None = Unit {0}
IsGapLimit (Some g) = int (pos 0) ≤ℚ g

abbrev pub IsGapReached : Ways → Option ℚ → PlainSearch → Type 0
IsGapReached Own None S = ⊥
IsGapReached Own (Some g) S = HasOpenLeaf S × AreLeavesWithin S g
IsGapReached (Rays model) gap S = ⊥
