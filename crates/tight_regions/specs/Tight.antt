-- The region of a path by its tightest changes, at most one for each side of each column, and what undoes them.
--     tightened R c      the region R with one more change: the tighter of two for the same side of the same column stands there
--     IsTrail            after each change of the path the region is tightened by it, and what it replaced leads back
use Rattle.std.specs.Prelude.{◌≡◌, ℕ, zero, suc, ◌+◌, ◌<◌, ◌≤◌, ℤ, pos, int_le, Bool, true, false, ◌&&◌, if◌then◌else◌, nat_eq, List, [], ◌∷◌, length, take, get_or, set, AllPairs}
use Rattle.lp_model.specs.Regions.{Path, at_least}
use Rattle.lp_model.specs.declared.types.Side.{Side}
use Rattle.lp_model.specs.declared.types.Side.TheVariants.{Lo, Hi}
use Rattle.lp_model.specs.declared.types.BoundChange.{BoundChange}
use Rattle.tight_regions.specs.declared.trail.Replaced.{Replaced}
use Rattle.tight_regions.specs.declared.trail.Trail.{Trail}

-- ---- the tightest changes

abbrev pub is_same_side : Side → Side → Bool
is_same_side Lo Lo = true
is_same_side Lo Hi = false
is_same_side Hi Lo = false
is_same_side Hi Hi = true

-- for the same side of the same column
abbrev pub are_rivals : BoundChange → BoundChange → Bool
are_rivals c d = nat_eq c.col.0 d.col.0 && is_same_side c.side d.side

abbrev pub tighter_number : Side → ℤ → ℤ → ℤ
tighter_number Lo v w = if int_le v w then w else v
tighter_number Hi v w = if int_le v w then v else w

-- at most one change for each side of each column
abbrev pub AreChangesApart : Path → Type 0
AreChangesApart R = AllPairs (λ c d. are_rivals c d ≡ false) R

-- a change, with the number of a further one for the same side of the same column where that is tighter
abbrev pub tighter : BoundChange → BoundChange → BoundChange
tighter c d = record { col = c.col; side = c.side; v = tighter_number c.side c.v d.v }

abbrev pub tightened : Path → BoundChange → Path
tightened [] c = c ∷ []
tightened (d ∷ R) c = if are_rivals d c then tighter d c ∷ R else d ∷ tightened R c

-- ---- the trail

-- what stands for a read past the end
abbrev pub no_change : BoundChange
no_change = at_least 0 (pos 0)

abbrev pub no_replaced : Replaced
no_replaced = record { place = 0; was = no_change; count = 0 }

-- the region's places before the change that replaced this
abbrev pub undone : Path → Replaced → Path
undone places r = set places r.place r.was

-- the first `count` places are the region, tightened by c from what it was before
pub record IsTightened (places : Path) (count : ℕ) (c : BoundChange) (r : Replaced) : Type 0 where
  pub within : r.place < length places
  pub few : count ≤ r.count + 1
  pub is : take count places ≡ tightened (take r.count (undone places r)) c

-- the first n changes of a path led to this region, from none
abbrev pub IsLed : Path → List Replaced → ℕ → Path → ℕ → Type 0
IsLed path replaced zero places count = count ≡ 0
IsLed path replaced (suc n) places count =
    IsTightened places count (get_or path n no_change) (get_or replaced n no_replaced)
    × IsLed path replaced n (undone places (get_or replaced n no_replaced)) (get_or replaced n no_replaced).count

pub record IsTrail (t : Trail) : Type 0 where
  pub region : length t.region.items ≡ length t.path.items
  pub replaced : length t.replaced.items ≡ length t.path.items
  pub within : t.depth ≤ length t.path.items
  pub led : IsLed t.path.items t.replaced.items t.depth t.region.items t.count

-- the path, and its region
abbrev pub path_of_trail : Trail → Path
path_of_trail t = take t.depth t.path.items

abbrev pub region_of : Trail → Path
region_of t = take t.count t.region.items

-- how long the path is
abbrev pub depth_of : Trail → ℕ
depth_of t = t.depth

-- how long a path may become
abbrev pub room : Trail → ℕ
room t = length t.path.items
