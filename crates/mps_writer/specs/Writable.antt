-- Which models their canonical text gives back: those that are not widened, whose names stand as fields, of which no row's or
-- objective's is the marker word, and whose finite bounds are below 10^20 in magnitude.
use Rattle.std.specs.Prelude.{◌≡◌, ℕ, ◌<◌, ◌≤◌, false, List, length, codes, All}
use Rattle.std.specs.Option.{ForSome}
use Rattle.frac128.specs.Rational.{ℚ, neg_ℚ, ◌<ℚ◌}
use Rattle.lp_model.specs.Limits.{name_limit}
use Rattle.lp_model.specs.Program.{Program}
use Rattle.lp_model.specs.Lawful.{row_names, column_names}
use Rattle.lp_model.specs.declared.types.Col.{Col}
use Rattle.frac_text.specs.Sides.{far}
use Rattle.mps_fields.specs.Words.{is_key}

-- a byte from `!` to `~`
pub record IsVisible (byte : ℕ) : Type 0 where
  pub from : 33 ≤ byte
  pub to : byte ≤ 126

-- 1 to 255 bytes from `!` to `~`
pub record IsField (name : List ℕ) : Type 0 where
  pub some : 0 < length name
  pub short : length name ≤ name_limit
  pub visible : All IsVisible name

-- a magnitude below 10^20
pub record IsNotFar (x : ℚ) : Type 0 where
  pub above : neg_ℚ far <ℚ x
  pub below : x <ℚ far

pub record HasNoFarBounds (c : Col) : Type 0 where
  pub lower : ForSome c.lo IsNotFar
  pub upper : ForSome c.up IsNotFar

-- no row and no objective has the marker word as its name, in either case of letters
abbrev pub IsUnmarked : Program → Type 0
IsUnmarked M = All (λ name. is_key (codes "'MARKER'") name ≡ false) (row_names M)

pub record IsWritableMps (M : Program) : Type 0 where
  pub plain : M.wide ≡ false
  pub rows : All IsField (row_names M)
  pub columns : All IsField (column_names M)
  pub unmarked : IsUnmarked M
  pub bounds : All HasNoFarBounds M.cols
