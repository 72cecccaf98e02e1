-- What contracts of private functions alone cite, beside specs/Slack.
use Rattle.std.specs.Prelude.{◌≡◌, ℕ, Option, Some, None}
use Rattle.table_entries.specs.declared.stand.Stand.{Stand}
use Rattle.table_entries.specs.States.{LawfulAt, reduced_parts}
use Rattle.basic_solution.specs.Held.{Held, relaxation, parts, table}
use Rattle.basic_solution.specs.Slack.{CanStand, IsPlaced}

-- it cannot stand where it is asked to
pub record IsMisplaced (s : Held) (k : ℕ) : Type 0 where
  pub stand : Stand
  pub asked : LawfulAt stand (reduced_parts (relaxation s) (parts s) (table s) k)
  pub cannot : ¬ CanStand stand ((relaxation s).low ((table s).nonbasic k)) ((relaxation s).high ((table s).nonbasic k))

abbrev pub IsStandAnswer : Held → ℕ → Option Stand → Type 0
IsStandAnswer s k (Some stand) = IsPlaced s k stand
IsStandAnswer s k None = IsMisplaced s k

-- the same but for where the nonbasic variables stand
abbrev pub IsRestood : Held → Held → Type 0
IsRestood s after = after ≡ record s { stands = after.stands }
