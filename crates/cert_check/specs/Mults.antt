-- The multipliers of a certificate's leaf: each of a row, by its name, or of a cut, by its number from 1.
use Rattle.std.specs.Prelude.{◌≢◌, ℕ, ◌-◌, ◌<◌, ◌≤◌, List, map, All, AllPairs, Contains}
use Rattle.frac128.specs.Rational.{ℚ}
use Rattle.lp_model.specs.Program.{Program}
use Rattle.lp_model.specs.declared.types.Var.{Var}
use Rattle.lp_model.specs.declared.types.Var.TheVariants as var
use Rattle.leaf_dual.specs.Dual.{Multipliers}
use Rattle.cert_text.specs.declared.cert.CertMult.{CertMult}
use Rattle.cert_text.specs.declared.cert.CertMult.TheVariants.{Row, Cut}
use Rattle.lp_model.specs.Edits.{only_row_names, place_in}

-- a row's name is known; a cut's number, from 1, is one of n
abbrev pub IsMultiplierThere : Program → ℕ → CertMult → Type 0
IsMultiplierThere M n (Row name v) = Contains (only_row_names M) name
IsMultiplierThere M n (Cut k v) = (0 < k) × (k ≤ n)

abbrev pub Differ : CertMult → CertMult → Type 0
Differ (Row a v) (Row b w) = a ≢ b
Differ (Cut k v) (Cut l w) = k ≢ l
Differ (Row a v) (Cut l w) = Unit {0}
Differ (Cut k v) (Row b w) = Unit {0}

-- each is there, and none stands twice
pub record AreMults (M : Program) (n : ℕ) (mults : List CertMult) : Type 0 where
  pub there : All (IsMultiplierThere M n) mults
  pub once : AllPairs Differ mults

abbrev pub mult_of : Program → CertMult → Var × ℚ
mult_of M (Row name v) = (var.Row (record { 0 = place_in (only_row_names M) name }), v)
mult_of M (Cut k v) = (var.Cut (record { 0 = k - 1 }), v)

abbrev pub mults_of : Program → List CertMult → Multipliers
mults_of M mults = map (mult_of M) mults
