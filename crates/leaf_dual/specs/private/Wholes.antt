-- What contracts of private functions alone cite, beside specs/Wholes.
use Rattle.std.specs.Prelude.{◌≡◌, ℕ, Bool, true, false, if◌then◌else◌, ℤ, List}
use Rattle.frac128.specs.Rational.{ℚ}
use Rattle.frac128.specs.LowestTerms.{quotient_of}
use Rattle.lp_model.specs.Cuts.{is_live}
use Rattle.lp_model.specs.declared.types.CutRow.{CutRow}
use Rattle.lp_model.specs.declared.types.Var.{Var}
use Rattle.leaf_dual.specs.Dual.{is_row_variable, is_cut}
use Rattle.whole_sums.specs.Wholes.{IsShort, whole_number_at}

-- the number at a place is the multiplier's where it is written, and else stays
abbrev pub IsWrittenWhere : Bool → ℤ → ℚ → ℤ → ℤ → Type 0
IsWrittenWhere true d number old new = IsShort new × (quotient_of new d ≡ number)
IsWrittenWhere false d number old new = new ≡ old

abbrev pub IsRowWritten : ℤ → Var → ℚ → List ℤ → List ℤ → ℕ → Type 0
IsRowWritten d name number old new k = IsWrittenWhere (is_row_variable name k) d number (whole_number_at old k) (whole_number_at new k)

-- a cut that does not count has none
abbrev pub IsCutWritten : ℤ → List CutRow → Var → ℚ → List ℤ → List ℤ → ℕ → Type 0
IsCutWritten d cuts name number old new k = IsWrittenWhere (if is_live cuts k then is_cut name k else false) d number (whole_number_at old k) (whole_number_at new k)
