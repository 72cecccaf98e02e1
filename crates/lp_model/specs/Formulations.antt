-- A model with its cuts, which is one argument of every statement on a leaf. A cut that counts is a further row with the
-- side hi alone.
--     formulation M cuts, without_cuts M    the model with these cuts, and with none
--     IsValid F                             no feasible point breaks a cut that counts
use Rattle.std.specs.Prelude.{ℕ, List, [], pos, Option, Some, None}
use Rattle.frac128.specs.Rational.{ℚ, int}
use Rattle.lp_model.specs.Elements.{of_element}
use Rattle.lp_model.specs.Program.{Program, Point, IsFeasible}
use Rattle.lp_model.specs.Cuts.{MeetsCuts}
use Rattle.lp_model.specs.CutTerms.{term_of, HaveTerms}
use Rattle.lp_model.specs.declared.types.CutRow.{CutRow}

pub record Formulation : Type 0 where
  pub model : Program
  pub cuts : List CutRow

abbrev pub formulation : Program → List CutRow → Formulation
formulation M cuts = record { model = M; cuts = cuts }

abbrev pub without_cuts : Program → Formulation
without_cuts M = record { model = M; cuts = [] }

-- ---- a cut as a row, by place; there is none past the end

abbrev pub cut_coefficient : List CutRow → ℕ → ℕ → ℚ
cut_coefficient cuts k j = of_element (int (pos 0)) (λ c. term_of j c.terms) cuts k

abbrev pub cut_high : List CutRow → ℕ → Option ℚ
cut_high cuts k = of_element None (λ c. Some c.hi) cuts k

-- ---- cuts that lose no feasible point

-- each cut that counts names columns in model order, and each feasible point meets it
pub record IsValid (F : Formulation) : Type 0 where
  pub terms : HaveTerms F.cuts
  pub met : (x : Point) → IsFeasible F.model x → MeetsCuts x F.cuts
