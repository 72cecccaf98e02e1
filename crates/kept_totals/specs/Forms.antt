-- How totals and terms are held: in fractions, or in whole numbers over one denominator.
use Rattle.std.specs.Prelude.{refl}
use Rattle.std.specs.Coded.{Coded, code_by, coded×}
use Rattle.frac128.specs.Rational.{ℚ, int}
use Rattle.frac128.specs.LowestTerms.{quotient_of}
use Rattle.frac128.specs.contracts.frac.Frac.{the_row as frac_row}
use Rattle.whole_sums.specs.Wholes.{IsShort, HasMargin, IsDenominator}
use Rattle.kept_totals.specs.declared.total.TotalForm.{TotalForm}
use Rattle.kept_totals.specs.declared.total.TotalForm.TheVariants.{Fraction, Wholes}
use Rattle.kept_totals.specs.declared.term.WholePair.{WholePair}
use Rattle.kept_totals.specs.declared.term.TermForm.{TermForm}
use Rattle.kept_totals.specs.declared.term.TermForm.TheVariants.{Fractions, Pair}

-- a term of a sum: a factor and a number
pub record Product : Type 0 where
  pub factor : ℚ
  pub number : ℚ

abbrev pub product_code : Coded Product
product_code = code_by (ℚ × ℚ) (coded× frac_row.coded frac_row.coded) (λ t. (t.factor, t.number)) (λ p. record { factor = p.0; number = p.1 }) (λ _. refl)

-- a number over a denominator, and a whole number
abbrev pub pair_product : WholePair → Product
pair_product w = record { factor = quotient_of w.factor w.denominator; number = int w.number }

pub record IsWholePair (w : WholePair) : Type 0 where
  pub factor : IsShort w.factor
  pub number : IsShort w.number
  pub denominator : IsDenominator w.denominator

abbrev pub product_of : TermForm → Product
product_of (Fractions factor number) = record { factor = factor; number = number }
product_of (Pair w) = pair_product w

abbrev pub IsLawfulTerm : TermForm → Type 0
IsLawfulTerm (Fractions factor number) = Unit {0}
IsLawfulTerm (Pair w) = IsWholePair w

abbrev pub total_of : TotalForm → ℚ
total_of (Fraction value) = value
total_of (Wholes number denominator) = quotient_of number denominator

abbrev pub IsLawfulTotal : TotalForm → Type 0
IsLawfulTotal (Fraction value) = Unit {0}
IsLawfulTotal (Wholes number denominator) = HasMargin number × IsDenominator denominator
