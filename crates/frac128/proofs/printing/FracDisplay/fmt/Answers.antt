use Rattle.std.proofs.Common.{FitsSigned, rules, refl, sym, ap, ap₂, ◌∙◌, ◌++◌, ◌∷◌, true≢false}
use Rattle.std.specs.Fmt.{signed_decimal}
use Rattle.std.specs.Int.{w128}
use Rattle.std.proofs.lemmas.Int.{to_z-of_z}
use Rattle.std.proofs.Output.{has_written_of_eq}
use Rattle.frac128.proofs.Printed.{printed-whole, printed-fraction}
use Rattle.frac128.proofs.printing.FracDisplay.fmt.Goals as goal

pub returns-then-is_whole-clause-writes : goal.returns-then-is_whole-clause-writes
returns-then-is_whole-clause-writes g c = λ plain ok.
    let numerator_fits : FitsSigned w128 c.numerator.result = search rules in
    has_written_of_eq _ _ _ _ _ (simp to_z-of_z (ap signed_decimal c.numerator.ensures ∙ sym (printed-whole c.args.self.now (c.if-is_whole.ensures.0 refl)))) (c.write.ensures.writes plain ok)

pub returns-else-is_whole-clause-writes : goal.returns-else-is_whole-clause-writes
returns-else-is_whole-clause-writes g c = λ plain ok.
    let numerator_fits : FitsSigned w128 c.numerator-else-is_whole.result = search rules in
    let denominator_fits : FitsSigned w128 c.denominator.result = search rules in
    has_written_of_eq _ _ _ _ _
    (simp to_z-of_z (ap₂ (λ n d. signed_decimal n ++ 47 ∷ signed_decimal d) c.numerator-else-is_whole.ensures c.denominator.ensures ∙ sym (printed-fraction c.args.self.now (λ whole. true≢false (sym (c.if-is_whole.ensures.1 whole))))))
    (c.write-else-is_whole.ensures.writes plain ok)
