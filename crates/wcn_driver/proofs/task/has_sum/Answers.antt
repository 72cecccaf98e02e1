use Rattle.std.specs.Prelude.{◌≡◌}
use Rattle.std.proofs.Common.{◌∙◌, ap, sym, subst}
use Rattle.frac128.specs.Rational.{ℚ, int}
use Rattle.frac128.specs.Range.{SumFits}
use Rattle.frac128.proofs.ReadLemmas.{narrow_read}
use Rattle.wcn_driver.proofs.Outcomes.{sum_fits, sum_narrow}
use Rattle.wcn_driver.proofs.task.has_sum.Goals as goal

pub returns : goal.returns
returns c = λ z is.
    let value : ℚ = c.args.value.now in
    let k : c.of_whole.result ≡ int c.args.constant = c.of_whole.ensures ∙ ap int (narrow_read c.args.constant c.requires) in (
      (λ t. sum_narrow value c.args.constant z c.has_room.ensures c.requires is (subst (λ (y : ℚ). SumFits value y) k (c.fits_beside.ensures.0 t))),
      (λ narrow. c.fits_beside.ensures.1 (subst (λ (y : ℚ). SumFits value y) (sym k) (sum_fits value c.args.constant z c.has_room.ensures c.requires is narrow))),
    )
