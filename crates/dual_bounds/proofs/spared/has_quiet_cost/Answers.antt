use Rattle.std.proofs.Common.{◌∙◌, subst}
use Rattle.lp_model.specs.Formulations.{formulation}
use Rattle.spared_leaves.specs.declared.touched.Touched.TheVariants.{OneCost}
use Rattle.spared_leaves.specs.Alike.{AreAlikeBut, AreAlikeCuts}
use Rattle.spared_leaves.specs.Spared.{IsSpared}
use Rattle.dual_bounds.proofs.spared.has_quiet_cost.Goals as goal

pub returns-in-Some : goal.returns-in-Some
returns-in-Some c =
    let N = c.args.model.now in
    let own = c.model-own.ensures in
    let cuts = c.rows-cuts.ensures.rows ∙ c.pool-before.ensures.pool in
    let again = c.rows-again.ensures.rows in
    let one = c.in-Some.ensures in
    λ is. (
      c.in-Some.col,
      (
        one.0,
        (
          one.1,
          subst (λ P. P) (λ i. AreAlikeBut (OneCost c.in-Some.col) (own i) N → AreAlikeCuts (cuts i) (again i) → IsSpared (formulation (own i) (cuts i)) (formulation N (again i)) c.args.region.now (c.as_slice-mult.ensures i) (c.as_slice-farkas.ensures i)) (c.spares.ensures.spared is),
        ),
      ),
    )
