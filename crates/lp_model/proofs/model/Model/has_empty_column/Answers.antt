use Rattle.std.proofs.Common.{◌≡◌, ◌∙◌, ◌<◌, ℕ, refl, sym, below_more, false, arith, length, ap, IsTrue}
use Rattle.std.proofs.lemmas.Bool.{false≢true}
use mathlib.Core.Path.{subst₂}
use Rattle.lp_model.specs.Regions.{IsCrossed, region_low, region_high}
use Rattle.lp_model.proofs.model.Model.has_empty_column.Goals as goal

pub returns : goal.returns
returns c =
    let items : length c.cols-col-end.result.now ≡ length c.args.self.now.cols = ap length c.cols-col-end.ensures.items in (
      (λ e. let t : IsTrue false = e in cc),
      (λ (j, (below, crossed)). let h : j < c.loop-col.col = omega arith in absurd (c.loop-col.invariant j h crossed)),
    )

pub returns-then-is_crossed : goal.returns-then-is_crossed
returns-then-is_crossed c =
    let items : length c.cols-col-end.result.now ≡ length c.args.self.now.cols = ap length c.cols-col-end.ensures.items in
    let within : c.loop-col.col < length c.args.self.now.cols = let test = c.loop-col-test.true in omega (arith, items, test) in
    ((λ t. (c.loop-col.col, (within, subst₂ IsCrossed c.region_low.ensures c.region_high.ensures (c.is_crossed.ensures.0 c.if-is_crossed.true)))), (λ e. refl))

pub loop-col-preserved : goal.loop-col-preserved
loop-col-preserved c =
    below_more (λ (j : ℕ). ¬ IsCrossed (region_low c.args.self.now c.args.region.now j) (region_high c.args.self.now c.args.region.now j)) c.loop-col.col c.loop-col.invariant
    (λ crossed. false≢true (sym c.if-is_crossed.false ∙ c.is_crossed.ensures.1 (subst₂ IsCrossed (sym c.region_low.ensures) (sym c.region_high.ensures) crossed)))
