use Rattle.std.proofs.Common.{◌≡◌, ◌+◌, ◌<◌, refl, sym, subst, length, pos, IsTrue, arith}
use Rattle.frac128.specs.Rational.{int, ◌<ℚ◌}
use Rattle.lp_model.proofs.ElementLemmas.{get_or-read}
use Rattle.search_parts.specs.Points.{value_at, IsOldestOf}
use Rattle.search_parts.proofs.PointLemmas.{oldest-lower, oldest-same}
use Rattle.search_parts.proofs.points.oldest_least.Goals.{then-is_below, else-is_below}
use Rattle.search_parts.proofs.points.oldest_least.Goals as goal

pub loop-place-preserved : goal.loop-place-preserved
loop-place-preserved c =
    let values = c.args.values.now in
    let n = c.loop-place.place in
    let k = c.loop-place.best in
    let n_in : n < length values = omega arith in
    let k_in : k < length values = omega (arith, c.loop-place.invariant.within) in
    let at_n : c.index-values-place.result ≡ value_at values n = get_or-read (int (pos 0)) values values n c.index-values-place.result refl n_in c.index-values-place.is in
    let at_k : c.index-values-best.result ≡ value_at values k = get_or-read (int (pos 0)) values values k c.index-values-best.result refl k_in c.index-values-best.is in
    elim c.if-is_below.branch [
      | then-is_below w ↦ subst (IsOldestOf values (n + 1)) (sym w.best-is)
          (oldest-lower values n k c.loop-place.invariant (subst (λ q. q <ℚ value_at values k) at_n (subst (λ q. c.index-values-place.result <ℚ q) at_k (c.is_below.ensures.0 w.if-is_below.true))))
      | else-is_below w ↦ subst (IsOldestOf values (n + 1)) (sym w.best-is)
          (oldest-same values n k c.loop-place.invariant
          (λ less. let t : IsTrue c.is_below.result = c.is_below.ensures.1 (subst (λ q. q <ℚ c.index-values-best.result) (sym at_n) (subst (λ q. value_at values n <ℚ q) (sym at_k) less)) in let f = w.if-is_below.false in cc))
    ]
