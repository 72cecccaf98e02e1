use Rattle.std.proofs.Common.{◌≡◌, ◌∙◌, sym, subst, arith, pos, ◌<ℤ◌}
use Rattle.std.proofs.lemmas.Int.{ints}
use Rattle.std.proofs.lemmas.Option.{IfSome_then}
use Rattle.frac128.specs.Rational.{int, ◌<ℚ◌}
use Rattle.frac128.specs.RationalOrder.{<ℚ_irrefl}
use Rattle.frac128.specs.LowestTerms.{quotient_of}
use Rattle.lp_model.specs.Program.{lower, upper}
use Rattle.lp_model.proofs.SideLemmas.{needed-positive, needed-negative, needed-zero}
use Rattle.cover_cuts.proofs.LiteralLemmas.{lower_is, upper_is}
use Rattle.whole_sums.proofs.SumLemmas.{nothing_over, positive_over, negative_over}
use Rattle.cut_find.proofs.candidates.RowSide.bound_number.Goals as goal

pub returns-then-weight-gt0-clause-bound : goal.returns-then-weight-gt0-clause-bound
returns-then-weight-gt0-clause-bound c =
    let M = c.args.self.now.model.now in
    let j = c.args.col in
    let above : pos 0 <ℤ c.args.weight = let e = c.if-weight-gt0.true in omega (arith, ints, e) in
    let bound = lower_is M j c.cols.result.now c.index-cols-col.result c.cols.ensures.items c.requires c.index-cols-col.is in
    IfSome_then c.short_bound.result c.short_bound.ensures.value (λ n h. λ d p. sym (needed-positive (quotient_of c.args.weight d) (lower M j) (upper M j) (positive_over c.args.weight d p above)) ∙ sym bound ∙ h)

pub returns-then-weight-lt0-clause-bound : goal.returns-then-weight-lt0-clause-bound
returns-then-weight-lt0-clause-bound c =
    let M = c.args.self.now.model.now in
    let j = c.args.col in
    let below : c.args.weight <ℤ pos 0 = let e = c.if-weight-lt0.true in omega (arith, ints, e) in
    let bound = upper_is M j c.cols.result.now c.index-cols-col.result c.cols.ensures.items c.requires c.index-cols-col.is in
    IfSome_then c.short_bound-then-weight-lt0.result c.short_bound-then-weight-lt0.ensures.value (λ n h. λ d p. sym (needed-negative (quotient_of c.args.weight d) (lower M j) (upper M j) (negative_over c.args.weight d p below)) ∙ sym bound ∙ h)

pub returns-clause-bound : goal.returns-clause-bound
returns-clause-bound c = λ d p.
    let M = c.args.self.now.model.now in
    let j = c.args.col in
    let none : c.args.weight ≡ pos 0 = let e = c.if-weight-gt0.false in let f = c.if-weight-lt0.false in omega (arith, ints, e, f) in
    let zero : quotient_of c.args.weight d ≡ int (pos 0) = nothing_over c.args.weight d p none in
    sym (needed-zero (quotient_of c.args.weight d) (lower M j) (upper M j) (λ k. <ℚ_irrefl (subst (λ x. int (pos 0) <ℚ x) zero k)) (λ k. <ℚ_irrefl (subst (λ x. x <ℚ int (pos 0)) zero k)))
