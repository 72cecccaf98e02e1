use Rattle.std.proofs.Common.{◌≡◌, ◌∙◌, ap, arith, [], ◌∷◌, ℤ, pos, ◌*ℤ◌, to_z, of_z}
use Rattle.std.specs.Int.{w128}
use Rattle.std.proofs.lemmas.Int.{ints}
use Rattle.std.proofs.lemmas.Option.{IfSome_then}
use Rattle.frac128.specs.IntegerRing.{ring_ℤ, reads_ℤ}
use Rattle.table_entries.proofs.wholes.exact_quotient.Goals as goal

by_one : (q : ℤ) → q *ℤ pos 1 ≡ q
by_one q = ring_ℤ (q ∷ []) (search reads_ℤ) (search reads_ℤ) tt

pub returns-then-divisor-eq1-clause-product : goal.returns-then-divisor-eq1-clause-product
returns-then-divisor-eq1-clause-product c =
    let one : c.args.divisor ≡ pos 1 = let e = c.if-divisor-eq1.true in omega (arith, ints, e) in
    let n_is : to_z w128 (of_z w128 c.args.number) ≡ c.args.number = omega (arith, ints) in
    IfSome_then c.short_number.result c.short_number.ensures.value (λ q e. ap (λ d. q *ℤ d) one ∙ by_one q ∙ e ∙ n_is)
