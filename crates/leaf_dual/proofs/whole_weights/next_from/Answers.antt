use Rattle.std.proofs.Common.{subst, sym, ⊎_elim, arith, ◌<◌, ◌≡◌, length, pos}
use Rattle.std.proofs.lemmas.Bool.{cases_eq}
use Rattle.whole_sums.specs.Wholes.{whole_number_at}
use Rattle.leaf_dual.proofs.whole_weights.next_from.Goals as goal

pub returns-then-is_zero_at : goal.returns-then-is_zero_at
returns-then-is_zero_at c = λ j from below.
    let here = c.is_zero_at.ensures c.if-is_zero_at.true in
    ⊎_elim (λ same. subst (λ k. (k < length c.args.numbers.now) × (whole_number_at c.args.numbers.now k ≡ pos 0)) (sym same) here) (λ other. c.requires j (omega (arith, from, other)) below) (cases_eq j c.args.place)

pub returns-else-is_zero_at : goal.returns-else-is_zero_at
returns-else-is_zero_at c = λ j from below. absurd (omega (arith, from, below))
