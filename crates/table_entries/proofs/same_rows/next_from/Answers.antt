use Rattle.std.proofs.Common.{◌≡◌, ◌+◌, ◌*◌, subst, sym, ⊎_elim, arith, pos}
use Rattle.std.proofs.lemmas.Bool.{cases_eq}
use Rattle.table_entries.specs.WholeSteps.{whole_number_at}
use Rattle.table_entries.proofs.same_rows.next_from.Goals as goal

pub returns-then-is_nothing_at : goal.returns-then-is_nothing_at
returns-then-is_nothing_at c = λ j from below.
    let a = c.args in
    let here = c.is_nothing_at.ensures c.if-is_nothing_at.true in
    ⊎_elim (λ same. subst (λ k. whole_number_at a.numbers.now (a.row * a.columns + k) ≡ pos 0) (sym same) here) (λ other. c.requires.behind j (omega (arith, from, other)) below) (cases_eq j a.place)

pub returns-else-is_nothing_at : goal.returns-else-is_nothing_at
returns-else-is_nothing_at c = λ j from below. absurd (omega (arith, from, below))
