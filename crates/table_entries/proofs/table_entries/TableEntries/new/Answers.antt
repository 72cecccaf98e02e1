use Rattle.std.proofs.Common.{sym, ap, subst, ◌∙◌, ◌≡◌, length, get_or, pos, vec_capacity, arith}
use Rattle.std.proofs.lemmas.Bool.{eqb-true}
use Rattle.frac128.specs.Rational.{int}
use Rattle.table_entries.specs.Listed.{IsShortWhole}
use Rattle.table_entries.proofs.ListedLemmas.{new_listed, new_stored}
use Rattle.table_entries.proofs.table_entries.TableEntries.new.Goals as goal

pub invariant_of-result : goal.invariant_of-result
invariant_of-result c =
    let fractions = c.args.fractions in
    let numbers = c.in-Ok.numbers in
    let spare = c.in-Ok-with_capacity.spare in
    let read = c.deref.ensures.value in
    let made = c.in-Ok.ensures in
    new_stored _ numbers.items c.in-Ok-from_slice.spare_numbers.items fractions.items (vec_capacity fractions) spare.items (vec_capacity spare)
    (λ e. sym numbers.ok.0 ∙ sym c.len.ensures ∙ eqb-true c.len.result c.len-count.result e ∙ c.len-count.ensures ∙ fractions.ok.0)
    (λ at q. subst (λ xs. IsShortWhole (get_or xs at (int (pos 0)))) read (made.whole at q))
    (λ at q. made.items at q ∙ ap (λ xs. (get_or xs at (int (pos 0))).num) read)
    (c.in-Ok-from_slice.ensures.items ∙ c.deref-2.ensures.value)
    (let none : length spare.items ≡ 0 = ap length c.in-Ok-with_capacity.ensures.items in omega (arith, none))
    (let all = fractions.ok.0 in let most = fractions.ok.1 in omega (arith, all, most))
    (let room = c.in-Ok-with_capacity.ensures.capacity in let count = c.len-count.ensures in let all = fractions.ok.0 in omega (arith, room, count, all))

pub returns-clause-list : goal.returns-clause-list
returns-clause-list c =
    let fractions = c.args.fractions in
    let numbers = c.in-Ok.numbers in
    let read = c.deref.ensures.value in
    let made = c.in-Ok.ensures in
    new_listed _ numbers.items fractions.items
    (λ e. sym numbers.ok.0 ∙ sym c.len.ensures ∙ eqb-true c.len.result c.len-count.result e ∙ c.len-count.ensures ∙ fractions.ok.0)
    (λ at q. subst (λ xs. IsShortWhole (get_or xs at (int (pos 0)))) read (made.whole at q))
    (λ at q. made.items at q ∙ ap (λ xs. (get_or xs at (int (pos 0))).num) read)
