use Rattle.std.proofs.Common.{◌≡◌, ◌∙◌, sym, ap, arith, ◌*ℤ◌, to_z, of_z, w64}
use Rattle.std.proofs.lemmas.Int.{ints}
use Rattle.table_entries.proofs.WayLemmas.{no_factor, no_number}
use Rattle.table_entries.proofs.wholes.is_kept.Goals as goal

pub returns-then-way-eq0 : goal.returns-then-way-eq0
returns-then-way-eq0 c = λ t.
    let w = c.args.way.now in
    let range = c.ranges.entry in
    let entry_is : to_z w64 (of_z w64 c.args.entry) ≡ c.args.entry = omega (arith, ints, range) in
    sym (ap (λ x. x *ℤ w.divisor) entry_is) ∙ c.is_scaled_by_one.ensures t ∙ ap (λ x. x *ℤ w.scale *ℤ w.multiplier) entry_is
    ∙ no_factor c.args.entry w.scale w.factor c.args.in_row w.multiplier (let e = c.if-way-eq0.true in omega (arith, ints, e))

pub returns-then-in_row-eq0 : goal.returns-then-in_row-eq0
returns-then-in_row-eq0 c = λ t.
    let w = c.args.way.now in
    let range = c.ranges.entry in
    let entry_is : to_z w64 (of_z w64 c.args.entry) ≡ c.args.entry = omega (arith, ints, range) in
    sym (ap (λ x. x *ℤ w.divisor) entry_is) ∙ c.is_scaled_by_one-then-in_row-eq0.ensures t ∙ ap (λ x. x *ℤ w.scale *ℤ w.multiplier) entry_is
    ∙ no_number c.args.entry w.scale w.factor c.args.in_row w.multiplier (let e = c.if-in_row-eq0.true in omega (arith, ints, e))
