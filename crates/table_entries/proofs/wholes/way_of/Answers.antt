use Rattle.std.proofs.Common.{◌≢◌, sym, subst, pos}
use Rattle.std.specs.Prelude.{IfSome}
use Rattle.table_entries.specs.private.Ways.{IsWay}
use Rattle.table_entries.proofs.ReadLemmas.{short_read, short_again, positive_again}
use Rattle.table_entries.proofs.wholes.way_of.Goals as goal

pub leaving_way-requires-clause-some : goal.leaving_way-requires-clause-some
leaving_way-requires-clause-some c = subst (λ n. n ≢ pos 0) (sym (short_read c.args.pivot c.requires.pivot)) c.requires.some

pub leaving_way-requires-clause-after : goal.leaving_way-requires-clause-after
leaving_way-requires-clause-after c = short_again c.args.after c.requires.after

pub leaving_way-requires-clause-pivot : goal.leaving_way-requires-clause-pivot
leaving_way-requires-clause-pivot c = short_again c.args.pivot c.requires.pivot

pub plain_way-requires-clause-some : goal.plain_way-requires-clause-some
plain_way-requires-clause-some c = subst (λ n. n ≢ pos 0) (sym (short_read c.args.pivot c.requires.pivot)) c.requires.some

pub plain_way-requires-clause-positive : goal.plain_way-requires-clause-positive
plain_way-requires-clause-positive c = positive_again c.args.denominator c.requires.denominator c.requires.positive

pub plain_way-requires-clause-denominator : goal.plain_way-requires-clause-denominator
plain_way-requires-clause-denominator c = short_again c.args.denominator c.requires.denominator

pub plain_way-requires-clause-in_place : goal.plain_way-requires-clause-in_place
plain_way-requires-clause-in_place c = short_again c.args.in_place c.requires.in_place

pub plain_way-requires-clause-after : goal.plain_way-requires-clause-after
plain_way-requires-clause-after c = short_again c.args.after c.requires.after

pub plain_way-requires-clause-pivot : goal.plain_way-requires-clause-pivot
plain_way-requires-clause-pivot c = short_again c.args.pivot c.requires.pivot

pub lowest_way-requires-clause-some : goal.lowest_way-requires-clause-some
lowest_way-requires-clause-some c = subst (λ n. n ≢ pos 0) (sym (short_read c.args.pivot c.requires.pivot)) c.requires.some

pub lowest_way-requires-clause-positive : goal.lowest_way-requires-clause-positive
lowest_way-requires-clause-positive c = positive_again c.args.denominator c.requires.denominator c.requires.positive

pub lowest_way-requires-clause-denominator : goal.lowest_way-requires-clause-denominator
lowest_way-requires-clause-denominator c = short_again c.args.denominator c.requires.denominator

pub lowest_way-requires-clause-in_place : goal.lowest_way-requires-clause-in_place
lowest_way-requires-clause-in_place c = short_again c.args.in_place c.requires.in_place

pub lowest_way-requires-clause-after : goal.lowest_way-requires-clause-after
lowest_way-requires-clause-after c = short_again c.args.after c.requires.after

pub lowest_way-requires-clause-pivot : goal.lowest_way-requires-clause-pivot
lowest_way-requires-clause-pivot c = short_again c.args.pivot c.requires.pivot

pub returns-then-is_row : goal.returns-then-is_row
returns-then-is_row c =
    let a = c.args in
    subst (λ X. X)
    (λ i. IfSome c.leaving_way.result
    (λ w. IsWay (sym c.if-is_row.true i) (short_read a.denominator c.requires.denominator i) (short_read a.after c.requires.after i) (short_read a.pivot c.requires.pivot i) (short_read a.in_place c.requires.in_place i) w.factor w.scale w.divisor w.multiplier))
    c.leaving_way.ensures

pub returns-in-Some : goal.returns-in-Some
returns-in-Some c =
    let a = c.args in
    let w = c.in-Some.way in
    subst (λ X. X)
    (λ i. IsWay (sym c.if-is_row.false i) (short_read a.denominator c.requires.denominator i) (short_read a.after c.requires.after i) (short_read a.pivot c.requires.pivot i) (short_read a.in_place c.requires.in_place i) w.factor w.scale w.divisor w.multiplier)
    c.in-Some.ensures

pub returns-in-None : goal.returns-in-None
returns-in-None c =
    let a = c.args in
    subst (λ X. X)
    (λ i. IfSome c.lowest_way.result
    (λ w. IsWay (sym c.if-is_row.false i) (short_read a.denominator c.requires.denominator i) (short_read a.after c.requires.after i) (short_read a.pivot c.requires.pivot i) (short_read a.in_place c.requires.in_place i) w.factor w.scale w.divisor w.multiplier))
    c.lowest_way.ensures
