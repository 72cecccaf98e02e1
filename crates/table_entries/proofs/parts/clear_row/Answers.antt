use Rattle.std.proofs.Common.{◌<◌, arith, length, refl, pos}
use Rattle.table_entries.proofs.PartNumbers.{numbers_length}
use Rattle.table_entries.proofs.PartRows.{touched_none, touched_more, written_more}
use Rattle.table_entries.proofs.parts.clear_row.Goals as goal

pub loop-place-init : goal.loop-place-init
loop-place-init c = record { touched = touched_none c.args.columns c.args.row c.args.entries.now c.requires.whole c.requires.listed; written = λ k less. absurd (omega (arith, less)) }

pub write-requires-clause-whole : goal.write-requires-clause-whole
write-requires-clause-whole c = c.loop-place.invariant.touched.form

pub write-requires-clause-within : goal.write-requires-clause-within
write-requires-clause-within c = let e = c.loop-place.invariant.touched.size in let size = c.requires.size in let w = c.flat_index-at.ensures.within in omega (arith, e, size, w)

pub loop-place-preserved : goal.loop-place-preserved
loop-place-preserved c =
    let a = c.args in
    let k = c.loop-place.place in
    let at = c.flat_index-at.result in
    let now = c.loop-place.entries in
    let new = c.write.new.self in
    let inv = c.loop-place.invariant in
    let within : at < length now.numbers =
    (let all = numbers_length a.rows a.columns now inv.touched.listed in let e = inv.touched.size in let size = c.requires.size in let w = c.flat_index-at.ensures.within in omega (arith, all, e, size, w)) in
    record {
      touched = touched_more a.columns a.row k at _ a.entries.now now new c.loop-place-test.true c.flat_index-at.ensures.value inv.touched
          c.write.ensures.form c.write.ensures.listed c.write.ensures.denominator c.write.ensures.size c.write.ensures.numbers;
      written = written_more a.columns a.row k at _ now new (λ k. pos 0) c.flat_index-at.ensures.value within c.write.ensures.numbers refl inv.written;
    }

pub returns-clause-touched : goal.returns-clause-touched
returns-clause-touched c = c.loop-place.invariant.touched

pub returns-clause-nothing : goal.returns-clause-nothing
returns-clause-nothing c = let past = c.loop-place-test.false in λ k q. c.loop-place.invariant.written k (omega (arith, q, past))
