use Rattle.std.proofs.Common.{arith, refl, sym, subst, ◌≡◌, ◌≢◌, ◌<◌, ◌+◌, ◌*◌, ◌/◌, ◌%◌, length, pos}
use Rattle.std.proofs.Math.Nat.{div-lt_iff_lt-mul, mod-lt}
use Rattle.frac128.specs.Rational.{int}
use Rattle.table_entries.proofs.StepLemmas.{fits-back, fits-more, written-more, read_at}
use Rattle.table_entries.proofs.entries.write_by_steps.Goals as goal

pub loop-at-preserved : goal.loop-at-preserved
loop-at-preserved c =
    let entries = c.args.entries.now in
    let size : length entries ≡ c.args.rows * c.args.columns = c.requires.size in
    let row_is = read_at entries c.flat_index-in-loop-at.result (c.args.row * c.args.columns + c.loop-at.at % c.args.columns) c.index-entries-flat_index-in-loop-at.result c.flat_index-in-loop-at.ensures.value
    (let w = c.flat_index-in-loop-at.ensures.within in omega (arith, w, size)) c.index-entries-flat_index-in-loop-at.is in
    let place_is = read_at entries c.flat_index-in-loop-at-2.result (c.loop-at.at / c.args.columns * c.args.columns + c.args.place) c.index-entries-flat_index-in-loop-at-2.result c.flat_index-in-loop-at-2.ensures.value
    (let w = c.flat_index-in-loop-at-2.ensures.within in omega (arith, w, size)) c.index-entries-flat_index-in-loop-at-2.is in
    let entry_is = read_at entries c.loop-at.at c.loop-at.at c.index-entries-at.result refl c.loop-at-test.true c.index-entries-at.is in
    let room : c.loop-at.at < length c.loop-at.next = let w = c.loop-at.auto.next in let v = c.requires.room in let u = c.loop-at-test.true in omega (arith, w, v, u, size) in
    record {
      written = written-more c.args.columns c.args.row c.args.place entries c.loop-at.next c.loop-at.at _ _ _ _ c.in-Ok.entry c.loop-at.invariant.pivot row_is place_is entry_is c.in-Ok.ensures room c.loop-at.invariant.written;
      fits = fits-more c.args.columns c.args.row c.args.place entries c.loop-at.next c.loop-at.at _ _ _ _ c.in-Ok.entry c.loop-at.invariant.pivot row_is place_is entry_is c.in-Ok.ensures c.loop-at.invariant.fits;
      pivot = c.loop-at.invariant.pivot;
    }

pub flat_index-requires-clause-room : goal.flat_index-requires-clause-room
flat_index-requires-clause-room c = let size = c.requires.size in omega (arith, size)

pub flat_index-requires-in-loop-at-clause-room : goal.flat_index-requires-in-loop-at-clause-room
flat_index-requires-in-loop-at-clause-room c = let size = c.requires.size in omega (arith, size)

pub flat_index-requires-in-loop-at-2-clause-room : goal.flat_index-requires-in-loop-at-2-clause-room
flat_index-requires-in-loop-at-2-clause-room c = let size = c.requires.size in omega (arith, size)

pub bounds-entries-flat_index : goal.bounds-entries-flat_index
bounds-entries-flat_index c = let w = c.flat_index.ensures.within in let e = c.requires.size in omega (arith, w, e)

pub bounds-entries-flat_index-in-loop-at : goal.bounds-entries-flat_index-in-loop-at
bounds-entries-flat_index-in-loop-at c = let w = c.flat_index-in-loop-at.ensures.within in let e = c.requires.size in omega (arith, w, e)

pub bounds-entries-flat_index-in-loop-at-2 : goal.bounds-entries-flat_index-in-loop-at-2
bounds-entries-flat_index-in-loop-at-2 c = let w = c.flat_index-in-loop-at-2.ensures.within in let e = c.requires.size in omega (arith, w, e)

pub bounds-next-at : goal.bounds-next-at
bounds-next-at c = let w = c.loop-at.auto.next in let v = c.requires.room in let u = c.loop-at-test.true in let e = c.requires.size in omega (arith, w, v, u, e)

pub nonzero_div-at_row : goal.nonzero_div-at_row
nonzero_div-at_row c = let p = c.requires.place in omega (arith, p)

pub nonzero_rem-at_place : goal.nonzero_rem-at_place
nonzero_rem-at_place c = let p = c.requires.place in omega (arith, p)

pub flat_index-requires-in-loop-at-clause-place : goal.flat_index-requires-in-loop-at-clause-place
flat_index-requires-in-loop-at-clause-place c = mod-lt c.loop-at.at (let p = c.requires.place in omega (arith, p))

pub flat_index-requires-in-loop-at-2-clause-row : goal.flat_index-requires-in-loop-at-2-clause-row
flat_index-requires-in-loop-at-2-clause-row c =
    let p = c.requires.place in
    let some : 0 < c.args.columns = omega (arith, p) in
    let within : c.loop-at.at < c.args.rows * c.args.columns = let t = c.loop-at-test.true in let e = c.requires.size in omega (arith, t, e) in
    (div-lt_iff_lt-mul some).1 within

pub exchanged-requires : goal.exchanged-requires
exchanged-requires c = subst (λ x. x ≢ int (pos 0)) (sym c.loop-at.invariant.pivot) c.requires.some

pub loop-at-init : goal.loop-at-init
loop-at-init c =
    let a = c.args in
    let within : c.flat_index.result < length a.entries.now = let w = c.flat_index.ensures.within in let e = c.requires.size in omega (arith, w, e) in
    record {
      written = λ at less. absurd (omega (arith, less));
      fits = λ at less. absurd (omega (arith, less));
      pivot = read_at a.entries.now c.flat_index.result (a.row * a.columns + a.place) c.index-entries-flat_index.result c.flat_index.ensures.value within c.index-entries-flat_index.is;
    }

pub returns-in-Err-clause-within : goal.returns-in-Err-clause-within
returns-in-Err-clause-within c = let t = c.loop-at-test.true in let e = c.requires.size in omega (arith, t, e)

pub returns-in-Err-clause-earlier : goal.returns-in-Err-clause-earlier
returns-in-Err-clause-earlier c = c.loop-at.invariant.fits

pub returns-in-Err-clause-wide : goal.returns-in-Err-clause-wide
returns-in-Err-clause-wide c = λ fits.
    let entries = c.args.entries.now in
    let size = c.requires.size in
    let row_is = read_at entries c.flat_index-in-loop-at.result (c.args.row * c.args.columns + c.loop-at.at % c.args.columns) c.index-entries-flat_index-in-loop-at.result c.flat_index-in-loop-at.ensures.value
    (let w = c.flat_index-in-loop-at.ensures.within in omega (arith, w, size)) c.index-entries-flat_index-in-loop-at.is in
    let place_is = read_at entries c.flat_index-in-loop-at-2.result (c.loop-at.at / c.args.columns * c.args.columns + c.args.place) c.index-entries-flat_index-in-loop-at-2.result c.flat_index-in-loop-at-2.ensures.value
    (let w = c.flat_index-in-loop-at-2.ensures.within in omega (arith, w, size)) c.index-entries-flat_index-in-loop-at-2.is in
    let entry_is = read_at entries c.loop-at.at c.loop-at.at c.index-entries-at.result refl c.loop-at-test.true c.index-entries-at.is in
    c.in-Err.ensures (fits-back c.args.columns c.args.row c.args.place entries c.loop-at.at _ _ _ _ c.loop-at.invariant.pivot row_is place_is entry_is fits)

pub returns-clause-written : goal.returns-clause-written
returns-clause-written c = λ at less. c.loop-at.invariant.written at (let past = c.loop-at-test.false in let e = c.requires.size in omega (arith, less, past, e))

pub returns-clause-fits : goal.returns-clause-fits
returns-clause-fits c = λ at less. c.loop-at.invariant.fits at (let past = c.loop-at-test.false in let e = c.requires.size in omega (arith, less, past, e))
