use Rattle.std.proofs.Common.{◌≡◌, ◌≢◌, ◌<◌, ◌+◌, ◌*◌, ◌∙◌, sym, subst, arith, length, pos}
use Rattle.frac128.specs.Rational.{int}
use Rattle.table_entries.specs.Relaxation.{pivoted_entry}
use Rattle.table_entries.specs.FlatSteps.{dense_entry}
use Rattle.table_entries.proofs.StepLemmas.{read_at}
use Rattle.table_entries.proofs.RowLemmas.{row_more, fits_more, leaving_fits, leaving_fits_back, leaving_value}
use Rattle.table_entries.proofs.rows.write_leaving.Goals as goal

pub flat_index-requires-clause-room : goal.flat_index-requires-clause-room
flat_index-requires-clause-room c = let size = c.requires.size in omega (arith, size)

pub flat_index-at-requires-clause-room : goal.flat_index-at-requires-clause-room
flat_index-at-requires-clause-room c = let size = c.requires.size in omega (arith, size)

pub bounds-entries-flat_index : goal.bounds-entries-flat_index
bounds-entries-flat_index c = let w = c.flat_index.ensures.within in let e = c.requires.size in omega (arith, w, e)

pub bounds-entries-at : goal.bounds-entries-at
bounds-entries-at c = let w = c.flat_index-at.ensures.within in let e = c.requires.size in omega (arith, w, e)

pub bounds-next-at : goal.bounds-next-at
bounds-next-at c = let w = c.loop-at_place.auto.next in let v = c.requires.room in let u = c.flat_index-at.ensures.within in omega (arith, w, v, u)

pub exchanged-requires : goal.exchanged-requires
exchanged-requires c = subst (λ x. x ≢ int (pos 0)) (sym c.loop-at_place.invariant.pivot) c.requires.some

pub loop-at_place-init : goal.loop-at_place-init
loop-at_place-init c =
    let a = c.args in
    let within : c.flat_index.result < length a.entries.now = let w = c.flat_index.ensures.within in let e = c.requires.size in omega (arith, w, e) in
    record {
      written = λ k less. absurd (omega (arith, less));
      fits = λ k less. absurd (omega (arith, less));
      pivot = read_at a.entries.now c.flat_index.result (a.row * a.columns + a.place) c.index-entries-flat_index.result c.flat_index.ensures.value within c.index-entries-flat_index.is;
    }

pub loop-at_place-preserved : goal.loop-at_place-preserved
loop-at_place-preserved c =
    let a = c.args in
    let n = a.columns in
    let entries = a.entries.now in
    let k = c.loop-at_place.at_place in
    let k_within : k < n = c.loop-at_place-test.true in
    let within : c.flat_index-at.result < length entries = let w = c.flat_index-at.ensures.within in let e = c.requires.size in omega (arith, w, e) in
    let x_is : c.index-entries-at.result ≡ dense_entry n entries a.row k = read_at entries c.flat_index-at.result (a.row * n + k) c.index-entries-at.result c.flat_index-at.ensures.value within c.index-entries-at.is in
    let room : length c.loop-at_place.next ≡ a.rows * n = let v = c.loop-at_place.auto.next in let u = c.requires.room in omega (arith, v, u) in
    let same : c.in-Ok.entry ≡ pivoted_entry (dense_entry n entries) a.row a.place a.row k = c.in-Ok.ensures.1 ∙ leaving_value n a.row a.place entries k _ _ c.loop-at_place.invariant.pivot x_is in
    record {
      written = row_more n a.rows a.row a.place a.row c.requires.row entries c.loop-at_place.next c.flat_index-at.result k k_within c.flat_index-at.ensures.value c.in-Ok.entry room same c.loop-at_place.invariant.written;
      fits = fits_more n a.row a.place a.row entries k c.loop-at_place.invariant.fits (leaving_fits n a.row a.place entries k _ _ c.loop-at_place.invariant.pivot x_is c.in-Ok.ensures.0);
      pivot = c.loop-at_place.invariant.pivot;
    }

pub returns-in-Err-clause-wide : goal.returns-in-Err-clause-wide
returns-in-Err-clause-wide c =
    let a = c.args in
    let n = a.columns in
    let entries = a.entries.now in
    let k = c.loop-at_place.at_place in
    let within : c.flat_index-at.result < length entries = let w = c.flat_index-at.ensures.within in let e = c.requires.size in omega (arith, w, e) in
    let x_is : c.index-entries-at.result ≡ dense_entry n entries a.row k = read_at entries c.flat_index-at.result (a.row * n + k) c.index-entries-at.result c.flat_index-at.ensures.value within c.index-entries-at.is in
    (k, (c.loop-at_place-test.true, λ fits. c.in-Err.ensures (leaving_fits_back n a.row a.place entries k _ _ c.loop-at_place.invariant.pivot x_is fits)))

pub returns-clause-written : goal.returns-clause-written
returns-clause-written c = λ k less. c.loop-at_place.invariant.written k (let past = c.loop-at_place-test.false in omega (arith, less, past))

pub returns-clause-fits : goal.returns-clause-fits
returns-clause-fits c = λ k less. c.loop-at_place.invariant.fits k (let past = c.loop-at_place-test.false in omega (arith, less, past))
