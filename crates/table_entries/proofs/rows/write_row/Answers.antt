use Rattle.std.proofs.Common.{◌≡◌, ◌≢◌, ◌<◌, ◌*◌, ◌+◌, ◌∙◌, refl, sym, subst, arith, length, pos}
use Rattle.frac128.specs.Rational.{int}
use Rattle.table_entries.specs.Relaxation.{pivoted_entry}
use Rattle.table_entries.specs.FlatSteps.{dense_entry}
use Rattle.table_entries.proofs.StepLemmas.{read_at}
use Rattle.table_entries.proofs.RowLemmas.{moved_fits, moved_fits_back, moved_is, row_more, others_kept, fits_more}
use Rattle.table_entries.proofs.rows.write_row.Goals as goal

pub returns-in-Err-clause-wide : goal.returns-in-Err-clause-wide
returns-in-Err-clause-wide c =
    let n = c.args.columns in
    let entries = c.args.entries.now in
    let at = c.loop-at_place in
    let k = c.loop-at_place.at_place in
    let size = c.requires.size in
    let k_within : k < n = c.loop-at_place-test.true in
    let y_is : c.index-next-flat_index.result ≡ pivoted_entry (dense_entry n entries) c.args.row c.args.place c.args.row k =
    read_at c.loop-at_place.next c.flat_index-in-loop-at_place.result (c.args.row * n + k) c.index-next-flat_index.result c.flat_index-in-loop-at_place.ensures.value
    (let w = c.flat_index-in-loop-at_place.ensures.within in let v = c.loop-at_place.auto.next in let u = c.requires.room in omega (arith, w, v, u)) c.index-next-flat_index.is
    ∙ c.loop-at_place.invariant.others c.args.row k (λ e. c.requires.other (sym e)) k_within ∙ c.requires.leaving k k_within in
    let t_is : c.index-entries-at.result ≡ dense_entry n entries c.args.at_row k = read_at entries c.flat_index-at.result (c.args.at_row * n + k) c.index-entries-at.result c.flat_index-at.ensures.value
    (let w = c.flat_index-at.ensures.within in omega (arith, w, size)) c.index-entries-at.is in (
      k,
      (
        k_within,
        λ fits. c.in-Err.ensures
            (moved_fits_back n c.args.row c.args.place c.args.at_row c.requires.other entries k _ _ _ _ c.loop-at_place.invariant.pivot c.loop-at_place.invariant.in_place t_is y_is (c.requires.leaving_fits k k_within) fits),
      ),
    )

pub loop-at_place-preserved : goal.loop-at_place-preserved
loop-at_place-preserved c =
    let n = c.args.columns in
    let entries = c.args.entries.now in
    let at = c.loop-at_place in
    let k = c.loop-at_place.at_place in
    let size = c.requires.size in
    let k_within : k < n = c.loop-at_place-test.true in
    let y_is : c.index-next-flat_index.result ≡ pivoted_entry (dense_entry n entries) c.args.row c.args.place c.args.row k =
    read_at c.loop-at_place.next c.flat_index-in-loop-at_place.result (c.args.row * n + k) c.index-next-flat_index.result c.flat_index-in-loop-at_place.ensures.value
    (let w = c.flat_index-in-loop-at_place.ensures.within in let v = c.loop-at_place.auto.next in let u = c.requires.room in omega (arith, w, v, u)) c.index-next-flat_index.is
    ∙ c.loop-at_place.invariant.others c.args.row k (λ e. c.requires.other (sym e)) k_within ∙ c.requires.leaving k k_within in
    let t_is : c.index-entries-at.result ≡ dense_entry n entries c.args.at_row k = read_at entries c.flat_index-at.result (c.args.at_row * n + k) c.index-entries-at.result c.flat_index-at.ensures.value
    (let w = c.flat_index-at.ensures.within in omega (arith, w, size)) c.index-entries-at.is in
    let room : length c.loop-at_place.next ≡ c.args.rows * n = (let v = c.loop-at_place.auto.next in let u = c.requires.room in omega (arith, v, u)) in
    let same : c.in-Ok.entry ≡ pivoted_entry (dense_entry n entries) c.args.row c.args.place c.args.at_row k =
    c.in-Ok.ensures.1 ∙ moved_is n c.args.row c.args.place c.args.at_row c.requires.other entries k _ _ _ _ c.loop-at_place.invariant.pivot c.loop-at_place.invariant.in_place t_is y_is (c.requires.leaving_fits k k_within) in
    record {
      written = row_more n c.args.rows c.args.row c.args.place c.args.at_row c.requires.at_row entries c.loop-at_place.next c.flat_index-at.result k k_within c.flat_index-at.ensures.value c.in-Ok.entry room same c.loop-at_place.invariant.written;
      fits = fits_more n c.args.row c.args.place c.args.at_row entries k c.loop-at_place.invariant.fits
          (moved_fits n c.args.row c.args.place c.args.at_row c.requires.other entries k _ _ _ _ c.loop-at_place.invariant.pivot c.loop-at_place.invariant.in_place t_is y_is (c.requires.leaving_fits k k_within) c.in-Ok.ensures.0);
      others = λ j l other q. others_kept n c.args.rows c.args.row c.args.place c.args.at_row c.requires.at_row entries c.loop-at_place.next c.flat_index-at.result k k_within c.flat_index-at.ensures.value c.in-Ok.entry room j l other q
          ∙ c.loop-at_place.invariant.others j l other q;
      pivot = c.loop-at_place.invariant.pivot;
      in_place = c.loop-at_place.invariant.in_place;
    }

pub flat_index-requires-clause-room : goal.flat_index-requires-clause-room
flat_index-requires-clause-room c = let size = c.requires.size in omega (arith, size)

pub flat_index-requires-2-clause-room : goal.flat_index-requires-2-clause-room
flat_index-requires-2-clause-room c = let size = c.requires.size in omega (arith, size)

pub flat_index-requires-in-loop-at_place-clause-room : goal.flat_index-requires-in-loop-at_place-clause-room
flat_index-requires-in-loop-at_place-clause-room c = let size = c.requires.size in omega (arith, size)

pub flat_index-at-requires-clause-room : goal.flat_index-at-requires-clause-room
flat_index-at-requires-clause-room c = let size = c.requires.size in omega (arith, size)

pub bounds-entries-flat_index : goal.bounds-entries-flat_index
bounds-entries-flat_index c = let w = c.flat_index.ensures.within in let e = c.requires.size in omega (arith, w, e)

pub bounds-entries-flat_index-2 : goal.bounds-entries-flat_index-2
bounds-entries-flat_index-2 c = let w = c.flat_index-2.ensures.within in let e = c.requires.size in omega (arith, w, e)

pub bounds-next-flat_index : goal.bounds-next-flat_index
bounds-next-flat_index c = let w = c.loop-at_place.auto.next in let v = c.requires.room in let u = c.flat_index-in-loop-at_place.ensures.within in omega (arith, w, v, u)

pub bounds-entries-at : goal.bounds-entries-at
bounds-entries-at c = let w = c.flat_index-at.ensures.within in let e = c.requires.size in omega (arith, w, e)

pub bounds-next-at : goal.bounds-next-at
bounds-next-at c = let w = c.loop-at_place.auto.next in let v = c.requires.room in let u = c.flat_index-at.ensures.within in omega (arith, w, v, u)

pub moved-requires : goal.moved-requires
moved-requires c = subst (λ x. x ≢ int (pos 0)) (sym c.loop-at_place.invariant.pivot) c.requires.some

pub loop-at_place-init : goal.loop-at_place-init
loop-at_place-init c =
    let a = c.args in
    let within : c.flat_index.result < length a.entries.now = let w = c.flat_index.ensures.within in let e = c.requires.size in omega (arith, w, e) in
    let within-2 : c.flat_index-2.result < length a.entries.now = let w = c.flat_index-2.ensures.within in let e = c.requires.size in omega (arith, w, e) in
    record {
      written = λ k less. absurd (omega (arith, less));
      fits = λ k less. absurd (omega (arith, less));
      others = λ i k other less. refl;
      pivot = read_at a.entries.now c.flat_index.result (a.row * a.columns + a.place) c.index-entries-flat_index.result c.flat_index.ensures.value within c.index-entries-flat_index.is;
      in_place = read_at a.entries.now c.flat_index-2.result (a.at_row * a.columns + a.place) c.index-entries-flat_index-2.result c.flat_index-2.ensures.value within-2 c.index-entries-flat_index-2.is;
    }

pub returns-in-Err-clause-others : goal.returns-in-Err-clause-others
returns-in-Err-clause-others c = c.loop-at_place.invariant.others

pub returns-clause-written : goal.returns-clause-written
returns-clause-written c = λ k less. c.loop-at_place.invariant.written k (let past = c.loop-at_place-test.false in omega (arith, less, past))

pub returns-clause-fits : goal.returns-clause-fits
returns-clause-fits c = λ k less. c.loop-at_place.invariant.fits k (let past = c.loop-at_place-test.false in omega (arith, less, past))

pub returns-clause-others : goal.returns-clause-others
returns-clause-others c = c.loop-at_place.invariant.others

pub flat_index-requires-clause-row : goal.flat_index-requires-clause-row
flat_index-requires-clause-row c = c.requires.row

pub flat_index-requires-clause-place : goal.flat_index-requires-clause-place
flat_index-requires-clause-place c = c.requires.place

pub flat_index-requires-2-clause-row : goal.flat_index-requires-2-clause-row
flat_index-requires-2-clause-row c = c.requires.at_row

pub flat_index-requires-2-clause-place : goal.flat_index-requires-2-clause-place
flat_index-requires-2-clause-place c = c.requires.place

pub flat_index-requires-in-loop-at_place-clause-row : goal.flat_index-requires-in-loop-at_place-clause-row
flat_index-requires-in-loop-at_place-clause-row c = c.requires.row

pub flat_index-requires-in-loop-at_place-clause-place : goal.flat_index-requires-in-loop-at_place-clause-place
flat_index-requires-in-loop-at_place-clause-place c = c.loop-at_place-test.true

pub flat_index-at-requires-clause-row : goal.flat_index-at-requires-clause-row
flat_index-at-requires-clause-row c = c.requires.at_row

pub flat_index-at-requires-clause-place : goal.flat_index-at-requires-clause-place
flat_index-at-requires-clause-place c = c.loop-at_place-test.true

pub returns-in-Err-clause-written : goal.returns-in-Err-clause-written
returns-in-Err-clause-written c = tt

pub returns-in-Err-clause-fits : goal.returns-in-Err-clause-fits
returns-in-Err-clause-fits c = tt

pub returns-clause-wide : goal.returns-clause-wide
returns-clause-wide c = tt
