use Rattle.std.proofs.Common.{◌≡◌, ◌<◌, ◌+◌, ◌*◌, arith, length}
use Rattle.table_entries.specs.FlatSteps.{dense_entry}
use Rattle.table_entries.proofs.StepLemmas.{read_at}
use Rattle.table_entries.proofs.LeftLemmas.{taken_more, others_stay}
use Rattle.table_entries.proofs.rows.take_row.Goals as goal

pub loop-place-preserved : goal.loop-place-preserved
loop-place-preserved c =
    let a = c.args in
    let n = a.columns in
    let k = c.loop-place.place in
    let at = c.flat_index-at.result in
    let inside : at < length a.next.now = let w = c.flat_index-at.ensures.within in let e = c.requires.next in omega (arith, w, e) in
    let room : at < length c.loop-place.entries = let w = c.flat_index-at.ensures.within in let e = c.loop-place.auto.entries in let v = c.requires.size in omega (arith, w, e, v) in
    let x_is : c.index-next-at.result ≡ dense_entry n a.next.now a.row k = read_at a.next.now at (a.row * n + k) c.index-next-at.result c.flat_index-at.ensures.value inside c.index-next-at.is in
    record {
      taken = taken_more n a.row c.loop-place.entries a.next.now at k c.loop-place-test.true c.flat_index-at.ensures.value room c.index-next-at.result x_is c.loop-place.invariant.taken;
      others = others_stay n a.row c.loop-place.entries a.next.now at k c.loop-place-test.true c.flat_index-at.ensures.value room c.index-next-at.result x_is a.entries.now c.loop-place.invariant.others;
    }
