use Rattle.std.proofs.Common.{◌≤◌, ap, arith, length}
use Rattle.search_parts.proofs.KeepableLemmas.{without_at-past}
use Rattle.search_parts.proofs.editing.take_number.Goals as goal

pub returns-then-place-as_slice : goal.returns-then-place-as_slice
returns-then-place-as_slice c =
    let past : length c.args.point.now ≤ c.args.place = let e = ap length c.as_slice.ensures in omega arith in
    without_at-past c.args.point.now c.args.place past
