use Rattle.std.proofs.Common.{◌∙◌, sym, ap, subst, length, arith}
use Rattle.leaf_totals.specs.Keeping.{question_by, AreKeptTotals}
use Rattle.leaf_totals.proofs.KeptLemmas.{one_kept, two_count, two_kept, two_before, ended_second}
use Rattle.leaf_totals.proofs.walk.from_cuts.Goals as goal

pub add_columns-requires-clause-kept : goal.add_columns-requires-clause-kept
add_columns-requires-clause-kept g c =
    let q = question_by c.args.whole.now in
    let done = c.in-None.ensures.walk in
    two_kept q c.args.totals.now c.add_cuts.new.totals c.requires.before c.requires.kept done.0 done.1.0 done.1.1

pub add_columns-requires-clause-before : goal.add_columns-requires-clause-before
add_columns-requires-clause-before g c =
    let q = question_by c.args.whole.now in
    let done = c.in-None.ensures.walk in
    two_before q c.args.totals.now c.add_cuts.new.totals c.requires.before c.requires.kept done.0 done.1.0 done.1.1

pub returns-in-Some-clause-walk : goal.returns-in-Some-clause-walk
returns-in-Some-clause-walk g c =
    let q = question_by c.args.whole.now in
    let ended = c.in-Some.ensures.walk in
    ended_second q c.add_cuts.new.totals c.in-Some.end c.args.totals.now.total ended.0 ended.1.0 (ended.1.1 ∙ c.requires.kept)

pub returns-in-Some-clause-kept : goal.returns-in-Some-clause-kept
returns-in-Some-clause-kept g c =
    let q = question_by c.args.whole.now in
    let ended = c.in-Some.ensures.walk in
    subst (AreKeptTotals q) (sym ended.1.1) (one_kept q c.args.totals.now c.requires.before c.requires.kept)

pub add_cuts-requires-clause-whole : goal.add_cuts-requires-clause-whole
add_cuts-requires-clause-whole g c = c.requires.whole

pub add_cuts-requires-clause-places : goal.add_cuts-requires-clause-places
add_cuts-requires-clause-places g c = c.requires.places

pub add_cuts-requires-clause-before : goal.add_cuts-requires-clause-before
add_cuts-requires-clause-before g c = c.requires.before

pub add_cuts-requires-clause-room : goal.add_cuts-requires-clause-room
add_cuts-requires-clause-room g c =
    let one = ap length c.requires.kept in
    let room = c.requires.room in
    omega (arith, one, room)

pub add_columns-requires-clause-whole : goal.add_columns-requires-clause-whole
add_columns-requires-clause-whole g c = c.requires.whole

pub add_columns-requires-clause-narrow : goal.add_columns-requires-clause-narrow
add_columns-requires-clause-narrow g c = c.requires.narrow

pub add_columns-requires-clause-places : goal.add_columns-requires-clause-places
add_columns-requires-clause-places g c = c.requires.places

pub add_columns-requires-clause-rows : goal.add_columns-requires-clause-rows
add_columns-requires-clause-rows g c = c.requires.before.reached

pub add_columns-requires-clause-cuts : goal.add_columns-requires-clause-cuts
add_columns-requires-clause-cuts g c = c.in-None.ensures.walk.0

pub add_columns-requires-clause-some : goal.add_columns-requires-clause-some
add_columns-requires-clause-some g c =
    let q = question_by c.args.whole.now in
    let done = c.in-None.ensures.walk in
    let two = two_count q c.args.totals.now c.add_cuts.new.totals c.requires.before c.requires.kept done.0 done.1.0 done.1.1 in
    omega (arith, two)

pub add_columns-requires-clause-few : goal.add_columns-requires-clause-few
add_columns-requires-clause-few g c =
    let q = question_by c.args.whole.now in
    let done = c.in-None.ensures.walk in
    let two = two_count q c.args.totals.now c.add_cuts.new.totals c.requires.before c.requires.kept done.0 done.1.0 done.1.1 in
    omega (arith, two)

pub add_columns-requires-clause-room : goal.add_columns-requires-clause-room
add_columns-requires-clause-room g c =
    let same = c.add_cuts.ensures.room in
    let room = c.requires.room in
    omega (arith, same, room)

pub returns-in-None-clause-walk : goal.returns-in-None-clause-walk
returns-in-None-clause-walk g c = c.add_columns.ensures.walk

pub returns-in-None-clause-kept : goal.returns-in-None-clause-kept
returns-in-None-clause-kept g c = c.add_columns.ensures.kept

pub returns-in-None-clause-room : goal.returns-in-None-clause-room
returns-in-None-clause-room g c = c.add_columns.ensures.room ∙ c.add_cuts.ensures.room

pub returns-in-Some-clause-room : goal.returns-in-Some-clause-room
returns-in-Some-clause-room g c = c.add_cuts.ensures.room

pub returns-in-Some-clause-rises : goal.returns-in-Some-clause-rises
returns-in-Some-clause-rises g c = c.add_cuts.ensures.rises
