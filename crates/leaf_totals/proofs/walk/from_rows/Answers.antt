use Rattle.std.proofs.Common.{◌∙◌, arith}
use Rattle.leaf_totals.specs.Keeping.{question_by}
use Rattle.leaf_totals.proofs.KeptLemmas.{ended_first, none_kept}
use Rattle.leaf_totals.proofs.walk.from_rows.Goals as goal

pub returns-in-Some-clause-walk : goal.returns-in-Some-clause-walk
returns-in-Some-clause-walk g c =
    let ended = c.in-Some.ensures.walk in
    ended_first (question_by c.args.whole.now) c.add_rows.new.totals c.in-Some.end ended.0 ended.1.0 ended.1.1

pub returns-in-Some-clause-kept : goal.returns-in-Some-clause-kept
returns-in-Some-clause-kept g c = none_kept (question_by c.args.whole.now) c.add_rows.new.totals.kept c.in-Some.ensures.walk.1.1

pub add_rows-requires-clause-whole : goal.add_rows-requires-clause-whole
add_rows-requires-clause-whole g c = c.requires.whole

pub add_rows-requires-clause-room : goal.add_rows-requires-clause-room
add_rows-requires-clause-room g c = let room = c.requires.room in omega (arith, room)

pub from_cuts-requires-clause-whole : goal.from_cuts-requires-clause-whole
from_cuts-requires-clause-whole g c = c.requires.whole

pub from_cuts-requires-clause-narrow : goal.from_cuts-requires-clause-narrow
from_cuts-requires-clause-narrow g c = c.requires.narrow

pub from_cuts-requires-clause-places : goal.from_cuts-requires-clause-places
from_cuts-requires-clause-places g c = c.requires.places

pub from_cuts-requires-clause-before : goal.from_cuts-requires-clause-before
from_cuts-requires-clause-before g c = c.in-None.ensures.walk.0

pub from_cuts-requires-clause-kept : goal.from_cuts-requires-clause-kept
from_cuts-requires-clause-kept g c = c.in-None.ensures.walk.1

pub from_cuts-requires-clause-room : goal.from_cuts-requires-clause-room
from_cuts-requires-clause-room g c = let same = c.add_rows.ensures.room in let room = c.requires.room in omega (arith, same, room)

pub returns-in-None-clause-walk : goal.returns-in-None-clause-walk
returns-in-None-clause-walk g c = c.from_cuts.ensures.walk

pub returns-in-None-clause-kept : goal.returns-in-None-clause-kept
returns-in-None-clause-kept g c = c.from_cuts.ensures.kept

pub returns-in-None-clause-room : goal.returns-in-None-clause-room
returns-in-None-clause-room g c = c.from_cuts.ensures.room ∙ c.add_rows.ensures.room

pub returns-in-Some-clause-room : goal.returns-in-Some-clause-room
returns-in-Some-clause-room g c = c.add_rows.ensures.room

pub returns-in-Some-clause-rises : goal.returns-in-Some-clause-rises
returns-in-Some-clause-rises g c = c.add_rows.ensures.rises

pub returns-in-None-clause-rises : goal.returns-in-None-clause-rises
returns-in-None-clause-rises g c = let first = c.add_rows.ensures.rises in let then = c.from_cuts.ensures.rises in omega (arith, first, then)
