use Rattle.node_solve.proofs.LiveLemmas.{full-kept, full-places, dead-kept, dead-places, live-kept, live-placed}
use Rattle.std.proofs.Common.{◌<◌, ◌∙◌, arith, length}
use Rattle.node_solve.proofs.places.note.Goals as goal

pub returns-then-count-ge-CUT_LIMIT-clause-cuts : goal.returns-then-count-ge-CUT_LIMIT-clause-cuts
returns-then-count-ge-CUT_LIMIT-clause-cuts c = full-kept c.args.cuts.now.items c.args.places.now.items c.args.place c.args.cut.now (let size = c.args.cuts.now.ok.0 in omega (arith, size, c.len-count.ensures))

pub returns-then-count-ge-CUT_LIMIT-clause-places : goal.returns-then-count-ge-CUT_LIMIT-clause-places
returns-then-count-ge-CUT_LIMIT-clause-places c = full-places c.args.cuts.now.items c.args.places.now.items c.args.place c.args.cut.now (let size = c.args.cuts.now.ok.0 in omega (arith, size, c.len-count.ensures))

pub returns-then-not-cut-clause-cuts : goal.returns-then-not-cut-clause-cuts
returns-then-not-cut-clause-cuts c = dead-kept c.args.cuts.now.items c.args.places.now.items c.args.place c.args.cut.now c.if-not-cut.true

pub returns-then-not-cut-clause-places : goal.returns-then-not-cut-clause-places
returns-then-not-cut-clause-places c = dead-places c.args.cuts.now.items c.args.places.now.items c.args.place c.args.cut.now c.if-not-cut.true

pub returns-clause-cuts : goal.returns-clause-cuts
returns-clause-cuts c =
    let room : length c.args.cuts.now.items < 200 = let size = c.args.cuts.now.ok.0 in omega (arith, size, c.len-count.ensures) in
    c.in-Ok.ensures ∙ live-kept c.args.cuts.now.items c.args.places.now.items c.args.place c.args.cut.now room c.if-not-cut.false

pub returns-clause-places : goal.returns-clause-places
returns-clause-places c =
    let room : length c.args.cuts.now.items < 200 = let size = c.args.cuts.now.ok.0 in omega (arith, size, c.len-count.ensures) in
    c.in-Ok-push.ensures.items ∙ live-placed c.args.cuts.now.items c.args.places.now.items c.args.place c.args.cut.now room c.if-not-cut.false
