use Rattle.std.proofs.Common.{arith}
use Rattle.reply_texts.proofs.TextLemmas.{room-more, room-all}
use Rattle.reply_texts.proofs.answers.have_room.Goals as goal

pub loop-number-preserved : goal.loop-number-preserved
loop-number-preserved c = room-more c.args.numbers.now c.loop-number.number-index c.number-item.result c.loop-number-test.true c.number-item.is c.has_room.ensures c.loop-number.invariant

pub returns : goal.returns
returns c = room-all c.args.numbers.now c.loop-number.number-index (omega (arith, c.loop-number-test.false)) c.loop-number.invariant
