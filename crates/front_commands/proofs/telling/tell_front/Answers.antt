use Rattle.front_commands.proofs.ReplyLemmas.{front-told, front-untold}
use Rattle.front_commands.proofs.telling.tell_front.Goals as goal

pub returns-clause-answered : goal.returns-clause-answered
returns-clause-answered c = λ old l looked.
    front-told c.tell_looked_for-told.result l old c.args.env.now c.args.answer looked c.tell_looked_for-told.ensures.room c.args.reply.now.items c.tell_looked_for-told.new.reply.items c.requires.empty c.tell_looked_for-told.ensures.text

pub returns-clause-unfinished : goal.returns-clause-unfinished
returns-clause-unfinished c = λ old l looked. front-untold c.tell_looked_for-told.result l old c.args.env.now c.args.answer looked c.tell_looked_for-told.ensures.room
