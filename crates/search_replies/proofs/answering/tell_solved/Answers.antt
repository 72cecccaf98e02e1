use Rattle.std.proofs.Common.{arith}
use Rattle.search_replies.specs.Solve.{limits_of}
use Rattle.search_replies.proofs.ReplyLemmas.{few-nodes, solve-told, solve-untold, solve-script, solve-order}
use Rattle.search_replies.proofs.answering.tell_solved.Goals as goal

pub returns-clause-answered : goal.returns-clause-answered
returns-clause-answered c = λ old options solved script.
    solve-told (limits_of options) (few-nodes options) old c.args.env.now c.args.answer solved script c.tell_answer-told.result c.args.reply.now.items c.tell_answer-told.new.reply.items c.requires.empty c.tell_answer-told.ensures.tellable c.tell_answer-told.ensures.text

pub returns-clause-unfinished : goal.returns-clause-unfinished
returns-clause-unfinished c = λ old options solved script. solve-untold (limits_of options) (few-nodes options) old c.args.env.now c.args.answer solved script c.tell_answer-told.result c.tell_answer-told.ensures.tellable

pub returns-clause-script : goal.returns-clause-script
returns-clause-script c = λ old options solved script. solve-script (limits_of options) (few-nodes options) old c.args.env.now c.args.answer solved script

pub returns-clause-order : goal.returns-clause-order
returns-clause-order c = λ old options solved order. solve-order (limits_of options) (omega arith) old c.args.env.now c.args.answer order solved
