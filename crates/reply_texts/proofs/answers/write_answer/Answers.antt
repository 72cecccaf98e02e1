use Rattle.std.proofs.Common.{◌≡◌, ◌++◌, sym, subst}
use Rattle.std.specs.Prelude.{IfOk}
use Rattle.search_answers.specs.declared.answers.Answer.{Answer}
use Rattle.reply_texts.specs.Reports.{AnswerIsShaped}
use Rattle.reply_texts.specs.Texts.{answer_text}
use Rattle.reply_texts.proofs.answers.write_answer.Goals as goal

pub returns-in-Optimal : goal.returns-in-Optimal
returns-in-Optimal c = subst (λ (a : Answer). IfOk c.write_optimal.result (λ _. c.write_optimal.new.reply.items ≡ c.args.reply.now.items ++ answer_text c.args.model.now a)) (sym c.in-Optimal.is) c.write_optimal.ensures

pub returns-in-Stopped : goal.returns-in-Stopped
returns-in-Stopped c = subst (λ (a : Answer). IfOk c.write_stopped.result (λ _. c.write_stopped.new.reply.items ≡ c.args.reply.now.items ++ answer_text c.args.model.now a)) (sym c.in-Stopped.is) c.write_stopped.ensures

pub write_optimal-requires-clause-shape : goal.write_optimal-requires-clause-shape
write_optimal-requires-clause-shape c = (subst (AnswerIsShaped c.args.model.now) c.in-Optimal.is c.requires).0

pub write_optimal-requires-clause-best : goal.write_optimal-requires-clause-best
write_optimal-requires-clause-best c = (subst (AnswerIsShaped c.args.model.now) c.in-Optimal.is c.requires).1

pub returns-in-Within : goal.returns-in-Within
returns-in-Within c = subst (λ (a : Answer). IfOk c.write_within.result (λ _. c.write_within.new.reply.items ≡ c.args.reply.now.items ++ answer_text c.args.model.now a)) (sym c.in-Within.is) c.write_within.ensures

pub write_within-requires-clause-shape : goal.write_within-requires-clause-shape
write_within-requires-clause-shape c = (subst (AnswerIsShaped c.args.model.now) c.in-Within.is c.requires).0

pub write_within-requires-clause-best : goal.write_within-requires-clause-best
write_within-requires-clause-best c = (subst (AnswerIsShaped c.args.model.now) c.in-Within.is c.requires).1
