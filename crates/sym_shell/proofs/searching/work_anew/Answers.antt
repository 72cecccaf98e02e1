use Rattle.std.proofs.Common.{sym, subst}
use Rattle.tree_search.specs.Within.{IsGapLimit}
use Rattle.tree_search.specs.declared.limits.Limits.{Limits}
use Rattle.search_replies.specs.Solve.{limits_of}
use Rattle.search_replies.proofs.ReplyLemmas.{is-solved, solved-shaped}
use Rattle.sym_shell.proofs.StepLemmas.{gap-limit}
use Rattle.sym_shell.proofs.searching.work_anew.Goals as goal

pub solve-answer-requires-clause-gap : goal.solve-answer-requires-clause-gap
solve-answer-requires-clause-gap c = subst (λ (l : Limits). IsGapLimit l.gap) (sym c.limits_of.ensures) (gap-limit c.args.options.gap c.requires.gap)

pub tell_solved-requires-clause-answer : goal.tell_solved-requires-clause-answer
tell_solved-requires-clause-answer c =
    solved-shaped (limits_of c.args.options) c.args.env.now c.solve-answer.new.env c.solve-answer.result
    (is-solved c.args.options c.limits_of.result c.limits_of.ensures c.args.env.now c.solve-answer.new.env c.solve-answer.result c.solve-answer.ensures.solves c.solve-answer.ensures.true_answer c.solve-answer.ensures.complete)

pub returns-clause-answered : goal.returns-clause-answered
returns-clause-answered c =
    c.tell_solved.ensures.answered c.args.env.now c.args.options
    (is-solved c.args.options c.limits_of.result c.limits_of.ensures c.args.env.now c.solve-answer.new.env c.solve-answer.result c.solve-answer.ensures.solves c.solve-answer.ensures.true_answer c.solve-answer.ensures.complete) c.requires.script

pub returns-clause-unfinished : goal.returns-clause-unfinished
returns-clause-unfinished c =
    c.tell_solved.ensures.unfinished c.args.env.now c.args.options
    (is-solved c.args.options c.limits_of.result c.limits_of.ensures c.args.env.now c.solve-answer.new.env c.solve-answer.result c.solve-answer.ensures.solves c.solve-answer.ensures.true_answer c.solve-answer.ensures.complete) c.requires.script

pub returns-clause-script : goal.returns-clause-script
returns-clause-script c =
    c.tell_solved.ensures.script c.args.env.now c.args.options
    (is-solved c.args.options c.limits_of.result c.limits_of.ensures c.args.env.now c.solve-answer.new.env c.solve-answer.result c.solve-answer.ensures.solves c.solve-answer.ensures.true_answer c.solve-answer.ensures.complete) c.requires.script

pub returns-clause-order : goal.returns-clause-order
returns-clause-order c =
    c.tell_solved.ensures.order c.args.env.now c.args.options
    (is-solved c.args.options c.limits_of.result c.limits_of.ensures c.args.env.now c.solve-answer.new.env c.solve-answer.result c.solve-answer.ensures.solves c.solve-answer.ensures.true_answer c.solve-answer.ensures.complete) c.requires.order
