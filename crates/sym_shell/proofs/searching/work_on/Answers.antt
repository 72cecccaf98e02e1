use Rattle.std.proofs.Common.{sym, subst}
use Rattle.tree_search.specs.Within.{IsGapLimit}
use Rattle.tree_search.specs.declared.limits.Limits.{Limits}
use Rattle.search_replies.specs.Solve.{limits_of}
use Rattle.search_replies.proofs.ReplyLemmas.{is-warmed, warmed-shaped}
use Rattle.sym_shell.proofs.StepLemmas.{gap-limit}
use Rattle.sym_shell.proofs.searching.work_on.Goals as goal

pub warm_solve-answer-requires-clause-gap : goal.warm_solve-answer-requires-clause-gap
warm_solve-answer-requires-clause-gap c = subst (λ (l : Limits). IsGapLimit l.gap) (sym c.limits_of.ensures) (gap-limit c.args.options.gap c.requires.gap)

pub tell_warmed-requires-clause-answer : goal.tell_warmed-requires-clause-answer
tell_warmed-requires-clause-answer c =
    warmed-shaped (limits_of c.args.options) c.args.env.now c.warm_solve-answer.new.env c.warm_solve-answer.result
    (is-warmed c.args.options c.limits_of.result c.limits_of.ensures c.args.env.now c.warm_solve-answer.new.env c.warm_solve-answer.result c.warm_solve-answer.ensures.warms c.warm_solve-answer.ensures.true_answer c.warm_solve-answer.ensures.complete)

pub returns-clause-answered : goal.returns-clause-answered
returns-clause-answered c =
    c.tell_warmed.ensures.answered c.args.env.now c.args.options
    (is-warmed c.args.options c.limits_of.result c.limits_of.ensures c.args.env.now c.warm_solve-answer.new.env c.warm_solve-answer.result c.warm_solve-answer.ensures.warms c.warm_solve-answer.ensures.true_answer c.warm_solve-answer.ensures.complete) c.requires.script

pub returns-clause-unfinished : goal.returns-clause-unfinished
returns-clause-unfinished c =
    c.tell_warmed.ensures.unfinished c.args.env.now c.args.options
    (is-warmed c.args.options c.limits_of.result c.limits_of.ensures c.args.env.now c.warm_solve-answer.new.env c.warm_solve-answer.result c.warm_solve-answer.ensures.warms c.warm_solve-answer.ensures.true_answer c.warm_solve-answer.ensures.complete) c.requires.script

pub returns-clause-script : goal.returns-clause-script
returns-clause-script c =
    c.tell_warmed.ensures.script c.args.env.now c.args.options
    (is-warmed c.args.options c.limits_of.result c.limits_of.ensures c.args.env.now c.warm_solve-answer.new.env c.warm_solve-answer.result c.warm_solve-answer.ensures.warms c.warm_solve-answer.ensures.true_answer c.warm_solve-answer.ensures.complete) c.requires.script

pub returns-clause-order : goal.returns-clause-order
returns-clause-order c =
    c.tell_warmed.ensures.order c.args.env.now c.args.options
    (is-warmed c.args.options c.limits_of.result c.limits_of.ensures c.args.env.now c.warm_solve-answer.new.env c.warm_solve-answer.result c.warm_solve-answer.ensures.warms c.warm_solve-answer.ensures.true_answer c.warm_solve-answer.ensures.complete) c.show_numbered.ensures c.requires.order
