use Rattle.std.proofs.Common.{◌≤◌, subst, sym, arith}
use Rattle.kept_env.specs.Env.{model_of}
use Rattle.tree_search.specs.declared.limits.Limits.{Limits}
use Rattle.front_commands.specs.Answering.{front_limits}
use Rattle.front_commands.proofs.ReplyLemmas.{is-looked-for, script-plain, front-of-model, front-script, front-order}
use Rattle.sym_shell.proofs.searching.look_for_front.Goals as goal

pub mc_solve-answer-requires-clause-workers : goal.mc_solve-answer-requires-clause-workers
mc_solve-answer-requires-clause-workers c = subst (λ (l : Limits). 1 ≤ l.workers) (sym c.front_limits.ensures) (omega arith)

pub mc_solve-answer-requires-clause-plain : goal.mc_solve-answer-requires-clause-plain
mc_solve-answer-requires-clause-plain c = script-plain (model_of c.args.env.now) c.requires.script

pub tell_front-requires-clause-plain : goal.tell_front-requires-clause-plain
tell_front-requires-clause-plain c = script-plain (model_of c.mc_solve-answer.new.env) (front-script c.front_limits.result c.args.env.now c.mc_solve-answer.new.env c.mc_solve-answer.result c.mc_solve-answer.ensures.finds c.requires.script)

pub tell_front-requires-clause-answer : goal.tell_front-requires-clause-answer
tell_front-requires-clause-answer c = front-of-model c.front_limits.result c.args.env.now c.mc_solve-answer.new.env c.mc_solve-answer.result c.mc_solve-answer.ensures.finds

pub returns-clause-answered : goal.returns-clause-answered
returns-clause-answered c =
    c.tell_front.ensures.answered c.args.env.now (front_limits c.args.nodes c.args.pivots)
    (is-looked-for c.args.nodes c.args.pivots c.front_limits.result c.front_limits.ensures c.args.env.now c.mc_solve-answer.new.env c.mc_solve-answer.result c.mc_solve-answer.ensures.finds c.mc_solve-answer.ensures.complete)

pub returns-clause-unfinished : goal.returns-clause-unfinished
returns-clause-unfinished c =
    c.tell_front.ensures.unfinished c.args.env.now (front_limits c.args.nodes c.args.pivots)
    (is-looked-for c.args.nodes c.args.pivots c.front_limits.result c.front_limits.ensures c.args.env.now c.mc_solve-answer.new.env c.mc_solve-answer.result c.mc_solve-answer.ensures.finds c.mc_solve-answer.ensures.complete)

pub returns-clause-script : goal.returns-clause-script
returns-clause-script c = front-script c.front_limits.result c.args.env.now c.mc_solve-answer.new.env c.mc_solve-answer.result c.mc_solve-answer.ensures.finds c.requires.script

pub returns-clause-order : goal.returns-clause-order
returns-clause-order c = front-order c.front_limits.result c.args.env.now c.mc_solve-answer.new.env c.mc_solve-answer.result c.mc_solve-answer.ensures.finds c.requires.order
