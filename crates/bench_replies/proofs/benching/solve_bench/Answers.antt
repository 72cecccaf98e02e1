use Rattle.std.proofs.Common.{sym, subst}
use Rattle.std.proofs.lemmas.Result.{IfOk-weaker}
use Rattle.tree_search.specs.Within.{IsGapLimit}
use Rattle.tree_search.specs.declared.limits.Limits.{Limits}
use Rattle.search_replies.proofs.ReplyLemmas.{is-solved}
use Rattle.bench_replies.specs.Benches.{bench_options}
use Rattle.bench_replies.proofs.BenchLemmas.{benched}
use Rattle.bench_replies.proofs.benching.solve_bench.Goals as goal

pub solve-answer-requires-clause-gap : goal.solve-answer-requires-clause-gap
solve-answer-requires-clause-gap c = subst (λ (l : Limits). IsGapLimit l.gap) (sym c.limits_of.ensures) tt

pub returns : goal.returns
returns c = λ M holds.
    let solved = is-solved (bench_options c.args.nodes) c.limits_of.result c.limits_of.ensures c.args.env.now c.solve-answer.new.env c.solve-answer.result c.solve-answer.ensures.solves c.solve-answer.ensures.true_answer c.solve-answer.ensures.complete in
    IfOk-weaker c.write_lines-told.result _ _
    (λ _ written. benched M c.args.rows c.args.cols c.args.nodes c.args.env.now c.solve-answer.new.env c.solve-answer.result holds solved c.args.text.now.items c.write_lines-told.new.text.items c.requires written)
    c.write_lines-told.ensures
