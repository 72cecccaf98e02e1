use Rattle.std.proofs.Common.{subst}
use Rattle.lp_model.specs.Lawful.{IsLawful}
use Rattle.sym_env.proofs.TruthLemmas.{Laws, true-answer}
use Rattle.sym_env.proofs.solving.solve_search.Goals as goal

pub returns-clause-true_answer : goal.returns-clause-true_answer
returns-clause-true_answer c =
    let S = c.args.search in
    let laws : Laws = record {
      empty = c.empty_law.ensures;
      cap = c.cap_law.ensures;
      left = c.left_law.ensures;
      bound = c.stop_bound_law.ensures;
    } in
    true-answer laws c.too_small_law.ensures c.args.limits.now S.model S c.solve_again.result.answer c.solve_again.result.search (subst IsLawful c.model.ensures c.cols-lawful.ensures.lawful) c.solve_again.ensures.solves
