use Rattle.std.proofs.Common.{subst}
use Rattle.sound_searches.specs.Calls.{IsNext}
use Rattle.tree_search.proofs.StepLemmas.{next-open_leaf}
use Rattle.branch_tree.specs.Numbered.{IsNumbered}
use Rattle.sym_env.proofs.EnoughLemmas.{from-fresh}
use Rattle.sym_env.proofs.SolveLemmas.{fresh-solved}
use Rattle.sym_env.proofs.solving.solve_fresh.Goals as goal

pub search_without_point-requires-clause-some : goal.search_without_point-requires-clause-some
search_without_point-requires-clause-some c =
    let S = c.args.search in
    next-open_leaf S c.in-Some.field-0 (subst IsNumbered c.tree.ensures.tree c.nodes-numbered.ensures.numbered) (subst (IsNext S) c.in-Some.is c.next_leaf.ensures)

pub search_without_point-requires-clause-none : goal.search_without_point-requires-clause-none
search_without_point-requires-clause-none c = c.requires.fresh.points

pub returns-in-Some-clause-solved : goal.returns-in-Some-clause-solved
returns-in-Some-clause-solved c =
    fresh-solved c.args.limits.now c.args.search c.points-sound.ensures.sound c.requires.fresh c.search_without_point.result.answer c.search_without_point.result.search c.search_without_point.ensures.went

pub returns-in-Some-clause-complete : goal.returns-in-Some-clause-complete
returns-in-Some-clause-complete c = λ enough. c.search_without_point.ensures.complete (from-fresh c.roomy_law.ensures c.args.limits.now c.args.search c.search_without_point.result.search.cuts c.requires.fresh enough)
