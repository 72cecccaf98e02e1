use Rattle.sym_env.proofs.BeginLemmas.{first-own}
use Rattle.sym_env.proofs.solving.search_own.Goals as goal

pub search_with-search-requires-clause-first : goal.search_with-search-requires-clause-first
search_with-search-requires-clause-first c = first-own c.root_law.ensures c.args.search c.args.limits.now.pivots c.args.first c.requires.begins

pub returns-clause-bounded : goal.returns-clause-bounded
returns-clause-bounded c = c.search_with-search.ensures.beside
