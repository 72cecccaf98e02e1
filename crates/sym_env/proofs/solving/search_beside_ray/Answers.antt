use Rattle.sym_env.proofs.BeginLemmas.{first-beside}
use Rattle.sym_env.proofs.solving.search_beside_ray.Goals as goal

pub search_with-search-requires-clause-first : goal.search_with-search-requires-clause-first
search_with-search-requires-clause-first c = first-beside c.root_law.ensures c.args.search.model c.args.costless c.args.limits.now.pivots c.args.first c.requires.begins
