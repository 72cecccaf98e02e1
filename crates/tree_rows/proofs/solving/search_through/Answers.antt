use Rattle.std.proofs.Common.{ap, subst, ◌∙◌, inr}
use Rattle.lp_model.specs.Program.{Program}
use Rattle.dual_simplex.specs.SlackBases.{IsLawfulSlackBasis}
use Rattle.sound_searches.specs.Sound.{PlainSearch}
use Rattle.tree_rows.proofs.solving.search_through.Goals as goal

pub search_on-search-requires-clause-first : goal.search_on-search-requires-clause-first
search_on-search-requires-clause-first c =
    c.root_law.ensures c.args.manager.search.model c.in-Ok.first
    (inr (subst (λ (M : Program). IsLawfulSlackBasis M c.in-Ok.first) (c.model.ensures ∙ ap (λ (S : PlainSearch). S.model) c.search.ensures.search) c.in-Ok.ensures))
