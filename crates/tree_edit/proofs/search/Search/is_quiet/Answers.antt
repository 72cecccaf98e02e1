use Rattle.std.proofs.Common.{◌≡◌, ◌∙◌, subst}
use Rattle.lp_model.specs.Cuts.{is_live}
use Rattle.sound_searches.specs.Sound.{PlainSearch}
use Rattle.tree_edit.specs.private.Staying.{TouchesNoList}
use Rattle.tree_edit.proofs.search.Search.is_quiet.Goals as goal

pub returns-then-count_alike-clause-lists : goal.returns-then-count_alike-clause-lists
returns-then-count_alike-clause-lists c = λ t. subst (λ (R : PlainSearch). TouchesNoList R.model c.args.touched.now) c.self.view_is (c.touches_no_list.ensures c.if-touches_no_list.true)

pub returns-then-count_alike-clause-cuts : goal.returns-then-count_alike-clause-cuts
returns-then-count_alike-clause-cuts c = λ t k.
    subst (λ (R : PlainSearch). is_live R.cuts k ≡ is_live c.args.pool.now k) c.self.view_is
    (subst (λ P. P) (λ j. is_live (c.rows-before.ensures.rows j) k ≡ is_live (c.rows-after.ensures.rows j) k) (c.count_alike.ensures c.if-count_alike.true k))

pub returns-then-count_alike-clause-target : goal.returns-then-count_alike-clause-target
returns-then-count_alike-clause-target c = λ t. c.is_same_value.ensures.0 t ∙ c.target.ensures
