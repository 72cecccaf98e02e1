use Rattle.std.specs.Prelude.{◌≡◌, Some}
use Rattle.std.proofs.Common.{sym, subst, ap, ◌∙◌}
use Rattle.lp_model.specs.Formulations.{formulation}
use Rattle.branch_tree.specs.Plain.{path_of, data_of}
use Rattle.branch_tree.specs.Numbered.{NumberedTree, IsNumbered}
use Rattle.sound_searches.specs.Calls.{IsNext}
use Rattle.sound_searches.proofs.PlaceLemmas.{narrow-found}
use Rattle.tree_search.specs.Bounds.{IsRoundedLag}
use Rattle.tree_search.proofs.StepLemmas.{next-none, next-there, next-kept}
use Rattle.tree_search.proofs.bounds.least_number.Goals as goal

pub unreachable-requires : goal.unreachable-requires
unreachable-requires c =
    let S = c.args.search.now in
    next-none S c.requires.0 c.requires.1.0 c.in_default.ensures c.requires.1.1

pub unreachable-requires-in-Ok-None : goal.unreachable-requires-in-Ok-None
unreachable-requires-in-Ok-None c =
    let S = c.args.search.now in
    let numbered : IsNumbered S.tree = c.show_sound.ensures.numbered in
    let next : IsNext S (Some c.in-Some.id) = c.in-Some.ensures in
    next-there S c.in-Some.id numbered next (sym c.in-Ok-None.field-0-is ∙ c.in-Ok-None.ensures.region ∙ ap (λ (T : NumberedTree). path_of c.in-Some.id T.root) c.tree.ensures.tree)

pub rounded_lag-least-requires : goal.rounded_lag-least-requires
rounded_lag-least-requires c =
    let S = c.args.search.now in
    let at : Some c.in-Ok-Some.region ≡ path_of c.in-Some.id S.tree.root = sym c.in-Ok-Some.field-0-is ∙ c.in-Ok-Some.ensures.region ∙ ap (λ (T : NumberedTree). path_of c.in-Some.id T.root) c.tree.ensures.tree in
    narrow-found S c.in-Some.id c.in-Ok-Some.region c.show_sound.ensures.sound (sym at)

pub unreachable-requires-in_default-leaf : goal.unreachable-requires-in_default-leaf
unreachable-requires-in_default-leaf c =
    let S = c.args.search.now in
    next-kept S c.in-Some.id c.show_sound.ensures.numbered c.in-Some.ensures (c.in_default-leaf.ensures.data ∙ ap (λ (T : NumberedTree). data_of c.in-Some.id T.root) c.tree-2.ensures.tree)

pub returns : goal.returns
returns c =
    let id = c.in-Some.id in
    let path = sym c.in-Ok-Some.field-0-is ∙ c.in-Ok-Some.ensures.region ∙ ap (λ (T : NumberedTree). path_of id T.root) c.tree.ensures.tree in
    let kept = c.in-Some-leaf.ensures.data ∙ ap (λ (T : NumberedTree). data_of id T.root) c.tree-2.ensures.tree in
    record {
      id = id;
      next = c.in-Some.ensures;
      path = c.in-Ok-Some.region;
      kept = c.in-Some-leaf.kept.now;
      leaf = record { path_is = sym path; data_is = sym kept };
      number = subst (λ P. P) (λ i. IsRoundedLag (formulation (c.model.ensures i) (c.pool.ensures.pool i)) c.in-Ok-Some.region c.in-Some-leaf.kept.now.mult c.rounded_lag-least.result) c.rounded_lag-least.ensures;
    }
