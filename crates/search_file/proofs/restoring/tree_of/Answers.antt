use Rattle.std.proofs.Common.{◌≡◌, ◌∙◌, sym, subst, ap}
use Rattle.std.specs.Prelude.{All, IfOk, Result, Ok, Err}
use Rattle.lp_model.specs.Limits.{node_limit}
use Rattle.branch_tree.specs.Numbered.{NumberedTree}
use Rattle.branch_tree.specs.Preorder.{DataTree, data_nodes, numbered_tree, HasNodeBound}
use Rattle.search_file.specs.Lawful.{lawful_tree}
use Rattle.search_file.specs.private.Lawful.{lawful_behind}
use Rattle.search_file.proofs.LawfulLemmas.{lawful-nodes, all-lawful}
use Rattle.search_file.proofs.restoring.tree_of.Goals as goal

pub from_preorder-requires-clause-whole : goal.from_preorder-requires-clause-whole
from_preorder-requires-clause-whole c =
    let M = c.args.model.now in
    let (t, is) = c.requires.whole in
    (lawful_tree M t, sym (c.in-Ok.ensures ∙ ap (lawful_behind M 0) (sym is) ∙ lawful-nodes M t))

pub from_preorder-requires-clause-bounds : goal.from_preorder-requires-clause-bounds
from_preorder-requires-clause-bounds c =
    let M = c.args.model.now in
    let (t, is) = c.requires.whole in
    let are : data_nodes (lawful_tree M t) ≡ c.in-Ok.kept = sym (c.in-Ok.ensures ∙ ap (lawful_behind M 0) (sym is) ∙ lawful-nodes M t) in
    subst (All HasNodeBound) are (all-lawful M HasNodeBound (λ j v mult basis h. tt) t (subst (All HasNodeBound) (sym is) c.requires.bounds))

if_ok : {A E : Type 0} {P Q : A → Type 0} (r : Result A E) → ((a : A) → P a → Q a) → IfOk r P → IfOk r Q
if_ok (Ok a) w h = w a h
if_ok (Err e) w h = h

pub returns : goal.returns
returns c =
    let M = c.args.model.now in
    let kept = c.in-Ok.kept in
    if_ok {P = λ (T : NumberedTree). (t : DataTree) → data_nodes t ≡ kept → T ≡ numbered_tree node_limit t} {Q = λ (T : NumberedTree). (t : DataTree) → data_nodes t ≡ c.args.nodes.now → T ≡ numbered_tree node_limit (lawful_tree M t)} c.from_preorder.result
    (λ T h t is. h (lawful_tree M t) (sym (c.in-Ok.ensures ∙ ap (lawful_behind M 0) (sym is) ∙ lawful-nodes M t))) c.from_preorder.ensures
