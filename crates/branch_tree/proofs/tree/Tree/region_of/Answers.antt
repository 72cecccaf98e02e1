use Rattle.std.proofs.Common.{◌≡◌, ap, sym, subst, ◌∙◌}
use Rattle.branch_tree.specs.Plain.{leaves_with, path_of}
use Rattle.branch_tree.specs.Numbered.{NumberedTree}
use Rattle.branch_tree.specs.Changes.{HasLeaf}
use Rattle.branch_tree.specs.private.Stored.{leaf_of, leaf_of_kind}
use Rattle.branch_tree.proofs.LeafLemmas.{path_of-none}
use Rattle.branch_tree.proofs.UpwardLemmas.{no-leaf-held, one-leaf-held, region-held, region-answer}
use Rattle.branch_tree.proofs.tree.Tree.region_of.Goals as goal

pub returns-in_default-clause-found : goal.returns-in_default-clause-found
returns-in_default-clause-found c =
    subst (λ (T : NumberedTree). leaves_with c.args.id T.root ≡ 0) c.self.view_is (no-leaf-held c.self.inside c.self.invariant c.args.id (ap leaf_of (sym c.in_default.ensures)))

pub returns-in_default-clause-region : goal.returns-in_default-clause-region
returns-in_default-clause-region c = sym (path_of-none c.args.id c.args.self.now.root (returns-in_default-clause-found c))

pub returns-in-Split-clause-found : goal.returns-in-Split-clause-found
returns-in-Split-clause-found c =
    subst (λ (T : NumberedTree). leaves_with c.args.id T.root ≡ 0) c.self.view_is
    (no-leaf-held c.self.inside c.self.invariant c.args.id (ap leaf_of (sym c.in-Some.ensures) ∙ ap leaf_of_kind c.in-Split.is))

pub returns-in-Split-clause-region : goal.returns-in-Split-clause-region
returns-in-Split-clause-region c = sym (path_of-none c.args.id c.args.self.now.root (returns-in-Split-clause-found c))

pub region_above-requires-clause-way : goal.region_above-requires-clause-way
region_above-requires-clause-way c =
    let r = region-held c.self.inside c.self.invariant c.args.id c.in-Some.node.now c.in-Leaf.field-0 (sym c.in-Some.ensures) c.in-Leaf.is in
    (r.changes, (r.leads, r.few))

pub returns-in-Ok-clause-region : goal.returns-in-Ok-clause-region
returns-in-Ok-clause-region c =
    region-answer c.self.inside c.self.invariant c.args.id c.in-Some.node.now c.in-Leaf.field-0 (sym c.in-Some.ensures) c.in-Leaf.is c.in-Ok.region c.in-Ok.ensures
    ∙ ap (λ (T : NumberedTree). path_of c.args.id T.root) c.self.view_is

pub returns-in-Ok-clause-found : goal.returns-in-Ok-clause-found
returns-in-Ok-clause-found c =
    subst (λ (T : NumberedTree). HasLeaf T c.args.id) c.self.view_is (one-leaf-held c.self.inside c.self.invariant c.args.id c.in-Some.node.now c.in-Leaf.field-0 (sym c.in-Some.ensures) c.in-Leaf.is)
