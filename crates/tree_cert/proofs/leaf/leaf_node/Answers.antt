use Rattle.std.proofs.Common.{◌∙◌, ap, sym, subst}
use Rattle.std.proofs.lemmas.Bool.{iff_false}
use Rattle.lp_model.specs.Formulations.{formulation}
use Rattle.search_parts.specs.Lists.{AreMultipliers}
use Rattle.tree_cert.specs.Cuts.{mults_named}
use Rattle.std.specs.Prelude.{suc}
use Rattle.cert_text.specs.declared.cert.CertNode.TheVariants.{Empty, Farkas, Bound}
use Rattle.tree_cert.proofs.SameReason.{reason-same}
use Rattle.tree_cert.proofs.leaf.leaf_node.Goals as goal

pub mults_named-requires : goal.mults_named-requires
mults_named-requires c = subst (AreMultipliers (formulation c.args.model.now c.args.cuts.now)) (sym c.as_slice.ensures) c.requires.lists.farkas

pub mults_named-requires-2 : goal.mults_named-requires-2
mults_named-requires-2 c = subst (AreMultipliers (formulation c.args.model.now c.args.cuts.now)) (sym c.as_slice-2.ensures) c.requires.lists.mult

pub returns-then-is_empty_region : goal.returns-then-is_empty_region
returns-then-is_empty_region c = λ path same.
    reason-same (formulation c.args.model.now c.args.cuts.now) suc c.args.region.now path same c.args.kept.now Empty (c.is_empty_region.ensures.0 c.if-is_empty_region.true)

pub returns-then-is_refuted : goal.returns-then-is_refuted
returns-then-is_refuted c = λ path same.
    let F = formulation c.args.model.now c.args.cuts.now in
    reason-same F suc c.args.region.now path same c.args.kept.now (Farkas c.in-Ok.mults) (
      (λ e. iff_false c.is_empty_region.ensures c.if-is_empty_region.false e),
      (c.is_refuted.ensures.0 c.if-is_refuted.true, c.in-Ok.ensures ∙ ap (mults_named F suc) c.as_slice.ensures),
    )

pub returns : goal.returns
returns c = λ path same.
    let F = formulation c.args.model.now c.args.cuts.now in
    reason-same F suc c.args.region.now path same c.args.kept.now (Bound c.in-Ok-mults_named.mults) (
      (λ e. iff_false c.is_empty_region.ensures c.if-is_empty_region.false e),
      ((λ r. iff_false c.is_refuted.ensures c.if-is_refuted.false r), c.in-Ok-mults_named.ensures ∙ ap (mults_named F suc) c.as_slice-2.ensures),
    )
