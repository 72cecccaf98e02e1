use Rattle.std.proofs.Common.{◌≡◌, ◌∷◌, ◌++◌, [], map, sym, ap, subst, ◌∙◌}
use Rattle.std.specs.Prelude.{IfOk}
use Rattle.cert_text.specs.declared.cert.CertNode.{CertNode}
use Rattle.cert_text.specs.declared.cert.CertNode.TheVariants as node
use Rattle.tree_cert.specs.private.Marked.{renumbered, renumbered_node}
use Rattle.tree_cert.proofs.used.push_renumbered_node.Goals as goal

pub returns-in-Ok-renumbered_mults : goal.returns-in-Ok-renumbered_mults
returns-in-Ok-renumbered_mults c =
    subst (λ (n : CertNode). IfOk c.push-in-Ok-renumbered_mults.result (λ _. c.push-in-Ok-renumbered_mults.new.self ≡ c.args.list.now ++ n ∷ []))
    (ap node.Bound (c.in-Ok-renumbered_mults.ensures ∙ ap (map (renumbered c.args.counts.now)) c.as_slice.ensures) ∙ ap (renumbered_node c.args.counts.now) (sym c.in-Bound.is)) c.push-in-Ok-renumbered_mults.ensures.pushed

pub returns-in-Ok-renumbered_mults-2 : goal.returns-in-Ok-renumbered_mults-2
returns-in-Ok-renumbered_mults-2 c =
    subst (λ (n : CertNode). IfOk c.push-in-Ok-renumbered_mults-2.result (λ _. c.push-in-Ok-renumbered_mults-2.new.self ≡ c.args.list.now ++ n ∷ []))
    (ap node.Farkas (c.in-Ok-renumbered_mults-2.ensures ∙ ap (map (renumbered c.args.counts.now)) c.as_slice-in-Farkas.ensures) ∙ ap (renumbered_node c.args.counts.now) (sym c.in-Farkas.is)) c.push-in-Ok-renumbered_mults-2.ensures.pushed

pub returns-in-Empty : goal.returns-in-Empty
returns-in-Empty c =
    subst (λ (n : CertNode). IfOk c.push-in-Empty.result (λ _. c.push-in-Empty.new.self ≡ c.args.list.now ++ n ∷ [])) (ap (renumbered_node c.args.counts.now) (sym c.in-Empty.is)) c.push-in-Empty.ensures.pushed
