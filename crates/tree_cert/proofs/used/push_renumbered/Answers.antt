use Rattle.std.proofs.Common.{◌≡◌, suc, ◌+◌, ◌-◌, ◌∷◌, ◌++◌, [], get_or, sym, ap, subst, ◌∙◌, arith}
use Rattle.std.specs.Prelude.{IfOk}
use Rattle.cert_text.specs.declared.cert.CertMult.{CertMult}
use Rattle.cert_text.specs.declared.cert.CertMult.TheVariants as mult
use Rattle.tree_cert.specs.private.Marked.{renumbered}
use Rattle.tree_cert.proofs.used.push_renumbered.Goals as goal

pub returns-in-Ok : goal.returns-in-Ok
returns-in-Ok c =
    subst (λ (m : CertMult). IfOk c.push.result (λ _. c.push.new.self ≡ c.args.list.now ++ m ∷ []))
    (ap (λ n. mult.Row n c.in-Row.number) c.in-Ok.ensures ∙ ap (renumbered c.args.counts.now) (sym c.in-Row.is)) c.push.ensures.pushed

pub returns-in-Cut : goal.returns-in-Cut
returns-in-Cut c =
    let next : c.from.result + 1 ≡ suc (get_or c.args.counts.now (c.in-Cut.cut - 1) 0) = let same = c.from.ensures in omega (arith, same) in
    subst (λ (m : CertMult). IfOk c.push-in-Cut.result (λ _. c.push-in-Cut.new.self ≡ c.args.list.now ++ m ∷ []))
    (ap (λ n. mult.Cut n c.in-Cut.number) next ∙ ap (renumbered c.args.counts.now) (sym c.in-Cut.is)) c.push-in-Cut.ensures.pushed
