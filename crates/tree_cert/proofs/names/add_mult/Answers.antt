use Rattle.std.specs.Prelude.{◌≡◌, suc, List, [], ◌∷◌, ◌++◌, IfOk}
use Rattle.std.proofs.Common.{sym, ap, subst, ◌∙◌, append-nil}
use Rattle.lp_model.specs.Formulations.{Formulation, formulation}
use Rattle.cert_text.specs.declared.cert.CertMult.{CertMult}
use Rattle.cert_text.specs.declared.cert.CertMult.TheVariants.{Row}
use Rattle.tree_cert.specs.Cuts.{mult_named}
use Rattle.tree_cert.proofs.names.add_mult.Goals as goal

pub returns-in-Ok : goal.returns-in-Ok
returns-in-Ok c =
    let F : Formulation = formulation c.args.model.now c.args.cuts.now in
    subst (λ (ms : List CertMult). IfOk c.push.result (λ _. c.push.new.self ≡ c.args.mults.now ++ ms))
    (ap (λ n. Row n c.args.number ∷ []) c.in-Ok.ensures ∙ ap (λ x. mult_named F suc x c.args.number) (sym c.in-Row.is)) c.push.ensures.pushed

pub returns-in-Cut : goal.returns-in-Cut
returns-in-Cut c =
    let F : Formulation = formulation c.args.model.now c.args.cuts.now in
    subst (λ x. IfOk c.add_cut.result (λ _. c.add_cut.new.mults ≡ c.args.mults.now ++ mult_named F suc x c.args.number)) (sym c.in-Cut.is) c.add_cut.ensures

pub returns-in-Col : goal.returns-in-Col
returns-in-Col c =
    let F : Formulation = formulation c.args.model.now c.args.cuts.now in
    sym (append-nil c.args.mults.now) ∙ ap (λ x. c.args.mults.now ++ mult_named F suc x c.args.number) (sym c.in-Col.is)
