use Rattle.std.proofs.Common.{suc, ◌++◌, take, sym, ap, ◌∙◌, arith}
use Rattle.std.proofs.lemmas.List.{take_all}
use Rattle.lp_model.specs.Formulations.{Formulation, formulation}
use Rattle.kept_cuts.proofs.KeptLemmas.{take-next}
use Rattle.search_parts.specs.Lists.{IsActivityThere}
use Rattle.tree_cert.specs.Cuts.{mult_named, mults_named}
use Rattle.tree_cert.proofs.MultLaws.{mults-push}
use Rattle.tree_cert.proofs.NameLaws.{there_here}
use Rattle.tree_cert.proofs.names.mults_named.Goals as goal

pub add_mult-requires : goal.add_mult-requires
add_mult-requires c =
    there_here (IsActivityThere (formulation c.args.model.now c.args.cuts.now)) c.args.mult.now c.loop-var.var-index c.loop-var-item.result c.loop-var-test.true c.loop-var-item.is c.requires.each

pub loop-var-preserved : goal.loop-var-preserved
loop-var-preserved c =
    let F : Formulation = formulation c.args.model.now c.args.cuts.now in
    let list = c.args.mult.now in
    let i = c.loop-var.var-index in
    let m = c.loop-var-item.result in
    c.in-Ok.ensures
    ∙ ap (λ l. l ++ mult_named F suc m.0 m.1) c.loop-var.invariant
    ∙ sym (mults-push F suc (take i list) m)
    ∙ ap (mults_named F suc) (sym (take-next list i m c.loop-var-test.true c.loop-var-item.is))

pub returns : goal.returns
returns c =
    let F : Formulation = formulation c.args.model.now c.args.cuts.now in
    c.loop-var.invariant ∙ ap (mults_named F suc) (take_all c.loop-var.var-index c.args.mult.now (omega (arith, c.loop-var-test.false)))
