use Rattle.std.proofs.Common.{◌≡◌, ◌∷◌, ◌++◌, [], map, ap, subst, ◌∙◌}
use Rattle.std.specs.Prelude.{IfOk}
use Rattle.cert_text.specs.declared.cert.NamedCut.{NamedCut}
use Rattle.tree_cert.specs.Cuts.{named_literal, named_cut}
use Rattle.tree_cert.proofs.names.push_named_cut.Goals as goal

pub returns : goal.returns
returns c =
    let M = c.args.model.now in
    let from = c.args.from.now in
    let own : NamedCut = record { row = c.in-Ok.row; side = from.side; literals = c.in-Ok-named_literals.literals } in
    let literals = c.in-Ok-named_literals.ensures ∙ ap (map (named_literal M)) c.as_slice.ensures in
    let same : own ≡ named_cut M from = (λ i. record { row = c.in-Ok.ensures i; side = from.side; literals = literals i }) in
    subst (λ (cut : NamedCut). IfOk c.push.result (λ _. c.push.new.self ≡ c.args.named.now ++ cut ∷ [])) same c.push.ensures.pushed
