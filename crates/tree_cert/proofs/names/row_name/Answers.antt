use Rattle.std.proofs.Common.{subst, ap, ◌∙◌, [], get_or, ◌≡◌}
use Rattle.std.specs.Prelude.{IfOk}
use Rattle.tree_cert.proofs.NameLaws.{element_is}
use Rattle.tree_cert.proofs.names.row_name.Goals as goal

pub returns : goal.returns
returns c =
    let found = c.index-rows-row.result in
    subst (λ n. IfOk c.from_slice.result (λ l. l ≡ n))
    (c.as_slice.ensures ∙ element_is [] (λ row. row.name) c.args.model.now.rows c.args.row.0 found c.requires (c.index-rows-row.is ∙ ap (λ rows. get_or rows c.args.row.0 found) c.rows.ensures.items)) c.from_slice.ensures
