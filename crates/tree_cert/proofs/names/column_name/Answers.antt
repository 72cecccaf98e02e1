use Rattle.std.proofs.Common.{subst, ap, ◌∙◌, [], get_or, ◌≡◌}
use Rattle.std.specs.Prelude.{IfOk}
use Rattle.tree_cert.proofs.NameLaws.{element_is}
use Rattle.tree_cert.proofs.names.column_name.Goals as goal

pub returns : goal.returns
returns c =
    let found = c.index-cols-col.result in
    subst (λ n. IfOk c.from_slice.result (λ l. l ≡ n))
    (c.as_slice.ensures ∙ element_is [] (λ col. col.name) c.args.model.now.cols c.args.col.0 found c.requires (c.index-cols-col.is ∙ ap (λ cols. get_or cols c.args.col.0 found) c.cols.ensures.items)) c.from_slice.ensures
