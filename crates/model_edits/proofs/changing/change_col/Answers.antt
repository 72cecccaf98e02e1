use Rattle.std.proofs.Common.{◌∙◌, sym, subst, ◌<◌, length}
use Rattle.lp_model.specs.Elements.{changed_at}
use Rattle.lp_model.proofs.ChangedLaws.{changed_at-set}
use Rattle.model_edits.specs.private.Changes.{column_changed}
use Rattle.model_edits.proofs.changing.change_col.Goals as goal

pub returns : goal.returns
returns c =
    let f = column_changed c.args.change in
    let items = c.into_vec-items.result.items in
    let below : c.args.place < length items = subst (λ l. c.args.place < length l) (sym c.into_vec-items.ensures) c.requires in
    c.from_vec.ensures
    ∙ changed_at-set f items c.args.place c.index_mut.result.now c.make.new.col below c.index_mut.ensures.value c.make.ensures
    ∙ (λ i. changed_at f (c.into_vec-items.ensures i) c.args.place)
