use Rattle.std.proofs.Common.{map, sym, subst, ◌∙◌}
use Rattle.edit_words.specs.EditWords.{EditAsks, IsAskedOf}
use Rattle.edit_words.proofs.EntryLemmas.{read-none, read-then, row-read}
use Rattle.edit_words.proofs.asked.whole_row.Goals as goal

pub returns-in_default : goal.returns-in_default
returns-in_default c = read-none c.args.low.now _ _ (sym c.side_in.ensures ∙ c.in_default.is)

pub returns-in_default-side_in : goal.returns-in_default-side_in
returns-in_default-side_in c =
    read-then c.args.low.now _ _ c.in-Some.lo _ (sym c.side_in.ensures ∙ c.in-Some.is)
    (read-none c.args.high.now _ _ (sym c.side_in-2.ensures ∙ c.in_default-side_in.is))

pub returns : goal.returns
returns c =
    subst (λ (asks : EditAsks). IsAskedOf asks c.row_with.result)
    (sym
    (row-read c.args.place c.args.row.now c.args.low.now c.args.high.now (map (λ word. word.now) c.args.rest.now) c.in-Some.lo c.in-Some-side_in.hi
    (sym c.side_in.ensures ∙ c.in-Some.is) (sym c.side_in-2.ensures ∙ c.in-Some-side_in.is)))
    c.row_with.ensures
