use Rattle.std.proofs.Common.{map, sym, subst, ◌∙◌}
use Rattle.edit_words.specs.EditWords.{EditAsks, IsAskedOf}
use Rattle.edit_words.proofs.EntryLemmas.{read-none, read-then, addcol-read}
use Rattle.edit_words.proofs.asked.addcol_edit.Goals as goal

pub returns-in_default : goal.returns-in_default
returns-in_default c = read-none c.args.low.now _ _ (sym c.lower_in.ensures ∙ c.in_default.is)

pub returns-in_default-upper_in : goal.returns-in_default-upper_in
returns-in_default-upper_in c =
    read-then c.args.low.now _ _ c.in-Some.lo _ (sym c.lower_in.ensures ∙ c.in-Some.is)
    (read-none c.args.high.now _ _ (sym c.upper_in.ensures ∙ c.in_default-upper_in.is))

pub returns-in_default-number_in : goal.returns-in_default-number_in
returns-in_default-number_in c =
    read-then c.args.low.now _ _ c.in-Some.lo _ (sym c.lower_in.ensures ∙ c.in-Some.is)
    (read-then c.args.high.now _ _ c.in-Some-upper_in.up _ (sym c.upper_in.ensures ∙ c.in-Some-upper_in.is)
    (read-none c.args.first.now _ _ (sym c.number_in.ensures ∙ c.in_default-number_in.is)))

pub returns-in_default-number_in-2 : goal.returns-in_default-number_in-2
returns-in_default-number_in-2 c =
    read-then c.args.low.now _ _ c.in-Some.lo _ (sym c.lower_in.ensures ∙ c.in-Some.is)
    (read-then c.args.high.now _ _ c.in-Some-upper_in.up _ (sym c.upper_in.ensures ∙ c.in-Some-upper_in.is)
    (read-then c.args.first.now _ _ c.in-Some-number_in.cost _ (sym c.number_in.ensures ∙ c.in-Some-number_in.is)
    (read-none c.args.second.now _ _ (sym c.number_in-2.ensures ∙ c.in_default-number_in-2.is))))

pub returns : goal.returns
returns c =
    subst (λ (asks : EditAsks). IsAskedOf asks c.column_with.result)
    (sym
    (addcol-read c.args.name.now c.args.which.now c.args.low.now c.args.high.now c.args.first.now c.args.second.now (map (λ word. word.now) c.args.rest.now) c.is_int_word-int.result c.in-Some.lo c.in-Some-upper_in.up c.in-Some-number_in.cost c.in-Some-number_in-2.cost2
    c.is_int_word-int.ensures (sym c.lower_in.ensures ∙ c.in-Some.is) (sym c.upper_in.ensures ∙ c.in-Some-upper_in.is) (sym c.number_in.ensures ∙ c.in-Some-number_in.is) (sym c.number_in-2.ensures ∙ c.in-Some-number_in-2.is)))
    c.column_with.ensures
