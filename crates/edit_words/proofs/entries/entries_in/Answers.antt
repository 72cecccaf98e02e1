use Rattle.std.proofs.Common.{map, ap, sym, ◌∙◌, arith}
use Rattle.std.proofs.lemmas.Grind.{common_steps}
use Rattle.edit_words.specs.EditWords.{entries_of}
use Rattle.edit_words.proofs.EntryLemmas.{behind, behind_nothing, entries_more, entries_none, entries_odd}
use Rattle.edit_words.proofs.entries.entries_in.Goals as goal

pub loop-rest-init : goal.loop-rest-init
loop-rest-init c =
    let asks = entries_of (map (λ word. word.now) c.args.words.now) in
    behind_nothing asks ∙ ap (λ read. behind read asks) (sym c.new-entries.ensures)

pub returns-in_default-number_in : goal.returns-in_default-number_in
returns-in_default-number_in c =
    c.loop-rest.invariant ∙ entries_none c.loop-rest.entries c.loop-rest.rest.now c.in-len2-up.len_at_least (sym c.number_in.ensures ∙ c.in_default-number_in.is)

pub loop-rest-preserved : goal.loop-rest-preserved
loop-rest-preserved c =
    c.loop-rest.invariant
    ∙ entries_more c.loop-rest.entries c.push_entry.new.entries c.loop-rest.rest.now c.in-Some.number c.in-len2-up.len_at_least (sym c.number_in.ensures ∙ c.in-Some.is) c.in-Ok.ensures

pub returns-else-is_empty : goal.returns-else-is_empty
returns-else-is_empty c =
    c.loop-rest.invariant ∙ entries_odd c.loop-rest.entries c.loop-rest.rest.now (grind (arith, common_steps)) (grind (arith, common_steps))
