use Rattle.std.proofs.Common.{ℕ, List, ◌++◌, ◌∙◌, ap}
use Rattle.std.specs.Prelude.{codes, decimal}
use Rattle.reply_texts.specs.Texts.{number_or_none}
use Rattle.reply_texts.proofs.TextLemmas.{join, join_last}
use Rattle.reply_texts.proofs.answers.write_known_words.Goals as goal

pub returns : goal.returns
returns c =
    let r = c.args.reply.now.items in
    let results = decimal c.args.results ++ codes " bound " in
    let bound = number_or_none c.args.bound.now in
    let best = number_or_none c.args.best.now in
    join_last c.write_number_or_none-2.result r ((results ++ bound) ++ codes " best ") best c.extend_from_slice.new.self.items c.write_number_or_none-2.new.reply.items
    (join r (results ++ bound) (codes " best ") c.write_number_or_none.new.reply.items c.extend_from_slice.new.self.items
    (join r results bound c.write_two.new.reply.items c.write_number_or_none.new.reply.items
    (c.in-Ok.ensures ∙ ap (λ (t : List ℕ). r ++ (t ++ codes " bound ")) (c.as_bytes.ensures.value ∙ c.format.ensures.text))
    c.in-Ok-write_number_or_none.ensures)
    c.in-Ok-extend_from_slice.ensures.items)
    c.write_number_or_none-2.ensures
