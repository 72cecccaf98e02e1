use Rattle.std.proofs.Common.{ℕ, List, ◌++◌, ◌∙◌, ap}
use Rattle.std.specs.Prelude.{codes}
use Rattle.cert_writer.specs.CertText.{line_text}
use Rattle.reply_texts.specs.Texts.{part_stop_text}
use Rattle.reply_texts.proofs.TextLemmas.{join_piece, join_last}
use Rattle.front_replies.specs.FrontReplies.{front_part_text, part_words}
use Rattle.front_replies.proofs.parts.put_stopped_front.Goals as goal

pub returns : goal.returns
returns c =
    let M = c.args.model.now in
    let stop : List ℕ → List ℕ = λ name. part_stop_text M name c.args.why.now c.args.results c.args.bound.now c.args.best.now in
    let name = line_text (part_words c.args.part.now) in
    join_last c.extend_from_slice.result c.args.text.now.items (front_part_text c.args.outcomes.now) (stop name ++ codes "end\n") c.put_front_part.new.text.items c.extend_from_slice.new.self.items
    c.in-Ok-put_front_part.ensures
    (join_piece c.extend_from_slice.result c.put_front_part.new.text.items (stop name) (codes "end\n") c.write_part_stop.new.reply.items c.extend_from_slice.new.self.items
    (c.in-Ok-write_part_stop.ensures ∙ ap (λ (t : List ℕ). c.put_front_part.new.text.items ++ stop t) (c.deref.ensures.value ∙ c.in-Ok.ensures ∙ ap (λ (t : List ℕ). t ++ name) c.new-name.ensures.items))
    c.extend_from_slice.ensures.items)
