use Rattle.reply_texts.specs.Texts.{stop_place_text, part_stop_line}
use Rattle.reply_texts.proofs.TextLemmas.{join_last}
use Rattle.reply_texts.proofs.stops.write_part_stop.Goals as goal

pub returns : goal.returns
returns c =
    join_last c.write_stop_place.result c.args.reply.now.items (part_stop_line c.args.part.now c.args.why.now c.args.results c.args.bound.now c.args.best.now) (stop_place_text c.args.model.now c.args.why.now) c.write_part_stop_line.new.reply.items c.write_stop_place.new.reply.items
    c.in-Ok.ensures c.write_stop_place.ensures
