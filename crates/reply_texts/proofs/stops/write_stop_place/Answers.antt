use Rattle.std.proofs.Common.{◌≡◌, ◌++◌, ◌∙◌, ap, sym, subst}
use Rattle.std.specs.Prelude.{IfOk}
use Rattle.lp_model.specs.declared.answers.StopWhy.{StopWhy}
use Rattle.reply_texts.specs.Texts.{stop_place_text}
use Rattle.reply_texts.proofs.TextLemmas.{nothing_more}
use Rattle.reply_texts.proofs.stops.write_stop_place.Goals as goal

pub returns-in-Nodes : goal.returns-in-Nodes
returns-in-Nodes c = nothing_more c.args.reply.now.items ∙ ap (λ (why : StopWhy). c.args.reply.now.items ++ stop_place_text c.args.model.now why) (sym c.in-Nodes.is)

pub returns-in-Tree : goal.returns-in-Tree
returns-in-Tree c = nothing_more c.args.reply.now.items ∙ ap (λ (why : StopWhy). c.args.reply.now.items ++ stop_place_text c.args.model.now why) (sym c.in-Tree.is)

pub returns-in-Pivots : goal.returns-in-Pivots
returns-in-Pivots c = subst (λ (why : StopWhy). IfOk c.write_pivot_place.result (λ _. c.write_pivot_place.new.reply.items ≡ c.args.reply.now.items ++ stop_place_text c.args.model.now why)) (sym c.in-Pivots.is) c.write_pivot_place.ensures

pub returns-in-Wide : goal.returns-in-Wide
returns-in-Wide c = subst (λ (why : StopWhy). IfOk c.write_wide_place.result (λ _. c.write_wide_place.new.reply.items ≡ c.args.reply.now.items ++ stop_place_text c.args.model.now why)) (sym c.in-Wide.is) c.write_wide_place.ensures
