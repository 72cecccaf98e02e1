use Rattle.std.proofs.Common.{◌≡◌, ◌++◌, sym, subst}
use Rattle.std.specs.Prelude.{IfOk}
use Rattle.lp_model.specs.declared.answers.StopWhy.{StopWhy}
use Rattle.reply_texts.specs.Texts.{stopped_text}
use Rattle.reply_texts.proofs.answers.write_stopped.Goals as goal

pub returns-in-Nodes : goal.returns-in-Nodes
returns-in-Nodes c = subst (λ (why : StopWhy). IfOk c.write_stop.result (λ _. c.write_stop.new.reply.items ≡ c.args.reply.now.items ++ stopped_text c.args.model.now why c.args.results c.args.bound.now c.args.best.now)) (sym c.in-Nodes.is) c.write_stop.ensures

pub returns-in-Tree : goal.returns-in-Tree
returns-in-Tree c = subst (λ (why : StopWhy). IfOk c.write_stop-in-Tree.result (λ _. c.write_stop-in-Tree.new.reply.items ≡ c.args.reply.now.items ++ stopped_text c.args.model.now why c.args.results c.args.bound.now c.args.best.now)) (sym c.in-Tree.is) c.write_stop-in-Tree.ensures

pub returns-in-Pivots : goal.returns-in-Pivots
returns-in-Pivots c = subst (λ (why : StopWhy). IfOk c.write_stopped_pivots.result (λ _. c.write_stopped_pivots.new.reply.items ≡ c.args.reply.now.items ++ stopped_text c.args.model.now why c.args.results c.args.bound.now c.args.best.now)) (sym c.in-Pivots.is) c.write_stopped_pivots.ensures

pub returns-in-Wide : goal.returns-in-Wide
returns-in-Wide c = subst (λ (why : StopWhy). IfOk c.write_stopped_wide.result (λ _. c.write_stopped_wide.new.reply.items ≡ c.args.reply.now.items ++ stopped_text c.args.model.now why c.args.results c.args.bound.now c.args.best.now)) (sym c.in-Wide.is) c.write_stopped_wide.ensures
