use Rattle.std.proofs.Common.{◌≡◌, ◌++◌, sym, subst}
use Rattle.std.specs.Prelude.{IfOk}
use Rattle.lp_model.specs.declared.types.WideStep.{WideStep}
use Rattle.reply_texts.specs.Places.{step_text}
use Rattle.reply_texts.proofs.steps.write_step.Goals as goal

pub returns-in-Pivot : goal.returns-in-Pivot
returns-in-Pivot c = subst (λ (s : WideStep). IfOk c.write_pivot.result (λ _. c.write_pivot.new.reply.items ≡ c.args.reply.now.items ++ step_text c.args.model.now s)) (sym c.in-Pivot.is) c.write_pivot.ensures

pub returns-in-Point : goal.returns-in-Point
returns-in-Point c = subst (λ (s : WideStep). IfOk c.write_pair.result (λ _. c.write_pair.new.reply.items ≡ c.args.reply.now.items ++ step_text c.args.model.now s)) (sym c.in-Point.is) c.write_pair.ensures

pub returns-in-Cost : goal.returns-in-Cost
returns-in-Cost c = subst (λ (s : WideStep). IfOk c.write_pair-in-Cost.result (λ _. c.write_pair-in-Cost.new.reply.items ≡ c.args.reply.now.items ++ step_text c.args.model.now s)) (sym c.in-Cost.is) c.write_pair-in-Cost.ensures

pub returns-in-RatioCost : goal.returns-in-RatioCost
returns-in-RatioCost c = subst (λ (s : WideStep). IfOk c.write_cost_ratio.result (λ _. c.write_cost_ratio.new.reply.items ≡ c.args.reply.now.items ++ step_text c.args.model.now s)) (sym c.in-RatioCost.is) c.write_cost_ratio.ensures

pub returns-in-Ratio : goal.returns-in-Ratio
returns-in-Ratio c = subst (λ (s : WideStep). IfOk c.write_part_ratio.result (λ _. c.write_part_ratio.new.reply.items ≡ c.args.reply.now.items ++ step_text c.args.model.now s)) (sym c.in-Ratio.is) c.write_part_ratio.ensures

pub returns-in-Act : goal.returns-in-Act
returns-in-Act c = subst (λ (s : WideStep). IfOk c.write_crossing.result (λ _. c.write_crossing.new.reply.items ≡ c.args.reply.now.items ++ step_text c.args.model.now s)) (sym c.in-Act.is) c.write_crossing.ensures

pub returns-in-Value : goal.returns-in-Value
returns-in-Value c = subst (λ (s : WideStep). IfOk c.write_value.result (λ _. c.write_value.new.reply.items ≡ c.args.reply.now.items ++ step_text c.args.model.now s)) (sym c.in-Value.is) c.write_value.ensures

pub returns-in-LagEntry : goal.returns-in-LagEntry
returns-in-LagEntry c = subst (λ (s : WideStep). IfOk c.write_entry.result (λ _. c.write_entry.new.reply.items ≡ c.args.reply.now.items ++ step_text c.args.model.now s)) (sym c.in-LagEntry.is) c.write_entry.ensures

pub returns-in-LagTerm : goal.returns-in-LagTerm
returns-in-LagTerm c = subst (λ (s : WideStep). IfOk c.write_term.result (λ _. c.write_term.new.reply.items ≡ c.args.reply.now.items ++ step_text c.args.model.now s)) (sym c.in-LagTerm.is) c.write_term.ensures

pub returns-in-Cover : goal.returns-in-Cover
returns-in-Cover c = subst (λ (s : WideStep). IfOk c.write_crossing-in-Cover.result (λ _. c.write_crossing-in-Cover.new.reply.items ≡ c.args.reply.now.items ++ step_text c.args.model.now s)) (sym c.in-Cover.is) c.write_crossing-in-Cover.ensures
