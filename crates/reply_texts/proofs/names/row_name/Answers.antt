use Rattle.std.proofs.Common.{◌∙◌, sym, ap, arith, [], length}
use Rattle.lp_model.proofs.ElementLemmas.{of_element-read}
use Rattle.reply_texts.proofs.TextLemmas.{of_element-past}
use Rattle.reply_texts.proofs.names.row_name.Goals as goal

pub returns-then-index-rows : goal.returns-then-index-rows
returns-then-index-rows c = c.as_slice.ensures ∙ ap (λ r. r.name) (sym c.index-rows-index.is) ∙ of_element-read [] (λ r. r.name) c.args.model.now.rows c.rows-rows.result.now c.args.place.0 c.index-rows-index.result c.rows-rows.ensures.items (omega (arith, ap length c.rows-rows.ensures.items)) c.index-rows-index.is

pub returns-else-index-rows : goal.returns-else-index-rows
returns-else-index-rows c = sym (of_element-past [] (λ r. r.name) c.args.model.now.rows c.args.place.0 (omega (arith, ap length c.rows-rows.ensures.items)))
