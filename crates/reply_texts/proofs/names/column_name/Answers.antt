use Rattle.std.proofs.Common.{◌∙◌, sym, ap, arith, [], length}
use Rattle.lp_model.proofs.ElementLemmas.{of_element-read}
use Rattle.reply_texts.proofs.TextLemmas.{of_element-past}
use Rattle.reply_texts.proofs.names.column_name.Goals as goal

pub returns-then-index-columns : goal.returns-then-index-columns
returns-then-index-columns c = c.as_slice.ensures ∙ ap (λ r. r.name) (sym c.index-columns-index.is) ∙ of_element-read [] (λ r. r.name) c.args.model.now.cols c.cols-columns.result.now c.args.place.0 c.index-columns-index.result c.cols-columns.ensures.items (omega (arith, ap length c.cols-columns.ensures.items)) c.index-columns-index.is

pub returns-else-index-columns : goal.returns-else-index-columns
returns-else-index-columns c = sym (of_element-past [] (λ r. r.name) c.args.model.now.cols c.args.place.0 (omega (arith, ap length c.cols-columns.ensures.items)))
