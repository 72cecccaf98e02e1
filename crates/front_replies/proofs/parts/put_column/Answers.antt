use Rattle.std.proofs.Common.{◌≡◌, ℕ, List, ◌++◌, subst}
use Rattle.std.specs.Prelude.{codes, IfOk}
use Rattle.lp_model.specs.Lawful.{column_name}
use Rattle.reply_texts.proofs.TextLemmas.{join_piece}
use Rattle.front_replies.proofs.parts.put_column.Goals as goal

pub returns : goal.returns
returns c =
    subst (λ (t : List ℕ). IfOk c.extend_from_slice-2.result (λ _. c.extend_from_slice-2.new.self.items ≡ c.args.text.now.items ++ (codes "col " ++ t))) c.column_name.ensures
    (join_piece c.extend_from_slice-2.result c.args.text.now.items (codes "col ") c.column_name.result.now c.extend_from_slice.new.self.items c.extend_from_slice-2.new.self.items c.in-Ok.ensures.items c.extend_from_slice-2.ensures.items)
