use Rattle.std.specs.Prelude.{filter, nat_lt}
use Rattle.std.proofs.Common.{◌∙◌, ◌++◌, ap, append_assoc}
use Rattle.frac128.specs.Rational.{ℚ}
use Rattle.lp_model.specs.declared.types.RowId.{RowId}
use Rattle.lp_model.specs.Edits.{entry_at}
use Rattle.model_edits.proofs.removing.entries_with.Goals as goal

pub returns : goal.returns
returns c =
    let earlier = filter (λ (e : RowId × ℚ). nat_lt e.0.0 c.args.row) c.args.entries.now in
    let own = entry_at c.args.row c.args.number.now in
    let later = filter (λ (e : RowId × ℚ). nat_lt c.args.row e.0.0) c.args.entries.now in
    c.in-Ok-push_later.ensures
    ∙ ap (λ l. l ++ later) (c.in-Ok-push_entry.ensures ∙ ap (λ l. l ++ own) (c.in-Ok.ensures ∙ ap (λ l. l ++ earlier) c.new-list.ensures))
    ∙ append_assoc earlier own later
