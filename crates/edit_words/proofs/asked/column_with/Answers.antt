use Rattle.std.proofs.Common.{sym, ap, refl}
use Rattle.lp_model.specs.declared.types.Edit.TheVariants.{AddCol}
use Rattle.edit_words.specs.EditWords.{Edits}
use Rattle.edit_words.proofs.EntryLemmas.{entries-then}
use Rattle.edit_words.proofs.asked.column_with.Goals as goal

pub returns-in-Misused : goal.returns-in-Misused
returns-in-Misused c = entries-then _ _ _ _ c.in-Misused.ensures refl

pub returns-in-NoNumber : goal.returns-in-NoNumber
returns-in-NoNumber c = entries-then _ _ _ _ c.in-NoNumber.ensures refl

pub returns-in-Ok : goal.returns-in-Ok
returns-in-Ok c =
    entries-then _ _ _ _ c.in-Read.ensures (ap (λ name. Edits (AddCol name c.args.int c.args.lo c.args.up c.args.cost c.args.cost2 c.in-Read.entries)) (sym c.in-Ok.ensures))
