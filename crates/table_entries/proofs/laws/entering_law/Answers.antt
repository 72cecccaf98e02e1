use Rattle.std.proofs.Common.{inl, inr, ⊎_elim}
use Rattle.table_entries.proofs.Least.{enters_or_none, enters_once}
use Rattle.table_entries.proofs.laws.entering_law.Goals as goal

pub returns : goal.returns
returns c = λ p parts n ends st arranged r side. ⊎_elim inl (λ f. inr (f.0, (f.1, λ u h. enters_once p parts st arranged r side f.0 u f.1 h))) (enters_or_none p parts n ends st r side)
