use Rattle.std.proofs.Common.{sym, ap, ◌∙◌}
use Rattle.table_entries.proofs.ListedLemmas.{whole_listed}
use Rattle.table_entries.proofs.table_entries.TableEntries.is_whole.Goals as goal

pub returns-clause-lawful : goal.returns-clause-lawful
returns-clause-lawful c = λ t.
    let self = c.self.inside in
    whole_listed self.is_whole self.denominator self.numbers.items self.fractions.items c.args.self.now c.self.view_is (sym (ap (λ v. v.is_whole) c.self.view_is) ∙ t) (c.self.invariant.over_one t)
