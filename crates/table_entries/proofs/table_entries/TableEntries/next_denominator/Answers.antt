use Rattle.std.proofs.Common.{ap, ◌∙◌, ◌≡◌, ◌*◌, length}
use Rattle.table_entries.proofs.ListedLemmas.{whole_size}
use Rattle.table_entries.proofs.table_entries.TableEntries.next_denominator.Goals as goal

pub denominator_after-requires-clause-size : goal.denominator_after-requires-clause-size
denominator_after-requires-clause-size c =
    let self = c.self.inside in
    let numbers = self.numbers.items in
    let size : length numbers ≡ c.args.rows * c.args.columns = whole_size self.is_whole self.denominator numbers self.fractions.items c.args.self.now c.self.view_is c.requires.whole ∙ c.requires.size in
    ap length c.deref.ensures.value ∙ size
