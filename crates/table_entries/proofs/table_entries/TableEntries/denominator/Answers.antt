use Rattle.std.proofs.Common.{sym, ap, ◌∙◌, arith, ◌≡◌, to_z, of_z, w64}
use Rattle.std.proofs.lemmas.Bool.{false≢true}
use Rattle.std.proofs.lemmas.Int.{ints}
use Rattle.table_entries.proofs.table_entries.TableEntries.denominator.Goals as goal

pub returns-then-self-clause-value : goal.returns-then-self-clause-value
returns-then-self-clause-value c = λ whole.
    let self = c.self.inside in
    let d_is : to_z w64 (of_z w64 self.denominator) ≡ self.denominator = let short = (c.self.invariant.over_one c.if-self.true).denominator_short in omega (arith, ints, short) in
    d_is ∙ ap (λ v. v.denominator) c.self.view_is

pub returns-else-self-clause-value : goal.returns-else-self-clause-value
returns-else-self-clause-value c = λ whole. absurd (false≢true (sym c.if-self.false ∙ ap (λ v. v.is_whole) c.self.view_is ∙ whole))
