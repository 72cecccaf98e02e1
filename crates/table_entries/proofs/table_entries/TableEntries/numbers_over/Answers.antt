use Rattle.std.proofs.Common.{sym, ap, subst, ◌∙◌, arith, ◌≡◌, length, get_or, true, pos}
use Rattle.std.proofs.lemmas.Int.{ints}
use Rattle.frac128.specs.Rational.{int}
use Rattle.frac128.specs.LowestTerms.{quotient_of}
use Rattle.table_entries.specs.WholeSteps.{AreShort, whole_number_at}
use Rattle.table_entries.proofs.ListedLemmas.{whole_list, whole_size, over_at}
use Rattle.table_entries.proofs.table_entries.TableEntries.numbers_over.Goals as goal

pub returns-then-self-denominator-clause-length : goal.returns-then-self-denominator-clause-length
returns-then-self-denominator-clause-length c =
    let self = c.self.inside in
    let whole : c.args.self.now.is_whole ≡ true = sym (ap (λ w. w.is_whole) c.self.view_is) ∙ c.if-self.true in
    ap length c.as_slice.ensures.value ∙ whole_size self.is_whole self.denominator self.numbers.items self.fractions.items c.args.self.now c.self.view_is whole

pub returns-then-self-denominator-clause-short : goal.returns-then-self-denominator-clause-short
returns-then-self-denominator-clause-short c = subst AreShort (sym c.as_slice.ensures.value) (c.self.invariant.over_one c.if-self.true).short

pub returns-then-self-denominator-clause-value : goal.returns-then-self-denominator-clause-value
returns-then-self-denominator-clause-value c = λ at.
    let self = c.self.inside in
    let numbers = self.numbers.items in
    let whole : c.args.self.now.is_whole ≡ true = sym (ap (λ w. w.is_whole) c.self.view_is) ∙ c.if-self.true in
    let are = c.self.invariant.over_one c.if-self.true in
    let list_is = whole_list self.is_whole self.denominator numbers self.fractions.items c.args.self.now c.self.view_is whole in
    let d_is : self.denominator ≡ c.args.denominator = let e = c.if-self-denominator.true in let range = c.ranges.denominator in let short = are.denominator_short in omega (arith, ints, e, range, short) in
    ap (λ xs. get_or xs at (int (pos 0))) list_is ∙ over_at self.denominator numbers are.positive at ∙ (λ i. quotient_of (whole_number_at (sym c.as_slice.ensures.value i) at) (d_is i))
