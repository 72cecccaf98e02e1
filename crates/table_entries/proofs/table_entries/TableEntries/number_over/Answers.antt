use Rattle.std.proofs.Common.{sym, ap, subst, ◌∙◌, arith, ◌≡◌, ◌<◌, length, get_or, true, pos}
use Rattle.std.proofs.lemmas.Int.{ints}
use Rattle.std.proofs.lemmas.List.{get_or_default}
use Rattle.frac128.specs.Rational.{int}
use Rattle.frac128.specs.LowestTerms.{quotient_of}
use Rattle.table_entries.specs.WholeSteps.{whole_number_at}
use Rattle.table_entries.proofs.ReadLemmas.{short_as, short_as_again}
use Rattle.table_entries.proofs.ListedLemmas.{whole_list, whole_size, over_at}
use Rattle.table_entries.proofs.table_entries.TableEntries.number_over.Goals as goal

pub index-requires : goal.index-requires
index-requires c =
    let self = c.self.inside in
    let whole : c.args.self.now.is_whole ≡ true = sym (ap (λ w. w.is_whole) c.self.view_is) ∙ c.if-self.true in
    let size = whole_size self.is_whole self.denominator self.numbers.items self.fractions.items c.args.self.now c.self.view_is whole in
    let within : c.args.at < length self.numbers.items = subst (λ n. c.args.at < n) (sym size) c.requires in
    let all = self.numbers.ok.0 in
    omega (arith, within, all)

pub returns-then-self-denominator-clause-short : goal.returns-then-self-denominator-clause-short
returns-then-self-denominator-clause-short c =
    let self = c.self.inside in
    let numbers = self.numbers.items in
    let at = c.args.at in
    let whole : c.args.self.now.is_whole ≡ true = sym (ap (λ w. w.is_whole) c.self.view_is) ∙ c.if-self.true in
    let size = whole_size self.is_whole self.denominator numbers self.fractions.items c.args.self.now c.self.view_is whole in
    let within : at < length numbers = subst (λ n. at < n) (sym size) c.requires in
    let now_is : c.index.result.now ≡ whole_number_at numbers at = c.index.ensures ∙ get_or_default numbers at c.index.result.now (pos 0) within in
    short_as_again c.index.result.now (whole_number_at numbers at) now_is ((c.self.invariant.over_one c.if-self.true).short at within)

pub returns-then-self-denominator-clause-value : goal.returns-then-self-denominator-clause-value
returns-then-self-denominator-clause-value c =
    let self = c.self.inside in
    let numbers = self.numbers.items in
    let at = c.args.at in
    let whole : c.args.self.now.is_whole ≡ true = sym (ap (λ w. w.is_whole) c.self.view_is) ∙ c.if-self.true in
    let are = c.self.invariant.over_one c.if-self.true in
    let list_is = whole_list self.is_whole self.denominator numbers self.fractions.items c.args.self.now c.self.view_is whole in
    let size = whole_size self.is_whole self.denominator numbers self.fractions.items c.args.self.now c.self.view_is whole in
    let within : at < length numbers = subst (λ n. at < n) (sym size) c.requires in
    let now_is : c.index.result.now ≡ whole_number_at numbers at = c.index.ensures ∙ get_or_default numbers at c.index.result.now (pos 0) within in
    let read = short_as c.index.result.now (whole_number_at numbers at) now_is (are.short at within) in
    let d_is : self.denominator ≡ c.args.denominator = let e = c.if-self-denominator.true in let range = c.ranges.denominator in let short = are.denominator_short in omega (arith, ints, e, range, short) in
    ap (λ xs. get_or xs at (int (pos 0))) list_is ∙ over_at self.denominator numbers are.positive at ∙ (λ i. quotient_of (sym read i) (d_is i))
