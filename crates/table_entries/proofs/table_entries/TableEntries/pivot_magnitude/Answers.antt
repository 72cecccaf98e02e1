use Rattle.std.proofs.Common.{sym, ap, subst, ◌∙◌, arith, ◌≡◌, ◌≢◌, ◌<◌, ◌<ℤ◌, ◌+◌, ◌*◌, length, get_or, pos}
use Rattle.frac128.specs.Rational.{int}
use Rattle.std.proofs.lemmas.Int.{ints}
use Rattle.std.proofs.lemmas.List.{get_or_default}
use Rattle.table_entries.specs.WholeSteps.{IsShort, magnitude, whole_number_at}
use Rattle.table_entries.specs.Listed.{AreOver}
use Rattle.table_entries.proofs.ReadLemmas.{short_as}
use Rattle.table_entries.proofs.WholeLemmas.{magnitude_positive}
use Rattle.table_entries.proofs.ListedLemmas.{whole_form, whole_list, whole_size, not_zero_number}
use Rattle.table_entries.proofs.table_entries.TableEntries.pivot_magnitude.Goals as goal

pub index-requires : goal.index-requires
index-requires c =
    let self = c.self.inside in
    let numbers = self.numbers.items in
    let size : length numbers ≡ c.args.rows * c.args.columns = whole_size self.is_whole self.denominator numbers self.fractions.items c.args.self.now c.self.view_is c.requires.whole ∙ c.requires.size in
    let within : c.flat_index.result < length numbers = subst (λ n. c.flat_index.result < n) (sym size) c.flat_index.ensures.within in
    let all = self.numbers.ok.0 in
    omega (arith, within, all)

pub abs-requires : goal.abs-requires
abs-requires c =
    let self = c.self.inside in
    let numbers = self.numbers.items in
    let v = c.args.self.now in
    let form = whole_form self.is_whole self.denominator numbers self.fractions.items v c.self.view_is c.requires.whole in
    let are : AreOver self.denominator numbers = c.self.invariant.over_one form in
    let size : length numbers ≡ c.args.rows * c.args.columns = whole_size self.is_whole self.denominator numbers self.fractions.items v c.self.view_is c.requires.whole ∙ c.requires.size in
    let at = c.args.row * c.args.columns + c.args.place in
    let within : c.flat_index.result < length numbers = subst (λ n. c.flat_index.result < n) (sym size) c.flat_index.ensures.within in
    let entry_is : c.index.result.now ≡ whole_number_at numbers at =
    c.index.ensures ∙ get_or_default numbers c.flat_index.result c.index.result.now (pos 0) within ∙ ap (whole_number_at numbers) c.flat_index.ensures.value in
    let short : IsShort (whole_number_at numbers at) = are.short at (subst (λ k. k < length numbers) c.flat_index.ensures.value within) in
    omega (arith, ints, entry_is, short)

pub returns-clause-positive : goal.returns-clause-positive
returns-clause-positive c =
    let self = c.self.inside in
    let numbers = self.numbers.items in
    let v = c.args.self.now in
    let form = whole_form self.is_whole self.denominator numbers self.fractions.items v c.self.view_is c.requires.whole in
    let are : AreOver self.denominator numbers = c.self.invariant.over_one form in
    let size : length numbers ≡ c.args.rows * c.args.columns = whole_size self.is_whole self.denominator numbers self.fractions.items v c.self.view_is c.requires.whole ∙ c.requires.size in
    let at = c.args.row * c.args.columns + c.args.place in
    let within : c.flat_index.result < length numbers = subst (λ n. c.flat_index.result < n) (sym size) c.flat_index.ensures.within in
    let entry_is : c.index.result.now ≡ whole_number_at numbers at =
    c.index.ensures ∙ get_or_default numbers c.flat_index.result c.index.result.now (pos 0) within ∙ ap (whole_number_at numbers) c.flat_index.ensures.value in
    let short : IsShort (whole_number_at numbers at) = are.short at (subst (λ k. k < length numbers) c.flat_index.ensures.value within) in
    let read = short_as c.index.result.now (whole_number_at numbers at) entry_is short in
    let list_is = whole_list self.is_whole self.denominator numbers self.fractions.items v c.self.view_is c.requires.whole in
    let some : whole_number_at numbers at ≢ pos 0 = not_zero_number self.denominator numbers are.positive at (subst (λ xs. get_or xs at (int (pos 0)) ≢ int (pos 0)) list_is c.requires.some) in
    subst (λ n. pos 0 <ℤ n) (sym (short_as c.abs.result (magnitude (whole_number_at numbers at)) (c.abs.ensures.value ∙ ap magnitude read) short)) (magnitude_positive (whole_number_at numbers at) some)

pub returns-clause-short : goal.returns-clause-short
returns-clause-short c =
    let self = c.self.inside in
    let numbers = self.numbers.items in
    let v = c.args.self.now in
    let form = whole_form self.is_whole self.denominator numbers self.fractions.items v c.self.view_is c.requires.whole in
    let are : AreOver self.denominator numbers = c.self.invariant.over_one form in
    let size : length numbers ≡ c.args.rows * c.args.columns = whole_size self.is_whole self.denominator numbers self.fractions.items v c.self.view_is c.requires.whole ∙ c.requires.size in
    let at = c.args.row * c.args.columns + c.args.place in
    let within : c.flat_index.result < length numbers = subst (λ n. c.flat_index.result < n) (sym size) c.flat_index.ensures.within in
    let entry_is : c.index.result.now ≡ whole_number_at numbers at =
    c.index.ensures ∙ get_or_default numbers c.flat_index.result c.index.result.now (pos 0) within ∙ ap (whole_number_at numbers) c.flat_index.ensures.value in
    let short : IsShort (whole_number_at numbers at) = are.short at (subst (λ k. k < length numbers) c.flat_index.ensures.value within) in
    let read = short_as c.index.result.now (whole_number_at numbers at) entry_is short in
    subst IsShort (sym (short_as c.abs.result (magnitude (whole_number_at numbers at)) (c.abs.ensures.value ∙ ap magnitude read) short)) short
