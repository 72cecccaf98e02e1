use Rattle.std.proofs.Common.{sym, ap, subst, ◌∙◌, arith, ◌≡◌, ◌<◌, length, pos}
use Rattle.std.proofs.lemmas.List.{get_or_default}
use Rattle.table_entries.specs.WholeSteps.{IsShort, whole_number_at}
use Rattle.table_entries.proofs.ReadLemmas.{short_as, short_as_again}
use Rattle.table_entries.proofs.ListedLemmas.{whole_form, whole_size}
use Rattle.table_entries.proofs.table_entries.TableEntries.number.Goals as goal

pub index-requires : goal.index-requires
index-requires c =
    let self = c.self.inside in
    let size : length self.numbers.items ≡ length c.args.self.now.list = whole_size self.is_whole self.denominator self.numbers.items self.fractions.items c.args.self.now c.self.view_is c.requires.whole in
    let within : c.args.at < length self.numbers.items = subst (λ n. c.args.at < n) (sym size) c.requires.within in
    let all = self.numbers.ok.0 in
    omega (arith, within, all)

pub returns-clause-value : goal.returns-clause-value
returns-clause-value c =
    let self = c.self.inside in
    let numbers = self.numbers.items in
    let at = c.args.at in
    let form = whole_form self.is_whole self.denominator numbers self.fractions.items c.args.self.now c.self.view_is c.requires.whole in
    let size : length numbers ≡ length c.args.self.now.list = whole_size self.is_whole self.denominator numbers self.fractions.items c.args.self.now c.self.view_is c.requires.whole in
    let within : at < length numbers = subst (λ n. at < n) (sym size) c.requires.within in
    let short : IsShort (whole_number_at numbers at) = (c.self.invariant.over_one form).short at within in
    let now_is : c.index.result.now ≡ whole_number_at numbers at = c.index.ensures ∙ get_or_default numbers at c.index.result.now (pos 0) within in
    let read = short_as c.index.result.now (whole_number_at numbers at) now_is short in
    read ∙ ap (λ v. whole_number_at v.numbers at) c.self.view_is

pub returns-clause-short : goal.returns-clause-short
returns-clause-short c =
    let self = c.self.inside in
    let numbers = self.numbers.items in
    let at = c.args.at in
    let form = whole_form self.is_whole self.denominator numbers self.fractions.items c.args.self.now c.self.view_is c.requires.whole in
    let size : length numbers ≡ length c.args.self.now.list = whole_size self.is_whole self.denominator numbers self.fractions.items c.args.self.now c.self.view_is c.requires.whole in
    let within : at < length numbers = subst (λ n. at < n) (sym size) c.requires.within in
    let short : IsShort (whole_number_at numbers at) = (c.self.invariant.over_one form).short at within in
    let now_is : c.index.result.now ≡ whole_number_at numbers at = c.index.ensures ∙ get_or_default numbers at c.index.result.now (pos 0) within in
    short_as_again c.index.result.now (whole_number_at numbers at) now_is short
