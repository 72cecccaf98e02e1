use Rattle.std.proofs.Common.{sym, ap, subst, ◌∙◌, ◌≡◌, ◌<◌, length, get_or, true, pos}
use Rattle.std.proofs.lemmas.List.{get_or_default, length-map}
use Rattle.frac128.specs.Rational.{int}
use Rattle.frac128.specs.LowestTerms.{quotient_of}
use Rattle.table_entries.specs.WholeSteps.{IsShort, whole_number_at}
use Rattle.table_entries.specs.Listed.{over}
use Rattle.table_entries.proofs.ReadLemmas.{short_as}
use Rattle.table_entries.proofs.ListedLemmas.{listed_numbers, over_at, zero_number}
use Rattle.table_entries.proofs.table_entries.TableEntries.is_zero.Goals as goal

pub returns-then-self : goal.returns-then-self
returns-then-self c =
    let self = c.self.inside in
    let at = c.args.at in
    let numbers = self.numbers.items in
    let form : self.is_whole ≡ true = c.if-self.true in
    let are = c.self.invariant.over_one form in
    let list_is : c.args.self.now.list ≡ over self.denominator numbers = sym (ap (λ v. v.list) c.self.view_is) ∙ listed_numbers self.is_whole self.denominator numbers self.fractions.items form in
    let within : at < length numbers = subst (λ n. at < n) (ap length list_is ∙ length-map numbers (λ n. quotient_of n self.denominator)) c.requires in
    let short : IsShort (whole_number_at numbers at) = are.short at within in
    let now_is : c.index.result.now ≡ whole_number_at numbers at = c.index.ensures ∙ get_or_default numbers at c.index.result.now (pos 0) within in
    let read = short_as c.index.result.now (whole_number_at numbers at) now_is short in
    let entry_is : get_or c.args.self.now.list at (int (pos 0)) ≡ quotient_of (whole_number_at numbers at) self.denominator = ap (λ xs. get_or xs at (int (pos 0))) list_is ∙ over_at self.denominator numbers are.positive at in
    let zero = zero_number (whole_number_at numbers at) self.denominator are.positive in
    (λ t. entry_is ∙ zero.0 (sym read ∙ c.is_nothing.ensures.0 t), λ e. c.is_nothing.ensures.1 (read ∙ zero.1 (sym entry_is ∙ e)))
