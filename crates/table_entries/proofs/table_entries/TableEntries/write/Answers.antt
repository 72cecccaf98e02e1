use Rattle.std.proofs.Common.{◌≤◌, vec_capacity, sym, ap, subst, refl, ◌∙◌, arith, ◌≡◌, ◌<◌, length, set, ℤ, List, to_z, of_z, w64}
use Rattle.std.proofs.lemmas.Int.{ints}
use Rattle.std.proofs.lemmas.List.{length-map, length-set}
use Rattle.frac128.specs.LowestTerms.{quotient_of}
use Rattle.table_entries.specs.WholeSteps.{IsShort}
use Rattle.table_entries.proofs.ListedLemmas.{listed_numbers, whole_form, whole_size, whole_listed, set_over}
use Rattle.table_entries.proofs.table_entries.TableEntries.write.Goals as goal

pub index_mut-requires : goal.index_mut-requires
index_mut-requires c =
    let self = c.self.inside in
    let size : length self.numbers.items ≡ length c.args.self.now.list = whole_size self.is_whole self.denominator self.numbers.items self.fractions.items c.args.self.now c.self.view_is c.requires.whole in
    let within : c.args.at < length self.numbers.items = subst (λ n. c.args.at < n) (sym size) c.requires.within in
    let all = self.numbers.ok.0 in
    omega (arith, within, all)

pub invariant_of-self : goal.invariant_of-self
invariant_of-self c =
    let self = c.self.inside in
    let shape = c.self.invariant in
    let number = to_z w64 (of_z w64 c.args.number) in
    let short : IsShort number = let h = c.requires.short in omega (arith, ints, h) in
    let size = length-set self.numbers.items c.args.at number in
    record {
      spare_length = shape.spare_length;
      spare_room = shape.spare_room;
      fractions_length = λ e. subst (λ n. length self.fractions.items ≤ n) (sym size) (shape.fractions_length e);
      fractions_room = λ e. subst (λ n. n ≤ vec_capacity self.fractions) (sym size) (shape.fractions_room e);
      numbers_room = λ e. subst (λ n. n ≤ vec_capacity self.spare) (sym size) (shape.numbers_room e);
      spare_numbers_length = λ e. shape.spare_numbers_length e ∙ sym size;
      over_one = λ e. set_over self.denominator self.numbers.items c.args.at number (shape.over_one e) short;
      spare_short = shape.spare_short;
    }

pub returns-clause-numbers : goal.returns-clause-numbers
returns-clause-numbers c =
    let n_is : to_z w64 (of_z w64 c.args.number) ≡ c.args.number = let h = c.requires.short in omega (arith, ints, h) in
    λ j. set ((ap (λ v. v.numbers) c.self.view_is) j) c.args.at (n_is j)

pub returns-clause-denominator : goal.returns-clause-denominator
returns-clause-denominator c = ap (λ v. v.denominator) c.self.view_is

pub returns-clause-form : goal.returns-clause-form
returns-clause-form c = ap (λ v. v.is_whole) c.self.view_is ∙ c.requires.whole

pub returns-clause-size : goal.returns-clause-size
returns-clause-size c =
    let self = c.self.inside in
    let numbers = self.numbers.items in
    let v = c.args.self.now in
    let form = whole_form self.is_whole self.denominator numbers self.fractions.items v c.self.view_is c.requires.whole in
    let number = to_z w64 (of_z w64 c.args.number) in
    let next : List ℤ = set numbers c.args.at number in
    ap length (listed_numbers self.is_whole self.denominator next self.fractions.items form) ∙ length-map next (λ n. quotient_of n self.denominator) ∙ length-set numbers c.args.at number
    ∙ whole_size self.is_whole self.denominator numbers self.fractions.items v c.self.view_is c.requires.whole

pub returns-clause-listed : goal.returns-clause-listed
returns-clause-listed c =
    let self = c.self.inside in
    let numbers = self.numbers.items in
    let v = c.args.self.now in
    let form = whole_form self.is_whole self.denominator numbers self.fractions.items v c.self.view_is c.requires.whole in
    let number = to_z w64 (of_z w64 c.args.number) in
    let short : IsShort number = let h = c.requires.short in omega (arith, ints, h) in
    whole_listed self.is_whole self.denominator (set numbers c.args.at number) self.fractions.items _ refl form (set_over self.denominator numbers c.args.at number (c.self.invariant.over_one form) short)
