use Rattle.std.proofs.Common.{refl, sym, ap, ◌∙◌, ◌≡◌, ◌*◌, ◌^◌, [], length, pos, arith}
use Rattle.std.proofs.lemmas.Int.{ints}
use Rattle.std.proofs.lemmas.List.{length-map}
use Rattle.frac128.specs.LowestTerms.{quotient_of}
use Rattle.table_entries.proofs.ListedLemmas.{all_exchanged}
use Rattle.table_entries.proofs.WholeListLemmas.{all_within}
use Rattle.table_entries.proofs.table_entries.TableEntries.exchange_wholes.Goals as goal

pub returns-clause-done : goal.returns-clause-done
returns-clause-done c = λ t. all_exchanged c.args.rows c.args.columns c.args.row c.args.place [] _ c.args.self.now c.exchange_part.new.self (λ i. refl) c.requires.size (c.exchange_part.ensures.done t)

pub exchange_part-requires-clause-within : goal.exchange_part-requires-clause-within
exchange_part-requires-clause-within c =
    let v = c.args.self.now in
    let listed = c.is_whole-listed.ensures.lawful (c.is_whole-listed.ensures.value ∙ c.requires.whole) in
    let size : length v.numbers ≡ c.args.rows * c.args.columns = sym (length-map v.numbers (λ n. quotient_of n v.denominator)) ∙ sym (ap length listed.list) ∙ c.requires.size in
    all_within c.args.rows c.args.columns [] (pos (2 ^ 62)) v.numbers (omega (arith, ints)) size listed.are_over.short
