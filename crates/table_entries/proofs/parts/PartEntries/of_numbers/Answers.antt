use Rattle.std.proofs.Common.{◌∙◌, ap, sym, length, pos}
use Rattle.std.proofs.lemmas.List.{length-map}
use Rattle.std.proofs.lemmas.Result.{IfOk-weaker}
use Rattle.frac128.specs.LowestTerms.{quotient_of}
use Rattle.table_entries.proofs.parts.PartEntries.of_numbers.Goals as goal

pub partly_written-requires-clause-whole : goal.partly_written-requires-clause-whole
partly_written-requires-clause-whole c = sym c.is_whole.ensures.value ∙ c.if-is_whole.true

pub partly_written-requires-clause-listed : goal.partly_written-requires-clause-listed
partly_written-requires-clause-listed c = c.is_whole.ensures.lawful c.if-is_whole.true

pub partly_written-requires-clause-denominator : goal.partly_written-requires-clause-denominator
partly_written-requires-clause-denominator c = c.in-Ok.ensures.denominator

pub partly_written-requires-clause-size : goal.partly_written-requires-clause-size
partly_written-requires-clause-size c = ap length c.in-Ok.ensures.list ∙ length-map c.args.numbers.items (λ n. quotient_of n (pos 1)) ∙ c.requires.size

pub returns-then-is_whole-clause-filled : goal.returns-then-is_whole-clause-filled
returns-then-is_whole-clause-filled c = IfOk-weaker c.partly_written.result _ _ (λ v h slots slack. h slots slack ∙ c.in-Ok.ensures.list) c.partly_written.ensures.filled

pub all_written-requires-clause-size : goal.all_written-requires-clause-size
all_written-requires-clause-size c = ap length c.in-Ok.ensures.list ∙ length-map c.args.numbers.items (λ n. quotient_of n (pos 1)) ∙ c.requires.size

pub returns-clause-filled : goal.returns-clause-filled
returns-clause-filled c = IfOk-weaker c.all_written.result _ _ (λ v h slots slack. h slots ∙ c.in-Ok.ensures.list) c.all_written.ensures.filled
