use Rattle.std.proofs.Common.{◌≡◌, ◌∙◌, sym, ap, true, false}
use Rattle.std.specs.Prelude.{is_some}
use Rattle.mps_fields.specs.Fields.{pairs_shown}
use Rattle.mps_sections.specs.Faults.{least, pair_tests, place_tests}
use Rattle.mps_sections.specs.private.Shown.{held}
use Rattle.mps_sections.proofs.TestFacts.{least_before, least_behind}
use Rattle.mps_sections.proofs.tables.Tables.fault_of_entries.Goals as goal

pub returns-then-is_some : goal.returns-then-is_some
returns-then-is_some c =
    let s = held c.args.self.now in
    let tests = pair_tests s (pairs_shown c.args.pairs.now) in
    let more = place_tests s c.args.name.now (pairs_shown c.args.pairs.now) in
    let some : is_some (least tests) ≡ true = sym (ap is_some c.fault_of_pairs-fault.ensures) ∙ sym c.is_some.ensures ∙ c.if-is_some.true in
    c.fault_of_pairs-fault.ensures ∙ least_before tests more some

pub returns : goal.returns
unfolding held
returns c =
    let s = held c.args.self.now in
    let tests = pair_tests s (pairs_shown c.args.pairs.now) in
    let more = place_tests s c.args.name.now (pairs_shown c.args.pairs.now) in
    let none : is_some (least tests) ≡ false = sym (ap is_some c.fault_of_pairs-fault.ensures) ∙ sym c.is_some.ensures ∙ c.if-is_some.false in
    c.fault_of_place.ensures ∙ least_behind tests more none
