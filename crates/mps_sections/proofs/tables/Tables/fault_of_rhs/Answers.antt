use Rattle.std.proofs.Common.{◌≡◌, ◌∙◌, sym, ap, true, false, List, ◌∷◌, [], ◌||◌}
use Rattle.std.specs.Prelude.{is_some}
use Rattle.mps_text.specs.Reading.{entry_of_record}
use Rattle.mps_fields.specs.Fields.{Pair, set_pairs, has_twice}
use Rattle.mps_sections.specs.Faults.{Test, least, set_tests, has_again}
use Rattle.mps_sections.specs.private.Shown.{held}
use Rattle.mps_sections.specs.Statements.{StatedModel}
use Rattle.mps_sections.proofs.TestFacts.{least_before, least_behind}
use Rattle.mps_sections.proofs.tables.Tables.fault_of_rhs.Goals as goal

abbrev behind : StatedModel → List Pair → List Test
behind s found = (22, has_twice found || has_again s.sides found) ∷ []

pub returns-then-is_some : goal.returns-then-is_some
returns-then-is_some c =
    let s = held c.args.self.now in
    let tests = set_tests s (entry_of_record c.args.entry.now) in
    let some : is_some (least tests) ≡ true = sym (ap is_some c.fault_of_set-fault.ensures) ∙ sym c.is_some.ensures ∙ c.if-is_some.true in
    c.fault_of_set-fault.ensures ∙ least_before tests (behind s (set_pairs (entry_of_record c.args.entry.now))) some

pub returns : goal.returns
unfolding held
returns c =
    let s = held c.args.self.now in
    let tests = set_tests s (entry_of_record c.args.entry.now) in
    let none : is_some (least tests) ≡ false = sym (ap is_some c.fault_of_set-fault.ensures) ∙ sym c.is_some.ensures ∙ c.if-is_some.false in
    c.fault_of_sides.ensures ∙ ap (λ (found : List Pair). least (behind s found)) c.requires ∙ least_behind tests (behind s (set_pairs (entry_of_record c.args.entry.now))) none
