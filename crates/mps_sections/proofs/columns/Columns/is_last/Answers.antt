use Rattle.std.proofs.Common.{ap, sym, ◌∙◌, List}
use Rattle.mps_sections.specs.Faults.{is_last}
use Rattle.mps_sections.specs.private.Shown.{open_shown}
use Rattle.mps_sections.specs.declared.statements.ColumnLines.{ColumnLines}
use Rattle.mps_sections.proofs.ListFacts.{held_some, is_last-more}
use Rattle.mps_sections.proofs.columns.Columns.is_last.Goals as goal

pub returns-in-Some : goal.returns-in-Some
returns-in-Some c =
    let s = c.args.self.now in
    let name = c.args.name.now in
    c.is_named.ensures ∙ sym (ap (λ (found : List ColumnLines). is_last found name) (held_some s.done s.last c.in-Some.column c.in-Some.is) ∙ is_last-more s.done (open_shown c.in-Some.column) name)
