use Rattle.std.proofs.Common.{ap, sym, ◌∙◌}
use Rattle.mps_sections.specs.Faults.{has_again, numbers_of_last}
use Rattle.mps_sections.specs.private.Shown.{open_shown}
use Rattle.mps_fields.specs.Fields.{pairs_shown}
use Rattle.mps_sections.proofs.ListFacts.{held_some, numbers_of_last-more}
use Rattle.mps_sections.proofs.columns.Columns.has_again.Goals as goal

pub returns-in-Some : goal.returns-in-Some
returns-in-Some c =
    let s = c.args.self.now in
    c.has_again.ensures ∙ ap (λ found. has_again found (pairs_shown c.args.pairs.now)) (sym (ap numbers_of_last (held_some s.done s.last c.in-Some.column c.in-Some.is) ∙ numbers_of_last-more s.done (open_shown c.in-Some.column)))
