use Rattle.std.proofs.Common.{ℕ, List, ◌||◌, ap, ◌∙◌}
use Rattle.std.specs.Prelude.{bytes_eq}
use Rattle.mps_sections.specs.Sets.{has}
use Rattle.mps_sections.proofs.ListFacts.{holds_on_ok}
use Rattle.mps_sections.proofs.columns.OpenColumn.add_to.Goals as goal

pub returns-in-Ok-clause-known : goal.returns-in-Ok-clause-known
returns-in-Ok-clause-known c = holds_on_ok c.push.result (λ q. c.in-Ok.ensures q ∙ ap (λ (name : List ℕ). bytes_eq name q || has c.args.known.now q) c.as_slice.ensures)
