use Rattle.std.proofs.Common.{◌∙◌}
use Rattle.std.specs.Prelude.{bytes_eq}
use Rattle.std.specs.Ordering.{is_eq, nat_cmp}
use Rattle.std.specs.Cmp.Lexicographic.{slice_cmp}
use Rattle.std.proofs.lemmas.Map.Text.{is_eq-slice_cmp}
use Rattle.mps_sections.specs.Sets.{has}
use Rattle.mps_sections.proofs.SetFacts.{any_same}
use Rattle.mps_sections.proofs.name_set.NameSet.contains.Goals as goal

pub returns : goal.returns
unfolding has
returns c =
    let name = c.args.name.now in
    c.contains.ensures ∙ any_same (λ key. is_eq (slice_cmp nat_cmp name key.items)) (λ key. bytes_eq name key.items) (λ key. is_eq-slice_cmp name key.items) c.args.self.now.keys.keys
