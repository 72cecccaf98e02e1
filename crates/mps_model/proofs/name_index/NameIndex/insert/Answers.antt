use Rattle.std.proofs.Common.{◌∙◌, ap}
use Rattle.std.specs.Prelude.{bytes_eq, if◌then◌else◌, Some}
use Rattle.std.specs.Ordering.{nat_cmp}
use Rattle.std.specs.Cmp.Lexicographic.{slice_cmp}
use Rattle.std.specs.Map.{lookup}
use Rattle.mps_sections.proofs.ListFacts.{bytes_eq-flips}
use Rattle.mps_model.specs.Places.{find}
use Rattle.mps_model.proofs.PlaceFacts.{same_key, one_key, insert_lookup}
use Rattle.mps_model.proofs.name_index.NameIndex.insert.Goals as goal

pub returns : goal.returns
unfolding find
returns c =
    let entries = c.args.self.now.places.entries in
    let key = c.in-Ok.key in
    λ q.
    ap (lookup (λ k. bytes_eq q k.items)) c.in_ok-insert.ensures.entries
    ∙ insert_lookup (λ k x. slice_cmp nat_cmp k.items x.items) (λ k. bytes_eq q k.items) (λ k x e. same_key q k.items x.items e) (λ k x a b. one_key q k.items x.items a b) entries key c.args.place
    ∙ ap (λ b. if b then Some c.args.place else lookup (λ k. bytes_eq q k.items) entries) (ap (bytes_eq q) c.in-Ok.ensures.items ∙ bytes_eq-flips q c.args.name.now)
