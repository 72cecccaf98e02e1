use Rattle.std.proofs.Common.{◌∙◌, ap, sym}
use Rattle.std.specs.Prelude.{bytes_eq}
use Rattle.std.specs.Option.{option_copied}
use Rattle.std.specs.Ordering.{is_eq, nat_cmp}
use Rattle.std.specs.Cmp.Lexicographic.{slice_cmp}
use Rattle.std.proofs.lemmas.Map.Text.{is_eq-slice_cmp}
use Rattle.mps_model.specs.Places.{find}
use Rattle.mps_model.proofs.PlaceFacts.{lookup_same}
use Rattle.mps_model.proofs.name_index.NameIndex.find.Goals as goal

pub returns-in-Some : goal.returns-in-Some
unfolding find
returns-in-Some c =
    let name = c.args.name.now in
    ap option_copied (sym c.in-Some.is) ∙ c.get.ensures.value ∙ lookup_same (λ key. is_eq (slice_cmp nat_cmp name key.items)) (λ key. bytes_eq name key.items) (λ key. is_eq-slice_cmp name key.items) c.args.self.now.places.entries

pub returns-in-None : goal.returns-in-None
unfolding find
returns-in-None c =
    let name = c.args.name.now in
    ap option_copied (sym c.in-None.is) ∙ c.get.ensures.value ∙ lookup_same (λ key. is_eq (slice_cmp nat_cmp name key.items)) (λ key. bytes_eq name key.items) (λ key. is_eq-slice_cmp name key.items) c.args.self.now.places.entries
