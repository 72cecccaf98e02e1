use Rattle.std.proofs.Common.{◌∙◌, ap, sym, ◌||◌}
use Rattle.std.specs.Prelude.{bytes_eq}
use Rattle.std.specs.List.{list_any}
use Rattle.std.specs.Ordering.{is_eq, nat_cmp}
use Rattle.std.specs.Cmp.Lexicographic.{slice_cmp}
use Rattle.std.proofs.lemmas.Map.Text.{is_eq-slice_cmp}
use Rattle.std.proofs.lemmas.Slice.Eq.{bytes_eq-Decides}
use Rattle.mps_sections.specs.Sets.{has}
use Rattle.mps_sections.proofs.ListFacts.{bytes_eq-flips}
use Rattle.mps_sections.proofs.SetFacts.{insert_any}
use Rattle.mps_sections.proofs.name_set.NameSet.insert.Goals as goal

pub returns : goal.returns
unfolding has
returns c =
    let keys = c.args.self.now.keys.keys in
    let key = c.in-Ok.key in
    λ q.
    ap (list_any (λ k. bytes_eq q k.items)) c.in_ok-insert.ensures.keys
    ∙ insert_any (λ k x. slice_cmp nat_cmp k.items x.items) (λ k. bytes_eq q k.items) (λ k x e. ap (bytes_eq q) (sym ((bytes_eq-Decides k.items x.items).0 (sym (is_eq-slice_cmp k.items x.items) ∙ ap is_eq e)))) keys key
    ∙ ap (λ b. b || list_any (λ k. bytes_eq q k.items) keys) (ap (bytes_eq q) c.in-Ok.ensures.items ∙ bytes_eq-flips q c.args.name.now)
