use Rattle.std.specs.Prelude.{◌≡◌, Some}
use Rattle.std.proofs.Common.{subst, ap, ◌∙◌}
use Rattle.lp_model.specs.Program.{Program, in_least_form}
use Rattle.lp_model.specs.declared.types.Sense.{Sense}
use Rattle.branch_tree.specs.Numbered.{IsNumbered}
use Rattle.tree_search.specs.Bounds.{IsLeastNumber}
use Rattle.tree_search.proofs.BoundLemmas.{least-unbeaten}
use Rattle.tree_search.proofs.answering.bound_of.Goals as goal

pub returns-in-Ok-Some : goal.returns-in-Ok-Some
returns-in-Ok-Some c =
    let S = c.args.search.now in
    let numbered : IsNumbered S.tree = c.show_sound.ensures.numbered in
    let least : IsLeastNumber S (Some c.in-Ok-Some.least) = subst (IsLeastNumber S) c.in-Ok-Some.field-0-is c.in-Ok-Some.ensures in
    let sense : c.sense.result ≡ S.model.sense = c.sense.ensures ∙ ap (λ (M : Program). M.sense) c.model.ensures in
    record {
      least = Some c.in-Ok-Some.least;
      least_is = least;
      unbeaten = least-unbeaten S (Some c.in-Ok-Some.least) c.show_sound.ensures.sound numbered least;
      bound_is = ap Some (c.own_sense.ensures ∙ ap (λ (s : Sense). in_least_form s c.in-Ok-Some.least) sense);
    }
