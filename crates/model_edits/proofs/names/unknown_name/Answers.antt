use Rattle.std.proofs.Common.{◌≡◌, ℕ, List, map, sym, subst}
use Rattle.std.specs.Prelude.{◌⊎◌}
use Rattle.frac128.specs.Rational.{ℚ}
use Rattle.model_edits.specs.declared.faults.EditFault.TheVariants.{NoSuch, Memory}
use Rattle.model_edits.proofs.EditLaws.{unknown_of_place}
use Rattle.model_edits.proofs.names.unknown_name.Goals as goal

pub returns-in-Some : goal.returns-in-Some
returns-in-Some g c =
    let named = c.index-named-place.result in
    unknown_of_place (map g.T.HasName.name c.args.items.now) c.args.named.now c.in-Some.place named c.no_such.result c.in-Some.ensures.0 c.index-named-place.is c.in-Some.ensures.1
    (subst (λ (d : List ℕ × ℚ). (c.no_such.result ≡ Memory) ⊎ (c.no_such.result ≡ NoSuch d.0)) (sym c.index-named-place.is) c.no_such.ensures)
