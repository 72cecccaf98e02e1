use Rattle.std.proofs.Common.{◌∙◌, ◌++◌, ◌∷◌, [], refl, ap}
use Rattle.tight_regions.proofs.TrailLemmas.{trail-grown}
use Rattle.tight_regions.proofs.trail.Trail.grow.Goals as goal

pub returns-clause-trail : goal.returns-clause-trail
returns-clause-trail c =
    trail-grown c.args.self.now c.no_change.result c.no_replaced.result c.no_change-2.result _ c.requires
    (c.push_reserved.ensures.items ∙ ap (λ l. l ++ c.no_change.result ∷ []) c.reserve.ensures.items)
    (c.push_reserved-2.ensures.items ∙ ap (λ l. l ++ c.no_replaced.result ∷ []) c.reserve-2.ensures.items)
    (c.push_reserved-3.ensures.items ∙ ap (λ l. l ++ c.no_change-2.result ∷ []) c.reserve-3.ensures.items)
    refl
    refl
