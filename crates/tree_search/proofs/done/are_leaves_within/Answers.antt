use Rattle.std.specs.Prelude.{◌≡◌, false, true}
use Rattle.tree_search.proofs.WithinLemmas.{within-reached}
use Rattle.tree_search.proofs.done.are_leaves_within.Goals as goal

pub returns-in-None : goal.returns-in-None
returns-in-None c = (λ (e : false ≡ true). absurd cc, λ h. absurd (c.in-None.ensures h.against h.is))

pub returns-in-Some : goal.returns-in-Some
returns-in-Some c =
    let S = c.args.search.now in
    let r = c.reaches.ensures S.model c.requires.whole in
    let w = within-reached S c.args.gap.now c.args.first.now c.show_sound.ensures.sound c.requires.gap c.requires.first c.in-Some.target c.in-Some.ensures in
    (λ h. w.0 (r.0 h), λ h. r.1 (w.1 h))
