use Rattle.std.specs.Prelude.{◌≡◌, ◌↔◌, IsTrue, false, true}
use Rattle.std.proofs.Common.{sym, subst}
use Rattle.tree_search.specs.Within.{IsGapLimit, IsGapReached}
use Rattle.tree_search.specs.declared.searching.Ways.TheVariants.{Own}
use Rattle.tree_search.proofs.StepLemmas.{first-next, next-open_leaf}
use Rattle.tree_search.proofs.done.is_done.Goals as goal

pub returns-in-Rays : goal.returns-in-Rays
returns-in-Rays c = subst (λ w. IsTrue false ↔ IsGapReached w c.args.gap.now c.args.search.now) (sym c.in-Rays.is) (λ (e : false ≡ true). absurd cc, λ h. absurd h)

pub returns-in-None : goal.returns-in-None
returns-in-None c =
    subst (λ w. IsTrue false ↔ IsGapReached w c.args.gap.now c.args.search.now) (sym c.in-Own.is)
    (subst (λ g. IsTrue false ↔ IsGapReached Own g c.args.search.now) (sym c.in-None.is) (λ (e : false ≡ true). absurd cc, λ h. absurd h))

pub returns-in-Some : goal.returns-in-Some
returns-in-Some c =
    let S = c.args.search.now in
    let left = next-open_leaf S c.args.first.now.id c.show_sound.ensures.numbered (first-next S c.args.first.now c.requires.first) in
    let w = c.are_leaves_within.ensures in
    subst (λ w. IsTrue c.are_leaves_within.result ↔ IsGapReached w c.args.gap.now S) (sym c.in-Own.is)
    (subst (λ g. IsTrue c.are_leaves_within.result ↔ IsGapReached Own g S) (sym c.in-Some.is) (λ h. (left, w.0 h), λ h. w.1 h.1))

pub are_leaves_within-requires-clause-gap : goal.are_leaves_within-requires-clause-gap
are_leaves_within-requires-clause-gap c = subst IsGapLimit c.in-Some.is c.requires.gap
