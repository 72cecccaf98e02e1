use Rattle.std.proofs.Common.{◌++◌, ◌∷◌, [], ap, sym, subst, ◌∙◌}
use Rattle.cert_check.specs.Walk.{after_leaf}
use Rattle.cert_check.proofs.WalkLemmas.{after_leaf-low, after_leaf-high}
use Rattle.tight_regions.specs.Tight.{path_of_trail}
use Rattle.tree_cert.specs.private.Walked.{HasTurns}
use Rattle.tree_cert.proofs.TreeWalk.{turns-front}
use Rattle.tree_cert.proofs.walk.turn.Goals as goal

pub second_child-requires : goal.second_child-requires
second_child-requires c =
    (turns-front (path_of_trail c.pop-last.new.self) c.pop-last.result (subst HasTurns c.pop-last.ensures.path c.loop-trail.invariant.turns)).1 c.in-Hi.is

pub loop-trail-preserved : goal.loop-trail-preserved
loop-trail-preserved c =
    let path = path_of_trail c.pop-last.new.self in
    record {
      trail = c.pop-last.ensures.trail;
      turns = (turns-front path c.pop-last.result (subst HasTurns c.pop-last.ensures.path c.loop-trail.invariant.turns)).0;
      path = c.loop-trail.invariant.path ∙ ap after_leaf c.pop-last.ensures.path ∙ after_leaf-low path c.pop-last.result c.in-Lo.is;
    }

pub returns-in-Hi-clause-path : goal.returns-in-Hi-clause-path
returns-in-Hi-clause-path c =
    let path = path_of_trail c.pop-last.new.self in
    c.push.ensures.path
    ∙ ap (λ d. path ++ d ∷ []) c.second_child.ensures
    ∙ sym (c.loop-trail.invariant.path ∙ ap after_leaf c.pop-last.ensures.path ∙ after_leaf-high path c.pop-last.result c.in-Hi.is)
