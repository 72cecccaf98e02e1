use Rattle.std.proofs.Common.{◌∙◌, ◌++◌, ◌∷◌, [], ap, sym, subst, arith}
use Rattle.std.specs.Prelude.{All}
use Rattle.cert_check.specs.Walk.{after_leaf}
use Rattle.cert_check.specs.private.Walk.{CanTurn}
use Rattle.tight_regions.specs.Tight.{path_of_trail}
use Rattle.cert_check.proofs.WalkLemmas.{turns-fewer, after_leaf-low, after_leaf-high}
use Rattle.cert_check.proofs.checking.turn.Goals as goal

pub loop-trail-preserved : goal.loop-trail-preserved
loop-trail-preserved c =
    let path = path_of_trail c.pop-last.new.self in
    record {
      trail = c.pop-last.ensures.trail;
      turns = (turns-fewer path c.pop-last.result (subst (All CanTurn) c.pop-last.ensures.path c.loop-trail.invariant.turns)).0;
      path = c.loop-trail.invariant.path ∙ ap after_leaf c.pop-last.ensures.path ∙ after_leaf-low path c.pop-last.result c.in-Lo.is;
      within = omega (arith, c.loop-trail.invariant.within, c.pop-last.ensures.depth);
      room = c.pop-last.ensures.room ∙ c.loop-trail.invariant.room;
    }

pub returns-in-Hi-clause-path : goal.returns-in-Hi-clause-path
returns-in-Hi-clause-path c =
    let path = path_of_trail c.pop-last.new.self in
    c.push.ensures.path
    ∙ ap (λ d. path ++ d ∷ []) c.second_child.ensures
    ∙ sym (c.loop-trail.invariant.path ∙ ap after_leaf c.pop-last.ensures.path ∙ after_leaf-high path c.pop-last.result c.in-Hi.is)
