use Rattle.std.proofs.Common.{◌++◌, ◌∷◌, [], take, sym, ap, ◌∙◌, arith}
use Rattle.std.proofs.lemmas.List.{append-nil, take-append-le}
use Rattle.lp_model.specs.Regions.{Path}
use Rattle.lp_model.specs.declared.types.BoundChange.{BoundChange}
use Rattle.tight_regions.specs.Tight.{path_of_trail}
use Rattle.branch_tree.specs.private.Stored.{change_of}
use Rattle.branch_tree.specs.private.Paths.{path_to}
use Rattle.branch_tree.proofs.TrailPaths.{path-long, whole-front}
use Rattle.branch_tree.proofs.visiting.enter.Goals as goal

pub loop-trail-preserved : goal.loop-trail-preserved
loop-trail-preserved c =
    let rest = path_of_trail c.pop.new.self in
    let long = path-long c.pop.new.self c.pop.ensures.trail in
    record {
      trail = c.pop.ensures.trail;
      front = sym (take-append-le c.args.above rest (c.pop.result ∷ []) (omega (arith, long, c.pop.ensures.depth)))
          ∙ ap (take c.args.above) (sym c.pop.ensures.path) ∙ c.loop-trail.invariant.front;
    }

pub returns-in_ok-grow-in-Some-clause-path : goal.returns-in_ok-grow-in-Some-clause-path
returns-in_ok-grow-in-Some-clause-path c =
    let t = c.loop-trail.trail in
    let front = sym (whole-front t c.args.above c.loop-trail.invariant.trail (omega (arith, c.loop-trail-test.false, c.depth.ensures))) ∙ c.loop-trail.invariant.front in
    c.push.ensures.path
    ∙ ap (λ (change : BoundChange). path_of_trail c.grow.new.self ++ change ∷ []) c.change.ensures
    ∙ ap (λ (p : Path). p ++ change_of c.in-Some.way ∷ []) (c.grow.ensures.path ∙ front)
    ∙ ap (path_to (path_of_trail c.args.trail.now) c.args.above) (sym c.in-Some.is)

pub returns-in-None-clause-path : goal.returns-in-None-clause-path
returns-in-None-clause-path c =
    let t = c.loop-trail.trail in
    let front = sym (whole-front t c.args.above c.loop-trail.invariant.trail (omega (arith, c.loop-trail-test.false, c.depth.ensures))) ∙ c.loop-trail.invariant.front in
    front
    ∙ sym (append-nil (take c.args.above (path_of_trail c.args.trail.now)))
    ∙ ap (path_to (path_of_trail c.args.trail.now) c.args.above) (sym c.in-None.is)
