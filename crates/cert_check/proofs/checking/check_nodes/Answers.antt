use Rattle.std.proofs.Common.{◌∙◌, ◌+◌, refl, sym, subst, arith}
use Rattle.cert_check.specs.declared.verdict.Judgement.TheVariants.{Passes, Breaks, NoRoom}
use Rattle.lp_model.specs.Formulations.{formulation}
use Rattle.tight_regions.specs.Tight.{path_of_trail}
use Rattle.cert_check.proofs.SameRegion.{judged-same}
use Rattle.cert_check.proofs.VerdictSteps.{Goes, goes_first, goes_narrow, goes_turns, goes_next, goes_wrong, goes_all, place_here}
use Rattle.cert_check.proofs.checking.check_nodes.Goals as goal

pub loop-index-init : goal.loop-index-init
loop-index-init c = record {
  trail = c.restart.ensures.trail;
  deep = omega (arith, c.restart.ensures.depth);
  room = c.restart.ensures.room;
  goes = λ tree walked. subst (Goes (formulation c.args.model.now c.args.cuts.now) c.args.claim.now tree 0) (sym c.restart.ensures.path) (goes_first (formulation c.args.model.now c.args.cuts.now) c.args.claim.now tree);
}

pub judge-requires-clause-narrow : goal.judge-requires-clause-narrow
judge-requires-clause-narrow c =
    let t = c.requires.tree in
    let trail = c.loop-index.trail in
    c.region.ensures.narrow (goes_narrow (formulation c.args.model.now c.args.cuts.now) c.args.claim.now t.0 c.loop-index.index (path_of_trail trail) (c.loop-index.invariant.goes t.0 t.1))

pub judge-requires-clause-placed : goal.judge-requires-clause-placed
judge-requires-clause-placed c =
    let t = c.requires.tree in
    place_here (formulation c.args.model.now c.args.cuts.now) t.0 c.args.nodes.now t.1 c.loop-index.index c.loop-index-test.true c.index-nodes-index.result c.index-nodes-index.is

pub step_on-requires-clause-turns : goal.step_on-requires-clause-turns
step_on-requires-clause-turns c =
    let t = c.requires.tree in
    goes_turns (formulation c.args.model.now c.args.cuts.now) c.args.claim.now t.0 c.loop-index.index (path_of_trail c.loop-index.trail) (c.loop-index.invariant.goes t.0 t.1)

pub returns-in-Breaks-clause-verdict : goal.returns-in-Breaks-clause-verdict
returns-in-Breaks-clause-verdict c = λ tree walked.
    let F = formulation c.args.model.now c.args.cuts.now in
    let claim = c.args.claim.now in
    let trail = c.loop-index.trail in
    let node = c.index-nodes-index.result in
    let j = Breaks c.in-Breaks.why in
    let judged = judged-same F _ (path_of_trail trail) c.region.ensures.bounds claim node j c.in-Breaks.ensures in
    goes_wrong F claim tree c.args.nodes.now walked c.loop-index.index (path_of_trail trail) c.loop-index-test.true (c.loop-index.invariant.goes tree walked) node j c.index-nodes-index.is judged

pub returns-in-NoRoom-clause-verdict : goal.returns-in-NoRoom-clause-verdict
returns-in-NoRoom-clause-verdict c = λ tree walked.
    let F = formulation c.args.model.now c.args.cuts.now in
    let claim = c.args.claim.now in
    let trail = c.loop-index.trail in
    let node = c.index-nodes-index.result in
    let j = NoRoom c.in-NoRoom.step in
    let judged = judged-same F _ (path_of_trail trail) c.region.ensures.bounds claim node j c.in-NoRoom.ensures in
    goes_wrong F claim tree c.args.nodes.now walked c.loop-index.index (path_of_trail trail) c.loop-index-test.true (c.loop-index.invariant.goes tree walked) node j c.index-nodes-index.is judged

pub loop-index-preserved : goal.loop-index-preserved
loop-index-preserved c = record {
  trail = c.step_on.ensures.trail;
  deep = omega (arith, c.step_on.ensures.within, c.loop-index.invariant.deep);
  room = c.step_on.ensures.room ∙ c.loop-index.invariant.room;
  goes = λ tree walked.
      let F = formulation c.args.model.now c.args.cuts.now in
      let claim = c.args.claim.now in
      let trail = c.loop-index.trail in
      let node = c.index-nodes-index.result in
      let judged = judged-same F _ (path_of_trail trail) c.region.ensures.bounds claim node Passes c.in-Passes.ensures in
      subst (Goes F claim tree (c.loop-index.index + 1)) (sym c.step_on.ensures.path)
      (goes_next F claim tree c.args.nodes.now walked c.loop-index.index (path_of_trail trail) c.loop-index-test.true (c.loop-index.invariant.goes tree walked) node c.index-nodes-index.is judged);
}

pub returns-clause-verdict : goal.returns-clause-verdict
returns-clause-verdict c = λ tree walked. (
  refl,
  goes_all (formulation c.args.model.now c.args.cuts.now) c.args.claim.now tree c.args.nodes.now c.loop-index.index (path_of_trail c.loop-index.trail) walked (omega (arith, c.loop-index-test.false)) (c.loop-index.invariant.goes tree walked),
)

pub judge-requires-clause-places : goal.judge-requires-clause-places
judge-requires-clause-places c = c.requires.places

pub judge-requires-clause-whole : goal.judge-requires-clause-whole
judge-requires-clause-whole c = c.is_whole-whole.ensures

pub step_on-requires-clause-trail : goal.step_on-requires-clause-trail
step_on-requires-clause-trail c = c.loop-index.invariant.trail

pub step_on-requires-clause-room : goal.step_on-requires-clause-room
step_on-requires-clause-room c =
    let deep = c.loop-index.invariant.deep in
    let same = c.loop-index.invariant.room in
    let room = c.requires.room in
    let below = c.loop-index-test.true in
    omega (arith, deep, same, room, below)

pub returns-in-Breaks-clause-trail : goal.returns-in-Breaks-clause-trail
returns-in-Breaks-clause-trail c = c.loop-index.invariant.trail

pub returns-in-Breaks-clause-room : goal.returns-in-Breaks-clause-room
returns-in-Breaks-clause-room c = c.loop-index.invariant.room

pub returns-in-NoRoom-clause-trail : goal.returns-in-NoRoom-clause-trail
returns-in-NoRoom-clause-trail c = c.loop-index.invariant.trail

pub returns-in-NoRoom-clause-room : goal.returns-in-NoRoom-clause-room
returns-in-NoRoom-clause-room c = c.loop-index.invariant.room

pub returns-clause-trail : goal.returns-clause-trail
returns-clause-trail c = c.loop-index.invariant.trail

pub returns-clause-room : goal.returns-clause-room
returns-clause-room c = c.loop-index.invariant.room
