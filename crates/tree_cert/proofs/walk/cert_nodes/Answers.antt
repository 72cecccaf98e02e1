use Rattle.std.proofs.Common.{suc, ◌++◌, subst, sym, arith}
use Rattle.lp_model.specs.Formulations.{Formulation, formulation}
use Rattle.tight_regions.specs.Tight.{path_of_trail}
use Rattle.tree_cert.specs.private.Walked.{HasTurns, AreNodesOf}
use Rattle.tree_cert.proofs.TreeWalk.{turns-narrow, turns-after, fit_here, fit_next, made_next, made_all}
use Rattle.tree_cert.proofs.walk.cert_nodes.Goals as goal

pub loop-node-init : goal.loop-node-init
loop-node-init c =
    let F : Formulation = formulation c.args.model.now c.args.cuts.now in
    record {
      trail = c.in_ok-trail.ensures.trail;
      turns = subst HasTurns (sym c.in_ok-trail.ensures.root) tt;
      fit = c.requires.fit;
      made = λ rest h. subst (λ T. T) (λ i. AreNodesOf F suc (c.in_ok-trail.ensures.root i) c.args.nodes.now (sym c.new-certs.ensures i ++ rest)) h;
    }

pub cert_node-requires-clause-narrow : goal.cert_node-requires-clause-narrow
cert_node-requires-clause-narrow c = c.region.ensures.narrow (turns-narrow (path_of_trail c.loop-node.trail) c.loop-node.invariant.turns)

pub cert_node-requires-clause-places : goal.cert_node-requires-clause-places
cert_node-requires-clause-places c = c.requires.places

pub cert_node-requires-clause-fit : goal.cert_node-requires-clause-fit
cert_node-requires-clause-fit c =
    fit_here (formulation c.args.model.now c.args.cuts.now) c.args.nodes.now c.loop-node.node-index c.node-item.result c.loop-node-test.true c.node-item.is c.loop-node.invariant.fit

pub loop-node-preserved : goal.loop-node-preserved
loop-node-preserved c =
    let F : Formulation = formulation c.args.model.now c.args.cuts.now in
    let nodes = c.args.nodes.now in
    let k = c.loop-node.node-index in
    let n = c.node-item.result in
    let path = path_of_trail c.loop-node.trail in
    record {
      trail = c.in-Ok-step_on.ensures.trail;
      turns = subst HasTurns (sym c.in-Ok-step_on.ensures.path) (turns-after F path n (fit_here F nodes k n c.loop-node-test.true c.node-item.is c.loop-node.invariant.fit) c.loop-node.invariant.turns);
      fit = fit_next F nodes k n c.loop-node-test.true c.node-item.is c.loop-node.invariant.fit;
      made =
          made_next F nodes k n c.loop-node-test.true c.node-item.is suc path (path_of_trail c.step_on.new.trail) c.in-Ok.cert c.loop-node.certs c.push.new.self
          (c.in-Ok.ensures path c.region.ensures.bounds) c.in-Ok-step_on.ensures.path c.in-Ok-push.ensures.pushed c.loop-node.invariant.made;
    }

pub returns : goal.returns
returns c =
    made_all (formulation c.args.model.now c.args.cuts.now) suc c.args.nodes.now c.loop-node.node-index (path_of_trail c.loop-node.trail) c.loop-node.certs (omega (arith, c.loop-node-test.false)) c.loop-node.invariant.made
