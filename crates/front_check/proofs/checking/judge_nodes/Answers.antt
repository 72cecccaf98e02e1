use Rattle.std.proofs.Common.{length, refl, ap, sym, subst, arith}
use Rattle.std.proofs.lemmas.Result.{IfOk-weaker}
use Rattle.cert_check.specs.Cuts.{formulation_by}
use Rattle.cert_check.specs.Trees.{IsTreeVerdict}
use Rattle.front_check.specs.private.Parts.{parts_by_outcomes, IsNodesOutcome}
use Rattle.front_check.proofs.NodeSteps.{within, cuts_pass_at, pass_more_at, fail_more_at, fail_breaks_at, fail_wide_at, pass_end, parts_alike}
use Rattle.front_check.proofs.checking.judge_nodes.Goals as goal

pub loop-index-init : goal.loop-index-init
loop-index-init c = record { pass = λ h. h; fail = λ number j h. h }

pub judge_nodes_at-requires-clause-place : goal.judge_nodes_at-requires-clause-place
judge_nodes_at-requires-clause-place c = within c.args.bare.now c.args.outcomes.now c.args.trees.now c.requires.named c.loop-index.index c.index-trees-index.result (omega arith) c.index-trees-index.is

pub judge_nodes_at-requires-clause-cuts : goal.judge_nodes_at-requires-clause-cuts
judge_nodes_at-requires-clause-cuts c = λ part is.
    cuts_pass_at c.args.bare.now c.args.outcomes.now c.args.trees.now c.requires.named c.loop-index.index c.index-trees-index.result (omega arith) c.index-trees-index.is part is c.requires.cuts

pub returns-in-Rejected : goal.returns-in-Rejected
returns-in-Rejected c =
    let h = c.in-Ok.ensures in
    let tree = c.index-trees-index.result in
    let verdict = subst (IsTreeVerdict (formulation_by h.part.model tree.cuts) h.part.claim tree.nodes) c.in-Rejected.is h.verdict in
    IfOk-weaker c.rejected.result _ (IsNodesOutcome c.args.bare.now c.args.outcomes.now c.args.trees.now)
    (λ v is. subst (IsNodesOutcome c.args.bare.now c.args.outcomes.now c.args.trees.now) (sym is)
    (fail_breaks_at c.args.bare.now c.args.outcomes.now c.args.trees.now c.requires.named c.loop-index.index tree (omega arith) c.index-trees-index.is h.part h.is
    c.loop-index.before c.in-Rejected.node c.in-Rejected.why _ verdict c.loop-index.invariant.fail refl))
    c.rejected.ensures

pub returns-in-Wide : goal.returns-in-Wide
returns-in-Wide c =
    let h = c.in-Ok.ensures in
    let tree = c.index-trees-index.result in
    let verdict = subst (IsTreeVerdict (formulation_by h.part.model tree.cuts) h.part.claim tree.nodes) c.in-Wide.is h.verdict in
    IfOk-weaker c.wide.result _ (IsNodesOutcome c.args.bare.now c.args.outcomes.now c.args.trees.now)
    (λ v is. subst (IsNodesOutcome c.args.bare.now c.args.outcomes.now c.args.trees.now) (sym is)
    (fail_wide_at c.args.bare.now c.args.outcomes.now c.args.trees.now c.requires.named c.loop-index.index tree (omega arith) c.index-trees-index.is h.part h.is
    c.loop-index.before c.in-Wide.node c.in-Wide.step _ verdict c.loop-index.invariant.fail refl))
    c.wide.ensures

pub loop-index-preserved : goal.loop-index-preserved
loop-index-preserved c =
    let h = c.in-Ok.ensures in
    let tree = c.index-trees-index.result in
    let verdict = subst (IsTreeVerdict (formulation_by h.part.model tree.cuts) h.part.claim tree.nodes) c.in-Accepted.is h.verdict in
    let count = ap length c.as_slice.ensures in
    let after = c.in-Ok-numbered.ensures in
    record {
      pass = pass_more_at c.args.bare.now c.args.outcomes.now c.args.trees.now c.requires.named c.loop-index.index tree (omega arith) c.index-trees-index.is h.part h.is _ verdict c.loop-index.invariant.pass;
      fail = fail_more_at c.args.bare.now c.args.outcomes.now c.args.trees.now c.requires.named c.loop-index.index tree (omega arith) c.index-trees-index.is h.part h.is _ _ _ verdict c.loop-index.invariant.fail (omega (arith, after, count));
    }

pub returns : goal.returns
returns c = (
  let count = c.len.ensures in omega (arith, count),
  pass_end (parts_by_outcomes c.args.bare.now c.args.outcomes.now) c.args.trees.now c.loop-index.index (omega arith)
      (parts_alike c.args.bare.now c.args.outcomes.now c.args.trees.now c.requires.named) c.loop-index.invariant.pass,
)
