use Rattle.std.proofs.Common.{◌∙◌, subst, sym}
use Rattle.std.proofs.lemmas.Bool.{false≢true}
use Rattle.branch_tree.specs.declared.node.NodeResult.TheVariants.{Close}
use Rattle.leaf_judging.specs.Closing.{NumberCloses}
use Rattle.leaf_judging.specs.declared.closing.LeafNumber.TheVariants.{Lag}
use Rattle.node_solve.specs.private.Ends.{IsOwnEndAt}
use Rattle.node_solve.specs.declared.working.Own.TheVariants as own
use Rattle.node_solve.specs.private.RoundCode.{task_work, round_of}
use Rattle.node_solve.proofs.OwnLemmas.{fraction_closes, fraction_splits}
use Rattle.node_solve.proofs.rounds.Task.fractional.Goals as goal

pub returns-then-reaches : goal.returns-then-reaches
returns-then-reaches c =
    λ n s run found.
    let W = task_work c.args.self.now in
    let closes = subst (λ v. NumberCloses W.model W.job.target (Lag v)) c.requires.number (c.reaches.ensures.0 c.if-reaches.true) in
    subst (λ f. IsOwnEndAt W (round_of c.args.round.now) (own.Done (Close c.args.mult f c.args.basis)) n s) (sym c.new.ensures)
    (fraction_closes W (round_of c.args.round.now) c.args.point c.args.mult c.args.basis c.args.col c.requires.first n s found closes)

pub returns : goal.returns
returns c =
    λ n s run found.
    let W = task_work c.args.self.now in
    subst (λ d. IsOwnEndAt W (round_of c.args.round.now) (own.Done d) n s) (sym c.split_result-split.ensures)
    (fraction_splits W (round_of c.args.round.now) c.args.point c.args.mult c.args.basis c.args.col c.requires.first n s found
    (λ closes. false≢true (sym c.if-reaches.false ∙ c.reaches.ensures.1 (subst (λ v. NumberCloses W.model W.job.target (Lag v)) (sym c.requires.number) closes))))
