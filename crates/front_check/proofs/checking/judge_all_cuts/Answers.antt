use Rattle.std.proofs.Common.{subst, arith}
use Rattle.cert_check.specs.declared.verdict.Judgement.TheVariants.{Breaks, NoRoom}
use Rattle.cert_check.specs.Cuts.{AreCutsJudged}
use Rattle.front_check.specs.private.Parts.{parts_by_outcomes}
use Rattle.front_check.proofs.NodeSteps.{within, cuts_fail_at, cuts_more_at, cuts_end, parts_alike}
use Rattle.front_check.proofs.checking.judge_all_cuts.Goals as goal

pub loop-index-init : goal.loop-index-init
loop-index-init c = λ j h. h

pub judge_cuts_at-requires-clause-place : goal.judge_cuts_at-requires-clause-place
judge_cuts_at-requires-clause-place c = within c.args.bare.now c.args.outcomes.now c.args.trees.now c.requires.named c.loop-index.index c.index-trees-index.result (omega arith) c.index-trees-index.is

pub returns-in-Breaks : goal.returns-in-Breaks
returns-in-Breaks c =
    let h = c.in-Ok.ensures in
    cuts_fail_at c.args.bare.now c.args.outcomes.now c.args.trees.now c.requires.named c.loop-index.index c.index-trees-index.result (omega arith) c.index-trees-index.is h.part h.is (Breaks c.in-Breaks.why) c.loop-index.invariant
    (subst (AreCutsJudged h.part.model c.index-trees-index.result.cuts) c.in-Breaks.is h.judged) (λ e. cc)

pub returns-in-NoRoom : goal.returns-in-NoRoom
returns-in-NoRoom c =
    let h = c.in-Ok.ensures in
    cuts_fail_at c.args.bare.now c.args.outcomes.now c.args.trees.now c.requires.named c.loop-index.index c.index-trees-index.result (omega arith) c.index-trees-index.is h.part h.is (NoRoom c.in-NoRoom.step) c.loop-index.invariant
    (subst (AreCutsJudged h.part.model c.index-trees-index.result.cuts) c.in-NoRoom.is h.judged) (λ e. cc)

pub loop-index-preserved : goal.loop-index-preserved
loop-index-preserved c =
    let h = c.in-Ok.ensures in
    cuts_more_at c.args.bare.now c.args.outcomes.now c.args.trees.now c.requires.named c.loop-index.index c.index-trees-index.result (omega arith) c.index-trees-index.is h.part h.is c.loop-index.invariant
    (subst (AreCutsJudged h.part.model c.index-trees-index.result.cuts) c.in-Passes.is h.judged)

pub returns : goal.returns
returns c =
    cuts_end (parts_by_outcomes c.args.bare.now c.args.outcomes.now) c.args.trees.now c.loop-index.index (omega arith)
    (parts_alike c.args.bare.now c.args.outcomes.now c.args.trees.now c.requires.named) c.loop-index.invariant
