use Rattle.std.specs.Prelude.{List, take}
use Rattle.std.proofs.Common.{refl, sym, subst, arith}
use Rattle.std.proofs.lemmas.List.{take_all}
use Rattle.lp_model.specs.declared.types.Derivation.{Derivation}
use Rattle.kept_cuts.proofs.KeptLemmas.{take-next}
use Rattle.node_solve.specs.Rounds.{AddsAll}
use Rattle.node_solve.specs.private.RoundCode.{task_work, round_of}
use Rattle.node_solve.proofs.RoundLemmas.{adds-more}
use Rattle.node_solve.proofs.rounds.Task.add_all.Goals as goal

pub loop-cover-preserved : goal.loop-cover-preserved
loop-cover-preserved c =
    let W = task_work c.args.self.now in
    let i = c.loop-cover.cover-index in
    let cover = c.cover-item.result in (
      subst (λ (l : List Derivation). AddsAll W (round_of c.args.round.now) l (round_of c.add_one.new.round)) (sym (take-next c.args.covers.now i cover c.loop-cover-test.true c.cover-item.is))
          (adds-more W (take i c.args.covers.now) cover (round_of c.args.round.now) (round_of c.loop-cover.round) (round_of c.add_one.new.round) c.loop-cover.invariant.0 c.in-Ok.ensures.adds),
      c.in-Ok.ensures.kept,
    )

pub loop-cover-init : goal.loop-cover-init
loop-cover-init c = (refl, c.requires.kept)

pub add_one-requires : goal.add_one-requires
add_one-requires c = record { kept = c.loop-cover.invariant.1 }

pub returns-clause-adds : goal.returns-clause-adds
returns-clause-adds c =
    let W = task_work c.args.self.now in
    subst (λ (l : List Derivation). AddsAll W (round_of c.args.round.now) l (round_of c.loop-cover.round)) (take_all c.loop-cover.cover-index c.args.covers.now (omega (arith, c.loop-cover-test.false))) c.loop-cover.invariant.0

pub returns-clause-kept : goal.returns-clause-kept
returns-clause-kept c = c.loop-cover.invariant.1
