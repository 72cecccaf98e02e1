use Rattle.std.proofs.Common.{subst}
use Rattle.node_solve.specs.Rounds.{AddsAll}
use Rattle.node_solve.specs.private.RoundCode.{task_work, round_of}
use Rattle.node_solve.proofs.rounds.Task.separate.Goals as goal

pub returns-clause-separates : goal.returns-clause-separates
returns-clause-separates c =
    let W = task_work c.args.self.now in (
      c.in-Ok.covers.items,
      (c.in-Ok.ensures, subst (λ l. AddsAll W (round_of c.args.round.now) l (round_of c.add_all.new.round)) c.as_slice.ensures.value c.in-Ok-add_all.ensures.adds),
    )

pub add_all-requires : goal.add_all-requires
add_all-requires c = record { kept = c.requires.kept }

pub returns-clause-kept : goal.returns-clause-kept
returns-clause-kept c = c.in-Ok-add_all.ensures.kept
