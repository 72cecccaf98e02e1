use Rattle.std.specs.Prelude.{IfSome}
use Rattle.std.proofs.Common.{sym, subst}
use Rattle.std.proofs.lemmas.List.Elements.{All-nil}
use Rattle.cover_cuts.specs.Cuts.{IsCutOf, IsPoolOf}
use Rattle.relaxation_rows.specs.Firsts.{CanFallBack}
use Rattle.relaxation_rows.proofs.leaves.work_on.Goals as goal

pub work-worked-requires-clause-first : goal.work-worked-requires-clause-first
work-worked-requires-clause-first c =
    let M = c.args.model.now in
    let back : CanFallBack M c.in-Some.first = subst (λ o. IfSome o (CanFallBack M)) c.in-Some.is c.in_ok-first.ensures in
    back.root

pub work-worked-requires-clause-pool : goal.work-worked-requires-clause-pool
work-worked-requires-clause-pool c =
    let M = c.args.model.now in
    subst (IsPoolOf M) (sym c.new-pool.ensures) (All-nil (IsCutOf M))
