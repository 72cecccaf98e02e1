use Rattle.std.specs.Prelude.{length, IfSome}
use Rattle.std.proofs.Common.{ap, subst, arith}
use Rattle.lp_model.specs.Formulations.{formulation}
use Rattle.relaxation_rows.specs.Firsts.{CanFallBack}
use Rattle.relaxation_rows.proofs.starting.at_list.Goals as goal

pub start-started-requires-clause-few : goal.start-started-requires-clause-few
start-started-requires-clause-few c = let none = ap length c.requires.none in omega (arith, none)

pub start-started-requires-clause-first : goal.start-started-requires-clause-first
start-started-requires-clause-first c =
    let relax = c.args.relax.now in
    let M = relax.model.now in
    let back : CanFallBack M c.in-Some.first = subst (λ o. IfSome o (CanFallBack M)) c.in-Some.is c.in_ok-first.ensures in
    back.starts relax (ap (formulation M) c.requires.none) c.requires.plain c.requires.free
