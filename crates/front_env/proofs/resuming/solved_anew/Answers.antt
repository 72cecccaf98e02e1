use Rattle.std.proofs.Common.{sym, subst}
use Rattle.lp_model.specs.Program.{Program}
use Rattle.tree_search.specs.Within.{IsGapLimit}
use Rattle.front_solver.specs.Truth.{IsTrueOf}
use Rattle.front_env.proofs.Solving.{solved_to}
use Rattle.front_env.proofs.resuming.solved_anew.Goals as goal

pub solve-requires-clause-gap : goal.solve-requires-clause-gap
solve-requires-clause-gap c = subst IsGapLimit (sym c.requires.plain) tt

pub returns-clause-true_of : goal.returns-clause-true_of
returns-clause-true_of c =
    let old = c.args.env.now in
    let h = solved_to c.args.limits.now c.requires.plain old.search old c.solve.new.env c.in-Ok.answer c.requires.loaded c.in-Ok.ensures.solves c.in-Ok.ensures.true_answer c.in-Ok.ensures.complete c.search-search.ensures.sound in
    subst (λ (P : Program). IsTrueOf P c.args.limits.now.nodes c.in-Ok.answer) h.program h.true_of

pub returns-clause-stopped : goal.returns-clause-stopped
returns-clause-stopped c =
    let old = c.args.env.now in
    (solved_to c.args.limits.now c.requires.plain old.search old c.solve.new.env c.in-Ok.answer c.requires.loaded c.in-Ok.ensures.solves c.in-Ok.ensures.true_answer c.in-Ok.ensures.complete c.search-search.ensures.sound).stopped
