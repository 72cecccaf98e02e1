use Rattle.std.proofs.Common.{◌∙◌, ap, arith}
use Rattle.node_solve.specs.Places.{with_cut_variables}
use Rattle.node_solve.proofs.rounds.Task.solve.Goals as goal

pub with_cut_variables-requires : goal.with_cut_variables-requires
with_cut_variables-requires c =
    let count = c.len.ensures in
    let few = c.requires.kept.few in
    omega (arith, count, few)

pub solve_from-solved-requires-clause-first : goal.solve_from-solved-requires-clause-first
solve_from-solved-requires-clause-first c = c.in-Ok.ensures ∙ ap (λ n. with_cut_variables c.args.self.now.first.now 0 n) (c.len.ensures)
