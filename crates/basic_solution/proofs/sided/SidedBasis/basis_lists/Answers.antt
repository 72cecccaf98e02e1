use Rattle.basic_solution.proofs.sided.SidedBasis.basis_lists.Goals as goal

pub returns : goal.returns
returns c = record { basic = c.in-Ok.ensures; high = c.in-Ok-high_variables.ensures }
