use Rattle.basic_solution.specs.Held.{relaxation, state}
use Rattle.table_entries.proofs.Lag.{farkas_of}
use Rattle.dual_simplex.proofs.laws.blocked_law.Goals as goal

pub returns : goal.returns
returns c = λ s kept blocked.
    farkas_of (relaxation s) (state s) (record { table = kept.good.table; arranged = kept.good.arranged }) kept.good.lawful.stands blocked.row blocked.side blocked.out.out.0 blocked.out.within blocked.out.out.1 blocked.none
