use Rattle.std.proofs.Common.{◌≤◌, sym, subst, arith, length}
use Rattle.node_solve.proofs.PoolLemmas.{index-within}
use Rattle.node_solve.proofs.places.var_in_relaxation.Goals as goal

pub overflow_cast-result : goal.overflow_cast-result
overflow_cast-result c =
    let within : c.cut_index.result ≤ length c.args.places.now = subst (λ n. n ≤ length c.args.places.now) (sym c.cut_index.ensures) (index-within _ c.args.places.now) in
    let few = c.requires.few in
    omega (arith, within, few)
