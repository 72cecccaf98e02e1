use Rattle.std.proofs.Common.{subst}
use Rattle.dual_bounds.specs.private.Spared.{IsSparedList}
use Rattle.dual_bounds.proofs.walk.Listing.has_spared_lists.Goals as goal

pub returns-then-is_spared_list-clause-mult : goal.returns-then-is_spared_list-clause-mult
returns-then-is_spared_list-clause-mult c =
    let L = c.args.self.now in
    λ is. subst (IsSparedList L.search.now L.model.now L.pool.now) c.as_slice-mult.ensures (c.is_spared_list.ensures c.if-is_spared_list.true)

pub returns-then-is_spared_list-clause-farkas : goal.returns-then-is_spared_list-clause-farkas
returns-then-is_spared_list-clause-farkas c =
    let L = c.args.self.now in
    λ is. subst (IsSparedList L.search.now L.model.now L.pool.now) c.as_slice-farkas.ensures (c.is_spared_list-then-is_spared_list.ensures is)
