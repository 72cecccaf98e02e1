use Rattle.std.proofs.Common.{sym, subst}
use Rattle.dual_bounds.specs.declared.new_numbers.OtherNumbers.{OtherNumbers}
use Rattle.dual_bounds.specs.private.Spared.{LeavesDerivation}
use Rattle.dual_bounds.proofs.cuts.leaves_derivation.Goals as goal

pub returns-in-Sides : goal.returns-in-Sides
returns-in-Sides c = λ is. subst (λ (g : OtherNumbers). LeavesDerivation g c.args.own.now c.args.model.now c.args.from.now) (sym c.in-Sides.is) (c.is_same_row.ensures is)

pub returns-in-Costs : goal.returns-in-Costs
returns-in-Costs c = λ is. subst (λ (g : OtherNumbers). LeavesDerivation g c.args.own.now c.args.model.now c.args.from.now) (sym c.in-Costs.is) tt
