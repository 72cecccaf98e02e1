use Rattle.std.proofs.Common.{refl, sym, subst, true, false}
use Rattle.basic_solution.specs.Held.{table}
use Rattle.dual_simplex.specs.private.BestPlaces.{IsKept}
use Rattle.dual_simplex.proofs.entering.stays.Goals as goal

pub returns-in-Less : goal.returns-in-Less
returns-in-Less c = subst (λ o. IsKept o ((table c.args.state.now).nonbasic c.args.best) ((table c.args.state.now).nonbasic c.args.place) true) (sym c.in-Less.is) refl

pub returns-in-Equal : goal.returns-in-Equal
returns-in-Equal c = subst (λ o. IsKept o ((table c.args.state.now).nonbasic c.args.best) ((table c.args.state.now).nonbasic c.args.place) c.comes_first.result) (sym c.in-Equal.is) c.comes_first.ensures

pub returns-in-Greater : goal.returns-in-Greater
returns-in-Greater c = subst (λ o. IsKept o ((table c.args.state.now).nonbasic c.args.best) ((table c.args.state.now).nonbasic c.args.place) false) (sym c.in-Greater.is) refl
