use Rattle.std.proofs.Common.{refl, inl}
use Rattle.tree_search.specs.declared.stepping.WorkEnd.TheVariants as end
use Rattle.tree_search.proofs.StopLemmas.{leaves-after}
use Rattle.tree_search.proofs.stepping.step.Goals as goal

pub returns-in-Memory-clause-leaves : goal.returns-in-Memory-clause-leaves
returns-in-Memory-clause-leaves c = inl refl

pub returns-in-Pivots-clause-leaves : goal.returns-in-Pivots-clause-leaves
returns-in-Pivots-clause-leaves c =
    leaves-after c.args.working.now c.args.manager.now.search c.after_work.new.manager.search c.args.job (end.Pivots c.in-Pivots.basis) c.in-Pivots.found c.in-Pivots.ensures c.after_work.result c.after_work.ensures.some

pub returns-in-Wide-clause-leaves : goal.returns-in-Wide-clause-leaves
returns-in-Wide-clause-leaves c =
    leaves-after c.args.working.now c.args.manager.now.search c.after_work-in-Wide.new.manager.search c.args.job (end.Wide c.in-Wide.at) c.in-Wide.found c.in-Wide.ensures c.after_work-in-Wide.result c.after_work-in-Wide.ensures.some

pub returns-in-Done-clause-leaves : goal.returns-in-Done-clause-leaves
returns-in-Done-clause-leaves c =
    leaves-after c.args.working.now c.args.manager.now.search c.after_work-in-Done.new.manager.search c.args.job (end.Done c.in-Done.done) c.in-Done.found c.in-Done.ensures c.after_work-in-Done.result c.after_work-in-Done.ensures.some

pub returns-in-Pivots-clause-steps : goal.returns-in-Pivots-clause-steps
returns-in-Pivots-clause-steps c = c.after_work.ensures.steps

pub returns-in-Wide-clause-steps : goal.returns-in-Wide-clause-steps
returns-in-Wide-clause-steps c = c.after_work-in-Wide.ensures.steps

pub returns-in-Done-clause-steps : goal.returns-in-Done-clause-steps
returns-in-Done-clause-steps c = c.after_work-in-Done.ensures.steps

pub after_work-requires-clause-works : goal.after_work-requires-clause-works
after_work-requires-clause-works c = c.in-Pivots.ensures

pub after_work-requires-in-Wide-clause-works : goal.after_work-requires-in-Wide-clause-works
after_work-requires-in-Wide-clause-works c = c.in-Wide.ensures

pub after_work-requires-in-Done-clause-works : goal.after_work-requires-in-Done-clause-works
after_work-requires-in-Done-clause-works c = c.in-Done.ensures
