use Rattle.std.specs.Prelude.{List, map}
use Rattle.std.proofs.Common.{refl, sym, ap, subst, ◌∙◌}
use Rattle.frontier.specs.Covers.{IsFront}
use Rattle.wcn_driver.specs.declared.found.Found.{Found}
use Rattle.wcn_driver.specs.private.Told.{shown_outcome}
use Rattle.wcn_driver.proofs.Completed.{whole_front, sweep_shown}
use Rattle.wcn_driver.proofs.sweeping.completed.Goals as goal

pub front_of-requires : goal.front_of-requires
front_of-requires c =
    let (before, (p, b)) = c.requires.between in
    subst (λ (l : List Found). IsFront (map shown_outcome l)) (sym c.deref.ensures.value) (sweep_shown c.args.task.now c.requires.task.base c.args.sweep before p b)

pub returns-in-Ok-shown_of : goal.returns-in-Ok-shown_of
returns-in-Ok-shown_of c =
    let (before, (p, b)) = c.requires.between in
    whole_front c.args.task.now c.requires.task.base c.args.sweep before p b (record { outcomes = c.in-Ok-shown_of.outcomes; trees = c.args.sweep.trees }) c.in-Ok-shown_of.ensures refl
    c.in-Ok.front (c.in-Ok.ensures ∙ ap (map shown_outcome) c.deref.ensures.value)
