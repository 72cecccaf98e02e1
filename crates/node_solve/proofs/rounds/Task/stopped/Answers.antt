use Rattle.std.proofs.Common.{◌∙◌, ap, map}
use Rattle.lp_model.specs.declared.types.CutRow.{CutRow}
use Rattle.node_solve.proofs.rounds.Task.stopped.Goals as goal

pub returns-in-Ok : goal.returns-in-Ok
returns-in-Ok c =
    let h = c.in-Ok.ensures in
    (record { path_is = h.0; cuts_are = h.1 ∙ ap (λ l. map (λ (x : CutRow). x.from) l) c.as_slice.ensures.value }, (h.2, (h.3, c.added_of.ensures)))
