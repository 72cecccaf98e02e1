use Rattle.std.proofs.Common.{◌≡◌, ◌∙◌, sym, subst, []}
use Rattle.lp_model.specs.Program.{Program}
use Rattle.lp_model.specs.Lawful.{IsLawful}
use Rattle.lp_model.proofs.EmptyLists.{emptied-lawful}
use Rattle.lp_model.proofs.model.Model.take_lists.Goals as goal

pub invariant_of-self : goal.invariant_of-self
invariant_of-self c =
    let m = c.self.inside in
    let M : Program = record { sense = m.sense; obj = m.obj; obj2 = m.obj2; consts = m.consts; rows = m.rows; cols = m.cols; wide = m.wide } in
    let rows : c.replace-rows.new.dest ≡ [] = c.replace-rows.ensures.after ∙ c.new.ensures in
    let cols : c.replace-cols.new.dest ≡ [] = c.replace-cols.ensures.after ∙ c.new-2.ensures in
    subst IsLawful (sym (λ i. record M { rows = rows i; cols = cols i })) (emptied-lawful M c.self.invariant)
