use Rattle.std.proofs.Common.{subst}
use Rattle.std.proofs.lemmas.Result.{IfOk-weaker}
use Rattle.cut_find.specs.Separation.{FindsNext}
use Rattle.cut_find.proofs.separation.find_row.Goals as goal

pub returns-in-Ok : goal.returns-in-Ok
returns-in-Ok c =
    let side = c.args.high.now in
    let before = c.args.found.now.items in
    let between = c.find_next.new.found.items in
    let first = subst (λ s. FindsNext side.model.now side.numbers.now c.args.max side.row.0 s before between) c.requires.side c.in-Ok.ensures in
    IfOk-weaker c.find_next-in-Ok.result _ _ (λ _ second. (before, (c.requires.before, (between, (first, second))))) c.find_next-in-Ok.ensures
