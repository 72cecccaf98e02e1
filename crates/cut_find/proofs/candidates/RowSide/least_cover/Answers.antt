use Rattle.std.proofs.Common.{◌∙◌, ◌≡◌, refl, ap, subst, Some, None}
use Rattle.std.specs.Prelude.{IfOk}
use Rattle.cut_find.specs.Greedy.{cover_of, Drops, IsViolatedAnswer}
use Rattle.cut_find.proofs.candidates.RowSide.least_cover.Goals as goal

pub returns-in-None : goal.returns-in-None
returns-in-None c =
    let self = c.args.self.now in
    let taken = c.args.taken.now in
    (None, (subst (Drops self.model.now self.row.0 self.side taken taken) c.in-None.is c.in-Ok.ensures, refl))

pub returns-in-Ok-listed : goal.returns-in-Ok-listed
returns-in-Ok-listed c =
    let self = c.args.self.now in
    let taken = c.args.taken.now in
    let cover = subst (λ r. IfOk r (λ d. d ≡ cover_of self.model.now self.row.0 self.side c.as_slice.result.now)) c.in-Ok-listed.is c.cover_of-listed.ensures ∙ ap (cover_of self.model.now self.row.0 self.side) c.as_slice.ensures in
    (Some c.in-Some.kept, (subst (Drops self.model.now self.row.0 self.side taken taken) c.in-Some.is c.in-Ok.ensures, subst (λ d. IsViolatedAnswer self.numbers.now d c.violated.result) cover c.violated.ensures))
