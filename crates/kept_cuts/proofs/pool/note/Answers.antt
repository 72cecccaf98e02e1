use Rattle.std.proofs.Common.{◌∙◌, ◌++◌, sym, ap}
use Rattle.std.proofs.lemmas.List.{append-nil}
use Rattle.kept_cuts.specs.private.Kept.{one_if}
use Rattle.kept_cuts.proofs.pool.note.Goals as goal

pub returns-then-not-goes : goal.returns-then-not-goes
returns-then-not-goes c = sym (append-nil c.args.gone.now.items) ∙ ap (λ b. c.args.gone.now.items ++ one_if b c.args.place) (sym c.if-not-goes.true)

pub returns : goal.returns
returns c = c.in_ok-push.ensures.items ∙ ap (λ b. c.args.gone.now.items ++ one_if b c.args.place) (sym c.if-not-goes.false)
