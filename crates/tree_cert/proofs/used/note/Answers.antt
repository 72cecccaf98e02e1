use Rattle.std.proofs.Common.{◌∙◌, ◌++◌, sym, ap}
use Rattle.std.proofs.lemmas.List.{append-nil}
use Rattle.tree_cert.specs.private.Marked.{place_if}
use Rattle.tree_cert.proofs.used.note.Goals as goal

pub returns-then-not-marked : goal.returns-then-not-marked
returns-then-not-marked c = sym (append-nil c.args.places.now.items) ∙ ap (λ b. c.args.places.now.items ++ place_if b c.args.place) (sym c.if-not-marked.true)

pub returns : goal.returns
returns c = c.in_ok-push.ensures.items ∙ ap (λ b. c.args.places.now.items ++ place_if b c.args.place) (sym c.if-not-marked.false)
