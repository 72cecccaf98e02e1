use Rattle.std.proofs.Common.{ap, sym, ◌∙◌, ◌∷◌, [], arith}
use Rattle.cert_text.specs.Text.{due_after}
use Rattle.cert_text.proofs.DueLemmas.{due_after-more}
use Rattle.front_text.proofs.front_reading.FrontReading.add_node.Goals as goal

pub due_behind-due-requires-clause-room : goal.due_behind-due-requires-clause-room
due_behind-due-requires-clause-room c = omega (arith, c.requires.room, c.requires.few)

pub invariant_of-self-2 : goal.invariant_of-self-2
invariant_of-self-2 c =
    let nodes = c.args.self.now.nodes in
    record {
      counted = c.due_behind-due.ensures.due ∙ ap (λ d. due_after d (c.args.node ∷ [])) c.args.self.now.counted ∙ sym (due_after-more 1 nodes c.args.node) ∙ ap (due_after 1) (sym c.in-Ok.ensures.pushed);
      few = omega (arith, c.due_behind-due.ensures.within, c.requires.room);
    }
