use Rattle.std.specs.Prelude.{◌≡◌, false, true}
use Rattle.tree_search.proofs.WithinLemmas.{none-reaches, some-reaches}
use Rattle.tree_search.proofs.done.reaches.Goals as goal

pub returns-in-None : goal.returns-in-None
returns-in-None c = λ M asks. (λ (e : false ≡ true). absurd cc, λ h. absurd (none-reaches M c.args.target.now c.args.first.now c.in-None.is h))

pub returns-in-Some : goal.returns-in-Some
returns-in-Some c = λ M asks.
    let s = some-reaches M c.args.target.now c.in-Some.number c.args.whole c.args.first.now c.in-Some.is asks in
    (λ h. s.0 (c.closes.ensures.0 h), λ h. c.closes.ensures.1 (s.1 h))
