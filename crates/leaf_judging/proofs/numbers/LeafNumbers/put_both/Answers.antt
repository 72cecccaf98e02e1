use Rattle.std.specs.Prelude.{Result, Ok, Err, OnOk, OnErr}
use Rattle.std.proofs.Common.{◌∙◌}
use Rattle.leaf_judging.specs.Numbers.{PutsEntry, KeepsOtherTwo, HasBoth}
use Rattle.leaf_judging.specs.private.Numbers.{AreSameNumbers}
use Rattle.leaf_judging.proofs.numbers.LeafNumbers.put_both.Goals as goal

pub returns-in-Err-clause-others : goal.returns-in-Err-clause-others
returns-in-Err-clause-others c = λ i ne me. c.in-Err.ensures.kept i

pub returns-in-Ok-clause-put : goal.returns-in-Ok-clause-put
returns-in-Ok-clause-put c = both c.put-in-Ok.result c.put-in-Ok.ensures.put
  where
    both : {A E : Type 0} (r : Result A E) → OnOk r (PutsEntry c.put.new.self c.args.second c.args.right c.put-in-Ok.new.self) → OnOk r (HasBoth c.put-in-Ok.new.self c.args.first c.args.left c.args.second c.args.right)
    both (Ok a) h = (h.1 c.args.first c.requires ∙ c.in-Ok.ensures.put.0, h.0)
    both (Err e) h = h

pub returns-in-Ok-clause-others : goal.returns-in-Ok-clause-others
returns-in-Ok-clause-others c = both c.put-in-Ok.result c.put-in-Ok.ensures.put c.put-in-Ok.ensures.kept
  where
    both : {A E : Type 0} (r : Result A E) → OnOk r (PutsEntry c.put.new.self c.args.second c.args.right c.put-in-Ok.new.self) → OnErr r (AreSameNumbers c.put.new.self c.put-in-Ok.new.self) → KeepsOtherTwo c.args.self.now c.args.first c.args.second c.put-in-Ok.new.self
    both (Ok a) h k = λ i ne me. h.1 i me ∙ c.in-Ok.ensures.put.1 i ne
    both (Err e) h k = λ i ne me. k i ∙ c.in-Ok.ensures.put.1 i ne
