use Rattle.std.specs.Prelude.{Option}
use Rattle.std.proofs.Common.{refl, subst}
use Rattle.leaf_judging.specs.declared.choosing.Candidate.{Candidate}
use Rattle.leaf_judging.specs.Queued.{Adds}
use Rattle.leaf_judging.proofs.judging.Marking.mark_leaf.Goals as goal

pub returns : goal.returns
returns c =
    let is = c.mark_of-mark.ensures in
    λ path kept. record {
      same = refl;
      number = is.number;
      number_is = is.number_is;
      state = c.mark_of-mark.result.state;
      says = is.says;
      states_are = c.in_ok-push.ensures.items;
      queue_is = subst (λ (d : Option Candidate). Adds c.args.self.now.queue d c.add.new.self) is.candidate_is c.in_ok-add.ensures.added;
    }
