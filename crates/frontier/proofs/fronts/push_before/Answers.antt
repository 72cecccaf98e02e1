use Rattle.std.proofs.Common.{ap, ◌∙◌, Vec, Global}
use Rattle.frontier.specs.declared.outcomes.Outcome.{Outcome}
use Rattle.frontier.specs.Covers.{is_before}
use Rattle.frontier.proofs.FilterSteps.{kept_more, kept_same}
use Rattle.frontier.proofs.fronts.push_before.Goals as goal
use Rattle.frontier.proofs.fronts.push_before.Goals.{then-is_before+in_ok-push, else-is_before}

pub loop-member-preserved : goal.loop-member-preserved
loop-member-preserved c =
    let k = c.loop-member.member-index in
    elim c.if-is_before.branch [
      | then-is_before+in_ok-push w ↦ kept_more (is_before c.args.outcome.now) c.args.members.now c.args.list.now.items c.loop-member.list.items c.if-is_before.list.items k _ _
          c.loop-member-test.true c.loop-member.invariant c.is_before.ensures w.if-is_before.true (ap (λ (v : Vec Outcome Global). v.items) w.list-is ∙ w.in_ok-push.ensures.items)
      | else-is_before w ↦ kept_same (is_before c.args.outcome.now) c.args.members.now c.args.list.now.items c.loop-member.list.items c.if-is_before.list.items k _ _
          c.loop-member-test.true c.loop-member.invariant c.is_before.ensures w.if-is_before.false (ap (λ (v : Vec Outcome Global). v.items) w.list-is)
    ]
