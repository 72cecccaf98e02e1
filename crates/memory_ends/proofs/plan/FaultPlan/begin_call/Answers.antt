use Rattle.std.proofs.Common.{arith, sym, ◌∙◌, ap, eqb, ◌≡◌, true, false, ◌+◌}
use Rattle.std.specs.List.{list_any}
use Rattle.memory_ends.proofs.PlanLemmas.{failed_calls-grow, failed_calls-hit, failed_calls-miss}
use Rattle.memory_ends.proofs.plan.FaultPlan.begin_call.Goals as goal

pub returns-then-contains-clause-later : goal.returns-then-contains-clause-later
returns-then-contains-clause-later c = omega (arith, failed_calls-grow c.args.self.now.failing.items c.args.self.now.calls)

pub returns-then-contains-clause-failed : goal.returns-then-contains-clause-failed
returns-then-contains-clause-failed c =
    let listed : list_any (λ n. eqb n (c.args.self.now.calls + 1)) c.args.self.now.failing.items ≡ true =
    ap (list_any (λ n. eqb n (c.args.self.now.calls + 1))) (sym c.deref.ensures.value) ∙ sym c.contains.ensures.value ∙ c.if-contains.true in
    omega (arith, failed_calls-hit c.args.self.now.failing.items c.args.self.now.calls listed)

pub returns-else-contains-clause-ok : goal.returns-else-contains-clause-ok
returns-else-contains-clause-ok c =
    let unlisted : list_any (λ n. eqb n (c.args.self.now.calls + 1)) c.args.self.now.failing.items ≡ false =
    ap (list_any (λ n. eqb n (c.args.self.now.calls + 1))) (sym c.deref.ensures.value) ∙ sym c.contains.ensures.value ∙ c.if-contains.false in
    omega (arith, failed_calls-miss c.args.self.now.failing.items c.args.self.now.calls unlisted)

pub returns-else-contains-clause-later : goal.returns-else-contains-clause-later
returns-else-contains-clause-later c = omega (arith, failed_calls-grow c.args.self.now.failing.items c.args.self.now.calls)
