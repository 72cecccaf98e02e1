use Rattle.std.proofs.Common.{◌∙◌, ◌-◌, refl, sym, arith, inl, inr}
use Rattle.std.proofs.lemmas.Bool.{false≢true}
use Rattle.node_solve.specs.private.RoundCode.{task_work, round_of}
use Rattle.node_solve.proofs.RoundLemmas.{none-new, never-fewer, goes-on}
use Rattle.node_solve.proofs.rounds.Task.next_round.Goals as goal

pub returns-then-not-may_go_on-clause-goes_on : goal.returns-then-not-may_go_on-clause-goes_on
returns-then-not-may_go_on-clause-goes_on c = (refl, inl (λ may. false≢true (sym c.if-not-may_go_on.true ∙ c.may_go_on.ensures.1 may)))

pub overflow_sub-count : goal.overflow_sub-count
overflow_sub-count c =
    let more = never-fewer (task_work c.args.self.now) (round_of c.args.round.now) (round_of c.separate.new.round) c.args.point.now c.in-Ok.ensures.separates in
    let before = c.len-before.ensures in
    let after = c.len.ensures in
    omega (arith, more, before, after)

pub returns-then-count-eq0-clause-goes_on : goal.returns-then-count-eq0-clause-goes_on
returns-then-count-eq0-clause-goes_on c =
    let before = c.len-before.ensures in
    let after = c.len.ensures in
    let none = none-new (task_work c.args.self.now) (round_of c.args.round.now) (round_of c.separate.new.round) c.args.point.now c.in-Ok.ensures.separates (let h = c.if-count-eq0.true in omega (arith, h, before, after)) in
    (none.0, inr none.1)

pub with_cut_variables-requires : goal.with_cut_variables-requires
with_cut_variables-requires c =
    let more = never-fewer (task_work c.args.self.now) (round_of c.args.round.now) (round_of c.separate.new.round) c.args.point.now c.in-Ok.ensures.separates in
    let before = c.len-before.ensures in
    let after = c.len.ensures in
    let few = c.in-Ok.ensures.kept.few in
    omega (arith, more, before, after, few)

pub returns-clause-goes_on : goal.returns-clause-goes_on
returns-clause-goes_on c =
    let before = c.len-before.ensures in
    let after = c.len.ensures in
    goes-on (task_work c.args.self.now) c.args.made (round_of c.args.round.now) (round_of c.separate.new.round) c.args.point.now c.args.basis.now c.replace.new.dest _ _ (c.may_go_on.ensures.0 c.if-not-may_go_on.false) c.in-Ok.ensures.separates
    before (λ i. after i - before i) c.if-count-eq0.false (c.replace.ensures.after ∙ c.in-Ok-with_cut_variables.ensures)

pub returns-then-count-eq0-clause-kept : goal.returns-then-count-eq0-clause-kept
returns-then-count-eq0-clause-kept c = c.in-Ok.ensures.kept

pub returns-clause-kept : goal.returns-clause-kept
returns-clause-kept c =
    let kept = c.in-Ok.ensures.kept in
    record { are = kept.are; live = kept.live; few = kept.few; each = kept.each; there = kept.there; room = kept.room }
