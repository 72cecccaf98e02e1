use Rattle.std.specs.Prelude.{Result, Ok, Err, OnOk}
use Rattle.std.proofs.Common.{◌-◌}
use Rattle.sound_searches.specs.Sound.{PlainSearch}
use Rattle.tree_edit.proofs.CountedLemmas.{second-takes, cost-takes, sides-take}
use Rattle.tree_edit.proofs.search.Search.edit_counted.Goals as goal

both-ok : {A E P Q R : Type 0} (r : Result A E) → (P → Q → R) → OnOk r P → OnOk r Q → OnOk r R
both-ok (Ok a) w p q = w p q
both-ok (Err e) w p q = tt

pub returns-clause-second_cost : goal.returns-clause-second_cost
returns-clause-second_cost g c =
    let S : PlainSearch = c.args.self.now in
    let new : PlainSearch = c.follow_edit-done.new.self in
    both-ok c.follow_edit-done.result (second-takes S c.args.edit new (c.follow_edit-done.new.steps - c.args.steps.now)) c.follow_edit-done.ensures.follows c.follow_edit-done.ensures.steps

pub returns-clause-cost : goal.returns-clause-cost
returns-clause-cost g c =
    let S : PlainSearch = c.args.self.now in
    let new : PlainSearch = c.follow_edit-done.new.self in
    both-ok c.follow_edit-done.result (cost-takes S c.args.edit new (c.follow_edit-done.new.steps - c.args.steps.now)) c.follow_edit-done.ensures.follows c.follow_edit-done.ensures.steps

pub returns-clause-sides : goal.returns-clause-sides
returns-clause-sides g c =
    let S : PlainSearch = c.args.self.now in
    let new : PlainSearch = c.follow_edit-done.new.self in
    both-ok c.follow_edit-done.result (λ follows counted. sides-take S c.args.edit new (c.follow_edit-done.new.steps - c.args.steps.now) counted) c.follow_edit-done.ensures.follows c.follow_edit-done.ensures.steps
