use Rattle.std.specs.Prelude.{Option}
use Rattle.std.proofs.Common.{sym, subst}
use Rattle.leaf_judging.specs.declared.choosing.Candidate.{Candidate}
use Rattle.leaf_judging.specs.Queued.{AddsBoth, IsNew}
use Rattle.leaf_judging.proofs.QueueLemmas.{both-undone}
use Rattle.tree_edit.proofs.splitting.enter_split.Goals as goal

pub enter_children-requires-clause-apart : goal.enter_children-requires-clause-apart
enter_children-requires-clause-apart c = c.requires.apart

pub enter_children-requires-clause-first : goal.enter_children-requires-clause-first
enter_children-requires-clause-first c = subst (λ (d : Option Candidate). IsNew c.args.queue.now d) (sym c.candidate-first.ensures) c.requires.first

pub split_tree-requires-clause-has : goal.split_tree-requires-clause-has
split_tree-requires-clause-has c = c.requires.has

pub split_tree-requires-clause-high : goal.split_tree-requires-clause-high
split_tree-requires-clause-high c = c.requires.high

pub returns-in-Ok-split_tree-clause-split : goal.returns-in-Ok-split_tree-clause-split
returns-in-Ok-split_tree-clause-split c = c.in-Ok-split_tree.ensures.split

pub returns-in-Ok-split_tree-clause-room : goal.returns-in-Ok-split_tree-clause-room
returns-in-Ok-split_tree-clause-room c = c.in-Ok-split_tree.ensures.room

pub returns-in-Ok-split_tree-clause-put : goal.returns-in-Ok-split_tree-clause-put
returns-in-Ok-split_tree-clause-put c = c.in-Ok.ensures.put

pub returns-in-Ok-split_tree-clause-others : goal.returns-in-Ok-split_tree-clause-others
returns-in-Ok-split_tree-clause-others c = c.enter_children.ensures.others

pub returns-in-Ok-split_tree-clause-added : goal.returns-in-Ok-split_tree-clause-added
returns-in-Ok-split_tree-clause-added c =
    subst (λ P. P) (λ k. AddsBoth c.args.queue.now (c.candidate-first.ensures k) (c.candidate-second.ensures k) c.enter_children.new.queue) c.in-Ok.ensures.added

pub returns-in-Err-split_tree-clause-others : goal.returns-in-Err-split_tree-clause-others
returns-in-Err-split_tree-clause-others c = c.enter_children.ensures.others

pub returns-in-Err-split_tree-clause-kept : goal.returns-in-Err-split_tree-clause-kept
returns-in-Err-split_tree-clause-kept c = c.in-Err-split_tree.ensures.kept

pub returns-in-Err-split_tree-clause-same : goal.returns-in-Err-split_tree-clause-same
returns-in-Err-split_tree-clause-same c =
    let old = c.args.queue.now in
    let one = c.candidate-first.result in
    let two = c.candidate-second.result in
    let first : IsNew old one = subst (λ (d : Option Candidate). IsNew old d) (sym c.candidate-first.ensures) c.requires.first in
    let second : IsNew old two = subst (λ (d : Option Candidate). IsNew old d) (sym c.candidate-second.ensures) c.requires.second in
    both-undone old c.enter_children.new.queue c.take_back.new.self one two first second c.in-Ok.ensures.added c.take_back.ensures

pub returns-in-Err-clause-others : goal.returns-in-Err-clause-others
returns-in-Err-clause-others c = c.enter_children.ensures.others

pub returns-in-Err-clause-same : goal.returns-in-Err-clause-same
returns-in-Err-clause-same c = c.in-Err.ensures.same
