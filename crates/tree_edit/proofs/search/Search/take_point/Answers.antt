use Rattle.std.proofs.Common.{◌∙◌}
use Rattle.tree_edit.proofs.search.Search.take_point.Goals as goal

pub add_point-requires-clause-joined : goal.add_point-requires-clause-joined
add_point-requires-clause-joined c = c.requires.joined

pub add_point-requires-clause-same : goal.add_point-requires-clause-same
add_point-requires-clause-same c = c.is_same_value.ensures.0 c.if-is_same_value.true ∙ c.target.ensures

pub returns-then-is_same_value-clause-taken : goal.returns-then-is_same_value-clause-taken
returns-then-is_same_value-clause-taken c = c.add_point.ensures.taken

pub returns-then-is_same_value-clause-target : goal.returns-then-is_same_value-clause-target
returns-then-is_same_value-clause-target c = c.add_point.ensures.target

pub returns-then-is_same_value-clause-kept : goal.returns-then-is_same_value-clause-kept
returns-then-is_same_value-clause-kept c = c.add_point.ensures.kept

pub returns-else-is_same_value-clause-taken : goal.returns-else-is_same_value-clause-taken
returns-else-is_same_value-clause-taken c = c.add_better.ensures.taken

pub returns-else-is_same_value-clause-target : goal.returns-else-is_same_value-clause-target
returns-else-is_same_value-clause-target c = c.add_better.ensures.target

pub returns-else-is_same_value-clause-kept : goal.returns-else-is_same_value-clause-kept
returns-else-is_same_value-clause-kept c = c.add_better.ensures.kept
