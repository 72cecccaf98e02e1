use Rattle.basic_solution.proofs.sides.breach.Goals as goal

pub returns-then-is_under : goal.returns-then-is_under
returns-then-is_under c = c.is_under.ensures.0 c.if-is_under.true

pub returns-then-is_over : goal.returns-then-is_over
returns-then-is_over c = c.is_over.ensures.0 c.if-is_over.true
