use Rattle.std.proofs.Common.{◌+◌, ◌≤◌, ◌∙◌, sym, subst, arith, length}
use Rattle.leaf_totals.specs.Keeping.{question_of, IsEnding, left_behind}
use Rattle.leaf_totals.proofs.KeptLemmas.{some_end}
use Rattle.leaf_totals.proofs.keeping.LeafTotals.go_on.Goals as goal

pub returns-in-None-clause-steps : goal.returns-in-None-clause-steps
returns-in-None-clause-steps g c =
    subst (λ e. c.add.new.steps ≤ c.args.steps.now + left_behind (question_of c.args.leaf.now) (length c.args.self.now.totals.kept) e) (sym c.in-None.is) c.add.ensures.steps

pub answer_of_end-requires-clause-end : goal.answer_of_end-requires-clause-end
answer_of_end-requires-clause-end g c = subst (IsEnding (question_of c.args.leaf.now)) c.in-Some.is c.requires.true_of.ending

pub returns-in-Some-clause-complete : goal.returns-in-Some-clause-complete
returns-in-Some-clause-complete g c = c.requires.ended (λ none. some_end c.in-Some.end (sym c.in-Some.is ∙ none))

pub returns-in-Some-clause-steps : goal.returns-in-Some-clause-steps
returns-in-Some-clause-steps g c = omega arith
