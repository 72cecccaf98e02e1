use Rattle.std.proofs.Common.{sym, ◌∙◌}
use Rattle.std.proofs.lemmas.Bool.{false≢true}
use Rattle.node_solve.proofs.TaskLemmas.{is_not}
use Rattle.node_solve.proofs.rounds.is_same_row.Goals as goal

pub returns-then-not-is_equal : goal.returns-then-not-is_equal
returns-then-not-is_equal c = is_not (λ h. false≢true (sym c.if-not-is_equal.true ∙ c.is_equal.ensures.1 h.1))

pub returns : goal.returns
returns c = (
  (λ t. (sym c.as_slice.ensures ∙ c.are_same_terms.ensures.0 t ∙ c.as_slice-2.ensures, c.is_equal.ensures.0 c.if-not-is_equal.false)),
  (λ h. c.are_same_terms.ensures.1 (c.as_slice.ensures ∙ h.0 ∙ sym c.as_slice-2.ensures)),
)
