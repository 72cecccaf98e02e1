use Rattle.std.proofs.Common.{◌≡◌, ◌↔◌, IsTrue, pos, subst}
use Rattle.frac128.specs.Rational.{int}
use Rattle.row_tableau.proofs.LayoutLemmas.{slots_written, slots_long, row_there, place_there, entry_is}
use Rattle.row_tableau.proofs.tableau.Tableau.is_zero.Goals as goal

pub is_zero-requires-clause-row : goal.is_zero-requires-clause-row
is_zero-requires-clause-row c = row_there c.self.invariant c.deref.ensures.value c.self.view_is c.args.row c.requires.row

pub is_zero-requires-clause-place : goal.is_zero-requires-clause-place
is_zero-requires-clause-place c = place_there c.self.invariant c.deref.ensures.value c.self.view_is c.args.place c.requires.place

pub is_zero-requires-clause-slots : goal.is_zero-requires-clause-slots
is_zero-requires-clause-slots c = slots_written c.self.invariant c.deref.ensures.value

pub is_zero-requires-clause-length : goal.is_zero-requires-clause-length
is_zero-requires-clause-length c = slots_long c.self.invariant c.deref.ensures.value

pub returns : goal.returns
returns c = subst (λ x. IsTrue c.is_zero.result ↔ x ≡ int (pos 0)) (entry_is c.self.invariant c.deref.ensures.value c.self.view_is c.args.row c.args.place) c.is_zero.ensures
