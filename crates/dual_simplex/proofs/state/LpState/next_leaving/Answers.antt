use Rattle.std.proofs.Common.{◌∙◌, length, sym, ap, subst, to_z, of_z, w64}
use Rattle.table_entries.proofs.ReadLemmas.{short_read}
use Rattle.basic_solution.specs.KeptCosts.{AreKeptCosts}
use Rattle.basic_solution.specs.KeptValues.{AreKeptValues}
use Rattle.dual_simplex.specs.private.Answers.{IsLeaving}
use Rattle.dual_simplex.specs.LpStates.{IsLpState}
use Rattle.dual_simplex.proofs.KeptLemmas.{written_back}
use Rattle.dual_simplex.proofs.state.LpState.next_leaving.Goals as goal

pub next_out-requires-clause-costs : goal.next_out-requires-clause-costs
next_out-requires-clause-costs c =
    let over = c.self.inside.costs_over in
    let was = c.self.invariant.1.0 in
    subst (λ xs. AreKeptCosts c.self.inside.basis (to_z w64 (of_z w64 over)) xs) (sym c.as_mut_slice.ensures.value)
    (subst (λ d. AreKeptCosts c.self.inside.basis d c.self.inside.costs.items) (sym (short_read over was.denominator_short)) was)

pub next_out-requires-clause-values : goal.next_out-requires-clause-values
next_out-requires-clause-values c =
    let over = c.self.inside.values_over in
    let was = c.self.invariant.1.1 in
    subst (λ xs. AreKeptValues c.self.inside.basis (to_z w64 (of_z w64 over)) xs) (sym c.as_mut_slice-2.ensures.value)
    (subst (λ d. AreKeptValues c.self.inside.basis d c.self.inside.values.items) (sym (short_read over was.denominator_short)) was)

pub invariant_of-self : goal.invariant_of-self
invariant_of-self c =
    let after = c.next_out.new.state in
    let costs_over = c.self.inside.costs_over in
    let was = c.self.invariant.1.0 in
    let costs = subst (λ d. AreKeptCosts after d c.next_out.new.costs) (short_read costs_over was.denominator_short) c.next_out.ensures.costs in
    let costs_length = sym c.as_mut_slice.ensures.len ∙ ap length c.as_mut_slice.ensures.value in
    let costs_same = costs.size ∙ ap (λ s. s.tableau.columns) c.next_out.ensures.kept ∙ sym was.size in
    let values_over = c.self.inside.values_over in
    let were = c.self.invariant.1.1 in
    let values = subst (λ d. AreKeptValues after d c.next_out.new.values) (short_read values_over were.denominator_short) c.next_out.ensures.values in
    let values_length = sym c.as_mut_slice-2.ensures.len ∙ ap length c.as_mut_slice-2.ensures.value in
    let values_same = values.size ∙ ap (λ s. s.tableau.activities) c.next_out.ensures.kept ∙ sym were.size in (
      subst IsLpState (sym c.next_out.ensures.kept) c.self.invariant.0,
      (
        subst (λ xs. AreKeptCosts after costs_over xs) (written_back c.self.inside.costs.len c.next_out.new.costs c.self.inside.costs.items costs_length costs_same) costs,
        subst (λ xs. AreKeptValues after values_over xs) (written_back c.self.inside.values.len c.next_out.new.values c.self.inside.values.items values_length values_same) values,
      ),
    )

pub returns-clause-leaving : goal.returns-clause-leaving
returns-clause-leaving c = subst (λ s. IsLeaving s c.next_out.result) c.self.view_is c.next_out.ensures.leaving

pub returns-clause-kept : goal.returns-clause-kept
returns-clause-kept c = c.next_out.ensures.kept ∙ c.self.view_is
