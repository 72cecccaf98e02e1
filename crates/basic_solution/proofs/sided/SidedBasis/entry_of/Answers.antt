use Rattle.std.proofs.Common.{◌≡◌, ◌∙◌, sym, subst, pos}
use Rattle.frac128.specs.Rational.{int}
use Rattle.table_entries.specs.Steps.{at_nonbasic}
use Rattle.table_entries.specs.FlatSteps.{dense_entry}
use Rattle.basic_solution.specs.Held.{relaxation, table}
use Rattle.basic_solution.proofs.PointLemmas.{no_entry, own_entry}
use Rattle.basic_solution.proofs.sided.SidedBasis.entry_of.Goals as goal

pub returns-in-Row : goal.returns-in-Row
returns-in-Row c =
    c.whole.ensures
    ∙ sym (subst (λ s. at_nonbasic (relaxation s) (table s) ((table s).entry c.args.row) c.args.variable ≡ int (pos 0)) c.self.view_is
    (no_entry _ c.self.invariant c.args.row c.args.variable c.in-Row.field-0 c.in-Row.ensures.0 c.in-Row.ensures.1))

pub returns-in-Place : goal.returns-in-Place
returns-in-Place c =
    c.entry.ensures
    ∙ sym (subst (λ s. at_nonbasic (relaxation s) (table s) ((table s).entry c.args.row) c.args.variable ≡ dense_entry c.self.inside.tableau.columns c.self.inside.tableau.entries c.args.row c.in-Place.place) c.self.view_is
    (own_entry _ c.self.invariant c.args.row c.args.variable c.in-Place.place c.in-Place.ensures.0 c.in-Place.ensures.1))
