use Rattle.std.proofs.Common.{◌≡◌, ◌∙◌, sym, subst, pos}
use Rattle.frac128.specs.Rational.{int}
use Rattle.table_entries.specs.Steps.{at_basic}
use Rattle.table_entries.specs.FlatSteps.{dense_entry}
use Rattle.basic_solution.specs.Held.{relaxation, table}
use Rattle.basic_solution.proofs.PointLemmas.{no_saved, own_saved}
use Rattle.basic_solution.proofs.sided.SidedBasis.saved_of.Goals as goal

pub returns-in-Row : goal.returns-in-Row
returns-in-Row c =
    c.entry.ensures
    ∙ sym (subst (λ s. at_basic (relaxation s) (table s) (λ i. (table s).entry i c.args.place) c.args.variable ≡ dense_entry c.self.inside.tableau.columns c.self.inside.tableau.entries c.in-Row.row c.args.place) c.self.view_is
    (own_saved _ c.self.invariant c.args.place c.args.variable c.in-Row.row c.in-Row.ensures.0 c.in-Row.ensures.1))

pub returns-in-Place : goal.returns-in-Place
returns-in-Place c =
    c.whole.ensures
    ∙ sym (subst (λ s. at_basic (relaxation s) (table s) (λ i. (table s).entry i c.args.place) c.args.variable ≡ int (pos 0)) c.self.view_is
    (no_saved _ c.self.invariant c.args.place c.args.variable c.in-Place.field-0 c.in-Place.ensures.0 c.in-Place.ensures.1))
