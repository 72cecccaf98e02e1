use Rattle.std.proofs.Common.{◌≡◌, ◌∙◌, sym, subst, pos}
use Rattle.frac128.specs.Rational.{int}
use Rattle.table_entries.specs.Steps.{at_nonbasic}
use Rattle.basic_solution.specs.Held.{relaxation, table, state}
use Rattle.basic_solution.proofs.PointLemmas.{no_standing, own_standing}
use Rattle.basic_solution.proofs.sided.SidedBasis.standing.Goals as goal

pub returns-in-Row : goal.returns-in-Row
returns-in-Row c =
    c.whole.ensures
    ∙ sym (subst (λ s. at_nonbasic (relaxation s) (table s) (state s).at c.args.variable ≡ int (pos 0)) c.self.view_is
    (no_standing _ c.self.invariant c.args.variable c.in-Row.field-0 c.in-Row.ensures.0 c.in-Row.ensures.1))

pub returns-in-Place : goal.returns-in-Place
returns-in-Place c =
    c.place_number.ensures
    ∙ sym (subst (λ s. at_nonbasic (relaxation s) (table s) (state s).at c.args.variable ≡ (state s).at c.in-Place.place) c.self.view_is
    (own_standing _ c.self.invariant c.args.variable c.in-Place.place c.in-Place.ensures.0 c.in-Place.ensures.1))
