use Rattle.std.proofs.Common.{subst}
use Rattle.std.proofs.lemmas.Option.{IfSome_then}
use Rattle.table_entries.specs.Steps.{at_nonbasic}
use Rattle.whole_sums.specs.Wholes.{IsWholeTerm}
use Rattle.whole_sums.proofs.ReadLemmas.{short_read, positive_again}
use Rattle.basic_solution.specs.Held.{relaxation, state, table}
use Rattle.basic_solution.proofs.point.PointTermsWholeTerms.term.Goals as goal

pub point_term-requires-clause-positive : goal.point_term-requires-clause-positive
point_term-requires-clause-positive c = positive_again c.args.self.now.denominator c.requires.lawful.short c.requires.lawful.positive

pub returns-clause-value : goal.returns-clause-value
returns-clause-value c =
    let s = c.args.self.now.state.now in
    let v = c.args.index in
    IfSome_then c.point_term.result c.point_term.ensures
    (λ t h. subst (λ d. IsWholeTerm d (at_nonbasic (relaxation s) (table s) ((table s).entry c.args.self.now.row) v) (at_nonbasic (relaxation s) (table s) (state s).at v) t.factor t.number)
    (short_read c.args.self.now.denominator c.requires.lawful.short) h)

pub returns-clause-holds : goal.returns-clause-holds
returns-clause-holds c = IfSome_then c.point_term.result c.point_term.ensures (λ t h. tt)
