use Rattle.std.specs.Prelude.{not}
use Rattle.std.proofs.Common.{◌∙◌, sym, ap, subst}
use Rattle.std.proofs.lemmas.Bool.{false≢true}
use Rattle.table_entries.specs.Bases.{Lists}
use Rattle.row_tableau.specs.Dense.{table_of}
use Rattle.row_tableau.specs.Variables.{numbers}
use Rattle.row_tableau.proofs.LeavingLemmas.{unlisted_leaves}
use Rattle.row_tableau.proofs.tableau.Tableau.may_leave.Goals as goal

pub returns-then-not-is_listed : goal.returns-then-not-is_listed
returns-then-not-is_listed c =
    let t = c.args.self.now in
    let names = numbers t c.args.list.now in
    unlisted_leaves names (table_of t) c.args.place c.args.row c.is_zero.result (λ l. false≢true (sym c.if-not-is_listed.true ∙ c.is_listed.ensures.1 (subst (Lists names) (sym c.basic.ensures.value) l))) c.is_zero.ensures

pub returns-else-not-is_listed : goal.returns-else-not-is_listed
returns-else-not-is_listed c =
    let names = numbers c.args.self.now c.args.list.now in
    ((λ t. absurd (false≢true (sym (ap not c.if-not-is_listed.false) ∙ t))), (λ m. absurd (m.unlisted (subst (Lists names) c.basic.ensures.value (c.is_listed.ensures.0 c.if-not-is_listed.false)))))
