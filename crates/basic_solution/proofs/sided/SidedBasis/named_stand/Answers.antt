use Rattle.std.proofs.Common.{◌∙◌, sym, ap, subst}
use Rattle.std.proofs.lemmas.Bool.{false≢true}
use Rattle.table_entries.specs.Bases.{Lists}
use Rattle.row_tableau.specs.Dense.{table_of}
use Rattle.row_tableau.specs.Variables.{numbers}
use Rattle.basic_solution.specs.Held.{table}
use Rattle.basic_solution.proofs.sided.SidedBasis.named_stand.Goals as goal

pub returns-then-lists : goal.returns-then-lists
returns-then-lists c =
    let high = c.args.high.now in
    let place = c.args.place in
    let t = c.self.inside.tableau in
    let same = ap (λ s. s.tableau) c.self.view_is in
    subst (λ u. Lists (numbers u high) ((table_of u).nonbasic place)) same (subst (Lists (numbers t high)) c.nonbasic.ensures.value (c.lists.ensures.0 c.if-lists.true))

pub returns-then-can_stand : goal.returns-then-can_stand
returns-then-can_stand c =
    let high = c.args.high.now in
    let place = c.args.place in
    let t = c.self.inside.tableau in
    let same = ap (λ s. s.tableau) c.self.view_is in
    let not_listed = λ (l : Lists (numbers c.args.self.now.tableau high) ((table c.args.self.now).nonbasic place)).
    false≢true (sym c.if-lists.false ∙ c.lists.ensures.1 (subst (Lists (numbers t high)) (sym c.nonbasic.ensures.value) (subst (λ u. Lists (numbers u high) ((table_of u).nonbasic place)) (sym same) l))) in
    (not_listed, c.can_stand.ensures.0 c.if-can_stand.true)

pub returns-else-can_stand : goal.returns-else-can_stand
returns-else-can_stand c =
    let high = c.args.high.now in
    let place = c.args.place in
    let t = c.self.inside.tableau in
    let same = ap (λ s. s.tableau) c.self.view_is in
    let not_listed = λ (l : Lists (numbers c.args.self.now.tableau high) ((table c.args.self.now).nonbasic place)).
    false≢true (sym c.if-lists.false ∙ c.lists.ensures.1 (subst (Lists (numbers t high)) (sym c.nonbasic.ensures.value) (subst (λ u. Lists (numbers u high) ((table_of u).nonbasic place)) (sym same) l))) in
    (not_listed, λ free. false≢true (sym c.if-can_stand.false ∙ c.can_stand.ensures.1 free))
