use Rattle.std.proofs.Common.{◌≢◌, sym, subst, ◌∙◌, arith}
use Rattle.std.proofs.lemmas.Bool.{false≢true}
use Rattle.row_tableau.specs.Variables.{numbers}
use Rattle.row_tableau.specs.private.Answers.{IsFirstLeaving}
use Rattle.row_tableau.proofs.LeavingLemmas.{none_leaves, one_leaves, other_leaves, lesser_leaves}
use Rattle.row_tableau.proofs.tableau.Tableau.with_row.Goals as goal

pub returns-then-may_leave : goal.returns-then-may_leave
returns-then-may_leave c =
    let t = c.args.self.now in
    let list = numbers t c.args.list.now in
    one_leaves t list c.args.place c.args.row (subst (IsFirstLeaving t list c.args.place c.args.row) c.in-None.is c.requires.found) (c.may_leave.ensures.0 c.if-may_leave.true)

pub returns-else-may_leave : goal.returns-else-may_leave
returns-else-may_leave c =
    let t = c.args.self.now in
    let list = numbers t c.args.list.now in
    none_leaves t list c.args.place c.args.row (subst (IsFirstLeaving t list c.args.place c.args.row) c.in-None.is c.requires.found) (λ m. false≢true (sym c.if-may_leave.false ∙ c.may_leave.ensures.1 m))

pub returns-then-basic : goal.returns-then-basic
returns-then-basic c =
    let t = c.args.self.now in
    let list = numbers t c.args.list.now in
    let least = c.if-basic.true in
    let e = c.basic.ensures.value in
    let f = c.basic-in-Some.ensures.value in
    other_leaves t list c.args.place c.args.row c.in-Some.other (subst (IsFirstLeaving t list c.args.place c.args.row) c.in-Some.is c.requires.found) (λ m. omega (arith, least, e, f))

pub returns-then-may_leave-2 : goal.returns-then-may_leave-2
returns-then-may_leave-2 c =
    let t = c.args.self.now in
    let list = numbers t c.args.list.now in
    let lesser = c.if-basic.false in
    let e = c.basic.ensures.value in
    let f = c.basic-in-Some.ensures.value in
    lesser_leaves t list c.args.place c.args.row c.in-Some.other (subst (IsFirstLeaving t list c.args.place c.args.row) c.in-Some.is c.requires.found) (λ h. omega (arith, lesser, e, f, h)) (c.may_leave-else-basic.ensures.0 c.if-may_leave-2.true)

pub returns-else-may_leave-2 : goal.returns-else-may_leave-2
returns-else-may_leave-2 c =
    let t = c.args.self.now in
    let list = numbers t c.args.list.now in
    other_leaves t list c.args.place c.args.row c.in-Some.other (subst (IsFirstLeaving t list c.args.place c.args.row) c.in-Some.is c.requires.found)
    (λ m. absurd (false≢true (sym c.if-may_leave-2.false ∙ c.may_leave-else-basic.ensures.1 m)))
