use Rattle.std.proofs.Common.{refl, ap, subst, Ok, inl, inr}
use Rattle.row_tableau.specs.Dense.{Dense}
use Rattle.row_tableau.specs.Variables.{numbers}
use Rattle.row_tableau.specs.Answers.{IsLeftOff}
use Rattle.basic_solution.specs.ListedStates.{StandBy}
use Rattle.basic_solution.specs.private.ListedStates.{IsBroughtTo}
use Rattle.basic_solution.proofs.ListedLemmas.{keeps_restood, keeps_trans, leads_restood, nowhere_on, at_list, lawful_stood}
use Rattle.basic_solution.proofs.sided.SidedBasis.stand_at.Goals as goal

pub returns-in-Err-clause-kept : goal.returns-in-Err-clause-kept
returns-in-Err-clause-kept c =
    keeps_trans c.args.self.now c.stand_nowhere.new.self c.bring_in.new.self (keeps_restood c.args.self.now c.stand_nowhere.new.self c.stand_nowhere.ensures.same) c.bring_in.ensures.kept

pub returns-in-Err-clause-way : goal.returns-in-Err-clause-way
returns-in-Err-clause-way c = leads_restood c.args.list.now c.args.self.now c.stand_nowhere.new.self c.bring_in.new.self c.bring_in.new.self c.stand_nowhere.ensures.same c.bring_in.ensures.way refl

pub returns-in-Err-clause-answer : goal.returns-in-Err-clause-answer
returns-in-Err-clause-answer c =
    inl (nowhere_on c.stand_nowhere.new.self c.bring_in.new.self c.bring_in.ensures.kept.columns c.bring_in.ensures.stands c.stand_nowhere.ensures.nowhere, c.in-Err.ensures.answer)

pub returns-in-Ok-false-clause-kept : goal.returns-in-Ok-false-clause-kept
returns-in-Ok-false-clause-kept c =
    keeps_trans c.args.self.now c.stand_nowhere.new.self c.bring_in.new.self (keeps_restood c.args.self.now c.stand_nowhere.new.self c.stand_nowhere.ensures.same) c.bring_in.ensures.kept

pub returns-in-Ok-false-clause-way : goal.returns-in-Ok-false-clause-way
returns-in-Ok-false-clause-way c =
    leads_restood c.args.list.now c.args.self.now c.stand_nowhere.new.self c.bring_in.new.self c.bring_in.new.self c.stand_nowhere.ensures.same c.bring_in.ensures.way refl

pub returns-in-Ok-false-clause-answer : goal.returns-in-Ok-false-clause-answer
returns-in-Ok-false-clause-answer c =
    let list = c.args.list.now in
    let same = ap (λ s. s.tableau) c.stand_nowhere.ensures.same in
    inl
    (subst (λ (t : Dense). IsLeftOff t (numbers t list.basic) c.bring_in.new.self.tableau) same
    (subst (λ b. IsBroughtTo c.stand_nowhere.new.self list (Ok b) c.bring_in.new.self) c.in-Ok-false.field-0-test c.in-Ok-false.ensures.answer))

pub returns-clause-kept : goal.returns-clause-kept
returns-clause-kept c =
    let reached = c.bring_in.new.self in
    keeps_trans c.args.self.now reached c.stand_by.new.self
    (keeps_trans c.args.self.now c.stand_nowhere.new.self reached (keeps_restood c.args.self.now c.stand_nowhere.new.self c.stand_nowhere.ensures.same) c.bring_in.ensures.kept)
    (keeps_restood reached c.stand_by.new.self c.stand_by.ensures.same)

pub returns-clause-way : goal.returns-clause-way
returns-clause-way c =
    leads_restood c.args.list.now c.args.self.now c.stand_nowhere.new.self c.bring_in.new.self c.stand_by.new.self c.stand_nowhere.ensures.same c.bring_in.ensures.way c.stand_by.ensures.same

pub returns-clause-answer : goal.returns-clause-answer
returns-clause-answer c =
    let list = c.args.list.now in
    let reached = c.bring_in.new.self in
    let after = c.stand_by.new.self in
    lawful_stood list c.args.self.now after
    (at_list list reached after c.stand_by.ensures.same
    (subst (λ b. IsBroughtTo c.stand_nowhere.new.self list (Ok b) reached) c.in-Ok-true.field-0-test c.in-Ok-true.ensures.answer)
    (λ k w. subst (λ high. StandBy (numbers after.tableau high) after k) c.as_slice.ensures (c.stand_by.ensures.stands k w)))
    c.is_lawful.result c.is_lawful.ensures

pub returns-in-Ok-false-clause-stands : goal.returns-in-Ok-false-clause-stands
returns-in-Ok-false-clause-stands c = λ answer.
    inl (nowhere_on c.stand_nowhere.new.self c.bring_in.new.self c.bring_in.ensures.kept.columns c.bring_in.ensures.stands c.stand_nowhere.ensures.nowhere)

pub returns-clause-stands : goal.returns-clause-stands
returns-clause-stands c = λ answer.
    let list = c.args.list.now in
    let reached = c.bring_in.new.self in
    let after = c.stand_by.new.self in
    inr
    (at_list list reached after c.stand_by.ensures.same
    (subst (λ b. IsBroughtTo c.stand_nowhere.new.self list (Ok b) reached) c.in-Ok-true.field-0-test c.in-Ok-true.ensures.answer)
    (λ k w. subst (λ high. StandBy (numbers after.tableau high) after k) c.as_slice.ensures (c.stand_by.ensures.stands k w)))
