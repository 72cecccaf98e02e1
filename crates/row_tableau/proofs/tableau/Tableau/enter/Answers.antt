use Rattle.std.proofs.Common.{refl, sym, subst, inl, inr}
use Rattle.row_tableau.specs.Dense.{IsTableauOf}
use Rattle.row_tableau.specs.Variables.{numbers}
use Rattle.row_tableau.specs.private.Answers.{IsFirstLeaving, EntersAt}
use Rattle.row_tableau.proofs.tableau.Tableau.enter.Goals as goal

pub exchange_named-requires-clause-row : goal.exchange_named-requires-clause-row
exchange_named-requires-clause-row c =
    let t = c.args.self.now in
    (subst (IsFirstLeaving t (numbers t c.args.list.now) c.in-Place.place t.activities) c.in-Some.is c.first_leaving.ensures).0

pub exchange_named-requires-clause-place : goal.exchange_named-requires-clause-place
exchange_named-requires-clause-place c = c.in-Place.ensures.0

pub exchange_named-requires-clause-some : goal.exchange_named-requires-clause-some
exchange_named-requires-clause-some c =
    let t = c.args.self.now in
    (subst (IsFirstLeaving t (numbers t c.args.list.now) c.in-Place.place t.activities) c.in-Some.is c.first_leaving.ensures).1.some

pub returns-in-Row-clause-entered : goal.returns-in-Row-clause-entered
returns-in-Row-clause-entered c = inl ((c.in-Row.field-0, c.in-Row.ensures.0, sym c.in-Row.ensures.1), refl)

pub returns-in-None-clause-entered : goal.returns-in-None-clause-entered
returns-in-None-clause-entered c =
    let t = c.args.self.now in (
      refl,
      (
        c.in-Place.place,
        record {
          place_within = c.in-Place.ensures.0;
          is = c.in-Place.ensures.1;
          not_basic = c.in-Place.ensures.2;
          none = subst (IsFirstLeaving t (numbers t c.args.list.now) c.in-Place.place t.activities) c.in-None.is c.first_leaving.ensures;
        },
      ),
    )

pub returns-in-Ok-clause-entered : goal.returns-in-Ok-clause-entered
returns-in-Ok-clause-entered c =
    let t = c.args.self.now in
    let list = numbers t c.args.list.now in
    let first = subst (IsFirstLeaving t list c.in-Place.place t.activities) c.in-Some.is c.first_leaving.ensures in
    let enters : EntersAt t list c.args.variable c.in-Some.row c.in-Place.place = record {
      place_within = c.in-Place.ensures.0;
      is = c.in-Place.ensures.1;
      not_basic = c.in-Place.ensures.2;
      row_within = first.0;
      leaves = first.1;
      first = first.2;
    } in
    inr (c.in-Some.row, (c.in-Place.place, (enters, c.in-Ok.ensures.fits, c.in-Ok.ensures.table)))

pub returns-in-Err-clause-entered : goal.returns-in-Err-clause-entered
returns-in-Err-clause-entered c =
    let t = c.args.self.now in
    let list = numbers t c.args.list.now in
    let first = subst (IsFirstLeaving t list c.in-Place.place t.activities) c.in-Some.is c.first_leaving.ensures in
    let enters : EntersAt t list c.args.variable c.in-Some.row c.in-Place.place = record {
      place_within = c.in-Place.ensures.0;
      is = c.in-Place.ensures.1;
      not_basic = c.in-Place.ensures.2;
      row_within = first.0;
      leaves = first.1;
      first = first.2;
    } in
    (c.in-Err.ensures.kept, (c.in-Some.row, (c.in-Place.place, (enters, c.in-Err.ensures.wide))))

pub first_leaving-requires-clause-marks : goal.first_leaving-requires-clause-marks
first_leaving-requires-clause-marks c = c.requires.marks

pub first_leaving-requires-clause-place : goal.first_leaving-requires-clause-place
first_leaving-requires-clause-place c = c.in-Place.ensures.0

pub returns-in-Row-clause-columns : goal.returns-in-Row-clause-columns
returns-in-Row-clause-columns c = refl

pub returns-in-Row-clause-rows : goal.returns-in-Row-clause-rows
returns-in-Row-clause-rows c = refl

pub returns-in-Row-clause-activities : goal.returns-in-Row-clause-activities
returns-in-Row-clause-activities c = refl

pub returns-in-Row-clause-basis : goal.returns-in-Row-clause-basis
returns-in-Row-clause-basis c = λ p is. is

pub returns-in-None-clause-columns : goal.returns-in-None-clause-columns
returns-in-None-clause-columns c = refl

pub returns-in-None-clause-rows : goal.returns-in-None-clause-rows
returns-in-None-clause-rows c = refl

pub returns-in-None-clause-activities : goal.returns-in-None-clause-activities
returns-in-None-clause-activities c = refl

pub returns-in-None-clause-basis : goal.returns-in-None-clause-basis
returns-in-None-clause-basis c = λ p is. is

pub returns-in-Ok-clause-columns : goal.returns-in-Ok-clause-columns
returns-in-Ok-clause-columns c = c.exchange_named.ensures.columns

pub returns-in-Ok-clause-rows : goal.returns-in-Ok-clause-rows
returns-in-Ok-clause-rows c = c.exchange_named.ensures.rows

pub returns-in-Ok-clause-activities : goal.returns-in-Ok-clause-activities
returns-in-Ok-clause-activities c = c.exchange_named.ensures.activities

pub returns-in-Err-clause-columns : goal.returns-in-Err-clause-columns
returns-in-Err-clause-columns c = c.exchange_named.ensures.columns

pub returns-in-Err-clause-rows : goal.returns-in-Err-clause-rows
returns-in-Err-clause-rows c = c.exchange_named.ensures.rows

pub returns-in-Err-clause-activities : goal.returns-in-Err-clause-activities
returns-in-Err-clause-activities c = c.exchange_named.ensures.activities

pub returns-in-Ok-clause-basis : goal.returns-in-Ok-clause-basis
returns-in-Ok-clause-basis c = c.in-Ok.ensures.basis

pub returns-in-Err-clause-basis : goal.returns-in-Err-clause-basis
returns-in-Err-clause-basis c = λ p is. subst (IsTableauOf p) (sym c.in-Err.ensures.kept) is
