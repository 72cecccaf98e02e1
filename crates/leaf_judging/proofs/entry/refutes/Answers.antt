use Rattle.std.specs.Prelude.{◌≤◌, [], ◌∷◌, Ok, Err}
use Rattle.std.proofs.Common.{◌≡◌, arith, ap, length, List, ◌∙◌, sym, subst, true, false, eqb}
use Rattle.std.proofs.lemmas.Bool.{false≢true, ne_eqb}
use Rattle.lp_model.specs.Regions.{Path}
use Rattle.lp_model.specs.Formulations.{Formulation, formulation}
use Rattle.lp_model.specs.declared.types.CutRow.{CutRow}
use Rattle.leaf_dual.specs.Dual.{Multipliers}
use Rattle.leaf_dual.specs.Answers.{IsFarkasAnswer}
use Rattle.leaf_totals.specs.declared.keeping.LeafTotals.{LeafTotals}
use Rattle.leaf_totals.specs.Keeping.{list_question, AreComplete, kept_most}
use Rattle.leaf_totals.specs.Likeness.{CanGoOn}
use Rattle.leaf_judging.specs.Totals.{AreListTotals}
use Rattle.leaf_judging.specs.private.Entries.{CanRefute, HasRefuted}
use Rattle.leaf_judging.proofs.JudgeLemmas.{refuted-ok, refuted-wide}
use Rattle.leaf_judging.proofs.entry.refutes.Goals as goal

module _ (F : Formulation) (path : Path) (t : LeafTotals) where
  can-go-on : (mult : Multipliers) → eqb (length mult) 0 ≡ false → CanRefute F path mult t → AreListTotals F path mult false t
  can-go-on [] some h = absurd (false≢true (sym some))
  can-go-on (m ∷ ms) some h = h

  has-refuted : (mult : Multipliers) → AreListTotals F path mult false t × AreComplete (list_question F path mult false) t → HasRefuted F path mult t
  has-refuted [] h = tt
  has-refuted (m ∷ ms) h = h

  none-refuted : (mult : Multipliers) → eqb (length mult) 0 ≡ true → HasRefuted F path mult t
  none-refuted [] e = tt
  none-refuted (m ∷ ms) e = absurd (false≢true (sym (ne_eqb (length (m ∷ ms)) 0 (λ z. omega arith)) ∙ e))

pub returns-in-Ok-clause-refuted : goal.returns-in-Ok-clause-refuted
returns-in-Ok-clause-refuted g c =
    let F = formulation c.args.model.now c.args.pool.now in
    let path = c.args.region.now in
    let mult = c.args.farkas.now in
    let answer = subst (λ (ms : Multipliers). IsFarkasAnswer F path ms (Ok c.in-Ok.value)) c.as_slice-2.ensures (subst (λ (cuts : List CutRow). IsFarkasAnswer (formulation c.args.model.now cuts) path c.as_slice-2.result.now (Ok c.in-Ok.value)) c.rows.ensures.rows c.in-Ok.ensures.answer) in
    refuted-ok F path mult
    (λ none. let f : false ≡ true = sym c.if-is_empty.false ∙ c.is_empty.ensures ∙ ap (λ n. eqb n 0) (ap length (c.as_slice.ensures ∙ none)) in cc)
    c.in-Ok.value answer c.is_positive.result c.is_positive.ensures

pub returns-in-Err-clause-refuted : goal.returns-in-Err-clause-refuted
returns-in-Err-clause-refuted g c =
    let F = formulation c.args.model.now c.args.pool.now in
    let path = c.args.region.now in
    let mult = c.args.farkas.now in
    let answer = subst (λ (ms : Multipliers). IsFarkasAnswer F path ms (Err c.in-Err.field-0)) c.as_slice-2.ensures (subst (λ (cuts : List CutRow). IsFarkasAnswer (formulation c.args.model.now cuts) path c.as_slice-2.result.now (Err c.in-Err.field-0)) c.rows.ensures.rows c.in-Err.ensures.answer) in
    ((λ h. cc), (λ h. absurd (refuted-wide F path mult c.in-Err.field-0 answer h)))

pub number-requires-clause-narrow : goal.number-requires-clause-narrow
number-requires-clause-narrow g c = c.requires.narrow

pub returns-in-Ok-clause-totals : goal.returns-in-Ok-clause-totals
returns-in-Ok-clause-totals g c =
    let F = formulation c.args.model.now c.args.pool.now in
    let path = c.args.region.now in
    let mult = c.args.farkas.now in
    let new = c.number.new.self in
    let some = sym (ap (λ (ms : Multipliers). eqb (length ms) 0) c.as_slice.ensures) ∙ (sym c.is_empty.ensures ∙ c.if-is_empty.false) in
    let before = can-go-on F path c.args.totals.now mult some c.requires.totals in
    let ready : CanGoOn (list_question F path mult false) new = subst (λ (ms : Multipliers). CanGoOn (list_question F path ms false) new) c.as_slice-2.ensures (subst (λ (cuts : List CutRow). CanGoOn (list_question (formulation c.args.model.now cuts) path c.as_slice-2.result.now false) new) c.rows.ensures.rows c.in-Ok.ensures.ready) in
    let complete : AreComplete (list_question F path mult false) new = subst (λ (ms : Multipliers). AreComplete (list_question F path ms false) new) c.as_slice-2.ensures (subst (λ (cuts : List CutRow). AreComplete (list_question (formulation c.args.model.now cuts) path c.as_slice-2.result.now false) new) c.rows.ensures.rows c.in-Ok.ensures.complete) in
    has-refuted F path new mult (record { ready = ready; room = subst (λ r. kept_most (list_question F path mult false) ≤ r) (sym c.in-Ok.ensures.room) before.room }, complete)

pub returns-in-Ok-clause-rises : goal.returns-in-Ok-clause-rises
returns-in-Ok-clause-rises g c = c.in-Ok.ensures.rises

pub returns-in-Err-clause-totals : goal.returns-in-Err-clause-totals
returns-in-Err-clause-totals g c =
    let F = formulation c.args.model.now c.args.pool.now in
    let path = c.args.region.now in
    let mult = c.args.farkas.now in
    let new = c.number.new.self in
    let some = sym (ap (λ (ms : Multipliers). eqb (length ms) 0) c.as_slice.ensures) ∙ (sym c.is_empty.ensures ∙ c.if-is_empty.false) in
    let before = can-go-on F path c.args.totals.now mult some c.requires.totals in
    let ready : CanGoOn (list_question F path mult false) new = subst (λ (ms : Multipliers). CanGoOn (list_question F path ms false) new) c.as_slice-2.ensures (subst (λ (cuts : List CutRow). CanGoOn (list_question (formulation c.args.model.now cuts) path c.as_slice-2.result.now false) new) c.rows.ensures.rows c.in-Err.ensures.ready) in
    let complete : AreComplete (list_question F path mult false) new = subst (λ (ms : Multipliers). AreComplete (list_question F path ms false) new) c.as_slice-2.ensures (subst (λ (cuts : List CutRow). AreComplete (list_question (formulation c.args.model.now cuts) path c.as_slice-2.result.now false) new) c.rows.ensures.rows c.in-Err.ensures.complete) in
    has-refuted F path new mult (record { ready = ready; room = subst (λ r. kept_most (list_question F path mult false) ≤ r) (sym c.in-Err.ensures.room) before.room }, complete)

pub returns-in-Err-clause-rises : goal.returns-in-Err-clause-rises
returns-in-Err-clause-rises g c = c.in-Err.ensures.rises

pub returns-then-is_empty-clause-totals : goal.returns-then-is_empty-clause-totals
returns-then-is_empty-clause-totals g c =
    none-refuted (formulation c.args.model.now c.args.pool.now) c.args.region.now c.args.totals.now c.args.farkas.now
    (sym (ap (λ (ms : Multipliers). eqb (length ms) 0) c.as_slice.ensures) ∙ (sym c.is_empty.ensures ∙ c.if-is_empty.true))

pub number-requires-clause-ready : goal.number-requires-clause-ready
number-requires-clause-ready g c =
    let F = formulation c.args.model.now c.args.pool.now in
    let path = c.args.region.now in
    let mult = c.args.farkas.now in
    let some = sym (ap (λ (ms : Multipliers). eqb (length ms) 0) c.as_slice.ensures) ∙ (sym c.is_empty.ensures ∙ c.if-is_empty.false) in
    let before = can-go-on F path c.args.totals.now mult some c.requires.totals in
    let old = c.args.totals.now in
    subst (λ (cuts : List CutRow). CanGoOn (list_question (formulation c.args.model.now cuts) path c.as_slice-2.result.now false) old) (sym c.rows.ensures.rows)
    (subst (λ (ms : Multipliers). CanGoOn (list_question F path ms false) old) (sym c.as_slice-2.ensures) before.ready)

pub number-requires-clause-room : goal.number-requires-clause-room
number-requires-clause-room g c =
    let F = formulation c.args.model.now c.args.pool.now in
    let path = c.args.region.now in
    let mult = c.args.farkas.now in
    let some = sym (ap (λ (ms : Multipliers). eqb (length ms) 0) c.as_slice.ensures) ∙ (sym c.is_empty.ensures ∙ c.if-is_empty.false) in
    let before = can-go-on F path c.args.totals.now mult some c.requires.totals in
    let old = c.args.totals.now in
    subst (λ (cuts : List CutRow). kept_most (list_question (formulation c.args.model.now cuts) path c.as_slice-2.result.now false) ≤ old.totals.room) (sym c.rows.ensures.rows)
    (subst (λ (ms : Multipliers). kept_most (list_question F path ms false) ≤ old.totals.room) (sym c.as_slice-2.ensures) before.room)
