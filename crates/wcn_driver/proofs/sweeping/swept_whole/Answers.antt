use Rattle.std.specs.Prelude.{◌≡◌}
use Rattle.std.proofs.Common.{sym, subst, ◌∙◌, arith, inl, inr}
use Rattle.frac128.specs.Range.{IsNarrow}
use Rattle.frac128.proofs.ReadLemmas.{narrow_read}
use Rattle.lp_model.specs.Program.{Program, HasWholeObjective}
use Rattle.lp_model.specs.declared.types.Col.{Col}
use Rattle.inner_models.specs.Inner.{IsBare}
use Rattle.inner_models.specs.Room.{HasInnerRoom}
use Rattle.front_solver.specs.Solved.{IsRecosted}
use Rattle.front_solver.proofs.Costs.{objective_recosted, own_objective}
use Rattle.wcn_driver.specs.Answers.{IsMc}
use Rattle.wcn_driver.proofs.sweeping.swept_whole.Goals as goal

pub swept-answer-requires-clause-old : goal.swept-answer-requires-clause-old
swept-answer-requires-clause-old g c =
    let P : Program = g.S.Solver.program c.args.solver.now in
    let is : c.in-Ok.base ≡ P = c.in-Ok.ensures ∙ c.model.ensures in
    subst (λ (N : Program). IsRecosted N P) (sym is) (objective_recosted P P (λ (col : Col). col.cost) (sym (own_objective P)))

pub swept-answer-requires-clause-task : goal.swept-answer-requires-clause-task
swept-answer-requires-clause-task g c =
    let P : Program = g.S.Solver.program c.args.solver.now in
    let is : c.in-Ok.base ≡ P = c.in-Ok.ensures ∙ c.model.ensures in
    record {
      base = record {
        lawful = c.cols-cols.ensures.lawful;
        bare = subst IsBare (sym is) c.requires.bare;
        first = subst (λ (N : Program). HasWholeObjective N 1) (sym is) c.requires.whole1;
        second = subst (λ (N : Program). HasWholeObjective N 2) (sym is) c.requires.whole2;
      };
      room = subst HasInnerRoom (sym is) c.requires.room;
      first = subst IsNarrow (sym (narrow_read c.args.constant1 c.requires.first)) c.requires.first;
      second = subst IsNarrow (sym (narrow_read c.args.constant2 c.requires.second)) c.requires.second;
      few = omega arith;
    }

pub returns-clause-mc : goal.returns-clause-mc
returns-clause-mc g c =
    let P : Program = g.S.Solver.program c.args.solver.now in
    let is : c.in-Ok.base ≡ P = c.in-Ok.ensures ∙ c.model.ensures in
    let first = narrow_read c.args.constant1 c.requires.first in
    let second = narrow_read c.args.constant2 c.requires.second in
    let stops = g.S.Solver.stops c.args.solver.now in
    let answered : IsMc stops P c.args.nodes c.args.constant1 c.args.constant2 c.swept-answer.result =
    subst (λ (T : Type 0). T) (λ t. IsMc stops (is t) c.args.nodes (first t) (second t) c.swept-answer.result) c.swept-answer.ensures.mc in
    elim c.restored.ensures.answer [
      | inl none ↦ subst (IsMc stops P c.args.nodes c.args.constant1 c.args.constant2) (sym none) tt
      | inr same ↦ subst (IsMc stops P c.args.nodes c.args.constant1 c.args.constant2) (sym same) answered
    ]

pub returns-clause-kept : goal.returns-clause-kept
returns-clause-kept g c =
    let P : Program = g.S.Solver.program c.args.solver.now in
    let is : c.in-Ok.base ≡ P = c.in-Ok.ensures ∙ c.model.ensures in
    elim c.restored.ensures.kept [
      | inl none ↦ inl none
      | inr same ↦ inr (same ∙ is)
    ]
