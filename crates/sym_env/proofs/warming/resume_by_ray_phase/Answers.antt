use Rattle.std.proofs.Common.{subst, sym, refl, inr}
use Rattle.ray_phase.specs.Answers.{IsRayAnswer}
use Rattle.lp_model.specs.declared.answers.StopWhy.TheVariants as stop
use Rattle.tree_search.proofs.ExtendLemmas.{extends-self}
use Rattle.ray_phase.specs.Beginnings.{IsRayStop}
use Rattle.tree_search.specs.Warm.{BesidePoint}
use Rattle.ray_phase.proofs.BeginningLemmas.{stop-pivots}
use Rattle.sym_env.proofs.SolveLemmas.{wants-first, stopped-first, stopped-never}
use Rattle.sym_env.proofs.TruthLemmas.{stop-bounded}
use Rattle.sym_env.proofs.WarmLemmas.{with-own, with-stop, with-none, own-stop}
use Rattle.sym_env.proofs.warming.resume_by_ray_phase.Goals as goal

pub search_own-search-requires-clause-begins : goal.search_own-search-requires-clause-begins
search_own-search-requires-clause-begins c =
    let S = c.args.search in
    let l = c.args.limits.now in
    inr (c.requires.none, subst (IsRayAnswer S.model l.pivots) c.in-DualBasis.is (subst (λ N. IsRayAnswer N l.pivots c.ray.result) c.model.ensures c.ray.ensures))

pub returns-in-Memory-clause-resumes : goal.returns-in-Memory-clause-resumes
returns-in-Memory-clause-resumes c = with-none c.args.limits.now c.args.search c.args.search (wants-first c.args.limits.now c.args.search c.points-sound.ensures.sound)

pub returns-in-Memory-clause-extends : goal.returns-in-Memory-clause-extends
returns-in-Memory-clause-extends c = extends-self c.args.search.tree.root

pub returns-in-Memory-clause-ray : goal.returns-in-Memory-clause-ray
returns-in-Memory-clause-ray c = λ u. u

pub returns-in-DualBasis-clause-resumes : goal.returns-in-DualBasis-clause-resumes
returns-in-DualBasis-clause-resumes c =
    let S = c.args.search in
    let l = c.args.limits.now in
    with-own l S c.search_own-search.result.1 c.search_own-search.result.0 c.in-DualBasis.first
    (inr (c.requires.none, subst (IsRayAnswer S.model l.pivots) c.in-DualBasis.is (subst (λ N. IsRayAnswer N l.pivots c.ray.result) c.model.ensures c.ray.ensures)))
    c.search_own-search.ensures.went

pub returns-in-DualBasis-clause-model : goal.returns-in-DualBasis-clause-model
returns-in-DualBasis-clause-model c = c.search_own-search.ensures.went.model

pub returns-in-DualBasis-clause-extends : goal.returns-in-DualBasis-clause-extends
returns-in-DualBasis-clause-extends c = c.search_own-search.ensures.went.extends

pub returns-in-DualBasis-clause-ray : goal.returns-in-DualBasis-clause-ray
returns-in-DualBasis-clause-ray c = c.search_own-search.ensures.bounded

pub returns-in-Ray-clause-resumes : goal.returns-in-Ray-clause-resumes
returns-in-Ray-clause-resumes c =
    let S = c.args.search in
    let l = c.args.limits.now in
    BesidePoint c.requires.point c.in-Ray.direction c.requires.none
    (subst (IsRayAnswer S.model l.pivots) c.in-Ray.is (subst (λ N. IsRayAnswer N l.pivots c.ray.result) c.model.ensures c.ray.ensures)) refl refl

pub returns-in-Ray-clause-extends : goal.returns-in-Ray-clause-extends
returns-in-Ray-clause-extends c = extends-self c.args.search.tree.root

pub returns-in-Ray-clause-ray : goal.returns-in-Ray-clause-ray
returns-in-Ray-clause-ray c =
    let S = c.args.search in
    let l = c.args.limits.now in
    subst (IsRayAnswer S.model l.pivots) c.in-Ray.is (subst (λ N. IsRayAnswer N l.pivots c.ray.result) c.model.ensures c.ray.ensures)

pub returns-in-Pivots-clause-resumes : goal.returns-in-Pivots-clause-resumes
returns-in-Pivots-clause-resumes c =
    let S = c.args.search in
    let l = c.args.limits.now in
    let found = subst (IsRayAnswer S.model l.pivots) c.in-Pivots.is (subst (λ N. IsRayAnswer N l.pivots c.ray.result) c.model.ensures c.ray.ensures) in
    let stops : IsRayStop S.model l.pivots c.out_of_moves.result = subst (IsRayStop S.model l.pivots) (sym c.out_of_moves.ensures) (stop-pivots S.model l.pivots c.in-Pivots.basis found) in
    with-stop l S c.stopped-answer.result S c.out_of_moves.result c.requires.none stops
    (stopped-first l S c.points-sound.ensures.sound c.requires.some c.out_of_moves.result (own-stop S.model l.pivots c.out_of_moves.result c.requires.none stops) c.stopped-answer.result c.stopped-answer.ensures)

pub returns-in-Pivots-clause-extends : goal.returns-in-Pivots-clause-extends
returns-in-Pivots-clause-extends c = extends-self c.args.search.tree.root

pub returns-in-Pivots-clause-ray : goal.returns-in-Pivots-clause-ray
returns-in-Pivots-clause-ray c = stop-bounded c.args.search c.out_of_moves.result c.stopped-answer.result 0 c.stopped-answer.ensures

pub returns-in-Pivots-clause-complete : goal.returns-in-Pivots-clause-complete
returns-in-Pivots-clause-complete c =
    let S = c.args.search in
    let l = c.args.limits.now in
    let found = subst (IsRayAnswer S.model l.pivots) c.in-Pivots.is (subst (λ N. IsRayAnswer N l.pivots c.ray.result) c.model.ensures c.ray.ensures) in
    let stops : IsRayStop S.model l.pivots c.out_of_moves.result = subst (IsRayStop S.model l.pivots) (sym c.out_of_moves.ensures) (stop-pivots S.model l.pivots c.in-Pivots.basis found) in
    stopped-never l S c.out_of_moves.result (own-stop S.model l.pivots c.out_of_moves.result c.requires.none stops) c.stopped-answer.result

pub returns-in-Wide-clause-resumes : goal.returns-in-Wide-clause-resumes
returns-in-Wide-clause-resumes c =
    let S = c.args.search in
    let l = c.args.limits.now in
    let stops : IsRayStop S.model l.pivots (stop.Wide c.in-Wide.at) = subst (IsRayAnswer S.model l.pivots) c.in-Wide.is (subst (λ N. IsRayAnswer N l.pivots c.ray.result) c.model.ensures c.ray.ensures) in
    with-stop l S c.stopped-answer-in-Wide.result S (stop.Wide c.in-Wide.at) c.requires.none stops
    (stopped-first l S c.points-sound.ensures.sound c.requires.some (stop.Wide c.in-Wide.at) (own-stop S.model l.pivots (stop.Wide c.in-Wide.at) c.requires.none stops) c.stopped-answer-in-Wide.result c.stopped-answer-in-Wide.ensures)

pub returns-in-Wide-clause-extends : goal.returns-in-Wide-clause-extends
returns-in-Wide-clause-extends c = extends-self c.args.search.tree.root

pub returns-in-Wide-clause-ray : goal.returns-in-Wide-clause-ray
returns-in-Wide-clause-ray c = stop-bounded c.args.search (stop.Wide c.in-Wide.at) c.stopped-answer-in-Wide.result 0 c.stopped-answer-in-Wide.ensures

pub returns-in-Wide-clause-complete : goal.returns-in-Wide-clause-complete
returns-in-Wide-clause-complete c =
    let S = c.args.search in
    let l = c.args.limits.now in
    let stops : IsRayStop S.model l.pivots (stop.Wide c.in-Wide.at) = subst (IsRayAnswer S.model l.pivots) c.in-Wide.is (subst (λ N. IsRayAnswer N l.pivots c.ray.result) c.model.ensures c.ray.ensures) in
    stopped-never l S (stop.Wide c.in-Wide.at) (own-stop S.model l.pivots (stop.Wide c.in-Wide.at) c.requires.none stops) c.stopped-answer-in-Wide.result
