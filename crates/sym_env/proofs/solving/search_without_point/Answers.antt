use Rattle.std.proofs.Common.{subst}
use Rattle.ray_phase.specs.Beginnings.{IsBeginning}
use Rattle.sym_env.proofs.SolveLemmas.{wants-first, stopped-first, stopped-never}
use Rattle.sym_env.proofs.TruthLemmas.{stop-bounded}
use Rattle.sym_env.proofs.solving.search_without_point.Goals as goal

pub search_own-search-requires-clause-begins : goal.search_own-search-requires-clause-begins
search_own-search-requires-clause-begins c =
    let S = c.args.search in
    let l = c.args.limits.now in
    subst (IsBeginning S.model l.pivots) c.in-Own.is (subst (λ N. IsBeginning N l.pivots c.find_beginning.result) c.model.ensures c.find_beginning.ensures)

pub search_beside_ray-search-requires-clause-begins : goal.search_beside_ray-search-requires-clause-begins
search_beside_ray-search-requires-clause-begins c =
    let S = c.args.search in
    let l = c.args.limits.now in
    (subst (IsBeginning S.model l.pivots) c.in-BesideRay.is (subst (λ N. IsBeginning N l.pivots c.find_beginning.result) c.model.ensures c.find_beginning.ensures)).0

pub returns-in-Memory-clause-went : goal.returns-in-Memory-clause-went
returns-in-Memory-clause-went c = wants-first c.args.limits.now c.args.search c.points-sound.ensures.sound

pub returns-in-Stopped-clause-went : goal.returns-in-Stopped-clause-went
returns-in-Stopped-clause-went c =
    let S = c.args.search in
    let l = c.args.limits.now in
    let stops = subst (IsBeginning S.model l.pivots) c.in-Stopped.is (subst (λ N. IsBeginning N l.pivots c.find_beginning.result) c.model.ensures c.find_beginning.ensures) in
    stopped-first l S c.points-sound.ensures.sound c.requires.some c.in-Stopped.why stops c.stopped-answer.result c.stopped-answer.ensures

pub returns-in-Stopped-clause-complete : goal.returns-in-Stopped-clause-complete
returns-in-Stopped-clause-complete c =
    let S = c.args.search in
    let l = c.args.limits.now in
    let stops = subst (IsBeginning S.model l.pivots) c.in-Stopped.is (subst (λ N. IsBeginning N l.pivots c.find_beginning.result) c.model.ensures c.find_beginning.ensures) in
    stopped-never l S c.in-Stopped.why stops c.stopped-answer.result

pub returns-in-Memory-clause-ray : goal.returns-in-Memory-clause-ray
returns-in-Memory-clause-ray c = λ u. u

pub returns-in-Stopped-clause-ray : goal.returns-in-Stopped-clause-ray
returns-in-Stopped-clause-ray c = stop-bounded c.args.search c.in-Stopped.why c.stopped-answer.result 0 c.stopped-answer.ensures

pub returns-in-Own-clause-ray : goal.returns-in-Own-clause-ray
returns-in-Own-clause-ray c = c.search_own-search.ensures.bounded

pub returns-in-BesideRay-clause-ray : goal.returns-in-BesideRay-clause-ray
returns-in-BesideRay-clause-ray c =
    let S = c.args.search in
    let l = c.args.limits.now in
    (subst (IsBeginning S.model l.pivots) c.in-BesideRay.is (subst (λ N. IsBeginning N l.pivots c.find_beginning.result) c.model.ensures c.find_beginning.ensures)).1
