use Rattle.std.specs.Prelude.{IfSome}
use Rattle.std.proofs.Common.{sym, subst, ◌∙◌}
use Rattle.front_search.specs.FrontsFound.{IsFrontFound}
use Rattle.front_search.specs.Completeness.{counted_results, HasFrontEnded, IsFrontEnough}
use Rattle.front_search.proofs.FoundFronts.{found-ended}
use Rattle.front_search.proofs.searching.mc_solve.Goals as goal

pub returns-clause-complete : goal.returns-clause-complete
returns-clause-complete c =
    let l = c.args.limits.now in
    let S = c.in-Some-take.search in
    let answer = c.look-answer.result.answer in
    let held = c.look-answer.result.held in
    subst (λ o. IfSome o (λ S. IsFrontEnough l S.model (counted_results answer) → HasFrontEnded answer)) (sym (sym c.take.ensures.taken ∙ c.in-Some-take.is))
    (found-ended l S.model answer held (subst (λ M. IsFrontFound l M answer held) c.model-2.ensures c.look-answer.ensures))
