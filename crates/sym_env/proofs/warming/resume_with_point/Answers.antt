use Rattle.std.specs.Prelude.{Some}
use Rattle.std.proofs.Common.{subst, inl}
use Rattle.tree_search.proofs.ExtendLemmas.{extends-self}
use Rattle.dual_simplex.specs.SlackBases.{IsSlackBasisAnswer}
use Rattle.sym_env.proofs.SolveLemmas.{wants-first}
use Rattle.sym_env.proofs.WarmLemmas.{with-own, with-none}
use Rattle.sym_env.proofs.warming.resume_with_point.Goals as goal

pub search_own-search-requires-clause-begins : goal.search_own-search-requires-clause-begins
search_own-search-requires-clause-begins c = inl (subst (λ N. IsSlackBasisAnswer N (Some c.in-Ok-Some.first)) c.model.ensures (subst (IsSlackBasisAnswer c.model.result.now) c.in-Ok-Some.field-0-is c.in-Ok-Some.ensures))

pub returns-in-Err-clause-resumes : goal.returns-in-Err-clause-resumes
returns-in-Err-clause-resumes c = with-none c.args.limits.now c.args.search c.args.search (wants-first c.args.limits.now c.args.search c.points-sound.ensures.sound)

pub returns-in-Err-clause-extends : goal.returns-in-Err-clause-extends
returns-in-Err-clause-extends c = extends-self c.args.search.tree.root

pub returns-in-Err-clause-ray : goal.returns-in-Err-clause-ray
returns-in-Err-clause-ray c = λ u. u

pub returns-in-Ok-Some-clause-resumes : goal.returns-in-Ok-Some-clause-resumes
returns-in-Ok-Some-clause-resumes c =
    with-own c.args.limits.now c.args.search c.search_own-search.result.1 c.search_own-search.result.0 c.in-Ok-Some.first
    (inl (subst (λ N. IsSlackBasisAnswer N (Some c.in-Ok-Some.first)) c.model.ensures (subst (IsSlackBasisAnswer c.model.result.now) c.in-Ok-Some.field-0-is c.in-Ok-Some.ensures)))
    c.search_own-search.ensures.went

pub returns-in-Ok-Some-clause-model : goal.returns-in-Ok-Some-clause-model
returns-in-Ok-Some-clause-model c = c.search_own-search.ensures.went.model

pub returns-in-Ok-Some-clause-extends : goal.returns-in-Ok-Some-clause-extends
returns-in-Ok-Some-clause-extends c = c.search_own-search.ensures.went.extends

pub returns-in-Ok-Some-clause-ray : goal.returns-in-Ok-Some-clause-ray
returns-in-Ok-Some-clause-ray c = c.search_own-search.ensures.bounded
