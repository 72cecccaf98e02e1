use Rattle.std.proofs.Common.{sym, ◌∙◌}
use Rattle.sym_env.proofs.WarmLemmas.{no-points, some-points, without-point}
use Rattle.sym_env.proofs.warming.resume.Goals as goal

pub resume_with_point-requires-clause-point : goal.resume_with_point-requires-clause-point
resume_with_point-requires-clause-point c = some-points c.args.search.model c.args.search.points c.in-Some.field-0 (sym c.target.ensures ∙ c.in-Some.is)

pub search_without_point-requires-clause-none : goal.search_without_point-requires-clause-none
search_without_point-requires-clause-none c = no-points c.args.search.model c.args.search.points (sym c.target.ensures ∙ c.in-None.is)

pub returns-in-None-clause-resumes : goal.returns-in-None-clause-resumes
returns-in-None-clause-resumes c =
    let S = c.args.search in
    without-point c.args.limits.now S c.search_without_point.result.answer c.search_without_point.result.search (no-points S.model S.points (sym c.target.ensures ∙ c.in-None.is)) c.search_without_point.ensures.went

pub returns-in-None-clause-model : goal.returns-in-None-clause-model
returns-in-None-clause-model c = c.search_without_point.ensures.went.model

pub returns-in-None-clause-extends : goal.returns-in-None-clause-extends
returns-in-None-clause-extends c = c.search_without_point.ensures.went.extends
