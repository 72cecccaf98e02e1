use Rattle.std.specs.Prelude.{MatchOption, Option}
use Rattle.std.proofs.Common.{subst}
use Rattle.lp_model.specs.Regions.{Path}
use Rattle.sound_searches.specs.Sound.{PlainSearch}
use Rattle.sound_searches.specs.Placing.{IsStale, IsOpenPlace}
use Rattle.tree_edit.proofs.search.Search.job.Goals as goal

pub job_at-requires : goal.job_at-requires
job_at-requires c =
    let S : PlainSearch = c.args.self.now in
    subst (λ (o : Option Path). MatchOption o (IsStale S c.args.id) (λ (path : Path). IsOpenPlace S c.args.id path)) c.in-Ok-Some.field-0-is c.in-Ok-Some.ensures

pub returns-in-Ok-Some : goal.returns-in-Ok-Some
returns-in-Ok-Some c = c.job_at.ensures

pub returns-in-Ok-None : goal.returns-in-Ok-None
returns-in-Ok-None c =
    let S : PlainSearch = c.args.self.now in
    subst (λ (o : Option Path). MatchOption o (IsStale S c.args.id) (λ (path : Path). IsOpenPlace S c.args.id path)) c.in-Ok-None.field-0-is c.in-Ok-None.ensures
