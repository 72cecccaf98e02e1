use Rattle.std.specs.Prelude.{MatchOption, Option}
use Rattle.std.proofs.Common.{refl, subst}
use Rattle.lp_model.specs.Regions.{Path}
use Rattle.sound_searches.specs.Sound.{PlainSearch}
use Rattle.sound_searches.specs.Placing.{IsStale, IsOpenPlace}
use Rattle.tree_edit.proofs.search.Search.place.Goals as goal

pub returns-in-Ok-Some-clause-taken : goal.returns-in-Ok-Some-clause-taken
returns-in-Ok-Some-clause-taken c = c.place_open.ensures.taken

pub returns-in-Ok-Some-clause-kept : goal.returns-in-Ok-Some-clause-kept
returns-in-Ok-Some-clause-kept c = c.place_open.ensures.kept

pub returns-in-Ok-None-clause-taken : goal.returns-in-Ok-None-clause-taken
returns-in-Ok-None-clause-taken c =
    let S : PlainSearch = c.args.self.now in
    (subst (λ (o : Option Path). MatchOption o (IsStale S c.args.id) (λ (path : Path). IsOpenPlace S c.args.id path)) c.in-Ok-None.field-0-is c.in-Ok-None.ensures, refl)
