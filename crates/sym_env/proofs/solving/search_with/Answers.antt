use Rattle.std.proofs.Common.{sym, subst}
use Rattle.search_answers.specs.declared.answers.Answer.TheVariants.{Memory}
use Rattle.sound_searches.specs.Sound.{PlainSearch}
use Rattle.tree_search.specs.Warm.{Went}
use Rattle.sym_env.proofs.SolveLemmas.{wants-first}
use Rattle.sym_env.proofs.solving.search_with.Goals as goal

pub returns-in-Err-clause-went : goal.returns-in-Err-clause-went
returns-in-Err-clause-went c =
    subst (λ (X : PlainSearch). Went c.args.limits.now c.args.search Memory X) (sym c.in-Err.ensures.back) (wants-first c.args.limits.now c.args.search c.points-sound.ensures.sound)

pub returns-in-Err-clause-beside : goal.returns-in-Err-clause-beside
returns-in-Err-clause-beside c = λ u. absurd u
