use Rattle.std.specs.Prelude.{◌<◌, length}
use Rattle.std.proofs.Common.{ap, sym, subst, arith}
use Rattle.sound_searches.specs.Pool.{AddsCuts, AddsSome}
use Rattle.tree_search.specs.Steps.{work_next}
use Rattle.tree_search.specs.private.Stepping.{worked_with}
use Rattle.tree_search.proofs.FoundLemmas.{found-fits}
use Rattle.tree_search.proofs.ReadyLemmas.{ready-added}
use Rattle.tree_search.proofs.StopLemmas.{step-since, some-since, kept-search, freed-since}
use Rattle.tree_search.proofs.stepping.after_work.Goals as goal

pub add_cuts-added-requires : goal.add_cuts-added-requires
add_cuts-added-requires c =
    let l = c.args.working.now in
    let S = c.args.manager.now.search in
    let fits = found-fits (work_next l.ways l.first.now l.pivots S c.args.job) c.show_manager.ensures.sound.few_cuts c.args.end c.args.found c.requires.works.worked_is in
    let same = ap length c.deref.ensures.value in
    omega (arith, fits, same)

pub returns-in-Err-clause-some : goal.returns-in-Err-clause-some
returns-in-Err-clause-some c =
    subst (λ ds. AddsSome c.args.manager.now.search ds c.add_cuts-added.new.manager.search) c.deref.ensures.value c.in-Err.ensures.some

pub place_end-requires-clause-ready : goal.place_end-requires-clause-ready
place_end-requires-clause-ready c = ready-added c.args.working.now c.args.manager.now.search c.deref.result.now c.add_cuts-added.new.manager.search c.in-Ok.ensures.adds c.requires.ready

pub place_end-requires-clause-works : goal.place_end-requires-clause-works
place_end-requires-clause-works c =
    let S = c.args.manager.now.search in
    let T = c.add_cuts-added.new.manager.search in
    (S, (c.args.found, (c.requires.works, subst (λ ds. AddsCuts S ds T) c.deref.ensures.value c.in-Ok.ensures.adds)))

pub returns-in-Ok-clause-steps : goal.returns-in-Ok-clause-steps
returns-in-Ok-clause-steps c =
    let S = c.args.manager.now.search in
    let T = c.add_cuts-added.new.manager.search in
    let adds = subst (λ ds. AddsCuts S ds T) c.deref.ensures.value c.in-Ok.ensures.adds in
    step-since c.args.working.now c.args.job (λ found. worked_with c.args.end found) S c.args.found c.requires.works T adds c.place_end.new.manager.search c.place_end.result c.place_end.ensures.steps

pub returns-in-Ok-clause-some : goal.returns-in-Ok-clause-some
returns-in-Ok-clause-some c =
    let S = c.args.manager.now.search in
    let T = c.add_cuts-added.new.manager.search in
    some-since S c.args.found.items T c.place_end.new.manager.search (subst (λ ds. AddsCuts S ds T) c.deref.ensures.value c.in-Ok.ensures.adds) c.place_end.result (kept-search c.place_end.new.manager c.add_cuts-added.new.manager c.place_end.result c.place_end.ensures.kept)

pub place_end-requires-clause-within : goal.place_end-requires-clause-within
place_end-requires-clause-within c = subst (λ l. c.args.worker < length l) (sym c.add_cuts-added.ensures.held) c.requires.within

pub returns-in-Ok-clause-held : goal.returns-in-Ok-clause-held
returns-in-Ok-clause-held c =
    freed-since c.args.worker c.args.manager.now c.add_cuts-added.new.manager c.place_end.new.manager c.add_cuts-added.ensures.held c.place_end.result c.place_end.ensures.held
