use Rattle.std.specs.Prelude.{IfOk, OnErr}
use Rattle.std.proofs.Common.{subst}
use Rattle.sound_searches.specs.Sound.{PlainSearch}
use Rattle.tree_search.specs.Causes.{IsAtEnd}
use Rattle.tree_search.specs.Causes as search
use Rattle.tree_search.specs.Solves.{turn_order_of}
use Rattle.tree_search.specs.Search.{Ends, Finds, GivesUp}
use Rattle.sym_env.proofs.SolveLemmas.{gave-up, searched-so, searched-whole}
use Rattle.sym_env.proofs.TruthLemmas.{unbounded-ended}
use Rattle.sym_env.proofs.solving.search_through.Goals as goal

pub returns-in-Err-clause-went : goal.returns-in-Err-clause-went
returns-in-Err-clause-went c =
    let S = c.args.manager.search in
    let l = c.args.limits.now in
    let T : PlainSearch = c.search_on-search.result.0 in
    let gives = subst (λ r. OnErr r (GivesUp c.args.ways.now c.args.first.now (turn_order_of l) l.nodes l.pivots S T)) c.in-Err.is c.search_on-search.ensures.unfinished in
    gave-up l S c.requires.sound c.args.ways.now c.args.first.now c.requires.begins T gives

pub returns-in-Err-clause-beside : goal.returns-in-Err-clause-beside
returns-in-Err-clause-beside c = λ u. absurd u

pub returns-in-Ok-clause-went : goal.returns-in-Ok-clause-went
returns-in-Ok-clause-went c =
    let S = c.args.manager.search in
    let l = c.args.limits.now in
    let T : PlainSearch = c.search_on-search.result.0 in
    let finds = subst (λ r. IfOk r (λ searched. Finds c.args.ways.now c.args.first.now (turn_order_of l) l.nodes l.pivots S T searched)) c.in-Ok.is c.search_on-search.ensures.found in
    searched-so l S c.requires.sound c.args.ways.now c.args.first.now c.requires.begins c.requires.some T c.in-Ok.searched c.answer_of-answer.result finds c.answer_of-answer.ensures

pub returns-in-Ok-clause-complete : goal.returns-in-Ok-clause-complete
returns-in-Ok-clause-complete c =
    let S = c.args.manager.search in
    let l = c.args.limits.now in
    let T : PlainSearch = c.search_on-search.result.0 in
    let whole = subst (λ r. IfOk r (λ searched. search.IsEnoughForSearch S T.cuts c.args.ways.now l.nodes l.pivots → IsAtEnd searched.ended)) c.in-Ok.is c.search_on-search.ensures.complete in
    searched-whole c.no_ray_law.ensures l S c.args.ways.now c.args.first.now c.requires.begins T c.in-Ok.searched c.answer_of-answer.result whole c.answer_of-answer.ensures

pub returns-in-Ok-clause-beside : goal.returns-in-Ok-clause-beside
returns-in-Ok-clause-beside c = λ u.
    let S = c.args.manager.search in
    let l = c.args.limits.now in
    let T : PlainSearch = c.search_on-search.result.0 in
    let finds = subst (λ r. IfOk r (λ searched. Finds c.args.ways.now c.args.first.now (turn_order_of l) l.nodes l.pivots S T searched)) c.in-Ok.is c.search_on-search.ensures.found in
    let e = unbounded-ended T c.in-Ok.searched.ended c.in-Ok.searched.results c.answer_of-answer.result c.answer_of-answer.ensures u in
    let found = subst (Ends c.args.ways.now c.args.first.now (turn_order_of l) l.nodes l.pivots c.in-Ok.searched.results S T) e finds.ends in
    found.after.here.rays
