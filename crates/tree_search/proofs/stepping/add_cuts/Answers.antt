use Rattle.std.specs.Prelude.{List, take}
use Rattle.std.proofs.Common.{sym, subst, ap, ◌∙◌, arith}
use Rattle.tree_manager.specs.Managers.{PlainManager}
use Rattle.std.proofs.lemmas.List.{length-take-le, take_all}
use Rattle.lp_model.specs.declared.types.Derivation.{Derivation}
use Rattle.kept_cuts.proofs.KeptLemmas.{take-next}
use Rattle.sound_searches.specs.Pool.{AddsCut, AddsCuts}
use Rattle.tree_search.proofs.KeepLemmas.{adds-next, added-count}
use Rattle.tree_search.proofs.stepping.add_cuts.Goals as goal

pub add_cut-requires : goal.add_cut-requires
add_cut-requires c =
    let i = c.loop-from.from-index in
    let count = added-count c.args.manager.now.search (take i c.args.found.now) c.loop-from.manager.search c.loop-from.invariant.0 in
    let long = length-take-le i c.args.found.now (omega (arith, c.loop-from-test.true)) in
    omega (arith, count, long, c.loop-from-test.true, c.requires)

pub loop-from-preserved : goal.loop-from-preserved
loop-from-preserved c =
    let i = c.loop-from.from-index in
    let from = c.from-item.result in
    let adds : AddsCut c.loop-from.manager.search from c.add_cut.new.manager.search = subst (λ d. AddsCut c.loop-from.manager.search d c.add_cut.new.manager.search) c.in-Ok.ensures c.in-Ok-add_cut.ensures.adds in (
      subst (λ (l : List Derivation). AddsCuts c.args.manager.now.search l c.add_cut.new.manager.search) (sym (take-next c.args.found.now i from c.loop-from-test.true c.from-item.is))
          (adds-next (take i c.args.found.now) from c.args.manager.now.search c.loop-from.manager.search c.add_cut.new.manager.search c.loop-from.invariant.0 adds),
      c.add_cut.ensures.held ∙ c.loop-from.invariant.1,
    )

pub returns-in-Err-clause-some : goal.returns-in-Err-clause-some
returns-in-Err-clause-some c = (c.loop-from.from-index, c.loop-from.invariant.0)

pub returns-in-Err-add_cut-clause-some : goal.returns-in-Err-add_cut-clause-some
returns-in-Err-add_cut-clause-some c =
    let i = c.loop-from.from-index in
    (i, subst (AddsCuts c.args.manager.now.search (take i c.args.found.now)) (sym (ap (λ (P : PlainManager). P.search) c.in-Err-add_cut.ensures.kept)) c.loop-from.invariant.0)

pub returns-clause-adds : goal.returns-clause-adds
returns-clause-adds c =
    subst (λ (l : List Derivation). AddsCuts c.args.manager.now.search l c.loop-from.manager.search) (take_all c.loop-from.from-index c.args.found.now (omega (arith, c.loop-from-test.false))) c.loop-from.invariant.0

pub returns-in-Err-clause-held : goal.returns-in-Err-clause-held
returns-in-Err-clause-held c = c.loop-from.invariant.1

pub returns-in-Err-add_cut-clause-held : goal.returns-in-Err-add_cut-clause-held
returns-in-Err-add_cut-clause-held c = c.add_cut.ensures.held ∙ c.loop-from.invariant.1

pub returns-clause-held : goal.returns-clause-held
returns-clause-held c = c.loop-from.invariant.1
