use Rattle.std.proofs.Common.{◌≡◌, ◌∙◌, sym, subst, ap, arith, length, List, take}
use Rattle.std.proofs.lemmas.List.{length-take-le, take_all}
use Rattle.lp_model.specs.declared.types.CutRow.{CutRow}
use Rattle.cover_cuts.specs.Cuts.{IsCutOf, IsPoolOf}
use Rattle.kept_cuts.specs.Kept.{IsPoolAfter}
use Rattle.kept_cuts.proofs.KeptLemmas.{take-next, few-stay, pool-none, pool-more}
use Rattle.kept_cuts.proofs.pool.pool_after.Goals as goal

pub loop-cut-init : goal.loop-cut-init
loop-cut-init c = pool-none c.args.old.now c.args.edit.now c.args.new.now c.new-after.result c.new-after.ensures

pub keep_cut-requires-clause-room : goal.keep_cut-requires-clause-room
keep_cut-requires-clause-room c =
    let cuts = c.rows-cuts.result.now in
    let i = c.loop-cut.cut-index in
    let few = few-stay c.args.old.now c.args.edit.now c.args.new.now (take i cuts) c.loop-cut.after c.loop-cut.invariant in
    let long = length-take-le i cuts (omega (arith, c.loop-cut-test.true)) in
    omega (arith, few, long, c.loop-cut-test.true, c.rows-cuts.ensures.few, ap length c.rows-cuts.ensures.rows)

pub loop-cut-preserved : goal.loop-cut-preserved
loop-cut-preserved c =
    let cuts = c.rows-cuts.result.now in
    let i = c.loop-cut.cut-index in
    let cut = c.cut-item.result in
    subst (λ (l : List CutRow). IsPoolAfter c.args.old.now c.args.edit.now l c.args.new.now c.keep_cut.new.after) (sym (take-next cuts i cut c.loop-cut-test.true c.cut-item.is))
    (pool-more c.args.old.now c.args.edit.now c.args.new.now (take i cuts) c.loop-cut.after c.keep_cut.new.after cut c.loop-cut.invariant c.in_ok-keep_cut.ensures)

pub keep_cut-requires-clause-cut : goal.keep_cut-requires-clause-cut
keep_cut-requires-clause-cut c =
    let old = c.args.old.now in
    let pool : IsPoolOf old c.rows-cuts.result.now = subst (IsPoolOf old) (sym c.rows-cuts.ensures.rows) c.requires.pool in
    subst (IsCutOf old) (sym c.cut-item.is) (pool c.loop-cut.cut-index c.cut-item.result c.loop-cut-test.true)

pub returns : goal.returns
returns c =
    let cuts = c.rows-cuts.result.now in
    let i = c.loop-cut.cut-index in
    let all : take i cuts ≡ cuts = take_all i cuts (omega (arith, c.loop-cut-test.false)) in
    subst (λ (l : List CutRow). IsPoolAfter c.args.old.now c.args.edit.now l c.args.new.now c.loop-cut.after) (all ∙ c.rows-cuts.ensures.rows) c.loop-cut.invariant
