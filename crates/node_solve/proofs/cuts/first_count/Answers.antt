use Rattle.std.proofs.Common.{◌≡◌, ◌<◌, IsTrue, length, take, sym, subst, arith}
use Rattle.std.proofs.lemmas.List.Elements.{All-push}
use Rattle.lp_model.specs.declared.types.CutRow.{CutRow}
use Rattle.kept_cuts.proofs.KeptLemmas.{take-next}
use Rattle.node_solve.specs.Laws.{AreAllLive}
use Rattle.node_solve.proofs.FirstCuts.{first-count}
use Rattle.node_solve.proofs.cuts.first_count.Goals as goal

pub loop-place-preserved : goal.loop-place-preserved
loop-place-preserved c =
    let rows = c.args.rows.now in
    let k = c.loop-place.place in
    let cut = c.index-rows-place.result in
    let less = c.loop-place-test.true in
    let few = c.allowed-count.ensures.within in
    let below : k < length rows = omega (arith, less, few) in
    subst AreAllLive (sym (take-next rows k cut below c.index-rows-place.is)) (All-push (λ (d : CutRow). IsTrue d.live) (take k rows) cut c.loop-place.invariant c.if-not-cut.false)

pub returns : goal.returns
returns c =
    let rows = c.args.rows.now in
    let n = c.allowed-count.result in
    let past = c.loop-place-test.false in
    let within = c.loop-place.auto.place-end in
    let all : c.loop-place.place ≡ n = omega (arith, past, within) in
    first-count rows n c.allowed-count.ensures.few c.allowed-count.ensures.within c.allowed-count.ensures.all (subst (λ k. AreAllLive (take k rows)) all c.loop-place.invariant)
