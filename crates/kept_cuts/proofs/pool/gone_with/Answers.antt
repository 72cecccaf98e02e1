use Rattle.std.proofs.Common.{◌≡◌, ◌∙◌, ◌++◌, length, take, sym, ap, arith}
use Rattle.std.proofs.lemmas.List.{take_all}
use Rattle.lp_model.specs.declared.types.CutRow.{CutRow}
use Rattle.kept_cuts.specs.Kept.{goes_with, gone_with}
use Rattle.kept_cuts.specs.private.Kept.{one_if}
use Rattle.kept_cuts.proofs.KeptLemmas.{gone-more}
use Rattle.kept_cuts.proofs.pool.gone_with.Goals as goal

pub note-requires : goal.note-requires
note-requires c =
    let same = ap length c.rows-cuts.ensures.rows in
    omega (arith, same, c.loop-place-test.true, c.rows-cuts.ensures.few)

pub loop-place-preserved : goal.loop-place-preserved
loop-place-preserved c =
    let i = c.loop-place.place in
    let cut = c.index-cuts-place.result in
    let more = gone-more c.args.model.now c.args.edit.now c.rows-cuts.result.now i cut c.loop-place-test.true c.index-cuts-place.is in
    c.in_ok-note.ensures
    ∙ ap (λ b. c.loop-place.gone.items ++ one_if b i) (c.goes_with-goes.ensures ∙ ap (λ (d : CutRow). goes_with c.args.model.now c.args.edit.now d.from) (sym c.index-cuts-place.is))
    ∙ ap (λ l. l ++ one_if (goes_with c.args.model.now c.args.edit.now cut.from) i) c.loop-place.invariant
    ∙ sym more

pub returns : goal.returns
returns c =
    let cuts = c.rows-cuts.result.now in
    let all : take c.loop-place.place cuts ≡ cuts = take_all c.loop-place.place cuts (omega (arith, c.loop-place-test.false)) in
    c.loop-place.invariant ∙ ap (gone_with c.args.model.now c.args.edit.now) (all ∙ c.rows-cuts.ensures.rows)
