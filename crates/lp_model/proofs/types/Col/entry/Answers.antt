use Rattle.std.proofs.Common.{◌<◌, ℕ, arith, ap, subst, sym, ◌∙◌, length}
use Rattle.lp_model.specs.Program.{entry_of}
use Rattle.lp_model.specs.Lawful.{AreEntries}
use Rattle.lp_model.proofs.EntryLemmas.{entry_of-passed, entry_of-skipped, entry_of-here}
use Rattle.lp_model.proofs.types.Col.entry.Goals as goal

pub returns-else-place-row-2 : goal.returns-else-place-row-2
returns-else-place-row-2 c =
    let l = c.loop-place in
    let items = c.as_slice-place-items.result.now in
    let rising = l.invariant.rising in
    let within : l.place-index < length items = omega arith in
    let later : c.args.row < c.loop-place-item.result.0.0 = let le = c.if-place-row.true in let apart = c.if-place-row-2.false in omega arith in
    c.whole.ensures ∙ sym (l.invariant.rest ∙ entry_of-passed rising.0 rising.1 items l.place-index c.args.row c.loop-place-item.result rising.2 within c.loop-place-item.is later)

pub returns-then-place-row-2 : goal.returns-then-place-row-2
returns-then-place-row-2 c =
    let l = c.loop-place in
    let items = c.as_slice-place-items.result.now in
    let within : l.place-index < length items = omega arith in
    sym (l.invariant.rest ∙ entry_of-here items l.place-index c.args.row c.loop-place-item.result within c.loop-place-item.is c.if-place-row-2.true)

pub loop-place-init : goal.loop-place-init
loop-place-init c = record {
  rest = ap (entry_of c.args.row) (sym c.as_slice-place-items.ensures);
  rising = subst (λ es. (from to : ℕ) × AreEntries from to es) (sym c.as_slice-place-items.ensures) (0, c.requires.0, c.requires.1);
}

pub loop-place-preserved : goal.loop-place-preserved
loop-place-preserved c =
    let l = c.loop-place in
    let items = c.as_slice-place-items.result.now in
    let rising = l.invariant.rising in
    let within : l.place-index < length items = omega arith in
    let earlier : c.loop-place-item.result.0.0 < c.args.row = let less = c.if-place-row.false in omega arith in
    let step = entry_of-skipped rising.0 rising.1 items l.place-index c.args.row c.loop-place-item.result rising.2 within c.loop-place-item.is earlier in
    record { rest = l.invariant.rest ∙ step.0; rising = (_, rising.1, step.1) }
