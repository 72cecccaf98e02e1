use Rattle.std.proofs.Common.{◌≡◌, ◌∙◌, sym, subst, arith, suc, length, ◌≤◌, pos, ◌<ℤ◌, to_z, of_z, w64}
use Rattle.frac128.specs.LowestTerms.{quotient_of}
use Rattle.whole_sums.proofs.ReadLemmas.{short_read, short_again, denominator_again}
use Rattle.cut_find.specs.WholeSides.{mark_at}
use Rattle.cut_find.specs.private.WholeSides.{AreSumsTo}
use Rattle.cut_find.proofs.RowLemmas.{entry_at, entries_end, entry_some}
use Rattle.cut_find.proofs.SizeLemmas.{sums_begin, sums_across}
use Rattle.cut_find.proofs.candidates.RowSide.sums.Goals as goal

pub loop-entry-init : goal.loop-entry-init
loop-entry-init c =
    let self = c.args.self.now in
    let p = c.requires.denominator.positive in
    let d_is : to_z w64 (of_z w64 c.args.denominator) ≡ c.args.denominator = short_read c.args.denominator c.requires.denominator.short in
    (0, (c.requires.entries, sums_begin self.model.now self.row.0 self.side (to_z w64 (of_z w64 c.args.denominator)) (subst (λ d. pos 0 <ℤ d) (sym d_is) p)))

pub with_column-requires-clause-short : goal.with_column-requires-clause-short
with_column-requires-clause-short c =
    let self = c.args.self.now in
    let M = self.model.now in
    let l = c.loop-entry in
    let e = c.entry-item.result in
    let next = (entry_at M self.row.0 l.invariant.0 (length M.cols) self.entries.now l.entry-index e c.loop-entry-test.true c.entry-item.is l.invariant.1.0).0 in
    let m = c.requires.marks e.0 next.within (entry_some M self.row.0 l.invariant.0 (length M.cols) e next self.side) in
    short_again (mark_at c.args.marks.now e.0).weight m.short

pub with_column-requires-clause-weight : goal.with_column-requires-clause-weight
with_column-requires-clause-weight c =
    let self = c.args.self.now in
    let M = self.model.now in
    let l = c.loop-entry in
    let e = c.entry-item.result in
    let next = (entry_at M self.row.0 l.invariant.0 (length M.cols) self.entries.now l.entry-index e c.loop-entry-test.true c.entry-item.is l.invariant.1.0).0 in
    let m = c.requires.marks e.0 next.within (entry_some M self.row.0 l.invariant.0 (length M.cols) e next self.side) in
    let w = (mark_at c.args.marks.now e.0).weight in
    let w_is : to_z w64 (of_z w64 w) ≡ w = short_read w m.short in
    let d_is : to_z w64 (of_z w64 c.args.denominator) ≡ c.args.denominator = short_read c.args.denominator c.requires.denominator.short in
    m.weight ∙ (λ t. quotient_of (sym w_is t) (sym d_is t))

pub with_column-requires-clause-sums : goal.with_column-requires-clause-sums
with_column-requires-clause-sums c =
    let self = c.args.self.now in
    let M = self.model.now in
    let l = c.loop-entry in
    let e = c.entry-item.result in
    let next = (entry_at M self.row.0 l.invariant.0 (length M.cols) self.entries.now l.entry-index e c.loop-entry-test.true c.entry-item.is l.invariant.1.0).0 in
    sums_across M self.row.0 self.side (to_z w64 (of_z w64 c.args.denominator)) l.invariant.0 e.0 l.sums next.after next.none l.invariant.1.1

pub returns : goal.returns
returns c =
    let self = c.args.self.now in
    let M = self.model.now in
    let l = c.loop-entry in
    let n = length M.cols in
    let d_is : to_z w64 (of_z w64 c.args.denominator) ≡ c.args.denominator = short_read c.args.denominator c.requires.denominator.short in
    let past : length self.entries.now ≤ l.entry-index = let h = c.loop-entry-test.false in omega (arith, h) in
    let end = entries_end M self.row.0 l.invariant.0 n self.entries.now l.entry-index past l.invariant.1.0 in
    subst (λ d. AreSumsTo M self.row.0 self.side d n l.sums) d_is (sums_across M self.row.0 self.side (to_z w64 (of_z w64 c.args.denominator)) l.invariant.0 n l.sums end.0 end.1 l.invariant.1.1)

pub bounds-marks-entry : goal.bounds-marks-entry
bounds-marks-entry c =
    let self = c.args.self.now in
    let l = c.loop-entry in
    let next = (entry_at self.model.now self.row.0 l.invariant.0 (length self.model.now.cols) self.entries.now l.entry-index c.entry-item.result c.loop-entry-test.true c.entry-item.is l.invariant.1.0).0 in
    let within = next.within in
    let long = c.requires.long in
    omega (arith, within, long)

pub with_column-requires-clause-denominator : goal.with_column-requires-clause-denominator
with_column-requires-clause-denominator c = denominator_again c.args.denominator c.requires.denominator

pub with_column-requires-clause-within : goal.with_column-requires-clause-within
with_column-requires-clause-within c =
    let self = c.args.self.now in
    let l = c.loop-entry in
    (entry_at self.model.now self.row.0 l.invariant.0 (length self.model.now.cols) self.entries.now l.entry-index c.entry-item.result c.loop-entry-test.true c.entry-item.is l.invariant.1.0).0.within

pub loop-entry-preserved : goal.loop-entry-preserved
loop-entry-preserved c =
    let self = c.args.self.now in
    let l = c.loop-entry in
    let at = entry_at self.model.now self.row.0 l.invariant.0 (length self.model.now.cols) self.entries.now l.entry-index c.entry-item.result c.loop-entry-test.true c.entry-item.is l.invariant.1.0 in
    (suc c.entry-item.result.0, (at.1, c.in-Some.ensures))
