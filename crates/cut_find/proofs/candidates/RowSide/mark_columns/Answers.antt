use Rattle.std.proofs.Common.{◌≡◌, ◌∙◌, refl, sym, ap, subst, arith, suc, length, ◌≤◌, [], false, to_z, of_z, w64}
use Rattle.frac128.specs.LowestTerms.{quotient_of}
use Rattle.cover_cuts.specs.Covers.{signed_by_side, side_coefficient}
use Rattle.whole_sums.specs.Wholes.{IsShort}
use Rattle.whole_sums.proofs.ReadLemmas.{short_read, denominator_again}
use Rattle.cut_find.specs.WholeSides.{AreMarksOf}
use Rattle.cut_find.proofs.RowLemmas.{entry_at, entries_end}
use Rattle.cut_find.proofs.MarkLemmas.{marks_across, marks_more}
use Rattle.cut_find.proofs.candidates.RowSide.mark_columns.Goals as goal

pub loop-entry-init : goal.loop-entry-init
loop-entry-init c = (0, (c.requires.entries, λ j below some. absurd (omega (arith, below))))

pub short_over-requires : goal.short_over-requires
short_over-requires c = denominator_again c.args.denominator c.requires.denominator

pub bounds-marks-entry : goal.bounds-marks-entry
bounds-marks-entry c =
    let self = c.args.self.now in
    let l = c.loop-entry in
    let next = (entry_at self.model.now self.row.0 l.invariant.0 (length self.model.now.cols) self.entries.now l.entry-index c.entry-item.result c.loop-entry-test.true c.entry-item.is l.invariant.1.0).0 in
    let within = next.within in
    let kept = l.auto.marks in
    let long = c.requires.marks in
    omega (arith, within, kept, long)

pub loop-entry-preserved : goal.loop-entry-preserved
loop-entry-preserved c =
    let self = c.args.self.now in
    let M = self.model.now in
    let l = c.loop-entry in
    let n = length M.cols in
    let d = to_z w64 (of_z w64 c.args.denominator) in
    let w = to_z w64 (of_z w64 c.in-Some.weight) in
    let w_short : IsShort c.in-Some.weight = c.in-Some.ensures.short in
    let w_is : w ≡ c.in-Some.weight = short_read c.in-Some.weight w_short in
    let e = c.entry-item.result in
    let at = entry_at M self.row.0 l.invariant.0 n self.entries.now l.entry-index e c.loop-entry-test.true c.entry-item.is l.invariant.1.0 in
    let long : n ≤ length l.marks = let a = l.auto.marks in let b = c.requires.marks in omega (arith, a, b) in
    let weight : side_coefficient M self.row.0 self.side e.0 ≡ quotient_of w d =
    ap (signed_by_side self.side) (sym at.0.number) ∙ sym c.signed.ensures ∙ c.in-Some.ensures.value ∙ ap (λ m. quotient_of m d) (sym w_is) in
    (suc e.0, (at.1, marks_more M self.row.0 self.side d l.invariant.0 l.marks l.invariant.1.1 n e at.0 (record { weight = w; taken = false }) _ long (subst IsShort (sym w_is) w_short) weight refl refl))

pub returns : goal.returns
returns c = λ _.
    let self = c.args.self.now in
    let M = self.model.now in
    let l = c.loop-entry in
    let n = length M.cols in
    let d_is : to_z w64 (of_z w64 c.args.denominator) ≡ c.args.denominator = short_read c.args.denominator c.requires.denominator.short in
    let past : length self.entries.now ≤ l.entry-index = let h = c.loop-entry-test.false in omega (arith, h) in
    let end = entries_end M self.row.0 l.invariant.0 n self.entries.now l.entry-index past l.invariant.1.0 in
    subst (λ d. AreMarksOf M self.row.0 self.side d [] l.marks) d_is (marks_across M self.row.0 self.side (to_z w64 (of_z w64 c.args.denominator)) l.invariant.0 l.marks l.invariant.1.1 n end.1)
