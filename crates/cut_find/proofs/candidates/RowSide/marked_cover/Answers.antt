use Rattle.std.proofs.Common.{◌≡◌, ◌∙◌, sym, arith, ℕ, ℤ, List, [], ◌∷◌, ◌++◌, suc, length, ◌≤◌}
use Rattle.cut_find.specs.Greedy.{literals_below}
use Rattle.cut_find.specs.WholeSides.{AreMarksOf, AreCandidateColumns}
use Rattle.cut_find.proofs.RowLemmas.{entry_at, entries_end, entry_some}
use Rattle.cut_find.proofs.CoverLemmas.{below_in, below_out, below_across}
use Rattle.cut_find.proofs.candidates.RowSide.marked_cover.Goals as goal
use Rattle.cut_find.proofs.candidates.RowSide.marked_cover.Goals.{then-marks-entry+in-Ok, else-marks-entry}

pub loop-entry-preserved : goal.loop-entry-preserved
loop-entry-preserved c =
    let self = c.args.self.now in
    let M = self.model.now in
    let i = self.row.0 in
    let s = self.side in
    let l = c.loop-entry in
    let n = length M.cols in
    let e = c.entry-item.result in
    let marks = c.args.marks.now in
    let at = entry_at M i l.invariant.0 n self.entries.now l.entry-index e c.loop-entry-test.true c.entry-item.is l.invariant.1.0 in
    let some = entry_some M i l.invariant.0 n e at.0 s in
    let before : (d : ℤ) (js : List ℕ) → AreMarksOf M i s d js marks → AreCandidateColumns M i s js → l.literals ≡ literals_below M i s e.0 js =
    λ d js marked cand. l.invariant.1.1 d js marked cand ∙ below_across M i s js l.invariant.0 e.0 at.0.after at.0.none cand in
    elim c.if-marks-entry.branch [
      | then-marks-entry+in-Ok w ↦ (
        suc e.0,
        (
          at.1,
          λ d js marked cand.
              w.literals-is ∙ w.in-Ok.ensures.pushed ∙ (λ t. before d js marked cand t ++ w.entry_literal.ensures t ∷ [])
              ∙ below_in M i s js e.0 (sym (marked e.0 at.0.within some).taken ∙ w.if-marks-entry.true),
        ),
      )
      | else-marks-entry w ↦
          (suc e.0, (at.1, λ d js marked cand. w.literals-is ∙ before d js marked cand ∙ below_out M i s js e.0 (sym (marked e.0 at.0.within some).taken ∙ w.if-marks-entry.false)))
    ]

pub returns : goal.returns
returns c = λ d js marks cand.
    let self = c.args.self.now in
    let M = self.model.now in
    let l = c.loop-entry in
    let n = length M.cols in
    let past : length self.entries.now ≤ l.entry-index = let h = c.loop-entry-test.false in omega (arith, h) in
    let end = entries_end M self.row.0 l.invariant.0 n self.entries.now l.entry-index past l.invariant.1.0 in
    let same = l.invariant.1.1 d js marks cand ∙ below_across M self.row.0 self.side js l.invariant.0 n end.0 end.1 cand in
    λ t. record { row = self.row; side = self.side; literals = same t }

pub bounds-marks-entry : goal.bounds-marks-entry
bounds-marks-entry c =
    let self = c.args.self.now in
    let l = c.loop-entry in
    let next = (entry_at self.model.now self.row.0 l.invariant.0 (length self.model.now.cols) self.entries.now l.entry-index c.entry-item.result c.loop-entry-test.true c.entry-item.is l.invariant.1.0).0 in
    let within = next.within in
    let long = c.requires.long in
    omega (arith, within, long)

pub loop-entry-init : goal.loop-entry-init
loop-entry-init c = (0, (c.requires.entries, λ d js marked cand. c.new-literals.ensures))

pub entry_literal-requires-clause-within : goal.entry_literal-requires-clause-within
entry_literal-requires-clause-within c =
    let self = c.args.self.now in
    let l = c.loop-entry in
    (entry_at self.model.now self.row.0 l.invariant.0 (length self.model.now.cols) self.entries.now l.entry-index c.entry-item.result c.loop-entry-test.true c.entry-item.is l.invariant.1.0).0.within

pub entry_literal-requires-clause-number : goal.entry_literal-requires-clause-number
entry_literal-requires-clause-number c =
    let self = c.args.self.now in
    let l = c.loop-entry in
    (entry_at self.model.now self.row.0 l.invariant.0 (length self.model.now.cols) self.entries.now l.entry-index c.entry-item.result c.loop-entry-test.true c.entry-item.is l.invariant.1.0).0.number
