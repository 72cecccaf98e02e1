use Rattle.std.proofs.Common.{◌∙◌, sym, ap, subst, arith, length, ◌≤◌, suc, [], ◌∷◌, ◌++◌}
use Rattle.std.proofs.lemmas.Bool.{false≢true}
use Rattle.cut_find.proofs.RowLemmas.{entry_at, entries_end}
use Rattle.cut_find.proofs.CandidateLemmas.{candidates_across, candidates_entry, candidates_other, candidates_wide}
use Rattle.cut_find.specs.Greedy.{AreCandidates}
use Rattle.cut_find.proofs.candidates.RowSide.candidates.Goals.{then-is_binary+in-Ok-gap+in-Ok-push, else-is_binary}
use Rattle.cut_find.proofs.candidates.RowSide.candidates.Goals as goal

pub returns-in-Err-gap : goal.returns-in-Err-gap
returns-in-Err-gap c =
    let self = c.args.self.now in
    let M = self.model.now in
    let l = c.loop-entry in
    let n = length M.cols in
    let e = c.entry-item.result in
    let next = (entry_at M self.row.0 l.invariant.0 n self.entries.now l.entry-index e c.loop-entry-test.true c.entry-item.is l.invariant.1.0).0 in
    candidates_wide M self.row.0 self.side self.numbers.now l.invariant.0 n e next (omega arith) (c.is_binary.ensures.0 c.if-is_binary.true) c.in-Err-gap.ensures

pub loop-entry-preserved : goal.loop-entry-preserved
loop-entry-preserved c =
    let self = c.args.self.now in
    let M = self.model.now in
    let x = self.numbers.now in
    let l = c.loop-entry in
    let n = length M.cols in
    let e = c.entry-item.result in
    let at = entry_at M self.row.0 l.invariant.0 n self.entries.now l.entry-index e c.loop-entry-test.true c.entry-item.is l.invariant.1.0 in
    let into = AreCandidates M self.row.0 self.side x (suc e.0) in
    elim c.if-is_binary.branch [
      | then-is_binary+in-Ok-gap+in-Ok-push w ↦
          let pushed = w.found-is ∙ w.in-Ok-push.ensures.pushed ∙ ap (λ q. l.found ++ (q, e.0) ∷ []) w.in-Ok-gap.ensures.1 in
          (suc e.0, (at.1, subst into (sym pushed) (candidates_entry M self.row.0 self.side x l.invariant.0 n e at.0 l.found l.invariant.1.1 (c.is_binary.ensures.0 w.if-is_binary.true) w.in-Ok-gap.ensures.0)))
      | else-is_binary w ↦
          (suc e.0, (at.1, subst into (sym w.found-is) (candidates_other M self.row.0 self.side x l.invariant.0 n e at.0 l.found l.invariant.1.1 (λ h. absurd (false≢true (sym w.if-is_binary.false ∙ c.is_binary.ensures.1 h))))))
    ]

pub returns : goal.returns
returns c =
    let self = c.args.self.now in
    let M = self.model.now in
    let l = c.loop-entry in
    let n = length M.cols in
    let past : length self.entries.now ≤ l.entry-index = let h = c.loop-entry-test.false in omega (arith, h) in
    let end = entries_end M self.row.0 l.invariant.0 n self.entries.now l.entry-index past l.invariant.1.0 in
    candidates_across M self.row.0 self.side self.numbers.now l.invariant.0 n l.found end.0 end.1 l.invariant.1.1
