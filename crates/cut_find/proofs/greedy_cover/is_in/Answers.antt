use Rattle.std.proofs.Common.{◌∙◌, ◌≤◌, sym, ap, arith, length}
use Rattle.std.proofs.lemmas.List.{drop_all}
use Rattle.cut_find.specs.Greedy.{is_in}
use Rattle.cut_find.proofs.CoverLemmas.{in_later, in_here}
use Rattle.cut_find.proofs.greedy_cover.is_in.Goals as goal

pub loop-column-preserved : goal.loop-column-preserved
loop-column-preserved c =
    let l = c.loop-column in
    l.invariant ∙ in_later c.args.columns.now l.column-index c.args.col c.loop-column-test.true c.if-column-col.false

pub returns-then-column-col : goal.returns-then-column-col
returns-then-column-col c =
    let l = c.loop-column in
    sym (l.invariant ∙ in_here c.args.columns.now l.column-index c.args.col c.loop-column-test.true c.if-column-col.true)

pub returns : goal.returns
returns c =
    let l = c.loop-column in
    let past : length c.args.columns.now ≤ l.column-index = let h = c.loop-column-test.false in omega (arith, h) in
    sym (l.invariant ∙ ap (λ t. is_in t c.args.col) (drop_all l.column-index c.args.columns.now past))
