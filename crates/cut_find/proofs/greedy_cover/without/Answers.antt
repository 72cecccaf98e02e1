use Rattle.std.proofs.Common.{◌∙◌, ◌≤◌, ◌++◌, ◌∷◌, [], sym, ap, arith, length, get_or}
use Rattle.std.proofs.lemmas.List.{take_all}
use Rattle.cut_find.specs.Greedy.{places_without}
use Rattle.cut_find.proofs.CoverLemmas.{without_kept, without_lost}
use Rattle.cut_find.proofs.greedy_cover.without.Goals.{then-column-col+in-Ok, else-column-col}
use Rattle.cut_find.proofs.greedy_cover.without.Goals as goal

pub loop-column-init : goal.loop-column-init
loop-column-init c = c.new-rest.ensures

pub loop-column-preserved : goal.loop-column-preserved
loop-column-preserved c =
    let l = c.loop-column in
    let js = c.args.columns.now in
    elim c.if-column-col.branch [
      | then-column-col+in-Ok w ↦
          w.rest-is ∙ w.in-Ok.ensures.pushed ∙ ap (λ ks. ks ++ get_or js l.column-index 0 ∷ []) l.invariant ∙ sym (without_kept c.args.col js l.column-index c.loop-column-test.true w.if-column-col.true)
      | else-column-col w ↦ w.rest-is ∙ l.invariant ∙ sym (without_lost c.args.col js l.column-index c.loop-column-test.true w.if-column-col.false)
    ]

pub returns : goal.returns
returns c =
    let l = c.loop-column in
    let past : length c.args.columns.now ≤ l.column-index = let h = c.loop-column-test.false in omega (arith, h) in
    l.invariant ∙ ap (places_without c.args.col) (take_all l.column-index c.args.columns.now past)
