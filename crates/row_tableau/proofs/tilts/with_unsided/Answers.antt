use Rattle.std.specs.Prelude.{not, filter, ◌++◌}
use Rattle.std.specs.List.{range_with_len}
use Rattle.std.proofs.Common.{◌≡◌, ◌∙◌, sym, ap, arith, length}
use Rattle.row_tableau.specs.Relaxations.{form_of}
use Rattle.row_tableau.specs.Tilts.{is_sided}
use Rattle.row_tableau.proofs.OrderLemmas.{filter_kept_behind, filter_left_behind}
use Rattle.row_tableau.proofs.tilts.with_unsided.Goals as goal
use Rattle.row_tableau.proofs.tilts.with_unsided.Goals.{then-not-is_sided+in-Ok, else-not-is_sided}

pub loop-column-preserved : goal.loop-column-preserved
loop-column-preserved c =
    let F = form_of c.args.relax.now in
    let v = c.loop-column.column in
    elim c.if-not-is_sided.branch [
      | then-not-is_sided+in-Ok w ↦
          ap (λ l. l.items) w.list-is ∙ w.in-Ok.ensures.items
          ∙ filter_kept_behind (λ u. not (is_sided F u)) v c.args.list.items c.loop-column.list.items c.loop-column.invariant (ap not (sym c.is_sided.ensures ∙ w.if-not-is_sided.true))
      | else-not-is_sided w ↦
          ap (λ l. l.items) w.list-is
          ∙ filter_left_behind (λ u. not (is_sided F u)) v c.args.list.items c.loop-column.list.items c.loop-column.invariant (ap not (sym c.is_sided.ensures ∙ w.if-not-is_sided.false))
    ]

pub is_sided-requires : goal.is_sided-requires
is_sided-requires c =
    let columns_are : length c.cols-column-end.result.now ≡ length c.args.relax.now.model.now.cols = ap length c.cols-column-end.ensures.items in
    let less = c.loop-column-test.true in
    omega (arith, less, columns_are)

pub returns : goal.returns
returns c =
    let F = form_of c.args.relax.now in
    let columns_are : length c.cols-column-end.result.now ≡ length F.model.cols = ap length c.cols-column-end.ensures.items in
    let past = c.loop-column-test.false in
    let most = c.loop-column.auto.column-end in
    let all : c.loop-column.column ≡ length F.model.cols = omega (arith, past, most, columns_are) in
    c.loop-column.invariant ∙ ap (λ n. c.args.list.items ++ filter (λ v. not (is_sided F v)) (range_with_len 0 n)) all
