use Rattle.std.specs.Prelude.{filter}
use Rattle.std.specs.List.{range_with_len}
use Rattle.std.proofs.Common.{◌≡◌, ◌+◌, ◌∙◌, sym, ap, arith, length}
use Rattle.row_tableau.specs.Activities.{activity_count}
use Rattle.row_tableau.specs.Relaxations.{form_of}
use Rattle.row_tableau.specs.Tilts.{is_sided}
use Rattle.row_tableau.proofs.OrderLemmas.{filter_kept, filter_left}
use Rattle.row_tableau.proofs.tilts.sided.Goals as goal
use Rattle.row_tableau.proofs.tilts.sided.Goals.{then-is_sided+in-Ok-push, else-is_sided}

pub loop-variable-preserved : goal.loop-variable-preserved
loop-variable-preserved c =
    let F = form_of c.args.relax.now in
    let v = c.loop-variable.variable in
    let inv = c.loop-variable.invariant in
    record {
      items = elim c.if-is_sided.branch [
        | then-is_sided+in-Ok-push w ↦ ap (λ l. l.items) w.list-is ∙ w.in-Ok-push.ensures.items ∙ filter_kept (is_sided F) v c.loop-variable.list.items inv.items (sym c.is_sided.ensures ∙ w.if-is_sided.true)
        | else-is_sided w ↦ ap (λ l. l.items) w.list-is ∙ filter_left (is_sided F) v c.loop-variable.list.items inv.items (sym c.is_sided.ensures ∙ w.if-is_sided.false)
      ];
      variables = inv.variables;
    }

pub is_sided-requires : goal.is_sided-requires
is_sided-requires c = let less = c.loop-variable-test.true in let e = c.loop-variable.invariant.variables in omega (arith, less, e)

pub returns : goal.returns
returns c =
    let F = form_of c.args.relax.now in
    let inv = c.loop-variable.invariant in
    let past = c.loop-variable-test.false in
    let most = c.loop-variable.auto.variable-end in
    let all : c.loop-variable.variable ≡ length F.model.cols + activity_count F = let e = inv.variables in omega (arith, past, most, e) in
    inv.items ∙ ap (λ n. filter (is_sided F) (range_with_len 0 n)) all
