use Rattle.std.proofs.Common.{pos}
use Rattle.frac128.specs.Rational.{int}
use Rattle.row_tableau.specs.Relaxations.{relaxation_of}
use Rattle.row_tableau.proofs.SideListLemmas.{size_more, values_more}
use Rattle.row_tableau.proofs.sides_of.costs.Goals as goal

pub loop-variable-preserved : goal.loop-variable-preserved
loop-variable-preserved c =
    let inv = c.loop-variable.invariant in
    let v = c.loop-variable.variable in
    let f = (relaxation_of c.args.relax.now).cost in
    let xs = c.loop-variable.list.items in
    let y = c.cost_of.result in
    let pushed = c.in-Ok-push.ensures.items in
    record {
      size = size_more f (int (pos 0)) v xs _ y pushed inv.size;
      items = values_more f (int (pos 0)) v xs _ y pushed inv.size inv.items c.cost_of.ensures;
      variables = inv.variables;
    }
