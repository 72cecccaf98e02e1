use Rattle.std.proofs.Common.{◌∙◌, sym, arith}
use Rattle.warm_file.proofs.NameLemmas.{among-here, among-next, among-none}
use Rattle.warm_file.proofs.names.is_among.Goals as goal

pub returns-then-has_name : goal.returns-then-has_name
returns-then-has_name g c =
    sym (sym c.loop-item.invariant ∙ among-here g.T.HasName.name c.args.items.now c.args.text.now c.loop-item.item-index c.item-item.result c.loop-item-test.true c.item-item.is (sym c.has_name.ensures ∙ c.if-has_name.true))

pub loop-item-preserved : goal.loop-item-preserved
loop-item-preserved g c =
    among-next g.T.HasName.name c.args.items.now c.args.text.now c.loop-item.item-index c.item-item.result c.loop-item-test.true c.item-item.is (sym c.has_name.ensures ∙ c.if-has_name.false) ∙ c.loop-item.invariant

pub returns : goal.returns
returns g c = sym (sym c.loop-item.invariant ∙ among-none g.T.HasName.name c.args.items.now c.args.text.now c.loop-item.item-index (omega arith))
