use Rattle.std.proofs.Common.{arith}
use Rattle.tree_cert.specs.Certificates.{nonzero_numbers}
use Rattle.tree_cert.proofs.NameLaws.{nonzero_next, nonzero_end}
use Rattle.tree_cert.proofs.names.nonzero_of.Goals as goal

pub loop-place-preserved : goal.loop-place-preserved
loop-place-preserved c =
    nonzero_next c.args.cols.now c.args.numbers.now c.loop-place.place c.index-cols-place.result c.index-numbers-place.result (nonzero_numbers c.args.cols.now c.args.numbers.now) c.loop-place.named c.add_nonzero.new.named
    c.loop-place-test.true c.requires c.index-cols-place.is c.index-numbers-place.is c.loop-place.invariant c.in-Ok.ensures

pub returns : goal.returns
returns c = nonzero_end c.args.cols.now c.args.numbers.now c.loop-place.place (nonzero_numbers c.args.cols.now c.args.numbers.now) c.loop-place.named (omega (arith, c.loop-place-test.false)) c.loop-place.invariant
