use Rattle.cut_find.proofs.SizeLemmas.{larger_fits, larger_read}
use Rattle.cut_find.proofs.whole_cover.with_size.Goals as goal

pub overflow_add-next : goal.overflow_add-next
overflow_add-next c = larger_fits c.args.total c.args.weight c.size.result c.requires.total c.requires.weight c.size.ensures

pub returns-then-next-le-MARGIN-clause-value : goal.returns-then-next-le-MARGIN-clause-value
returns-then-next-le-MARGIN-clause-value c = larger_read c.args.total c.args.weight c.size.result c.requires.total c.requires.weight c.size.ensures
