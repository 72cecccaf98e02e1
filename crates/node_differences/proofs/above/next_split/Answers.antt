use Rattle.node_differences.proofs.RebuildLemmas.{kept-of}
use Rattle.node_differences.proofs.above.next_split.Goals as goal

pub returns-clause-kept : goal.returns-clause-kept
returns-clause-kept c = λ place h. kept-of place c.args.due.now.items c.pop.new.self.items c.pop.result c.pop.ensures.items h
