use Rattle.std.proofs.Common.{ap, arith}
use Rattle.sym_io.proofs.LimitedLemmas.{reads-within}
use Rattle.sym_io.proofs.limited.read_limited.Goals as goal

pub returns-clause-read : goal.returns-clause-read
returns-clause-read g c =
    reads-within c.args.limit (g.R.Read.remaining c.args.reader) _ c.take.result.limit (g.R.Read.remaining c.take.result.inner) _
    c.take.ensures.limit (ap g.R.Read.remaining c.take.ensures.inner) c.new-bytes.ensures.items c.in_ok-read_to_end.ensures.bytes (omega arith)
