use Rattle.program_words.proofs.BenchLemmas as bench
use Rattle.program_words.proofs.laws.bench_law.Goals as goal

pub returns : goal.returns
returns c = bench.bench_law
