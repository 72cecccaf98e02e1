use Rattle.mps_writer.specs.Canonical.{canonical_text}
use Rattle.mps_writer.proofs.Means.{means, read_as_meant}
use Rattle.mps_writer.proofs.writing.read_back_law.Goals as goal

pub returns : goal.returns
returns c = λ M lawful fits writable answer read. read_as_meant M (canonical_text M) answer (means M lawful fits writable) read
