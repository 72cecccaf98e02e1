use Rattle.std.specs.Prelude.{[], false, List}
use Rattle.cert_text.specs.Text.{StatedCertificate, stated}
use Rattle.cert_text.specs.declared.cert.NamedCut.{NamedCut}
use Rattle.cert_text.specs.declared.cert.CertNode.{CertNode}
use Rattle.cert_text.proofs.reading.Reading.new.Goals as goal

first : List NamedCut → List CertNode → StatedCertificate
first cuts nodes = record { count = 0; claims = []; points = []; rays = []; cuts = cuts; nodes = nodes; ended = false }

pub returns-clause-stated : goal.returns-clause-stated
unfolding stated first
returns-clause-stated c = (λ i. first (c.new-cuts.ensures i) (c.new-nodes.ensures i))
