use Rattle.std.specs.Prelude.{ℕ, Vec}
use Rattle.std.specs.declared.alloc.Global.{Global}
use Rattle.cert_commands.proofs.CertificateLemmas.{emptiness-text}
use Rattle.cert_commands.proofs.certificates.emptiness_text.Goals as goal

pub returns : goal.returns
returns c =
    emptiness-text (λ (v : Vec ℕ Global). v.items) c.args.model.now c.args.cert.now c.print_cert.result c.verdict_law.ensures c.accepted_law.ensures c.accepted_names_law.ensures c.requires c.print_cert.ensures.text c.print_cert.ensures.states
