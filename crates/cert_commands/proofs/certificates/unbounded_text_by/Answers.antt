use Rattle.std.specs.Prelude.{ℕ, Vec}
use Rattle.std.specs.declared.alloc.Global.{Global}
use Rattle.cert_commands.proofs.CertificateLemmas.{unbounded-text}
use Rattle.cert_commands.proofs.certificates.unbounded_text_by.Goals as goal

pub returns : goal.returns
returns c =
    unbounded-text (λ (v : Vec ℕ Global). v.items) c.args.model.now c.args.point.now c.args.ray.now c.in-Ok.cert c.print_cert-text.result c.unbounded_names_law.ensures c.verdict_law.ensures c.accepted_law.ensures
    c.in-Ok.ensures.exact c.in-Ok.ensures.certificate c.in-Ok.ensures.accepted c.print_cert-text.ensures.text c.print_cert-text.ensures.states
