use Rattle.std.specs.Prelude.{ℕ, Vec}
use Rattle.std.specs.declared.alloc.Global.{Global}
use Rattle.cert_commands.proofs.CertificateLemmas.{within-text}
use Rattle.cert_commands.proofs.certificates.within_text.Goals as goal

pub returns : goal.returns
returns c =
    within-text (λ (v : Vec ℕ Global). v.items) c.args.search.now c.args.gap.now c.in-Ok.cert c.print_cert-text.result c.within_names_law.ensures c.verdict_law.ensures c.accepted_law.ensures c.points-sound.ensures.sound
    c.in-Ok.ensures.exact c.in-Ok.ensures.certificate c.in-Ok.ensures.accepted c.print_cert-text.ensures.text c.print_cert-text.ensures.states
