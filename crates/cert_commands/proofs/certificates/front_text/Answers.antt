use Rattle.std.specs.Prelude.{ℕ, Vec}
use Rattle.std.specs.declared.alloc.Global.{Global}
use Rattle.cert_commands.proofs.CertificateLemmas.{front-text}
use Rattle.cert_commands.proofs.certificates.front_text.Goals as goal

pub returns : goal.returns
returns c =
    front-text (λ (v : Vec ℕ Global). v.items) c.args.model.now c.args.cert.now c.print_front.result c.front_verdict_law.ensures c.front_law.ensures c.front_names_law.ensures c.show_model.ensures.lawful c.requires c.print_front.ensures.text c.print_front.ensures.states
