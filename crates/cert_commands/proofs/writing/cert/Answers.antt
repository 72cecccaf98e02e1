use Rattle.std.proofs.Common.{◌++◌, ap, inl, inr, refl, ◌∙◌}
use Rattle.reply_texts.specs.Texts.{memory_text}
use Rattle.command_family.specs.EnvFaults.{env_fault_text}
use Rattle.command_family.proofs.ReplyLemmas.{on_ok, on_ok_if, on_err, always}
use Rattle.cert_commands.proofs.CertLemmas.{cert-written, cert-refused}
use Rattle.cert_commands.proofs.writing.cert.Goals as goal

pub returns-clause-answered : goal.returns-clause-answered
returns-clause-answered g c =
    let files = g.S.Store.files c.args.store.now in
    let faults = g.S.Store.faults c.args.store.now in
    let after = g.S.Store.files c.write_file-told.new.store in
    let later = g.S.Store.faults c.write_file-told.new.store in
    let reply = c.write_file-told.new.reply.items in
    on_ok c.write_file-told.result
    (cert-written c.args.env.now c.requires.script files after faults later c.args.name.now reply c.held_certificate.result c.in-Ok.text c.deref.result.now c.in-Ok.is c.held_certificate.ensures c.deref.ensures.value c.write_file-told.ensures.later)
    c.write_file-told.ensures.answered

pub returns-clause-unfinished : goal.returns-clause-unfinished
returns-clause-unfinished g c =
    let files = g.S.Store.files c.args.store.now in
    let faults = g.S.Store.faults c.args.store.now in
    let after = g.S.Store.files c.write_file-told.new.store in
    let later = g.S.Store.faults c.write_file-told.new.store in
    on_err c.write_file-told.result
    (cert-written c.args.env.now c.requires.script files after faults later c.args.name.now memory_text c.held_certificate.result c.in-Ok.text c.deref.result.now c.in-Ok.is c.held_certificate.ensures c.deref.ensures.value c.write_file-told.ensures.later)
    c.write_file-told.ensures.unfinished

pub returns-in-Err-clause-answered : goal.returns-in-Err-clause-answered
returns-in-Err-clause-answered g c =
    let files = g.S.Store.files c.args.store.now in
    let faults = g.S.Store.faults c.args.store.now in
    let reply = c.write_env_fault.new.reply.items in
    on_ok_if c.write_env_fault.result
    (λ e. cert-refused c.args.env.now files faults c.args.name.now reply c.held_certificate.result c.in-Err.fault c.in-Err.is c.held_certificate.ensures (inl (e ∙ ap (λ t. t ++ env_fault_text c.in-Err.fault) c.requires.empty)))
    c.write_env_fault.ensures

pub returns-in-Err-clause-unfinished : goal.returns-in-Err-clause-unfinished
returns-in-Err-clause-unfinished g c =
    let files = g.S.Store.files c.args.store.now in
    let faults = g.S.Store.faults c.args.store.now in
    always c.write_env_fault.result (cert-refused c.args.env.now files faults c.args.name.now memory_text c.held_certificate.result c.in-Err.fault c.in-Err.is c.held_certificate.ensures (inr refl))
