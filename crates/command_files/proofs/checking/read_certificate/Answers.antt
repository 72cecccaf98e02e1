use Rattle.std.specs.Prelude.{Err}
use Rattle.std.proofs.Common.{subst, sym}
use Rattle.command_files.specs.Checking.{StatesCert, ReadsCert}
use Rattle.command_files.proofs.ReadLemmas.{cert-missing, text-read, stated-kind, cert-faulty}
use Rattle.command_files.proofs.checking.read_certificate.Goals as goal

pub returns-in-Err-clause-answer : goal.returns-in-Err-clause-answer
returns-in-Err-clause-answer g c =
    let files = g.S.Store.files c.args.store.now in
    let before = g.S.Store.faults c.args.store.now in
    let after = g.S.Store.faults c.get.new.self in
    let name = c.args.name.now in
    subst (λ r. ReadsCert files name before after (Err r)) (sym c.from.ensures) (cert-missing files name before after c.in-Err.fault c.in-Err.ensures.answer)

pub returns-in-Ok-cert-clause-answer : goal.returns-in-Ok-cert-clause-answer
returns-in-Ok-cert-clause-answer g c =
    let files = g.S.Store.files c.args.store.now in
    let before = g.S.Store.faults c.args.store.now in
    let after = g.S.Store.faults c.get.new.self in
    text-read files c.args.name.now before after c.in-Ok.text c.deref.result.now c.in-Ok.ensures.answer c.deref.ensures.value (λ t. StatesCert t c.in-Ok-cert.cert)
    (stated-kind c.deref.result.now c.in-Ok-cert.cert c.in-Ok-cert.ensures.one c.in-Ok-cert.ensures.front)

pub returns-in-Err-cert-clause-answer : goal.returns-in-Err-cert-clause-answer
returns-in-Err-cert-clause-answer g c =
    let files = g.S.Store.files c.args.store.now in
    let before = g.S.Store.faults c.args.store.now in
    let after = g.S.Store.faults c.get.new.self in
    let name = c.args.name.now in
    subst (λ r. ReadsCert files name before after (Err r)) (sym c.from-in-Err-cert.ensures) (cert-faulty files name before after c.in-Ok.text c.deref.result.now c.in-Ok.ensures.answer c.deref.ensures.value c.in-Err-cert.fault c.in-Err-cert.ensures.one c.in-Err-cert.ensures.front)
