use Rattle.std.proofs.Common.{◌≡◌, length, sym, ap, ◌∙◌, arith, rules}
use Rattle.std.specs.Prelude.{None}
use Rattle.std.proofs.lemmas.List.{length-map}
use Rattle.cert_text.specs.Text.{end_code}
use Rattle.cert_text.specs.Reading.{held}
use Rattle.cert_text.proofs.ReadSteps.{nows, end_faulty, meant, faulty_answer}
use Rattle.cert_text.proofs.reader.read_cert.Goals as goal

pub returns-in-Err-clause-answer : goal.returns-in-Err-clause-answer
returns-in-Err-clause-answer c = faulty_answer c.args.text.now (nows c.deref.result.now) c.in-Err.fault (ap nows c.deref.ensures.value ∙ c.in-Ok.ensures) c.in-Err.ensures.reading

pub returns-in-Some-clause-answer : goal.returns-in-Some-clause-answer
returns-in-Some-clause-answer c =
    let lines = c.deref.result.now in
    let long = length-map lines (λ line. line.now) in
    let same = ap length c.deref.ensures.value in
    let size = c.in-Ok.lines.ok.0 in
    end_faulty c.args.text.now (nows lines) c.in-Ok-read.reading _ c.in-Some.code (ap nows c.deref.ensures.value ∙ c.in-Ok.ensures) c.in-Ok-read.ensures.reading (sym c.end_code.ensures ∙ c.in-Some.is)
    (omega (arith, long, same, size))

pub returns-clause-answer : goal.returns-clause-answer
returns-clause-answer c =
    let none : end_code (held c.in-Ok-read.reading) ≡ None = search rules in
    meant c.args.text.now (nows c.deref.result.now) c.in-Ok-read.reading _ (ap nows c.deref.ensures.value ∙ c.in-Ok.ensures) c.in-Ok-read.ensures.reading none c.into_cert.ensures.cert
