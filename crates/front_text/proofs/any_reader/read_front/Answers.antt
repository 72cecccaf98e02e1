use Rattle.std.proofs.Common.{◌≡◌, sym, ◌∙◌, arith, rules}
use Rattle.std.specs.Prelude.{None}
use Rattle.std.proofs.lemmas.List.{length-map}
use Rattle.front_text.specs.Text.{front_end_code}
use Rattle.front_text.specs.Reading.{held_front}
use Rattle.front_text.proofs.ReadSteps.{nows, end_faulty, states, faulty_read}
use Rattle.front_text.proofs.any_reader.read_front.Goals as goal

pub returns-in-Err-clause-read : goal.returns-in-Err-clause-read
returns-in-Err-clause-read c = faulty_read (nows c.args.lines.now) c.in-Err.fault c.in-Err.ensures.reading

pub returns-in-Some-clause-read : goal.returns-in-Some-clause-read
returns-in-Some-clause-read c =
    let long = length-map c.args.lines.now (λ line. line.now) in
    end_faulty (nows c.args.lines.now) c.in-Ok.reading _ c.in-Some.code c.in-Ok.ensures.reading (sym c.end_code.ensures ∙ c.in-Some.is) (omega (arith, long))

pub returns-in-Ok-into_cert-clause-read : goal.returns-in-Ok-into_cert-clause-read
returns-in-Ok-into_cert-clause-read c =
    let none : front_end_code (held_front c.in-Ok.reading) ≡ None = search rules in
    states (nows c.args.lines.now) c.in-Ok.reading _ c.in-Ok.ensures.reading none c.in-Ok-into_cert.ensures.cert
