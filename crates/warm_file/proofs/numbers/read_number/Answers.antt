use Rattle.std.proofs.Common.{◌∙◌, ℕ, ap, sym, subst}
use Rattle.frac128.specs.Rational.{ℚ}
use Rattle.frac_text.specs.Spelling.{reading_of}
use Rattle.frac_text.specs.Parsing.{parsed}
use Rattle.warm_file.specs.Faults.{fault}
use Rattle.warm_file.specs.private.Faults.{SaysFault}
use Rattle.warm_file.specs.Numbers.{number_fault_code, numbered, number_of}
use Rattle.warm_file.proofs.Saying.{says-there, says-missing, says-fault, ok-there}
use Rattle.warm_file.proofs.numbers.read_number.Goals as goal

pub returns-in_default : goal.returns-in_default
unfolding number_of
returns-in_default c = says-missing 3 _ _ c.bad.result c.in_default.ensures c.bad.ensures

pub returns-in-Ok : goal.returns-in-Ok
unfolding number_of
returns-in-Ok c =
    let read = sym c.in-Ok.is ∙ c.parse.ensures ∙ ap (λ bytes. parsed (reading_of bytes)) c.as_bytes.ensures.value in
    ok-there 3 _ _ c.in-Some.text.now c.in-Ok.number c.in-Some.ensures (ap numbered (sym read))

pub returns-in-Err : goal.returns-in-Err
unfolding number_of
returns-in-Err c =
    let r = c.bad-in-Err.result in
    let read = sym c.in-Err.is ∙ c.parse.ensures ∙ ap (λ bytes. parsed (reading_of bytes)) c.as_bytes.ensures.value in
    says-there 3 _ _ c.in-Some.text.now r c.in-Some.ensures
    (says-fault (number_fault_code c.in-Err.fault) _ r (subst (λ (k : ℕ). SaysFault {A = ℚ} (fault k) r) c.number_code.ensures c.bad-in-Err.ensures) (ap numbered (sym read)))
