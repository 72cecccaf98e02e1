-- A text, as far as there was memory for it.
use Rattle.std.proofs.Common.{◌≡◌, ℕ, List, ◌++◌, Ok, Err, Result}
use Rattle.std.specs.Prelude.{OnOk, IfOk, is_ok, if◌then◌else◌}

pub text-written : {E : Type 0} (r : Result (Unit {0}) E) (before after text : List ℕ) → after ≡ (if is_ok r then before ++ text else before) → IfOk r (λ _. after ≡ before ++ text)
text-written (Ok done) before after text e = e
text-written (Err f) before after text e = tt

pub on_ok_if : {E P Q : Type 0} (r : Result (Unit {0}) E) → (Q → P) → IfOk r (λ _. Q) → OnOk r P
on_ok_if (Ok done) f h = f h
on_ok_if (Err e) f h = tt
