-- What is told of a file that was written, and of replies that could not be made whole.
use Rattle.std.proofs.Common.{◌≡◌, ℕ, true, false, List, [], ◌++◌, ap, ◌∙◌, Option, Ok, Err, Result}
use Rattle.std.specs.Prelude.{IfOk, OnOk, OnErr, is_ok, is_err, if◌then◌else◌}
use Rattle.sym_io.specs.Faults.{Rose}
use Rattle.sym_io.specs.Files.{Files, KeepsOthers, Sets, Puts}
use Rattle.sym_io.specs.declared.traits.Failed.{Failed as SinkFault}
use Rattle.command_files.specs.Filing.{Writes, Written, TooLong, Failed, Wanting}

pub on_ok : {E P Q : Type 0} (r : Result (Unit {0}) E) → (P → Q) → OnOk r P → OnOk r Q
on_ok (Ok done) f h = f h
on_ok (Err e) f h = h

pub on_ok_if : {E P Q : Type 0} (r : Result (Unit {0}) E) → (Q → P) → IfOk r (λ _. Q) → OnOk r P
on_ok_if (Ok done) f h = f h
on_ok_if (Err e) f h = tt

pub always : {E P : Type 0} (r : Result (Unit {0}) E) → P → OnErr r P
always (Ok done) h = tt
always (Err f) h = h

pub on_err : {E P Q : Type 0} (r : Result (Unit {0}) E) → (P → Q) → OnErr r P → OnErr r Q
on_err (Ok done) f h = tt
on_err (Err e) f h = f h

-- a text, as far as there was memory for it
pub text-written : {E : Type 0} (r : Result (Unit {0}) E) (before after text : List ℕ) → after ≡ (if is_ok r then before ++ text else before) → IfOk r (λ _. after ≡ before ++ text)
text-written (Ok done) before after text e = e
text-written (Err f) before after text e = tt

-- ---- the file

pub told : {E P : Type 0} (r : Result (Unit {0}) E) (old new text : List ℕ) → new ≡ (if is_ok r then old ++ text else old) → old ≡ [] → (new ≡ text → P) → OnOk r P
told (Ok done) old new text e empty f = f (e ∙ ap (λ t. t ++ text) empty)
told (Err fault) old new text e empty f = tt

pub put-written : (r : Result (Unit {0}) SinkFault) (files files' : Option Files) (name bytes : List ℕ) → is_err r ≡ false → Puts files files' name bytes r → Sets files files' name bytes
put-written (Ok done) files files' name bytes is p = p
put-written (Err failed) files files' name bytes is p = absurd (cc)

pub put-failed : (r : Result (Unit {0}) SinkFault) (files files' : Option Files) (faults faults' : ℕ) (name bytes : List ℕ) → is_err r ≡ true → Puts files files' name bytes r → OnErr r (Rose faults faults') → Rose faults faults' × KeepsOthers files files' name
put-failed (Ok done) files files' faults faults' name bytes is p rose = absurd (cc)
put-failed (Err failed) files files' faults faults' name bytes is p rose = (rose, p)

-- what holds of a text holds of what was written
pub writes-as : (P Q : List ℕ → Type 0) (name : List ℕ) (files : Option Files) (faults : ℕ) (reply : List ℕ) (files' : Option Files) (faults' : ℕ) → ((text : List ℕ) → P text → Q text)
    → Writes P name files faults reply files' faults' → Writes Q name files faults reply files' faults'
writes-as P Q name files faults reply files' faults' f (Written text is short sets told) = Written text (f text is) short sets told
writes-as P Q name files faults reply files' faults' f (TooLong text is long kept told) = TooLong text (f text is) long kept told
writes-as P Q name files faults reply files' faults' f (Failed text is short rose kept told) = Failed text (f text is) short rose kept told
writes-as P Q name files faults reply files' faults' f (Wanting kept told) = Wanting kept told
