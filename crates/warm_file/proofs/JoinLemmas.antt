-- Parts that are joined and then made one state what the same parts state one behind the other.
use Rattle.std.specs.Prelude.{◌≡◌, Bool, true, is_some, Result, Ok, Err}
use Rattle.std.proofs.Common.{refl, sym, subst, ◌∙◌}
use Rattle.serde_json.specs.Data.{Data}
use Rattle.serde_json.specs.Find.{as_object}
use Rattle.warm_file.specs.Faults.{Fault, behind}
use Rattle.warm_file.specs.private.Faults.{SaysFault}
use Rattle.warm_file.specs.Values.{if_object}
use Rattle.warm_file.specs.declared.fault.WarmFault.{WarmFault}
use Rattle.warm_file.proofs.Saying.{says-first, says-next, says-then, ok-next, ok-then}
use Rattle.warm_file.specs.private.Joined.{both_of}

-- ---- an object

pub object-ok : {A : Type 0} (d : Data) (b : Bool) (said : Result A Fault) (a : A) → b ≡ is_some (as_object d) → b ≡ true → said ≡ Ok a → if_object d said ≡ Ok a
object-ok d b said a is met h = ok-then (is_some (as_object d)) said _ a (sym is ∙ met) h

pub object-says : {A : Type 0} (d : Data) (b : Bool) (said : Result A Fault) (r : Result A WarmFault) → b ≡ is_some (as_object d) → b ≡ true → SaysFault said r → SaysFault (if_object d said) r
object-says d b said r is met h = says-then (is_some (as_object d)) said _ r (sym is ∙ met) h

-- ---- two parts

module _ {A B : Type 0} (f : Result A Fault) (s : Result B Fault) where
  pub both-first : (first : Result A WarmFault) (e : WarmFault) → first ≡ Err e → SaysFault f first → SaysFault {A = A × B} (both_of f s) (Err e)
  both-first first e is h = says-first f (λ a. behind s (λ b. Ok (a, b))) e (subst (λ r. SaysFault f r) is h)

  pub both-second : (first : Result A WarmFault) (second : Result B WarmFault) (a : A) (e : WarmFault) → first ≡ Ok a → second ≡ Err e → SaysFault f first → SaysFault s second → SaysFault {A = A × B} (both_of f s) (Err e)
  both-second first second a e isa ise ha he =
      says-next f (λ x. behind s (λ b. Ok (x, b))) a (Err e) (subst (λ r. SaysFault f r) isa ha) (says-first s (λ b. Ok (a, b)) e (subst (λ r. SaysFault s r) ise he))

  pub both-ok : (first : Result A WarmFault) (second : Result B WarmFault) (a : A) (b : B) → first ≡ Ok a → second ≡ Ok b → SaysFault f first → SaysFault s second → both_of f s ≡ Ok (a, b)
  both-ok first second a b isa isb ha hb =
      ok-next f (λ x. behind s (λ y. Ok (x, y))) a (a, b) (subst (λ r. SaysFault f r) isa ha) (ok-next s (λ y. Ok (a, y)) b (a, b) (subst (λ r. SaysFault s r) isb hb) refl)

two : {A B E : Type 0} (f : Result A Fault) (s : Result B Fault) (next : A → B → Result E Fault) → behind (both_of f s) (λ p. next p.0 p.1) ≡ behind f (λ a. behind s (λ b. next a b))
unfolding behind
two (Err e) s next = refl
two (Ok a) (Err e) next = refl
two (Ok a) (Ok b) next = refl

module _ {A B E : Type 0} (f : Result A Fault) (s : Result B Fault) (next : A → B → Result E Fault) where
  pub two-ok : (p : A × B) (x : E) → both_of f s ≡ Ok p → next p.0 p.1 ≡ Ok x → behind f (λ a. behind s (λ b. next a b)) ≡ Ok x
  two-ok p x e h = sym (two f s next) ∙ ok-next (both_of f s) (λ q. next q.0 q.1) p x e h

  pub two-says : (p : A × B) (r : Result E WarmFault) → both_of f s ≡ Ok p → SaysFault (next p.0 p.1) r → SaysFault (behind f (λ a. behind s (λ b. next a b))) r
  two-says p r e h = subst (λ q. SaysFault q r) (two f s next) (says-next (both_of f s) (λ q. next q.0 q.1) p r e h)

  pub two-bad : (w : WarmFault) → SaysFault {A = A × B} (both_of f s) (Err w) → SaysFault {A = E} (behind f (λ a. behind s (λ b. next a b))) (Err w)
  two-bad w h = subst (λ (q : Result E Fault). SaysFault q (Err w)) (two f s next) (says-first (both_of f s) (λ q. next q.0 q.1) w h)

-- ---- three parts

three : {A B C E : Type 0} (f : Result A Fault) (s : Result B Fault) (t : Result C Fault) (next : A → B → C → Result E Fault)
    → behind (both_of (both_of f s) t) (λ p. next p.0.0 p.0.1 p.1) ≡ behind f (λ a. behind s (λ b. behind t (λ c. next a b c)))
unfolding behind
three (Err e) s t next = refl
three (Ok a) (Err e) t next = refl
three (Ok a) (Ok b) (Err e) next = refl
three (Ok a) (Ok b) (Ok c) next = refl

module _ {A B C E : Type 0} (f : Result A Fault) (s : Result B Fault) (t : Result C Fault) (next : A → B → C → Result E Fault) where
  pub three-ok : (p : (A × B) × C) (x : E) → both_of (both_of f s) t ≡ Ok p → next p.0.0 p.0.1 p.1 ≡ Ok x → behind f (λ a. behind s (λ b. behind t (λ c. next a b c))) ≡ Ok x
  three-ok p x e h = sym (three f s t next) ∙ ok-next (both_of (both_of f s) t) (λ q. next q.0.0 q.0.1 q.1) p x e h

  pub three-says : (p : (A × B) × C) (r : Result E WarmFault) → both_of (both_of f s) t ≡ Ok p → SaysFault (next p.0.0 p.0.1 p.1) r → SaysFault (behind f (λ a. behind s (λ b. behind t (λ c. next a b c)))) r
  three-says p r e h = subst (λ q. SaysFault q r) (three f s t next) (says-next (both_of (both_of f s) t) (λ q. next q.0.0 q.0.1 q.1) p r e h)

  pub three-bad : (w : WarmFault) → SaysFault {A = (A × B) × C} (both_of (both_of f s) t) (Err w) → SaysFault {A = E} (behind f (λ a. behind s (λ b. behind t (λ c. next a b c)))) (Err w)
  three-bad w h = subst (λ (q : Result E Fault). SaysFault q (Err w)) (three f s t next) (says-first (both_of (both_of f s) t) (λ q. next q.0.0 q.0.1 q.1) w h)

-- ---- one part, and two behind it

two-behind : {A B C E : Type 0} (f : Result A Fault) (s : Result B Fault) (t : Result C Fault) (next : A → B → C → Result E Fault)
    → behind (both_of f (both_of s t)) (λ p. next p.0 p.1.0 p.1.1) ≡ behind f (λ a. behind s (λ b. behind t (λ c. next a b c)))
unfolding behind
two-behind (Err e) s t next = refl
two-behind (Ok a) (Err e) t next = refl
two-behind (Ok a) (Ok b) (Err e) next = refl
two-behind (Ok a) (Ok b) (Ok c) next = refl

module _ {A B C E : Type 0} (f : Result A Fault) (s : Result B Fault) (t : Result C Fault) (next : A → B → C → Result E Fault) where
  pub behind-ok : (p : A × (B × C)) (x : E) → both_of f (both_of s t) ≡ Ok p → next p.0 p.1.0 p.1.1 ≡ Ok x → behind f (λ a. behind s (λ b. behind t (λ c. next a b c))) ≡ Ok x
  behind-ok p x e h = sym (two-behind f s t next) ∙ ok-next (both_of f (both_of s t)) (λ q. next q.0 q.1.0 q.1.1) p x e h

  pub behind-says : (p : A × (B × C)) (r : Result E WarmFault) → both_of f (both_of s t) ≡ Ok p → SaysFault (next p.0 p.1.0 p.1.1) r → SaysFault (behind f (λ a. behind s (λ b. behind t (λ c. next a b c)))) r
  behind-says p r e h = subst (λ q. SaysFault q r) (two-behind f s t next) (says-next (both_of f (both_of s t)) (λ q. next q.0 q.1.0 q.1.1) p r e h)

  pub behind-bad : (w : WarmFault) → SaysFault {A = A × (B × C)} (both_of f (both_of s t)) (Err w) → SaysFault {A = E} (behind f (λ a. behind s (λ b. behind t (λ c. next a b c)))) (Err w)
  behind-bad w h = subst (λ (q : Result E Fault). SaysFault q (Err w)) (two-behind f s t next) (says-first (both_of f (both_of s t)) (λ q. next q.0 q.1.0 q.1.1) w h)

-- ---- four parts

four : {A B C D E : Type 0} (f : Result A Fault) (s : Result B Fault) (t : Result C Fault) (u : Result D Fault) (next : A → B → C → D → Result E Fault)
    → behind (both_of (both_of f (both_of s t)) u) (λ p. next p.0.0 p.0.1.0 p.0.1.1 p.1) ≡ behind f (λ a. behind s (λ b. behind t (λ c. behind u (λ d. next a b c d))))
unfolding behind
four (Err e) s t u next = refl
four (Ok a) (Err e) t u next = refl
four (Ok a) (Ok b) (Err e) u next = refl
four (Ok a) (Ok b) (Ok c) (Err e) next = refl
four (Ok a) (Ok b) (Ok c) (Ok d) next = refl

module _ {A B C D E : Type 0} (f : Result A Fault) (s : Result B Fault) (t : Result C Fault) (u : Result D Fault) (next : A → B → C → D → Result E Fault) where
  pub four-ok : (p : (A × (B × C)) × D) (x : E) → both_of (both_of f (both_of s t)) u ≡ Ok p → next p.0.0 p.0.1.0 p.0.1.1 p.1 ≡ Ok x
      → behind f (λ a. behind s (λ b. behind t (λ c. behind u (λ d. next a b c d)))) ≡ Ok x
  four-ok p x e h = sym (four f s t u next) ∙ ok-next (both_of (both_of f (both_of s t)) u) (λ q. next q.0.0 q.0.1.0 q.0.1.1 q.1) p x e h

  pub four-bad : (w : WarmFault) → SaysFault {A = (A × (B × C)) × D} (both_of (both_of f (both_of s t)) u) (Err w) → SaysFault {A = E} (behind f (λ a. behind s (λ b. behind t (λ c. behind u (λ d. next a b c d))))) (Err w)
  four-bad w h = subst (λ (q : Result E Fault). SaysFault q (Err w)) (four f s t u next) (says-first (both_of (both_of f (both_of s t)) u) (λ q. next q.0.0 q.0.1.0 q.0.1.1 q.1) w h)
