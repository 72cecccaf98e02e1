-- What is appended piece by piece.
use Rattle.std.proofs.Common.{◌≡◌, ℕ, ◌<◌, List, [], ◌++◌, length, take, drop, refl, sym, ◌∙◌, ap, append_assoc, append-nil, subst, Option, Some, None, ◌-◌, arith}
use Rattle.std.specs.Io.KnownBytes.{Appends, Keeps}
use Rattle.std.proofs.lemmas.List.{take-append-drop, take_all, length-drop}
use Rattle.script_session.specs.Output.{WritesFront}

-- a front of the bytes was appended, and rest is what remains of them
pub record Sends (old new : Option (List ℕ)) (bytes rest : List ℕ) : Type 0 where
  pub front : List ℕ
  pub parts : front ++ rest ≡ bytes
  pub output : Appends old new front

pub Appends-none : (old : Option (List ℕ)) → Appends old old []
Appends-none None = tt
Appends-none (Some xs) = sym (append-nil xs)

pub Appends-append : (a b c : Option (List ℕ)) (xs ys : List ℕ) → Appends a b xs → Appends b c ys → Appends a c (xs ++ ys)
Appends-append None b c xs ys h k = tt
Appends-append (Some ws) None c xs ys h k = absurd h
Appends-append (Some ws) (Some bs) None xs ys h k = absurd k
Appends-append (Some ws) (Some bs) (Some cs) xs ys h k = k ∙ ap (λ zs. zs ++ ys) h ∙ append_assoc ws xs ys

pub Sends-start : (old : Option (List ℕ)) (bytes : List ℕ) → Sends old old bytes bytes
Sends-start old bytes = record { front = []; parts = refl; output = Appends-none old }

pub Sends-more : (old now new : Option (List ℕ)) (bytes rest : List ℕ) (n : ℕ) → Sends old now bytes rest → Appends now new (take n rest) → Sends old new bytes (drop n rest)
Sends-more old now new bytes rest n s h = record {
  front = s.front ++ take n rest;
  parts = append_assoc s.front (take n rest) (drop n rest) ∙ ap (λ xs. s.front ++ xs) (take-append-drop n rest) ∙ s.parts;
  output = Appends-append old now new s.front (take n rest) s.output h;
}

Appends-kept : (a b c : Option (List ℕ)) (xs : List ℕ) → Appends a b xs → Keeps b c → Appends a c xs
Appends-kept None b c xs h k = tt
Appends-kept (Some ws) None c xs h k = absurd h
Appends-kept (Some ws) (Some bs) None xs h k = absurd k
Appends-kept (Some ws) (Some bs) (Some cs) xs h k = k ∙ h

-- the sink has failed before all was written, or has taken none of the rest
pub broken_off : (old now new : Option (List ℕ)) (bytes rest : List ℕ) → Sends old now bytes rest → Keeps now new → 0 < length rest → WritesFront old new bytes
broken_off old now new bytes rest s kept some = (s.front, rest, s.parts, Appends-kept old now new s.front s.output kept, some)

pub none_taken : (old now new : Option (List ℕ)) (bytes rest : List ℕ) → Sends old now bytes rest → Appends now new [] → 0 < length rest → WritesFront old new bytes
none_taken old now new bytes rest s none some = (s.front, rest, s.parts, subst (λ (front : List ℕ). Appends old new front) (append-nil s.front) (Appends-append old now new s.front [] s.output none), some)

-- a slice from n on
pub from_on : (n : ℕ) (rest : List ℕ) → take (length rest - n) (drop n rest) ≡ drop n rest
from_on n rest = let e = length-drop n rest in take_all (length rest - n) (drop n rest) (omega arith)
