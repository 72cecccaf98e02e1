-- Numbers beside names from the first one on, and what is gathered one after the other.
use Rattle.std.proofs.Common.{◌≡◌, ℕ, ◌-◌, ◌≤◌, ◌<◌, List, [], ◌∷◌, ◌++◌, length, get_or, take, drop, arith, ap, sym, refl, ◌∙◌, append_assoc, Bor}
use Rattle.std.proofs.lemmas.Grind.{common_steps}
use Rattle.std.proofs.Math.Nat.{min-eq_right}
use Rattle.std.specs.Prelude.{map, Option, Some, None, Result, Ok, Err}
use Rattle.std.specs.Option.{ForSome}
use Rattle.frac_text.specs.Parsing.{spelled_number}
use Rattle.frac128.specs.Rational.{ℚ}
use Rattle.lp_model.specs.Edits.{Named}
use Rattle.cert_text.specs.Lines.{with_named, beside, named_in}
use Rattle.cert_text.specs.Reading.{joined_items}

abbrev nows : List (Bor (List ℕ)) → List (List ℕ)
nows words = map (λ word. word.now) words

pub joined-nothing : {A : Type 0} (rest : Result (List A) ℕ) → rest ≡ joined_items None [] rest
joined-nothing (Ok more) = refl
joined-nothing (Err code) = refl

-- a fault of the form is the least
pub joined-form : {A : Type 0} (least : Option ℕ) (items : List A) → ForSome least (λ code. 3 ≤ code) → joined_items least items (Err 3) ≡ Err 3
joined-form None items high = refl
joined-form (Some code) items high = ap Err (min-eq_right (high code refl))

-- one more number beside a name
pub joined-named : (least : Option ℕ) (items more : Named) (name : List ℕ) (x : ℚ) → more ≡ items ++ (name, x) ∷ [] → (rest : Result Named ℕ) → joined_items least items (with_named name x rest) ≡ joined_items least more rest
joined-named least items more name x e rest = here least rest ∙ ap (λ ns. joined_items least ns rest) (sym e)
  where
    here : (least : Option ℕ) (rest : Result Named ℕ) → joined_items least items (with_named name x rest) ≡ joined_items least (items ++ (name, x) ∷ []) rest
    here None (Ok named) = ap Ok (sym (append_assoc items ((name, x) ∷ []) named))
    here None (Err code) = refl
    here (Some l) (Ok named) = refl
    here (Some l) (Err code) = refl

pub named_in-none : (words : List (Bor (List ℕ))) → length words ≡ 0 → named_in (nows words) ≡ Ok []
named_in-none [] none = refl
named_in-none (a ∷ more) none = absurd (omega arith)

pub named_in-odd : (words : List (Bor (List ℕ))) → ¬ (length words ≡ 0) → length words < 2 → named_in (nows words) ≡ Err 3
named_in-odd [] some few = absurd (some refl)
named_in-odd (a ∷ []) some few = refl
named_in-odd (a ∷ b ∷ more) some few = absurd (omega arith)

back : (a b : Bor (List ℕ)) (more : List (Bor (List ℕ))) → take (length (a ∷ b ∷ more) - 2) (drop 2 (a ∷ b ∷ more)) ≡ more
back a b more = grind (arith, common_steps)

pub named_in-first : (words : List (Bor (List ℕ))) (d e : Bor (List ℕ)) → 2 ≤ length words →
    named_in (nows words) ≡ beside (get_or words 0 d).now (spelled_number (get_or words 1 e).now) (named_in (nows (take (length words - 2) (drop 2 words))))
named_in-first [] d e h = absurd (omega arith)
named_in-first (a ∷ []) d e h = absurd (omega arith)
named_in-first (a ∷ b ∷ more) d e h = ap (λ ws. beside a.now (spelled_number b.now) (named_in (nows ws))) (sym (back a b more))
