-- A name that differs from those before it is free.
use Rattle.std.specs.Prelude.{◌≡◌, ◌≢◌, ℕ, suc, ◌<◌, Bool, true, false, List, [], ◌∷◌, ◌++◌, length, get_or, AllPairs, bytes_eq}
use Rattle.std.proofs.Common.{refl, arith}
use Rattle.std.proofs.lemmas.Slice.Eq.{bytes_eq-Decides}
use Rattle.warm_file.specs.Models.{is_among}
use Rattle.warm_writer.proofs.Splits.{pair-here}

not-among : (text : List ℕ) (names : List (List ℕ)) → ((k : ℕ) (d : List ℕ) → k < length names → get_or names k d ≢ text) → is_among text names ≡ false
not-among text [] h = refl
not-among text (n ∷ names) h = by (bytes_eq n text) refl (not-among text names (λ k d below. h (suc k) d (omega arith)))
  where
    by : (b : Bool) → bytes_eq n text ≡ b → is_among text names ≡ false → is_among text (n ∷ names) ≡ false
    by true e rest = absurd (h 0 n (omega arith) ((bytes_eq-Decides n text).0 e))
    by false e rest = rw e rest

pub names-free : (names before after : List (List ℕ)) (text : List ℕ) → before ++ text ∷ after ≡ names → AllPairs (λ a b. a ≢ b) names → is_among text before ≡ false
names-free names before after text e h = not-among text before (λ k d below. pair-here names before after text e (λ (a b : List ℕ). a ≢ b) h k d below)
