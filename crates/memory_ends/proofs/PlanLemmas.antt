-- The count of a plan's failures as calls go on.
use Rattle.std.proofs.Common.{◌≡◌, ℕ, ◌+◌, ◌≤◌, List, [], ◌∷◌, true, false, arith, ◌||◌, refl, eqb}
use Rattle.std.proofs.lemmas.Bool.Decides.{nat_tests}
use Rattle.std.specs.List.{list_any}
use Rattle.memory_ends.specs.Plan.{failed_calls}

head_grows : (number calls : ℕ) → failed_calls (number ∷ []) calls ≤ failed_calls (number ∷ []) (calls + 1)
head_grows number calls = grind (arith, nat_tests)

pub failed_calls-grow : (listed : List ℕ) (calls : ℕ) → failed_calls listed calls ≤ failed_calls listed (calls + 1)
failed_calls-grow [] calls = omega arith
failed_calls-grow (number ∷ listed) calls = omega (arith, head_grows number calls, failed_calls-grow listed calls)

head_hit : (number calls : ℕ) → eqb number (calls + 1) ≡ true → failed_calls (number ∷ []) calls + 1 ≤ failed_calls (number ∷ []) (calls + 1)
head_hit number calls e = grind (arith, nat_tests)

-- a call that is listed is one more failure
pub failed_calls-hit : (listed : List ℕ) (calls : ℕ) → list_any (λ n. eqb n (calls + 1)) listed ≡ true → failed_calls listed calls + 1 ≤ failed_calls listed (calls + 1)
failed_calls-hit [] calls h = absurd (cc)
failed_calls-hit (number ∷ listed) calls h =
    elim (eqb number (calls + 1)) as (λ b. eqb number (calls + 1) ≡ b → b || list_any (λ n. eqb n (calls + 1)) listed ≡ true → failed_calls (number ∷ listed) calls + 1 ≤ failed_calls (number ∷ listed) (calls + 1)) [
      | true ↦ λ e _. omega (arith, head_hit number calls e, failed_calls-grow listed calls)
      | false ↦ λ e more. omega (arith, head_grows number calls, failed_calls-hit listed calls more)
    ] refl h

head_miss : (number calls : ℕ) → eqb number (calls + 1) ≡ false → failed_calls (number ∷ []) (calls + 1) ≡ failed_calls (number ∷ []) calls
head_miss number calls e = grind (arith, nat_tests)

-- one that isn't listed is none
pub failed_calls-miss : (listed : List ℕ) (calls : ℕ) → list_any (λ n. eqb n (calls + 1)) listed ≡ false → failed_calls listed (calls + 1) ≡ failed_calls listed calls
failed_calls-miss [] calls h = refl
failed_calls-miss (number ∷ listed) calls h =
    elim (eqb number (calls + 1)) as (λ b. eqb number (calls + 1) ≡ b → b || list_any (λ n. eqb n (calls + 1)) listed ≡ false → failed_calls (number ∷ listed) (calls + 1) ≡ failed_calls (number ∷ listed) calls) [
      | true ↦ λ e none. absurd (cc)
      | false ↦ λ e none. omega (arith, head_miss number calls e, failed_calls-miss listed calls none)
    ] refl h
