-- Whose turn it is. `held` has for each worker, from 0, the id of the leaf that it holds, or none; `free` says whether an open leaf is
-- held by nobody.
--     can_act free h              a worker that holds a leaf can act; one that holds none can where a leaf is free
--     able free held              the places of those that can act, in rising order
--     IsNextTurn g free held w g'     the worker w acts, and the words of g' are left of those of g
-- Where there is one worker no word is drawn.
use Rattle.std.specs.Prelude.{◌≡◌, ◌≢◌, ◌⊎◌, ℕ, suc, ◌<◌, ◌%◌, Bool, true, if◌then◌else◌, List, [], ◌∷◌, length, get_or, Option, Some, None}
use Rattle.rand_pcg.specs.Lcg.{Lcg}
use Rattle.rand_pcg.specs.Pcg.{pcg32}

abbrev pub can_act : Bool → Option ℕ → Bool
can_act free None = free
can_act free (Some id) = true

-- the places, counted from n on
abbrev pub able_from : ℕ → Bool → List (Option ℕ) → List ℕ
able_from n free [] = []
able_from n free (h ∷ held) = if can_act free h then n ∷ able_from (suc n) free held else able_from (suc n) free held

abbrev pub able : Bool → List (Option ℕ) → List ℕ
able free held = able_from 0 free held

-- of those that can act the one at the place `word mod count`
abbrev pub chosen : ℕ → List ℕ → ℕ
chosen word places = get_or places (word % length places) 0

-- some worker can act
abbrev pub SomeCanAct : Bool → List (Option ℕ) → Type 0
SomeCanAct free held = 0 < length (able free held)

pub record IsDrawnTurn (g : Lcg) (free : Bool) (held : List (Option ℕ)) (w : ℕ) (g' : Lcg) : Type 0 where
  pub many : length held ≢ 1
  pub left : g' ≡ (pcg32 g).1
  pub turn : w ≡ chosen (pcg32 g).0 (able free held)

pub record IsOnlyTurn (g : Lcg) (held : List (Option ℕ)) (w : ℕ) (g' : Lcg) : Type 0 where
  pub one : length held ≡ 1
  pub left : g' ≡ g
  pub turn : w ≡ 0

abbrev pub IsNextTurn : Lcg → Bool → List (Option ℕ) → ℕ → Lcg → Type 0
IsNextTurn g free held w g' = IsOnlyTurn g held w g' ⊎ IsDrawnTurn g free held w g'
