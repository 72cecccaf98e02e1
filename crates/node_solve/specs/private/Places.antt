-- What contracts of private functions alone cite, beside specs/Places.
use Rattle.std.specs.Prelude.{◌≡◌, ℕ, zero, suc, List, [], ◌∷◌, ◌<◌, ◌≤◌, length, get_or, take}
use Rattle.lp_model.specs.declared.types.CutRow.{CutRow}
use Rattle.node_solve.specs.Places.{live_cuts, live_places}

-- so many places, from k on
abbrev pub places_from : ℕ → ℕ → List ℕ
places_from k zero = []
places_from k (suc n) = k ∷ places_from (suc k) n

-- those cuts are the first n, as where each of the first counts
pub record IsFirstCount (pool : List CutRow) (n : ℕ) : Type 0 where
  pub within : n ≤ length pool
  pub cuts : live_cuts 200 pool ≡ take n pool
  pub places : live_places 200 0 pool ≡ places_from 0 n

-- each cut has its own place
abbrev pub AreOwnPlaces : List ℕ → Type 0
AreOwnPlaces places = (i : ℕ) → i < length places → get_or places i 0 ≡ i
