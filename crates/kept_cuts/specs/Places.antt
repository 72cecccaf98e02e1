-- Where a place stands among others.
use Rattle.std.specs.Prelude.{ℕ, suc, if◌then◌else◌, nat_eq, List, [], ◌∷◌}

-- where a place stands among others, and past the last where it does not
abbrev pub index_among : ℕ → List ℕ → ℕ
index_among k [] = 0
index_among k (p ∷ places) = if nat_eq p k then 0 else suc (index_among k places)
