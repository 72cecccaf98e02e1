-- Which outcome covers which, and lists of outcomes of which none covers another.
--     Covers a b       both values of a are at most those of b: a equals b or dominates it
--     IsFront l        first values rise and second values fall, so that no member covers another
--     inserted o l     the members that o does not cover, with o in its place
use Rattle.std.specs.Prelude.{Bool, ◌<ℤ◌, ◌≤ℤ◌, int_lt, List, [], ◌∷◌, ◌++◌, filter, Any, AllPairs}
use Rattle.frontier.specs.declared.outcomes.Outcome.{Outcome}

pub record Covers (a b : Outcome) : Type 0 where
  pub first : a.f1 ≤ℤ b.f1
  pub second : a.f2 ≤ℤ b.f2

-- a member covers the outcome
abbrev pub IsCovered : List Outcome → Outcome → Type 0
IsCovered l o = Any (λ m. Covers m o) l

-- a stands before b: its first value is less, and its second one more
pub record IsAhead (a b : Outcome) : Type 0 where
  pub first : a.f1 <ℤ b.f1
  pub second : b.f2 <ℤ a.f2

abbrev pub IsFront : List Outcome → Type 0
IsFront l = AllPairs IsAhead l

-- ---- one more outcome

-- of members that do not cover o: those before it, and those behind it
abbrev pub is_before : Outcome → Outcome → Bool
is_before o m = int_lt m.f1 o.f1

abbrev pub is_behind : Outcome → Outcome → Bool
is_behind o m = int_lt m.f2 o.f2

abbrev pub inserted : Outcome → List Outcome → List Outcome
inserted o l = (filter (is_before o) l ++ o ∷ []) ++ filter (is_behind o) l
