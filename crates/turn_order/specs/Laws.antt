-- When there is a turn, and which words are drawn next.
use Rattle.std.specs.Prelude.{◌≡◌, ℕ, ◌<◌, Bool, true, List, length, get_or, Option, None}
use Rattle.turn_order.specs.Turns.{can_act, SomeCanAct}

-- where a leaf is free, or some worker holds one, some worker can act
abbrev pub SomeLaw : Type 0
SomeLaw = (free : Bool) (held : List (Option ℕ)) (w : ℕ) → w < length held → can_act free (get_or held w None) ≡ true → SomeCanAct free held
