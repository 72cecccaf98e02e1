-- The walk over the places: the best one so far, with the first part of its ratio where that was worked out.
use Rattle.std.specs.Prelude.{◌≡◌, ◌↔◌, ℕ, ◌≤◌, Bool, true, false, Option, Some, None, Result, Ok, Err, IfSome, IsTrue}
use Rattle.std.specs.declared.cmp.Ordering.{Ordering}
use Rattle.std.specs.declared.cmp.Ordering.TheVariants.{Less, Equal, Greater}
use Rattle.lp_model.specs.declared.types.WideStep.{WideStep}
use Rattle.table_entries.specs.declared.stand.Stand.{Stand}
use Rattle.basic_solution.specs.Held.{Held}
use Rattle.dual_simplex.specs.private.Answers.{IsRatioAnswer, IsEntering}
use Rattle.dual_simplex.specs.private.WholeRatios.{IsWholeRatio}
use Rattle.dual_simplex.specs.declared.entering.Best.{Best}

-- the first part that is kept beside a place, as a fraction or as whole numbers, is that of its ratio, each step to which has room
abbrev pub KeepsFirst : Held → ℕ → Stand → Best → Type 0
KeepsFirst s row side best = IfSome best.first (λ x. IsRatioAnswer s row side best.place 0 (Ok x)) × IfSome best.whole (λ r. IsWholeRatio s row side best.place r.top r.bottom)

-- by the order of the ratios of a best place and of another one: of equals the lesser variable is the best
abbrev pub IsKept : Ordering → ℕ → ℕ → Bool → Type 0
IsKept Less best other b = b ≡ true
IsKept Equal best other b = IsTrue b ↔ (best ≤ other)
IsKept Greater best other b = b ≡ false

-- of the first n places the best one, or the first step without room
abbrev pub IsBetterBelow : Held → ℕ → Stand → ℕ → Result Best WideStep → Type 0
IsBetterBelow s row side n (Ok best) = IsEntering s row side n (Ok (Some best.place)) × KeepsFirst s row side best
IsBetterBelow s row side n (Err e) = IsEntering s row side n (Err e)

-- likewise, or none of them may enter
abbrev pub IsBestBelow : Held → ℕ → Stand → ℕ → Result (Option Best) WideStep → Type 0
IsBestBelow s row side n (Ok None) = IsEntering s row side n (Ok None)
IsBestBelow s row side n (Ok (Some best)) = IsBetterBelow s row side n (Ok best)
IsBestBelow s row side n (Err e) = IsEntering s row side n (Err e)
